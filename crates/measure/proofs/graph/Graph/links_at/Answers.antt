use Rattle.std.proofs.Common.{sym, arith}
use Rattle.measure.specs.Incidence.{Skips}
use Rattle.measure.proofs.Chaining.{first_skips}
use Rattle.measure.proofs.Linking.{skips}
use Rattle.measure.proofs.graph.Graph.links_at.Given as given
use Rattle.measure.proofs.graph.Graph.links_at.Goals as goal
use Rattle.measure.proofs.graph.Graph.links_at.Goals.{After-from-place}

first : (g : given.Over) (c : After-from-place g) → Skips c.args.self.now.ends.now c.args.at 0 c.from-place.result
first g c =
    first_skips c.args.self.now.ends.now c.args.self.now.incidence c.args.at c.from-place.result c.from-place.ensures
    (omega (arith, c.args.self.now.few)) c.args.self.now.incident

pub returns : goal.returns
returns g c = sym (skips c.args.at c.args.self.now.ends.now c.args.self.now.costs.now c.args.self.now.same g.C.Cost.kind.none 0 c.from-place.result (first g c))
