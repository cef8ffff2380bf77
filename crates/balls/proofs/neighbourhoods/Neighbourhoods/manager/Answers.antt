use Rattle.std.proofs.Common.{rules}
use Rattle.balls.specs.Told.{FindsFirst}
use Rattle.balls.proofs.Nearby.{finds_manager}
use Rattle.balls.proofs.neighbourhoods.Neighbourhoods.manager.Goals as goal

pub returns-clause-manager : goal.returns-clause-manager
returns-clause-manager g c =
    let first : FindsFirst c.args.self.now c.args.order.now c.args.colour c.find.result = search rules in
    finds_manager g.met.C.Cost.laws c.args.self.now c.args.order.now c.args.colour c.find.result first
