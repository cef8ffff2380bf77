use Rattle.kind.proofs.Sums.{theory}
use Rattle.kind.proofs.cost.exact_links.Goals as goal

pub returns-clause-theory : goal.returns-clause-theory
returns-clause-theory g c = theory g.met.C.Cost.laws
