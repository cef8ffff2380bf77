use Rattle.order.proofs.Theory.{balls}
use Rattle.order.proofs.colour.landmark_colour.Goals as goal

pub returns-clause-balls : goal.returns-clause-balls
returns-clause-balls g c = balls g.met.C.Cost.laws
