use Rattle.std.proofs.Common.{rules}
use Rattle.order.proofs.Theory.{balls}
use Rattle.balls.proofs.Entries.{is_of_plan}
use Rattle.balls.proofs.neighbourhoods.Neighbourhoods.new.Goals as goal

pub returns-clause-plan : goal.returns-clause-plan
returns-clause-plan g c = is_of_plan g.C.Cost.kind c.args.measured.now c.args.colours.now c.args.distances.now _ (search rules)

pub returns-clause-theory : goal.returns-clause-theory
returns-clause-theory g c = λ p sound distances. balls g.met.C.Cost.laws p _ sound distances
