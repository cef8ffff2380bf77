use Rattle.std.proofs.lemmas.Bool.{both_ways}
use Rattle.plan.proofs.Pairs.{new_pair}
use Rattle.plan.proofs.view.PlanView.new_ends.Goals as goal

pub returns-clause-new : goal.returns-clause-new
returns-clause-new g c =
    new_pair _ c.args.from c.args.to c.in_ok-one.one c.in_ok-other.other c.in_ok-one.ensures c.in_ok-other.ensures c.if-from-to.false
    (λ h. both_ways _ c.if-are_joined.false (c.are_joined.ensures.1 h))
