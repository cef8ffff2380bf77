use Rattle.plan.proofs.Held.{pairs_decide}
use Rattle.plan.proofs.view.PlanView.are_joined.Goals as goal

pub returns : goal.returns
returns g c =
    let same = pairs_decide _ _ _ _ _ c.self.invariant g.C.Cost.kind.none c.args.one c.args.other in
    rw (← c.self.view_is) ((λ t. same.0 (c.joins.ensures.0 t)), (λ h. c.joins.ensures.1 (same.1 h)))
