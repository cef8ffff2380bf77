use Rattle.plan.proofs.Closing.{tied_or_not}
use Rattle.plan.proofs.view.PlanView.is_dangling.Goals as goal

pub returns : goal.returns
returns g c = rw (← c.self.view_is)
    (let t = tied_or_not g.C.Cost.kind.none _ _ _ _ _ c.self.invariant _ c.is_loose.ensures.loose c.is_loose.ensures.within in
    record { dangling = t.0; tied = t.1 })
