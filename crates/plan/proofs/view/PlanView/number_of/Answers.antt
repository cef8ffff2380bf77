use Rattle.std.proofs.Common.{None, Some}
use Rattle.plan.proofs.Held.{searched}
use Rattle.plan.proofs.view.PlanView.number_of.Goals as goal

pub returns-in_err-place : goal.returns-in_err-place
returns-in_err-place g c = rw (c.from_residual.ensures, ← c.self.view_is)
    (searched _ _ _ _ _ c.self.invariant c.args.name None c.in_err-place.ensures)

pub returns : goal.returns
returns g c = rw (← c.self.view_is)
    (searched _ _ _ _ _ c.self.invariant c.args.name (Some c.in_ok-place.place) c.in_ok-place.ensures)
