use Rattle.plan.proofs.Closing.{absent}
use Rattle.plan.proofs.view.PlanView.absent_colour.Goals as goal

pub returns : goal.returns
returns g c = rw (← c.self.view_is) (absent g.C.Cost.kind.none _ _ _ _ _ c.self.invariant _ c.lowest_absent.ensures)
