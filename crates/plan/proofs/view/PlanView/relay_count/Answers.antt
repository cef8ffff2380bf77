use Rattle.std.proofs.Common.{sym}
use Rattle.plan.proofs.Held.{relays_count}
use Rattle.plan.proofs.view.PlanView.relay_count.Goals as goal

pub returns-clause-count : goal.returns-clause-count
returns-clause-count g c = rw (← c.self.view_is) (sym (relays_count _ _ _ _ _ c.self.invariant))
