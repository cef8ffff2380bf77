use Rattle.std.proofs.Common.{sym}
use Rattle.plan.proofs.Held.{links_count}
use Rattle.plan.proofs.view.PlanView.link_count.Goals as goal

pub returns-clause-count : goal.returns-clause-count
returns-clause-count g c = rw (← c.self.view_is) (sym (links_count _ _ _ _ _ c.self.invariant))
