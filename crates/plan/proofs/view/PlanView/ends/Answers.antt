use Rattle.std.proofs.Common.{refl, sym}
use Rattle.plan.specs.Plan.{link_of}
use Rattle.plan.proofs.Paired.{paired_left}
use Rattle.plan.proofs.view.PlanView.ends.Goals as goal

pub returns : goal.returns
returns g c = rw (← c.self.view_is) (sym (paired_left link_of _ _ _ (λ e c. refl) (sym c.self.invariant.links)))
