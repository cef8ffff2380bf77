use Rattle.std.proofs.Common.{refl, sym}
use Rattle.plan.specs.Plan.{link_of}
use Rattle.plan.proofs.Paired.{paired_right}
use Rattle.plan.proofs.view.PlanView.costs.Goals as goal

pub returns : goal.returns
returns g c = rw (← c.self.view_is) (sym (paired_right link_of _ _ _ (λ e c. refl) (sym c.self.invariant.links)))
