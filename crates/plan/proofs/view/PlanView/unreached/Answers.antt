use Rattle.std.proofs.Common.{sym, subst}
use Rattle.plan.specs.Plan.{Plan}
use Rattle.plan.specs.Sound.{AreRelays}
use Rattle.plan.proofs.Closing.{within_here, reached}
use Rattle.plan.proofs.view.PlanView.unreached.Goals as goal

pub first_out-requires : goal.first_out-requires
first_out-requires g c = (
  within_here g.C.Cost.kind.none _ _ _ _ _ c.self.invariant
      (subst (λ (p : Plan g.row.C.Denot). AreRelays p) (sym c.self.view_is) c.requires),
  c.self.invariant.few,
)

pub returns : goal.returns
returns g c = rw (← c.self.view_is) (reached g.C.Cost.kind.none _ _ _ _ _ c.self.invariant _ c.first_out.ensures)
