use Rattle.std.proofs.Common.{inl, inr, refl}
use Rattle.plan.proofs.Failing.{closing_fails, closing_holds}
use Rattle.plan.proofs.closed.check_closing.Goals as goal

pub returns-then-is_dangling : goal.returns-then-is_dangling
returns-then-is_dangling g c = closing_fails _ _ c.in_ok-plan.ensures.accepted _ c.in_ok-plan.ensures.plan _
    (inr (c.in_default.ensures, inl (refl, c.if-is_dangling.ensures.dangling)))

pub returns-in-Some-unreached : goal.returns-in-Some-unreached
returns-in-Some-unreached g c = closing_fails _ _ c.in_ok-plan.ensures.accepted _ c.in_ok-plan.ensures.plan _
    (inr (c.in_default.ensures, inr (c.if-is_dangling.ensures.tied, inl (_, refl, c.in-Some-unreached.ensures))))

pub returns : goal.returns
returns g c = closing_holds _ _ c.in_ok-plan.ensures.accepted _ c.in_ok-plan.ensures.plan
    (c.in_default.ensures, (c.if-is_dangling.ensures.tied, (c.in_default-unreached.ensures, tt)))
