use Rattle.std.proofs.lemmas.Result.{err_from_is_err_and}
use Rattle.std.proofs.lemmas.Bool.{both_ways}
use Rattle.plan.specs.Rules.{relay_rules}
use Rattle.plan.proofs.Failing.{rules_fail, place_fails, checks_hold}
use Rattle.plan.proofs.draft.check_relay.Goals as goal

pub returns-in_err-check_relay : goal.returns-in_err-check_relay
returns-in_err-check_relay g c = let p = err_from_is_err_and c.from_residual-in_err-check_relay.result c.from_residual-in_err-check_relay.ensures.1 in rw (p.1, p.2)
    (rules_fail _ _ (λ p. relay_rules p c.args.name c.args.colour) _ c.in_ok-plan.ensures.accepted _ c.in_ok-plan.ensures.plan _ c.in_err-check_relay.ensures)

pub returns-then-not-has_place : goal.returns-then-not-has_place
returns-then-not-has_place g c =
    place_fails _ _ (λ p. relay_rules p c.args.name c.args.colour) _ c.in_ok-plan.ensures.accepted _ c.in_ok-plan.ensures.plan c.in_ok-check_relay.ensures
    (λ h. both_ways _ c.if-not-has_place.true (c.has_place.ensures.1 h))

pub returns : goal.returns
returns g c =
    checks_hold _ _ (λ p. relay_rules p c.args.name c.args.colour) _ c.in_ok-plan.ensures.accepted _ c.in_ok-plan.ensures.plan c.in_ok-check_relay.ensures
    (c.has_place.ensures.0 c.if-not-has_place.false)
