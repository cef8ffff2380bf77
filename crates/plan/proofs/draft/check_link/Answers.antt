use Rattle.std.proofs.lemmas.Result.{err_from_is_err_and}
use Rattle.std.proofs.lemmas.Bool.{both_ways}
use Rattle.plan.specs.Rules.{link_rules}
use Rattle.plan.proofs.Failing.{rules_fail, place_fails, checks_hold}
use Rattle.plan.proofs.draft.check_link.Goals as goal

pub returns-in_err-ends-clause-checked : goal.returns-in_err-ends-clause-checked
returns-in_err-ends-clause-checked g c = let p = err_from_is_err_and c.from_residual-in_err-ends.result c.from_residual-in_err-ends.ensures.1 in rw (p.1, p.2)
    (rules_fail _ _ (λ p. link_rules g.C.Cost.kind p c.args.from c.args.to c.args.cost) _ c.in_ok-plan.ensures.accepted _ c.in_ok-plan.ensures.plan _ c.in_err-ends.ensures.checked)
