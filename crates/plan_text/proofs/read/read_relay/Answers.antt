use Rattle.std.proofs.Common.{◌≡◌, ℕ, List, ◌++◌, length, get_or, ap, ◌∙◌, arith, rules}
use Rattle.std.proofs.lemmas.Result.{err_from_is_err_and, MatchResult-at_err}
use Rattle.plan_text.proofs.Mapped.{err_mapped}
use Rattle.std.proofs.ByRecursion.{All-get_or}
use Rattle.plan_text.specs.Rows.{row, TenDigits}
use Rattle.plan_text.specs.Stages.{not_added}
use Rattle.plan_text.proofs.Entries.{two, says_draft}
use Rattle.plan_text.proofs.read.read_relay.Goals as goal

pub returns-in_err-draft-clause-stopped : goal.returns-in_err-draft-clause-stopped
returns-in_err-draft-clause-stopped g c =
    let p = err_from_is_err_and c.from_residual.result c.from_residual.ensures.1 in
    let q = err_mapped _ c.add_relay.result c.map_err.result c.map_err.ensures.cases _ c.in_err-draft.was in
    let ns = c.row.new.numbers in
    let size : length ns ≡ 2 = c.row.auto.numbers in
    let seen = c.in-Some.ensures in
    rw (p.1, p.2)
    (not_added (get_or ns 0 0) (get_or ns 1 0) c.in-Some.rest.now q.0.1
    (All-get_or TenDigits ns 0 0 (omega arith) seen.short) (All-get_or TenDigits ns 1 0 (omega arith) seen.short)
    (seen.line ∙ ap (λ (xs : List ℕ). row xs ++ c.in-Some.rest.now) (two ns size))
    (MatchResult-at_err _ _ q.0 q.1 c.add_relay.ensures.refused) (says_draft (MatchResult-at_err _ _ q.0 q.1 c.add_relay.ensures.returned) (search rules)))
