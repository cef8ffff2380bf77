use Rattle.std.proofs.Common.{inl, inr, arith, rules}
use Rattle.std.proofs.lemmas.Result.{err_from_is_err_and, MatchResult-at_ok, MatchResult-at_err}
use Rattle.plan_text.proofs.Mapped.{err_mapped, ok_mapped}
use Rattle.plan_text.proofs.Blocks.{too_many, no_draft, no_relay_heading}
use Rattle.plan_text.proofs.read.read_start.Goals as goal

pub returns-then-counts-lt1-clause-stopped : goal.returns-then-counts-lt1-clause-stopped
returns-then-counts-lt1-clause-stopped g c =
    too_many g.C.Cost.kind g.C.TextCost.text_kind _ _ _ c.in_ok-counts.ensures.read
    (λ allowed. elim c.then-counts-lt1.either [ inl h ↦ omega arith | inr (inl h) ↦ omega arith | inr (inr h) ↦ omega arith ])
    _ c.new.ensures

pub returns-in_err-draft-clause-stopped : goal.returns-in_err-draft-clause-stopped
returns-in_err-draft-clause-stopped g c =
    let p = err_from_is_err_and c.from_residual-in_err-draft.result c.from_residual-in_err-draft.ensures.1 in
    let q = err_mapped _ c.open-opened.result c.map_err.result c.map_err.ensures.cases _ c.in_err-draft.was in
    rw (p.1, p.2)
    (no_draft g.C.Cost.kind g.C.TextCost.text_kind _ _ _ c.in_ok-counts.ensures.read (omega arith, omega arith, omega arith)
    q.0 (MatchResult-at_err _ _ q.0 q.1 c.open-opened.ensures.refused) _ (search rules))

pub returns-in_default-clause-stopped : goal.returns-in_default-clause-stopped
returns-in_default-clause-stopped g c =
    let q = ok_mapped _ c.open-opened.result c.map_err.result c.map_err.ensures.cases _ c.in_ok-draft.was in
    no_relay_heading g.C.Cost.kind g.C.TextCost.text_kind _ _ _ c.in_ok-counts.ensures.read (omega arith, omega arith, omega arith)
    c.in_ok-draft.draft (MatchResult-at_ok _ _ _ q c.open-opened.ensures.colours, MatchResult-at_ok _ _ _ q c.open-opened.ensures.no_relays, MatchResult-at_ok _ _ _ q c.open-opened.ensures.no_links) c.in_default.ensures _ c.new-in_default.ensures
