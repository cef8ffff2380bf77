use Rattle.std.proofs.Common.{◌≡◌, ◌+◌, length, drop, ap, ◌∙◌, rules}
use Rattle.std.proofs.lemmas.List.{take_rest}
use Rattle.std.proofs.lemmas.Result.{err_from_is_err_and, MatchResult-at_err}
use Rattle.plan_text.proofs.Mapped.{err_mapped}
use Rattle.plan.specs.Plan.{lists}
use Rattle.plan.specs.Lent.{links_in}
use Rattle.plan_text.proofs.Entries.{link_stopped, says_draft}
use Rattle.plan_text.proofs.read.read_link.Goals as goal

pub returns-in_err-draft-clause-stopped : goal.returns-in_err-draft-clause-stopped
returns-in_err-draft-clause-stopped g c =
    let p = err_from_is_err_and c.from_residual.result c.from_residual.ensures.1 in
    let q = err_mapped _ c.add_link.result c.map_err.result c.map_err.ensures.cases _ c.in_err-draft.was in
    let ns = c.row.new.numbers in
    let size : length ns ≡ 2 + g.C.TextCost.text_kind.width = search rules in
    let seen = c.in-Some.ensures in
    let cost : c.from_numbers-cost.result ≡ g.C.TextCost.text_kind.read (drop 2 ns) = c.from_numbers-cost.ensures ∙ ap g.C.TextCost.text_kind.read (take_rest ns 2) in
    rw (p.1, p.2)
    (link_stopped g.C.Cost.kind g.C.TextCost.text_kind c.args.progress c.args.line
    (lists c.args.relays.now (links_in c.args.links.now)) ns c.from_numbers-cost.result c.in-Some.rest.now
    size cost seen.short seen.line _ q.0.1
    (MatchResult-at_err _ _ q.0 q.1 c.add_link.ensures.refused) (says_draft (MatchResult-at_err _ _ q.0 q.1 c.add_link.ensures.returned) (search rules)))
