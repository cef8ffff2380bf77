use Rattle.std.proofs.Common.{◌<◌, ◌≤◌, length, Err, arith, rules}
use Rattle.std.proofs.lemmas.Result.{err_from_is_err_and, MatchResult-at_ok, MatchResult-at_err}
use Rattle.plan.specs.Plan.{lists, plan_of}
use Rattle.plan.specs.Checks.{FirstFails}
use Rattle.plan.specs.Rules.{Closable, close_checks}
use Rattle.plan.proofs.Moved.{along}
use Rattle.plan.specs.Lent.{relays_in, links_in}
use Rattle.plan_text.proofs.Entries.{says_draft}
use Rattle.plan_text.proofs.Blocks.{relays_viewed, links_viewed, goes_on, cannot_close, is_read}
use Rattle.plan_text.proofs.Mapped.{mapped_both}
use Rattle.plan_text.proofs.Complete.{complete}
use Rattle.plan_text.proofs.read.read_plan.Goals as goal

pub returns-in_err-progress-clause-outcome : goal.returns-in_err-progress-clause-outcome
returns-in_err-progress-clause-outcome g c =
    let p = err_from_is_err_and c.from_residual.result c.from_residual.ensures.1 in
    rw (p.1, p.2) (c.in_err-progress.ensures.stopped (lists (relays_in c.args.relays.now) (links_in c.args.links.now)))

pub returns-in_err-progress-clause-complete : goal.returns-in_err-progress-clause-complete
returns-in_err-progress-clause-complete g c =
    complete g.C.Cost.kind g.C.TextCost.text_kind g.met.C.TextCost.told _ _ _ _ (returns-in_err-progress-clause-outcome g c)

pub returns-in_err-progress-2-clause-outcome : goal.returns-in_err-progress-2-clause-outcome
returns-in_err-progress-2-clause-outcome g c =
    let p = err_from_is_err_and c.from_residual-in_err-progress-2.result c.from_residual-in_err-progress-2.ensures.1 in
    rw (p.1, p.2, ← c.view.ensures) (c.in_err-progress-2.ensures.stopped c.args.text.now c.in_ok-progress.ensures.read)

pub returns-in_err-progress-2-clause-complete : goal.returns-in_err-progress-2-clause-complete
returns-in_err-progress-2-clause-complete g c =
    complete g.C.Cost.kind g.C.TextCost.text_kind g.met.C.TextCost.told _ _ _ _ (returns-in_err-progress-2-clause-outcome g c)

pub returns-in_err-progress-3-clause-outcome : goal.returns-in_err-progress-3-clause-outcome
returns-in_err-progress-3-clause-outcome g c =
    let relays = relays_viewed g.C.Cost.kind g.C.TextCost.text_kind c.args.text.now _ _ _ _ _ _ _ c.view.ensures c.view-2.ensures
    (c.in_ok-progress-2.ensures.read c.args.text.now c.in_ok-progress.ensures.read) in
    let p = err_from_is_err_and c.from_residual-in_err-progress-3.result c.from_residual-in_err-progress-3.ensures.1 in
    rw (p.1, p.2, ← c.view-2.ensures) (c.in_err-progress-3.ensures.stopped c.args.text.now _ relays)

pub returns-in_err-progress-3-clause-complete : goal.returns-in_err-progress-3-clause-complete
returns-in_err-progress-3-clause-complete g c =
    complete g.C.Cost.kind g.C.TextCost.text_kind g.met.C.TextCost.told _ _ _ _ (returns-in_err-progress-3-clause-outcome g c)

pub returns-then-not-is_empty-clause-outcome : goal.returns-then-not-is_empty-clause-outcome
returns-then-not-is_empty-clause-outcome g c =
    let relays = relays_viewed g.C.Cost.kind g.C.TextCost.text_kind c.args.text.now _ _ _ _ _ _ _ c.view.ensures c.view-2.ensures
    (c.in_ok-progress-2.ensures.read c.args.text.now c.in_ok-progress.ensures.read) in
    let links = links_viewed g.C.Cost.kind g.C.TextCost.text_kind c.args.text.now _ _ _ _ _ _ c.view-2.ensures
    (c.in_ok-progress-3.ensures.read c.args.text.now _ relays) in
    let some : 0 < length c.in_ok-progress-3.progress.rest.now = search rules in
    goes_on g.C.Cost.kind g.C.TextCost.text_kind g.met.C.TextCost.told c.args.text.now c.in_ok-progress-3.progress _ _ links
    _ _ some (omega arith) c.not_in_form.ensures

pub returns-then-not-is_empty-clause-complete : goal.returns-then-not-is_empty-clause-complete
returns-then-not-is_empty-clause-complete g c =
    complete g.C.Cost.kind g.C.TextCost.text_kind g.met.C.TextCost.told _
    (lists (relays_in c.args.relays.now) (links_in c.args.links.now)) (lists (relays_in c.read_relays.new.relays) (links_in c.read_links.new.links)) (Err c.not_in_form.result)
    (returns-then-not-is_empty-clause-outcome g c)

pub returns-clause-outcome : goal.returns-clause-outcome
returns-clause-outcome g c =
    let relays = relays_viewed g.C.Cost.kind g.C.TextCost.text_kind c.args.text.now _ _ _ _ _ _ _ c.view.ensures c.view-2.ensures
    (c.in_ok-progress-2.ensures.read c.args.text.now c.in_ok-progress.ensures.read) in
    let links = links_viewed g.C.Cost.kind g.C.TextCost.text_kind c.args.text.now _ _ _ _ _ _ c.view-2.ensures
    (c.in_ok-progress-3.ensures.read c.args.text.now _ relays) in
    let ended : length c.in_ok-progress-3.progress.rest.now ≤ 0 = search rules in
    mapped_both _ _ _ c.close-closing.result c.map_err.result c.map_err.ensures.cases
    (λ closed is.
    let closes = (MatchResult-at_ok _ _ closed is c.close-closing.ensures.accepted).1 in
    is_read g.C.Cost.kind g.C.TextCost.text_kind g.met.C.TextCost.told c.args.text.now c.in_ok-progress-3.progress _ _ links
    ended closed (MatchResult-at_ok _ _ closed is c.close-closing.ensures.kept)
    (along (λ r l. Closable (plan_of c.in_ok-progress-3.progress.draft (lists r l))) c.view-3.ensures c.view-4.ensures (record { worn = closes.0; connected = closes.1.1.0 })))
    (λ back e is post.
    cannot_close g.C.Cost.kind g.C.TextCost.text_kind g.met.C.TextCost.told c.args.text.now c.in_ok-progress-3.progress _ _ links
    ended e back.1
    (along (λ r l. FirstFails (close_checks c.in_ok-progress-3.progress.draft (lists r l)) back.1) c.view-3.ensures c.view-4.ensures (MatchResult-at_err _ _ back is c.close-closing.ensures.refused))
    (says_draft (MatchResult-at_err _ _ back is c.close-closing.ensures.returned) (search rules)))

pub returns-clause-complete : goal.returns-clause-complete
returns-clause-complete g c =
    complete g.C.Cost.kind g.C.TextCost.text_kind g.met.C.TextCost.told _
    (lists (relays_in c.args.relays.now) (links_in c.args.links.now)) (lists (relays_in c.read_relays.new.relays) (links_in c.read_links.new.links)) c.map_err.result
    (returns-clause-outcome g c)
