use Rattle.std.proofs.Common.{◌≡◌, ℕ, ◌+◌, ◌-◌, List, ◌++◌, refl, sym, ap, ◌∙◌, subst, arith}
use Rattle.std.proofs.lemmas.Result.{err_from_is_err_and}
use Rattle.plan.specs.Plan.{lists}
use Rattle.plan.specs.Lent.{links_in}
use Rattle.plan_text.specs.Stages.{LinksRead}
use Rattle.plan_text.specs.Kinds.{heading_of}
use Rattle.plan_text.proofs.Blocks.{no_heading, links_begin, links_more, links_stop_in}
use Rattle.plan_text.proofs.read.read_links.Goals as goal

pub returns-in_default-clause-stopped : goal.returns-in_default-clause-stopped
returns-in_default-clause-stopped g c = λ text l b.
    no_heading g.C.Cost.kind g.C.TextCost.text_kind g.met.C.TextCost.told text _ c.args.progress l _ _ b
    (λ rest e. c.in_default.ensures rest (e ∙ ap (λ (xs : List ℕ). xs ++ rest) (sym (c.heading.ensures ∙ ap heading_of c.plan_kind.ensures))))
    c.not_in_form.ensures (omega arith)

pub loop-line-init : goal.loop-line-init
loop-line-init g c = (
  record { relays = refl; links = refl },
  record { ends = refl; costs = refl; ends_long = refl; costs_long = refl },
  λ text l b.
      links_begin g.C.Cost.kind g.C.TextCost.text_kind g.met.C.TextCost.told text c.args.progress _ l _ b
      (c.in-Some.ensures ∙ ap (λ (xs : List ℕ). xs ++ c.in-Some.rest.now) (c.heading.ensures ∙ ap heading_of c.plan_kind.ensures))
      refl (record { relays = refl; links = refl }) _ (omega arith),
)

pub returns-in_err-progress-clause-stopped : goal.returns-in_err-progress-clause-stopped
returns-in_err-progress-clause-stopped g c =
    let p = err_from_is_err_and c.from_residual.result c.from_residual.ensures.1 in
    rw (p.1, p.2)
    (λ text l b. links_stop_in g.C.Cost.kind g.C.TextCost.text_kind g.met.C.TextCost.told text (c.loop-line.line - (5 + c.args.progress.relays)) _ c.loop-line.progress l
    c.args.relays.now (links_in c.loop-line.links) (links_in c.read_link.new.links) _
    (c.loop-line.invariant.2 text l b) (omega (arith, c.loop-line-test.true, c.loop-line.invariant.0.links)) (omega (arith, c.loop-line.invariant.0.relays))
    c.in_err-progress.ensures.stopped c.in_err-progress.ensures.unchanged)

pub loop-line-preserved : goal.loop-line-preserved
loop-line-preserved g c =
    let told = c.in_ok-progress.ensures in
    let same = told.read.same_size in
    let before = c.loop-line.invariant in (
      record { relays = same.relays ∙ before.0.relays; links = same.links ∙ before.0.links },
      record {
        ends = told.lent.ends ∙ before.1.ends;
        costs = told.lent.costs ∙ before.1.costs;
        ends_long = told.lent.ends_long ∙ before.1.ends_long;
        costs_long = told.lent.costs_long ∙ before.1.costs_long;
      },
      λ text l b. links_more g.C.Cost.kind g.C.TextCost.text_kind g.met.C.TextCost.told text (c.loop-line.line - (5 + c.args.progress.relays)) _ _ _ _ _ _ (omega arith) (before.2 text l b) told.read,
    )

pub returns-clause-read : goal.returns-clause-read
returns-clause-read g c = λ text l b.
    let all : c.loop-line.line - (5 + c.args.progress.relays) ≡ c.loop-line.progress.links = omega (arith, c.loop-line-test.false, c.loop-line.auto.line-end, c.loop-line.invariant.0.links) in
    subst (λ (k : ℕ). LinksRead g.C.Cost.kind g.C.TextCost.text_kind text k c.loop-line.progress
    l (lists c.args.relays.now (links_in c.loop-line.links))) all
    (c.loop-line.invariant.2 text l b)
