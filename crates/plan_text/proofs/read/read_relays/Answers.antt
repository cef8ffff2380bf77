use Rattle.std.proofs.Common.{◌≡◌, ℕ, ◌-◌, ◌∙◌, subst, arith}
use Rattle.std.proofs.lemmas.Result.{err_from_is_err_and}
use Rattle.plan.specs.Plan.{lists}
use Rattle.plan.specs.Lent.{relays_in}
use Rattle.plan_text.specs.Stages.{RelaysRead}
use Rattle.plan_text.proofs.Blocks.{relays_more, relays_stop_in}
use Rattle.plan_text.proofs.read.read_relays.Goals as goal

pub returns-in_err-progress-clause-stopped : goal.returns-in_err-progress-clause-stopped
returns-in_err-progress-clause-stopped g c =
    let p = err_from_is_err_and c.from_residual.result c.from_residual.ensures.1 in
    rw (p.1, p.2)
    (λ text b. relays_stop_in g.C.Cost.kind g.C.TextCost.text_kind text (c.loop-line.line - 4) _ c.loop-line.progress _
    (relays_in c.loop-line.relays) (relays_in c.read_relay.new.relays) c.args.links.now _
    (c.loop-line.invariant.2 text b) (omega (arith, c.loop-line-test.true, c.loop-line.invariant.0.relays)) (omega arith)
    c.in_err-progress.ensures.stopped c.in_err-progress.ensures.unchanged)

pub loop-line-preserved : goal.loop-line-preserved
loop-line-preserved g c =
    let told = c.in_ok-progress.ensures in
    let same = told.read.same_size in
    let before = c.loop-line.invariant in (
      record { relays = same.relays ∙ before.0.relays; links = same.links ∙ before.0.links },
      record {
        names = told.lent.names ∙ before.1.names;
        colours = told.lent.colours ∙ before.1.colours;
        names_long = told.lent.names_long ∙ before.1.names_long;
        colours_long = told.lent.colours_long ∙ before.1.colours_long;
      },
      λ text b. relays_more g.C.Cost.kind g.C.TextCost.text_kind text (c.loop-line.line - 4) _ _ _ _ _ _ (omega arith) (before.2 text b) told.read,
    )

pub returns-clause-read : goal.returns-clause-read
returns-clause-read g c = λ text b.
    let all : c.loop-line.line - 4 ≡ c.loop-line.progress.relays = omega (arith, c.loop-line-test.false, c.loop-line.auto.line-end, c.loop-line.invariant.0.relays) in
    subst (λ (k : ℕ). RelaysRead g.C.Cost.kind g.C.TextCost.text_kind text k c.loop-line.progress
    (lists (relays_in c.args.relays.now) c.args.links.now) (lists (relays_in c.loop-line.relays) c.args.links.now)) all
    (c.loop-line.invariant.2 text b)
