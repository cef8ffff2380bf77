use Rattle.std.proofs.Common.{ℕ, ◌<◌, List, length, take, sym, subst, arith, Bor}
use Rattle.std.proofs.lemmas.List.{take_more_set}
use Rattle.plan_text.proofs.Lines.{Ready, ready_first, ready_more, refuse_space, refuse_number, one_more}
use Rattle.plan_text.proofs.scan.row.Goals as goal
use Rattle.plan_text.proofs.scan.row.Goals.{After-number, then-i-gt0+in_ok-rest, else-i-gt0}

pub returns-in_err-rest-clause-none : goal.returns-in_err-rest-clause-none
returns-in_err-rest-clause-none c = rw c.from_residual.ensures (refuse_space (omega arith) c.loop-i.invariant c.if-i-gt0.true c.in_err-rest.ensures)

-- at the number, behind the space if there was to be one
ready : (c : After-number) → Ready c.args.text.now (length c.args.numbers.now) c.loop-i.i (take c.loop-i.i c.loop-i.numbers) c.if-i-gt0.rest.now
ready c =
    let At : Bor (List ℕ) → Type 0 = λ r. Ready c.args.text.now (length c.args.numbers.now) c.loop-i.i (take c.loop-i.i c.loop-i.numbers) r.now in
    elim c.if-i-gt0.branch [
      | then-i-gt0+in_ok-rest w ↦ subst At (sym w.rest-is) (ready_more c.loop-i-test.true _ c.loop-i.invariant w.if-i-gt0.true w.in_ok-rest.ensures)
      | else-i-gt0 w ↦ subst At (sym w.rest-is) (ready_first _ _ _ _ _ c.loop-i.invariant (omega (arith, w.if-i-gt0.false)))
    ]

pub returns-in_err-value-clause-none : goal.returns-in_err-value-clause-none
returns-in_err-value-clause-none c =
    rw c.from_residual-in_err-value.ensures (refuse_number (omega arith) (ready (goal.at.returns-in_err-value-clause-none c).After-number) c.in_err-value.ensures)

pub loop-i-preserved : goal.loop-i-preserved
loop-i-preserved c =
    let in' : c.loop-i.i < length c.loop-i.numbers = omega arith in
    rw (take_more_set c.loop-i.numbers c.loop-i.i c.in_ok-value.value in')
    (one_more (omega arith) _ _ (ready (goal.at.loop-i-preserved c).After-number) c.in_ok-value.ensures)
