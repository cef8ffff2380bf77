use Rattle.std.proofs.Common.{◌≡◌, ◌<◌, length, get_or, ap, ◌∙◌, arith, rules}
use Rattle.std.specs.Str.Parse.{digits_value}
use Rattle.std.proofs.lemmas.List.{take_all}
use Rattle.plan_text.proofs.Runs.{none_by_length, none_by_zero, some_number, next_digit, value_room}
use Rattle.plan_text.proofs.scan.number.Goals as goal
use Rattle.plan_text.proofs.scan.number.Goals.{then-is_empty-via-then-is_empty, then-is_empty-via-else-is_empty+then-digits-gt-MOST_DIGITS}
use Rattle.plan_text.proofs.scan.number.Goals.{else-digits-gt1-via-then-digits-gt1+else-digits-eq48, else-digits-gt1-via-else-digits-gt1}

pub returns-then-is_empty : goal.returns-then-is_empty
returns-then-is_empty c =
    let s = c.split_digits.ensures in
    none_by_length _ _ _ s.whole s.digits s.ends (λ h. elim c.then-is_empty.branch [
      | then-is_empty-via-then-is_empty w ↦ let none : length c.split_digits.result.0.now ≡ 0 = search rules in omega (arith, h.0, none)
      | then-is_empty-via-else-is_empty+then-digits-gt-MOST_DIGITS w ↦ omega (arith, h.1, w.if-digits-gt-MOST_DIGITS.true)
    ])

pub returns-then-digits-eq48 : goal.returns-then-digits-eq48
returns-then-digits-eq48 c =
    let s = c.split_digits.ensures in
    none_by_zero _ _ _ s.whole s.digits s.ends c.if-digits-gt1.true c.if-digits-eq48.true

pub overflow_mul-value : goal.overflow_mul-value
overflow_mul-value c =
    omega (arith, value_room _ c.split_digits.ensures.digits _ c.loop-digit-test.true c.if-digits-gt-MOST_DIGITS.false, c.loop-digit.invariant)

pub overflow_add-value : goal.overflow_add-value
overflow_add-value c =
    let digits = c.split_digits.ensures.digits in
    let digit = (next_digit _ digits _ c.loop-digit-test.true).0 in
    omega (arith, value_room _ digits _ c.loop-digit-test.true c.if-digits-gt-MOST_DIGITS.false, c.loop-digit.invariant, c.from.ensures)

pub loop-digit-preserved : goal.loop-digit-preserved
loop-digit-preserved c =
    let e = (next_digit _ c.split_digits.ensures.digits _ c.loop-digit-test.true).1 in
    cc

pub returns : goal.returns
returns c =
    let s = c.split_digits.ensures in
    let ds = c.split_digits.result.0.now in
    let some : 0 < length ds = search rules in
    let lead : get_or ds 0 0 ≡ 48 → length ds ≡ 1 = λ z. elim c.else-digits-gt1.branch [
      | else-digits-gt1-via-then-digits-gt1+else-digits-eq48 w ↦ absurd (w.if-digits-eq48.false z)
      | else-digits-gt1-via-else-digits-gt1 w ↦ omega (arith, some, w.if-digits-gt1.false)
    ] in
    some_number _ _ _ s.whole s.digits s.ends some c.if-digits-gt-MOST_DIGITS.false lead c.loop-digit.value
    (c.loop-digit.invariant ∙ ap (digits_value 10) (take_all _ ds c.loop-digit-test.false))
