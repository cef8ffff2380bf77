-- The run of digits at the front of a list, and the number that it writes. Assumes nothing.
use Rattle.std.proofs.Common.{◌≡◌, ℕ, ◌+◌, ◌-◌, ◌*◌, ◌^◌, ◌<◌, ◌≤◌, List, ◌++◌, length, get_or, take, drop, decimal, sym, refl, ap, ◌∙◌, subst, ⊎_elim, add-zero, arith}
use Rattle.std.specs.Str.Parse.{digits_value}
use Rattle.std.specs.Int.{IsInRange}
use Rattle.std.specs.Char.{digit_value as digitValue}
use Rattle.std.proofs.lemmas.Fmt.{decimal_digit, decimal_nonempty, decimal-digits_value, digits_decimal, first_decimal, length-decimal-le, decimal_injective}
use Rattle.std.proofs.lemmas.Int.Digits.{digits_value_more}
use Rattle.std.proofs.lemmas.List.Prefix.{front_reads, front_rest}
use Rattle.std.proofs.lemmas.List.{get_or-append-add, get_or-take, length-take-le, take_at}
use Rattle.std.proofs.lemmas.Str.Parse.{IsNumeralModel, numerals_by_value, tells_by_index, digits_value_short}
use Rattle.std.proofs.lemmas.Bool.{cases_order, cond-false, cond-true, le-ltb, lt-ltb}
use Rattle.plan_text.specs.Rows.{TenDigits, AreDigits, NoDigit, Begins}

pub own : IsNumeralModel AreDigits (digits_value 10)
own = numerals_by_value AreDigits tells_by_index

pub small : (n : ℕ) → TenDigits n → n < 2 ^ 64
small n h = omega arith

-- the first k bytes are digits, and the next is none
pub record Run (xs : List ℕ) (k : ℕ) : Type 0 where
  pub all : (i : ℕ) → i < k → IsInRange 48 57 (get_or xs i 0)
  pub stops : IsInRange 48 57 (get_or xs k 0) → ⊥

-- what stands behind ds
behind : (xs ds rest : List ℕ) → xs ≡ ds ++ rest → get_or xs (length ds) 0 ≡ get_or rest 0 0
behind xs ds rest e =
    ap (λ l. get_or l (length ds) 0) e ∙ ap (λ i. get_or (ds ++ rest) i 0) (sym (add-zero (length ds))) ∙ get_or-append-add ds rest 0 0

-- digits in front of what does not begin with one are a run
pub run_front : (xs ds rest : List ℕ) → xs ≡ ds ++ rest → AreDigits ds → NoDigit rest → Run xs (length ds)
run_front xs ds rest e h s = record {
  all = λ i l. subst (IsInRange 48 57) (sym (front_reads 0 xs ds rest e i l)) (h i l);
  stops = λ d. s (subst (IsInRange 48 57) (behind xs ds rest e) d);
}

-- a list has one run
pub run_same : (xs : List ℕ) (j k : ℕ) → Run xs j → Run xs k → j ≡ k
run_same xs j k a b =
    ⊎_elim (λ e. e) (λ o. absurd (⊎_elim (λ l. a.stops (b.all j l)) (λ l. b.stops (a.all k l)) o)) (cases_order j k)

-- a number and what stands behind it are the only ones
pub same_number : (xs s t : List ℕ) (m n : ℕ) → TenDigits m → TenDigits n → xs ≡ decimal m ++ s → NoDigit s → xs ≡ decimal n ++ t → NoDigit t → (m ≡ n) × (s ≡ t)
same_number xs s t m n hm hn em ss en st =
    let long = run_same xs _ _ (run_front xs (decimal m) s em (digits_decimal own m (small m hm)) ss) (run_front xs (decimal n) t en (digits_decimal own n (small n hn)) st) in
    let here = sym (take_at (decimal m) s (length (decimal n)) long) ∙ ap (take (length (decimal n))) (sym em ∙ en) ∙ take_at (decimal n) t (length (decimal n)) refl in (
      decimal_injective m n (small m hm) (small n hn) here,
      sym (front_rest xs (decimal m) s em) ∙ ap (λ k. drop k xs) long ∙ front_rest xs (decimal n) t en,
    )

-- what a digit is worth
digit_value : (c : ℕ) → IsInRange 48 57 c → digitValue c ≡ c - 48
digit_value c h = cond-false _ _ _ (le-ltb c 48 h.0) ∙ cond-true _ _ _ (lt-ltb c 58 (omega arith))

-- A text that begins with the digits ds and then no other digit.
module _ (xs ds rest : List ℕ) (whole : xs ≡ ds ++ rest) (digits : AreDigits ds) (stops : NoDigit rest) where
  -- they are as many as the number has that stands there
  length_run : (n : ℕ) (behind : List ℕ) → Begins xs n behind → length ds ≡ length (decimal n)
  length_run n behind b = run_same xs _ _ (run_front xs ds rest whole digits stops)
      (run_front xs (decimal n) behind b.there (digits_decimal own n (small n b.short)) b.ends)

  -- no number stands where there is no digit, or there are more than ten
  pub none_by_length : ((1 ≤ length ds) × (length ds ≤ 10) → ⊥) → (n : ℕ) (behind : List ℕ) → Begins xs n behind → ⊥
  none_by_length out n behind b =
      let long = length_run n behind b in
      out (omega (arith, decimal_nonempty n (small n b.short)), omega (arith, length-decimal-le 10 n (omega arith) b.short (small n b.short)))

  -- nor where a zero stands before other digits
  pub none_by_zero : 1 < length ds → get_or ds 0 0 ≡ 48 → (n : ℕ) (behind : List ℕ) → Begins xs n behind → ⊥
  none_by_zero more zero n behind b =
      let long = length_run n behind b in
      let first = front_reads 0 xs (decimal n) behind b.there 0 (omega arith) in
      let first_digit = front_reads 0 xs ds rest whole 0 (omega arith) in
      ⊎_elim
      (λ z. let one = ap length (decimal_digit 0 (omega arith)) in let same = ap (λ m. length (decimal m)) z in omega arith)
      (λ o. ⊎_elim (λ l. omega arith) (λ l. omega (arith, first_decimal n l (small n b.short))) o)
      (cases_order n 0)

  -- else they are a number
  pub some_number : 0 < length ds → length ds ≤ 10 → (get_or ds 0 0 ≡ 48 → length ds ≡ 1) → (v : ℕ) → v ≡ digits_value 10 ds → Begins xs v rest
  some_number some few lead v is =
      let short : TenDigits (digits_value 10 ds) = digits_value_short own ds 10 digits few in
      let same = decimal-digits_value own ds digits some lead (small _ short) in
      record {
        short = subst TenDigits (sym is) short;
        there = whole ∙ ap (λ l. l ++ rest) (sym same ∙ ap decimal (sym is));
        ends = stops;
      }

-- Digits, read one after the other.
module _ (ds : List ℕ) (digits : AreDigits ds) (i : ℕ) (l : i < length ds) where
  pub next_digit : IsInRange 48 57 (get_or ds i 0) × (digits_value 10 (take (i + 1) ds) ≡ digits_value 10 (take i ds) * 10 + (get_or ds i 0 - 48))
  next_digit = (
    digits i l,
    digits_value_more 10 ds i l ∙ ap (λ d. digits_value 10 (take i ds) * 10 + d) (digit_value _ (digits i l)),
  )

  first_digits : AreDigits (take i ds)
  first_digits j h =
      let front = length-take-le i ds (omega arith) in
      subst (IsInRange 48 57) (sym (get_or-take i ds j 0 (omega arith))) (digits j (omega arith))

  -- of at most ten, those before the last are worth less than 10 ^ 9
  pub value_room : length ds ≤ 10 → digits_value 10 (take i ds) < 10 ^ 9
  value_room few = digits_value_short own (take i ds) 9 first_digits (omega (arith, length-take-le i ds (omega arith)))
