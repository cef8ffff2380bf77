-- How many colours are marked.
use Rattle.std.proofs.Common.{◌≡◌, ℕ, zero, suc, ◌-◌, ◌<◌, ◌≤◌, Bool, true, false, ◌⊎◌, ◌↔◌, List, ◌∷◌, ◌++◌, length, get_or, replicate, count_by, cond, sym, refl, ap, ◌∙◌, subst, inl, inr, arith}
use lib.ListN.{get_or-eq_default}
use Rattle.std.proofs.lemmas.List.{get_or_default, get_or-replicate, get_or_append_left, get_or-append_right, length-replicate}
use Rattle.std.proofs.lemmas.List.Sums.{get_or-le-sum_by, sum_by-le, sum_by-append, sum_by-cons}
use Rattle.std.proofs.lemmas.List.Folds.{sum_by-replicate}
use Rattle.std.proofs.lemmas.Bool.{cases_lt, cases_Bool, false≢true}
use Rattle.plan.specs.Reach.{IsMarked}
use Rattle.plan.specs.Sound.{IsColour}

abbrev pub marked : List Bool → ℕ
marked marks = count_by (λ m. m) marks

abbrev one_if : Bool → ℕ
one_if mark = cond mark 1 0

pub none_marked : (marks : List Bool) → marked marks ≡ 0 → (c : ℕ) → IsMarked marks c → ⊥
none_marked marks none c h = by (cases_lt c (length marks))
  where
    by : (c < length marks) ⊎ (length marks ≤ c) → ⊥
    by (inl l) = omega (arith, none, ap one_if h, get_or-le-sum_by one_if marks c false l)
    by (inr l) = false≢true (sym (get_or-eq_default marks false {n = c} l) ∙ h)

pub marked_none : (marks : List Bool) → ((c : ℕ) → IsMarked marks c → ⊥) → marked marks ≡ 0
marked_none marks none = omega (arith, sum_by-le one_if 0 marks (λ k d l. by k d l (cases_Bool (get_or marks k d))))
  where
    by : (k : ℕ) (d : Bool) → k < length marks → (get_or marks k d ≡ true) ⊎ (get_or marks k d ≡ false) → one_if (get_or marks k d) ≤ 0
    by k d l (inl e) = absurd (none k (get_or_default marks k false d l ∙ e))
    by k d l (inr e) = omega (arith, ap one_if e)

unset : (n j : ℕ) → get_or (replicate n false) j false ≡ false
unset zero j = refl
unset (suc n) zero = refl
unset (suc n) (suc j) = unset n j

-- the colours 1 to k are marked, of n numbers past 0
abbrev marks_to : ℕ → ℕ → List Bool
marks_to k n = false ∷ (replicate k true ++ replicate (n - k) false)

pub marked-marks_to : (k n : ℕ) (marks : List Bool) → marks ≡ marks_to k n → k ≡ marked marks
marked-marks_to k n marks e =
    let parts = sum_by-append one_if (replicate k true) (replicate (n - k) false) in
    let first = sum_by-cons one_if false (replicate k true ++ replicate (n - k) false) in
    omega (arith, ap marked e, first, parts, sum_by-replicate one_if k true, sum_by-replicate one_if (n - k) false)

pub IsMarked-marks_to : (k n : ℕ) (marks : List Bool) → marks ≡ marks_to k n → (c : ℕ) → IsMarked marks c ↔ IsColour k c
IsMarked-marks_to k n marks e c = subst (λ (ms : List Bool). IsMarked ms c ↔ IsColour k c) (sym e) (at c)
  where
    at : (c : ℕ) → IsMarked (marks_to k n) c ↔ IsColour k c
    at zero = ((λ h. absurd (false≢true h)), λ h. absurd (omega (arith, h.0)))
    at (suc d) = by (cases_lt d k)
      where
        by : (d < k) ⊎ (k ≤ d) → IsMarked (marks_to k n) (suc d) ↔ IsColour k (suc d)
        by (inl l) =
            let here = get_or_append_left (replicate k true) (replicate (n - k) false) false d (omega (arith, l, length-replicate k true)) in
            ((λ h. (omega arith, omega arith)), λ h. here ∙ get_or-replicate k d true false l)
        by (inr l) =
            let here = get_or-append_right (replicate k true) (replicate (n - k) false) k d false (length-replicate k true) l in
            ((λ h. absurd (false≢true (sym (unset (n - k) (d - k)) ∙ sym here ∙ h))), λ h. absurd (omega (arith, h.1)))
