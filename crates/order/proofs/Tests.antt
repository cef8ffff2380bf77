-- Tests that compute, of numbers and lists.
use Rattle.std.proofs.Common.{◌≡◌, ℕ, zero, suc, ◌<◌, Bool, true, false, not, ◌&&◌, ◌||◌, ◌⊎◌, List, [], ◌∷◌, length, get_or, sym, refl, ◌∙◌, subst, inl, inr, arith}
use Rattle.std.specs.List.{ContainsAt, AllByRecursion, list_all, list_any}
use Rattle.std.proofs.ByRecursion.{All-weaker, All-get_or}
use Rattle.std.proofs.lemmas.List.{get_or_default}
use Rattle.std.proofs.lemmas.List.Folds.{Any-from_list_any}
use Rattle.std.proofs.lemmas.Bool.{and_parts, or_cases, cases_eq, not-true, both_ways}
use Rattle.plan.specs.Sound.{NoTwo}

pub not_both : (t : Bool) → not t ≡ true → t ≡ true → ⊥
not_both t e f = both_ways t (not-true t e) f

module _ {X : Type 0} (t : X → Bool) where
  pub all_pass : (xs : List X) → list_all t xs ≡ true → AllByRecursion (λ x. t x ≡ true) xs
  all_pass [] e = tt
  all_pass (x ∷ xs) e = let h = and_parts (t x) (list_all t xs) e in (h.0, all_pass xs h.1)

  pub some_passes : (xs : List X) → list_any t xs ≡ true → (x : X) × ContainsAt xs x × (t x ≡ true)
  some_passes xs e = let (k, x, l, is, passes) = Any-from_list_any t xs e in (x, (k, l, λ d. get_or_default xs k d x l ∙ is), passes)

module _ (t : ℕ → Bool) where
  -- every number below n passes, or some
  abbrev pub all_below : ℕ → Bool
  all_below zero = true
  all_below (suc n) = t n && all_below n

  abbrev pub some_below : ℕ → Bool
  some_below zero = false
  some_below (suc n) = t n || some_below n

  pub all_below_is : (n : ℕ) → all_below n ≡ true → (i : ℕ) → i < n → t i ≡ true
  all_below_is zero e i l = absurd (omega arith)
  all_below_is (suc n) e i l = by (cases_eq i n) (all_below_is n (and_parts (t n) (all_below n) e).1 i)
    where
      by : (i ≡ n) ⊎ (i ≡ n → ⊥) → (i < n → t i ≡ true) → t i ≡ true
      by (inl f) rest = subst (λ (x : ℕ). t x ≡ true) (sym f) (and_parts (t n) (all_below n) e).0
      by (inr ne) rest = rest (omega arith)

  pub some_below_is : (n : ℕ) → some_below n ≡ true → (i : ℕ) × (i < n) × (t i ≡ true)
  some_below_is zero e = absurd (both_ways false refl e)
  some_below_is (suc n) e = by (or_cases (t n) (some_below n) e) (some_below_is n)
    where
      by : (t n ≡ true) ⊎ (some_below n ≡ true) → (some_below n ≡ true → (i : ℕ) × (i < n) × (t i ≡ true)) → (i : ℕ) × (i < suc n) × (t i ≡ true)
      by (inl f) rest = (n, omega arith, f)
      by (inr f) rest = let (i, l, g) = rest f in (i, omega arith, g)

module _ {X : Type 0} (t : X → X → Bool) where
  -- every element passes with each later one
  abbrev pub pairs : List X → Bool
  pairs [] = true
  pairs (x ∷ xs) = list_all (t x) xs && pairs xs

  pub pairs_no_two : (R : X → X → Type 0) → ((x y : X) → t x y ≡ true → R x y → ⊥) → (xs : List X) → pairs xs ≡ true → NoTwo R xs
  pairs_no_two R f [] e = tt
  pairs_no_two R f (x ∷ xs) e =
      let h = and_parts (list_all (t x) xs) (pairs xs) e in
      (All-weaker (λ y. t x y ≡ true) (λ y. R x y → ⊥) (f x) xs (all_pass (t x) xs h.0), pairs_no_two R f xs h.1)

  pub pairs_at : (xs : List X) (d : X) → pairs xs ≡ true → (i j : ℕ) → i < j → j < length xs → t (get_or xs i d) (get_or xs j d) ≡ true
  pairs_at [] d e i j l m = absurd (omega arith)
  pairs_at (x ∷ xs) d e zero zero l m = absurd (omega arith)
  pairs_at (x ∷ xs) d e zero (suc j) l m =
      All-get_or (λ y. t x y ≡ true) xs j d (omega arith) (all_pass (t x) xs (and_parts (list_all (t x) xs) (pairs xs) e).0)
  pairs_at (x ∷ xs) d e (suc i) zero l m = absurd (omega arith)
  pairs_at (x ∷ xs) d e (suc i) (suc j) l m = pairs_at xs d (and_parts (list_all (t x) xs) (pairs xs) e).1 i j (omega arith) (omega arith)
