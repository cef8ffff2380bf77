-- Which numbers a list has, and which colour it lacks.
use Rattle.std.proofs.Common.{◌≡◌, ℕ, zero, suc, ◌<◌, ◌≤◌, ◌⊎◌, List, [], ◌∷◌, length, get_or, sym, subst, inl, inr, arith, below_more}
use Rattle.std.specs.List.{AllByRecursion}
use Rattle.std.proofs.ByRecursion.{All-from_get_or}
use Rattle.std.proofs.lemmas.Bool.{cases_eq, cases_lt}
use Rattle.plan.specs.Sound.{IsColour, NoTwo}
use Rattle.measure.proofs.Different.{at_most}
use Rattle.order.specs.Seen.{Met, Covers}

-- below n, a test fails everywhere or holds at some place
pub search_below : (P : ℕ → Type 0) → ((i : ℕ) → P i ⊎ (P i → ⊥)) → (n : ℕ) → ((i : ℕ) × (i < n) × P i) ⊎ ((i : ℕ) → i < n → P i → ⊥)
search_below P test zero = inr (λ i l h. omega arith)
search_below P test (suc n) = by (search_below P test n) (test n)
  where
    by : ((i : ℕ) × (i < n) × P i) ⊎ ((i : ℕ) → i < n → P i → ⊥) → P n ⊎ (P n → ⊥) → ((i : ℕ) × (i < suc n) × P i) ⊎ ((i : ℕ) → i < suc n → P i → ⊥)
    by (inl (i, l, h)) t = inl (i, omega arith, h)
    by (inr none) (inl h) = inl (n, omega arith, h)
    by (inr none) (inr no_n) = inr (λ i l. below_more (λ j. P j → ⊥) n none no_n i (omega arith))

-- different numbers, one by one
pub no_two : (xs : List ℕ) → ((i j : ℕ) → i < j → j < length xs → get_or xs i 0 ≡ get_or xs j 0 → ⊥) → NoTwo ◌≡◌ xs
no_two [] h = tt
no_two (x ∷ xs) h = (
  All-from_get_or (λ y. x ≡ y → ⊥) xs 0 (λ i l e. h 0 (suc i) (omega arith) (omega arith) e),
  no_two xs (λ i j l m e. h (suc i) (suc j) (omega arith) (omega arith) e),
)

-- n different numbers below n are all the numbers below n
pub place_of : (n : ℕ) (xs : List ℕ) → length xs ≡ n → AllByRecursion (λ x. x < n) xs → NoTwo ◌≡◌ xs → (y : ℕ) → y < n
    → (i : ℕ) × (i < length xs) × (get_or xs i 0 ≡ y)
place_of n xs e small differ y l = by (search_below (λ i. get_or xs i 0 ≡ y) (λ i. cases_eq (get_or xs i 0) y) (length xs))
  where
    by : ((i : ℕ) × (i < length xs) × (get_or xs i 0 ≡ y)) ⊎ ((i : ℕ) → i < length xs → get_or xs i 0 ≡ y → ⊥) → (i : ℕ) × (i < length xs) × (get_or xs i 0 ≡ y)
    by (inl h) = h
    by (inr none) =
        let all : length (y ∷ xs) ≤ n = at_most n (y ∷ xs) (l, small) (All-from_get_or (λ x. y ≡ x → ⊥) xs 0 (λ i h f. none i h (sym f)), differ) in
        absurd (omega arith)

-- the first a have every colour, or lack one
module _ (colouring : ℕ → ℕ) (zs : List ℕ) (a : ℕ) where
  abbrev MetBy : ℕ → Type 0
  MetBy c = Met colouring zs a c

  abbrev Here : ℕ → ℕ → Type 0
  Here c i = (i < length zs) × (colouring (get_or zs i 0) ≡ c)

  here_or_not : (c i : ℕ) → Here c i ⊎ (Here c i → ⊥)
  here_or_not c i = both (cases_lt i (length zs)) (cases_eq (colouring (get_or zs i 0)) c)
    where
      both : (i < length zs) ⊎ (length zs ≤ i) → (colouring (get_or zs i 0) ≡ c) ⊎ (colouring (get_or zs i 0) ≡ c → ⊥) → Here c i ⊎ (Here c i → ⊥)
      both (inl l) (inl e) = inl (l, e)
      both (inl l) (inr ne) = inr (λ h. ne h.1)
      both (inr l) e = inr (λ h. omega (arith, h.0))

  met : (c : ℕ) → MetBy c ⊎ (MetBy c → ⊥)
  met c = by (search_below (Here c) (here_or_not c) a)
    where
      by : ((i : ℕ) × (i < a) × Here c i) ⊎ ((i : ℕ) → i < a → Here c i → ⊥) → MetBy c ⊎ (MetBy c → ⊥)
      by (inl (i, l, h)) = inl (i, l, h.0, h.1)
      by (inr none) = inr (λ h. none h.0 h.1 (h.2, h.3))

  pub lacks : (k : ℕ) → Covers colouring k zs a ⊎ ((c : ℕ) × IsColour k c × (MetBy c → ⊥))
  lacks zero = inl (λ c h. absurd (omega (arith, h.0, h.1)))
  lacks (suc k) = by (lacks k) (met (suc k))
    where
      by : Covers colouring k zs a ⊎ ((c : ℕ) × IsColour k c × (MetBy c → ⊥)) → MetBy (suc k) ⊎ (MetBy (suc k) → ⊥)
          → Covers colouring (suc k) zs a ⊎ ((c : ℕ) × IsColour (suc k) c × (MetBy c → ⊥))
      by (inr (c, h, no_c)) t = inr (c, (h.0, omega (arith, h.1)), no_c)
      by (inl all) (inr no_last) = inr (suc k, (omega arith, omega arith), no_last)
      by (inl all) (inl last) = inl cover
        where
          cover : Covers colouring (suc k) zs a
          cover c h = here (cases_eq c (suc k))
            where
              here : (c ≡ suc k) ⊎ (c ≡ suc k → ⊥) → MetBy c
              here (inl e) = subst MetBy (sym e) last
              here (inr ne) = all c (h.0, omega (arith, h.1))
