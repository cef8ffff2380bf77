-- Different numbers below n are at most n.
use Rattle.std.proofs.Common.{◌≡◌, ℕ, zero, suc, ◌<◌, ◌≤◌, true, ltb, ◌⊎◌, List, [], ◌∷◌, length, filter, refl, ap, ◌∙◌, inl, inr, arith}
use Rattle.std.specs.List.{AllByRecursion}
use Rattle.std.proofs.ByRecursion.{All-weaker, all_kept_by, kept_by_passes}
use Rattle.std.proofs.lemmas.Bool.{ltb-true, ltb-false, cond_both, cond-true, lt-ltb, cases_eq}
use Rattle.plan.specs.Sound.{NoTwo}

-- the numbers of the list that are below n
abbrev below : ℕ → List ℕ → List ℕ
below n xs = filter (λ x. ltb x n) xs

below_all : (n : ℕ) (xs : List ℕ) → AllByRecursion (λ x. x < n) (below n xs)
below_all n xs = All-weaker (λ x. ltb x n ≡ true) (λ x. x < n) (λ x e. ltb-true x n e) (below n xs) (kept_by_passes (λ x. ltb x n) xs)

below_differ : (n : ℕ) (xs : List ℕ) → NoTwo ◌≡◌ xs → NoTwo ◌≡◌ (below n xs)
below_differ n [] h = tt
below_differ n (x ∷ xs) h =
    let rest : NoTwo ◌≡◌ (below n xs) = below_differ n xs h.1 in
    cond_both (ltb x n) (x ∷ below n xs) (below n xs) (NoTwo ◌≡◌)
    (λ _. (all_kept_by (λ y. ltb y n) (λ y. x ≡ y → ⊥) xs h.0, rest)) (λ _. rest)

below_same : (n : ℕ) (xs : List ℕ) → AllByRecursion (λ x. x < n) xs → length (below n xs) ≡ length xs
below_same n [] h = refl
below_same n (x ∷ xs) h = ap length (cond-true (ltb x n) (x ∷ below n xs) (below n xs) (lt-ltb x n h.0)) ∙ ap suc (below_same n xs h.1)

-- the numbers other than the largest
below_others : (n x : ℕ) (ys : List ℕ) → n ≤ x → x < suc n → AllByRecursion (λ y. y < suc n) ys → AllByRecursion (λ y. x ≡ y → ⊥) ys → AllByRecursion (λ y. y < n) ys
below_others n x [] top small a b = tt
below_others n x (y ∷ ys) top small a b = (here (cases_eq x y), below_others n x ys top small a.1 b.1)
  where
    here : (x ≡ y) ⊎ (x ≡ y → ⊥) → y < n
    here (inl e) = absurd (b.0 e)
    here (inr ne) = omega (arith, a.0)

-- of different numbers up to n only one is not below n
below_most : (n : ℕ) (xs : List ℕ) → AllByRecursion (λ x. x < suc n) xs → NoTwo ◌≡◌ xs → length xs ≤ suc (length (below n xs))
below_most n [] h k = omega arith
below_most n (x ∷ xs) h k =
    let rest : length xs ≤ suc (length (below n xs)) = below_most n xs h.1 k.1 in
    cond_both (ltb x n) (x ∷ below n xs) (below n xs) (λ ys. suc (length xs) ≤ suc (length ys)) (λ _. omega arith)
    (λ e. omega (arith, below_same n xs (below_others n x xs (ltb-false x n e) h.0 h.1 k.0)))

pub at_most : (n : ℕ) (xs : List ℕ) → AllByRecursion (λ x. x < n) xs → NoTwo ◌≡◌ xs → length xs ≤ n
at_most zero [] h k = omega arith
at_most zero (x ∷ xs) h k = absurd (omega (arith, h.0))
at_most (suc n) xs h k =
    omega (arith, below_most n xs h k, at_most n (below n xs) (below_all n xs) (below_differ n xs k))
