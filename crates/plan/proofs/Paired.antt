-- Two lists side by side.
use Rattle.std.proofs.Common.{◌≡◌, ℕ, zero, suc, ◌<◌, List, [], ◌∷◌, ◌++◌, length, map, get_or, refl, ap, ap₂, le_of_suc-le-suc, not-suc-le-zero, arith}
use Rattle.plan.specs.declared.ends.Ends.{Ends}
use Rattle.plan.specs.Plan.{Plan, Link, paired, link_of, ends_of, costs_of}

module _ {A B X : Type 0} (f : A → B → X) where
  pub length-paired : (xs : List A) (ys : List B) → length xs ≡ length ys → length (paired f xs ys) ≡ length xs
  length-paired [] ys e = refl
  length-paired (x ∷ xs) [] e = absurd (omega arith)
  length-paired (x ∷ xs) (y ∷ ys) e =
      let same : length xs ≡ length ys = omega arith in
      ap suc (length-paired xs ys same)

  pub paired_push : (xs : List A) (ys : List B) (x : A) (y : B) → length xs ≡ length ys
      → paired f (xs ++ x ∷ []) (ys ++ y ∷ []) ≡ paired f xs ys ++ f x y ∷ []
  paired_push [] [] x y e = refl
  paired_push [] (b ∷ ys) x y e = absurd (omega arith)
  paired_push (a ∷ xs) [] x y e = absurd (omega arith)
  paired_push (a ∷ xs) (b ∷ ys) x y e =
      let same : length xs ≡ length ys = omega arith in
      ap (λ (rest : List X). f a b ∷ rest) (paired_push xs ys x y same)

  pub get_or-paired : (xs : List A) (ys : List B) (i : ℕ) (a : A) (b : B) (d : X) → i < length xs → i < length ys
      → get_or (paired f xs ys) i d ≡ f (get_or xs i a) (get_or ys i b)
  get_or-paired [] ys i a b d h k = absurd (not-suc-le-zero h)
  get_or-paired (x ∷ xs) [] i a b d h k = absurd (not-suc-le-zero k)
  get_or-paired (x ∷ xs) (y ∷ ys) zero a b d h k = refl
  get_or-paired (x ∷ xs) (y ∷ ys) (suc i) a b d h k = get_or-paired xs ys i a b d (le_of_suc-le-suc h) (le_of_suc-le-suc k)

  -- each list can be read off the pairs again
  pub paired_left : (g : X → A) (xs : List A) (ys : List B) → ((a : A) (b : B) → g (f a b) ≡ a) → length xs ≡ length ys
      → map g (paired f xs ys) ≡ xs
  paired_left g [] ys h e = refl
  paired_left g (x ∷ xs) [] h e = absurd (omega arith)
  paired_left g (x ∷ xs) (y ∷ ys) h e =
      let same : length xs ≡ length ys = omega arith in
      ap₂ (λ (a : A) (rest : List A). a ∷ rest) (h x y) (paired_left g xs ys h same)

  pub paired_right : (g : X → B) (xs : List A) (ys : List B) → ((a : A) (b : B) → g (f a b) ≡ b) → length xs ≡ length ys
      → map g (paired f xs ys) ≡ ys
  paired_right g [] [] h e = refl
  paired_right g [] (y ∷ ys) h e = absurd (omega arith)
  paired_right g (x ∷ xs) [] h e = absurd (omega arith)
  paired_right g (x ∷ xs) (y ∷ ys) h e =
      let same : length xs ≡ length ys = omega arith in
      ap₂ (λ (b : B) (rest : List B). b ∷ rest) (h x y) (paired_right g xs ys h same)

-- a plan's links are its ends and its costs, side by side
pub links_paired : {C : Type 0} (links : List (Link C))
    → links ≡ paired link_of (map (λ l. record { from = l.from; to = l.to }) links) (map (λ l. l.cost) links)
links_paired [] = refl
links_paired {C} (l ∷ ls) = ap (λ (more : List (Link C)). l ∷ more) (links_paired ls)
