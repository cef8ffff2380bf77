-- Lists of checks, one behind the other; and the checks of adding, of which the middle ones are the plan's.
use Rattle.std.proofs.Common.{◌≡◌, List, [], ◌∷◌, ◌++◌, inl, inr, refl, subst}
use Rattle.plan.specs.declared.counts.Counts.{Counts}
use Rattle.plan.specs.declared.refusal.Refusal.{Refusal}
use Rattle.plan.specs.declared.refusal.Refusal.TheVariants.{NoPlace}
use Rattle.plan.specs.Plan.{Plan, Lists, IsLong, plan_of}
use Rattle.plan.specs.Checks.{Check, AllHold, FirstFails}
use Rattle.plan.specs.Rules.{add_checks, close_checks, closing_rules}

hold_both : (xs ys : List Check) → AllHold xs → AllHold ys → AllHold (xs ++ ys)
hold_both [] ys h k = k
hold_both (x ∷ xs) ys h k = (h.0, hold_both xs ys h.1 k)

fails_first : (xs ys : List Check) (f : Refusal) → FirstFails xs f → FirstFails (xs ++ ys) f
fails_first [] ys f h = absurd h
fails_first (x ∷ xs) ys f (inl h) = inl h
fails_first (x ∷ xs) ys f (inr h) = inr (h.0, fails_first xs ys f h.1)

fails_later : (xs ys : List Check) (f : Refusal) → AllHold xs → FirstFails ys f → FirstFails (xs ++ ys) f
fails_later [] ys f h k = k
fails_later (x ∷ xs) ys f h k = inr (h.0, fails_later xs ys f h.1 k)

-- where neither checks refuse, the two in order refuse nothing
pub pass_both : (xs ys : List Check) → ((f : Refusal) → FirstFails xs f → ⊥) → ((f : Refusal) → FirstFails ys f → ⊥)
    → (f : Refusal) → FirstFails (xs ++ ys) f → ⊥
pass_both [] ys hx hy f h = hy f h
pass_both (x ∷ xs) ys hx hy f (inl h) = hx f (inl h)
pass_both (x ∷ xs) ys hx hy f (inr h) = pass_both xs ys (λ g k. hx g (inr (h.0, k))) hy f h.1

-- what the plan p, which the lists hold, says of the rules of a plan
module _ {C : Type 0} (n : Counts) (l : Lists C) (rules : Plan C → List Check) (place : Type 0)
    (long : IsLong n l) (p : Plan C) (is : p ≡ plan_of n l) where
  pub rules_fail : (f : Refusal) → FirstFails (rules p) f → FirstFails (add_checks n l (rules (plan_of n l)) place) f
  rules_fail f h = inr (long, fails_first (rules (plan_of n l)) _ f (subst (λ (q : Plan C). FirstFails (rules q) f) is h))

  pub place_fails : AllHold (rules p) → (place → ⊥) → FirstFails (add_checks n l (rules (plan_of n l)) place) NoPlace
  place_fails h full = inr (long, fails_later (rules (plan_of n l)) _ _ (subst (λ (q : Plan C). AllHold (rules q)) is h) (inl (refl, full)))

  pub checks_hold : AllHold (rules p) → place → AllHold (add_checks n l (rules (plan_of n l)) place)
  checks_hold h fits = (long, hold_both (rules (plan_of n l)) _ (subst (λ (q : Plan C). AllHold (rules q)) is h) (fits, tt))

-- the same of the rules of closing
module _ {C : Type 0} (n : Counts) (l : Lists C) (long : IsLong n l) (p : Plan C) (is : p ≡ plan_of n l) where
  pub closing_fails : (f : Refusal) → FirstFails (closing_rules p) f → FirstFails (close_checks n l) f
  closing_fails f h = inr (long, subst (λ (q : Plan C). FirstFails (closing_rules q) f) is h)

  pub closing_holds : AllHold (closing_rules p) → AllHold (close_checks n l)
  closing_holds h = (long, subst (λ (q : Plan C). AllHold (closing_rules q)) is h)
