-- What is checked of the lists of a measured plan and of an order, in order.
use Rattle.std.specs.Prelude.{ℕ, ◌*◌, ◌<◌, ◌≤◌, List, [], ◌∷◌, length}
use Rattle.plan.specs.declared.counts.Counts.{Counts}
use Rattle.plan.specs.declared.refusal.Refusal.TheVariants.{UnknownSource, ListTooShort}
use Rattle.plan.specs.Checks.{Check, ◌otherwise◌}

-- neither list is shorter than the entries that belong into it:
-- a colour for each relay, and a distance for each pair
pub record AreLong {C : Type 0} (n : Counts) (colours : List ℕ) (distances : List C) : Type 0 where
  pub all_colours : n.relays ≤ length colours
  pub all_distances : n.relays * n.relays ≤ length distances

-- finding neighbourhoods in the lists of a measured plan
abbrev pub near_checks : {C : Type 0} → Counts → List ℕ → List C → List Check
near_checks n colours distances = AreLong n colours distances otherwise ListTooShort ∷ []

-- writing the order that u sees of n relays into a list
abbrev pub order_checks : ℕ → ℕ → List ℕ → List Check
order_checks n u order =
    (n ≤ length order) otherwise ListTooShort
    ∷ (u < n) otherwise UnknownSource
    ∷ []
