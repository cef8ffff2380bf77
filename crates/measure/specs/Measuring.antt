-- What measuring refuses, and what it writes.
use Rattle.std.specs.Prelude.{◌≡◌, ℕ, ◌*◌, ◌<◌, ◌≤◌, List, [], ◌∷◌, length, drop}
use Rattle.kind.specs.Laws.{CostKind}
use Rattle.plan.specs.declared.refusal.Refusal.TheVariants.{ListTooShort, EntryBroken}
use Rattle.plan.specs.declared.counts.Counts.{Counts}
use Rattle.plan.specs.Plan.{Plan, Lists, IsLong, plan_of}
use Rattle.plan.specs.Sound.{Sound, AreRelays, Dangling}
use Rattle.plan.specs.Checks.{Check, ◌orelse◌, ◌otherwise◌, because}
use Rattle.plan.specs.Rules.{Closable}
use Rattle.measure.specs.Squares.{in_square}
use Rattle.measure.specs.Distance.{Distance, Next}

-- neither list is shorter than a square of side n
pub record HaveSquares {C : Type 0} (n : ℕ) (distances : List C) (nexts : List ℕ) : Type 0 where
  pub of_distances : n * n ≤ length distances
  pub of_nexts : n * n ≤ length nexts

-- measuring into these two squares
abbrev pub measure_checks :
    {C : Type 0} → Counts → Lists C → List C → List ℕ → List Check
measure_checks n l distances nexts =
    IsLong n l otherwise ListTooShort
    ∷ HaveSquares n.relays distances nexts otherwise ListTooShort
    ∷ AreRelays (plan_of n l) orelse because EntryBroken (Dangling (plan_of n l))
    ∷ []

-- The two squares of a plan of n relays, row by row:
-- in row u at column v the distance from u to v, and the next relay from u toward v.
-- The entries are so where the plan is sound and may be closed, and open elsewhere.
-- What stands behind the squares is always as it was.
pub record Measures {C : Type 0} (K : CostKind C) (p : Plan C) (n : ℕ)
    (distances distances' : List C) (nexts nexts' : List ℕ) : Type 0 where
  pub distance : Sound K p → Closable p → (u v : ℕ) → u < n → v < n
      → Distance K p u v (in_square K.none n distances' u v)
  pub next : Sound K p → Closable p → (u v : ℕ) → u < n → v < n
      → Next K p u v (in_square 0 n nexts' u v)
  pub other_distances : drop (n * n) distances' ≡ drop (n * n) distances
  pub other_nexts : drop (n * n) nexts' ≡ drop (n * n) nexts
