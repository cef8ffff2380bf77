-- What an example shows: the distances of a plan of kind delay,
-- and what one relay of it sees, by name.
use Rattle.std.specs.Prelude.{◌≡◌, ℕ, List, [], map, slice_index, slice_index_or}
use Rattle.kind.specs.declared.delay.Delay.{Delay}
use Rattle.kind.specs.Kinds.{delay, delay_kind}
use Rattle.plan.specs.Plan.{Plan, name_of}
use Rattle.plan.specs.Sound.{Sound, Bears}
use Rattle.measure.specs.Distance.{Distances}
use Rattle.order.specs.Seen.{Ball, Home}

-- the delays that a table holds: a row for each relay, and in it the delay to each
abbrev pub from_table : List (List ℕ) → ℕ → ℕ → Delay
from_table rows u v = delay (slice_index (slice_index_or rows u []) v)

-- the plan is sound, and D is its distance
pub record WithDistances (p : Plan Delay) (D : ℕ → ℕ → Delay) : Type 0 where
  pub sound : Sound delay_kind p
  pub distances : Distances delay_kind p D

-- the ball of the relay of name a has the relays of these names, the nearest first
pub record BallNamed (p : Plan Delay) (D : ℕ → ℕ → Delay) (a : ℕ) (names : List ℕ) : Type 0 where
  pub centre : ℕ
  pub called : Bears p centre a
  pub members : List ℕ
  pub ball : Ball delay_kind D p centre members
  pub named : map (name_of p) members ≡ names

-- the home landmark of the relay of name a is the relay of name b
pub record HomeNamed (p : Plan Delay) (D : ℕ → ℕ → Delay) (a b : ℕ) : Type 0 where
  pub centre : ℕ
  pub called : Bears p centre a
  pub landmark : ℕ
  pub home : Home delay_kind D p centre landmark
  pub named : Bears p landmark b
