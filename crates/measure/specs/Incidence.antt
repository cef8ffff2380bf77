-- The links of each relay, one after another.
-- For the inner functions: no public contract cites these.
use Rattle.std.specs.Prelude.{◌≡◌, ℕ, ◌+◌, ◌<◌, ◌≤◌, ◌≢◌, List, length, slice_index, slice_index_or}
use Rattle.plan.specs.declared.ends.Ends.{Ends}
use Rattle.plan.specs.Walk.{nowhere}
use Rattle.measure.specs.declared.incidence.Incidence.{Incidence}

-- One of the ends is u: where it is not the first, it is the second.
-- Not by ⊎, which may hold in two ways: a ghost field takes only what holds in one.
abbrev pub EndsAt : Ends → ℕ → Type 0
EndsAt e u = e.from ≢ u → e.to ≡ u

-- a link at relay u stands in place j, or j is the number of links
pub record IsPlace (es : List Ends) (u j : ℕ) : Type 0 where
  pub most : j ≤ length es
  pub here : j < length es → EndsAt (slice_index_or es j nowhere) u

-- from place k on the first link at relay u stands in place j,
-- or none does and j is the number of links
pub record Skips (es : List Ends) (u k j : ℕ) : Type 0 where
  pub least : k ≤ j
  pub place : IsPlace es u j
  pub none : (i : ℕ) → k ≤ i → i < j → EndsAt (slice_index_or es i nowhere) u → ⊥

-- Of the links from place k on, no link at a relay stands before the relay's first,
-- and none at an end of a link stands between the link and the next at that end.
pub record Chained (es : List Ends) (first from to : List ℕ) (k : ℕ) : Type 0 where
  pub heads : (u : ℕ) → u < 256 → Skips es u k (slice_index first u)
  pub froms : (j : ℕ) → k ≤ j → j < length es
      → Skips es (slice_index_or es j nowhere).from (j + 1) (slice_index from j)
  pub tos : (j : ℕ) → k ≤ j → j < length es
      → Skips es (slice_index_or es j nowhere).to (j + 1) (slice_index to j)

-- these are the links of each relay, all of them
abbrev pub Incident : List Ends → Incidence → Type 0
Incident es t = Chained es t.first t.from t.to 0
