-- Walks over the links of a plan, and what they cost.
use Rattle.std.specs.Prelude.{◌≡◌, ℕ, ◌<◌, ◌⊎◌, List, [], ◌∷◌, map, length, slice_index_or}
use Rattle.std.specs.List.{ContainsAt}
use Rattle.kind.specs.Laws.{total, CostKind}
use Rattle.plan.specs.declared.ends.Ends.{Ends}
use Rattle.plan.specs.Plan.{Plan, link}

-- what stands for the ends at a place past the list's end
abbrev pub nowhere : Ends
nowhere = record { from = 0; to = 0 }

-- the ends are u and v, in one order or the other
abbrev pub Pair : Ends → ℕ → ℕ → Type 0
Pair e u v = ((e.from ≡ u) × (e.to ≡ v)) ⊎ ((e.from ≡ v) × (e.to ≡ u))

-- one of the pairs has these ends
abbrev pub SomePair : List Ends → ℕ → ℕ → Type 0
SomePair es u v = (k : ℕ) × (k < length es) × Pair (slice_index_or es k nowhere) u v

-- a link of cost c between u and v, entered either way round
abbrev pub Linked : {C : Type 0} → Plan C → ℕ → ℕ → C → Type 0
Linked p u v c = ContainsAt p.links (link u v c) ⊎ ContainsAt p.links (link v u c)

-- some link joins u and v
abbrev pub ArePaired : {C : Type 0} → Plan C → ℕ → ℕ → Type 0
ArePaired {C} p u v = (c : C) × Linked p u v c

-- one step of a walk: over a link of this cost, to this relay
pub record Hop (C : Type 0) : Type 0 where
  pub cost : C
  pub to : ℕ

-- the hops lead from u to v, each over a link of the plan
abbrev pub Chain : {C : Type 0} → Plan C → ℕ → List (Hop C) → ℕ → Type 0
Chain p u [] v = u ≡ v
Chain p u (h ∷ hs) v = Linked p u h.to h.cost × Chain p h.to hs v

-- a walk from u to v: a chain of links, possibly empty
pub record Walk {C : Type 0} (p : Plan C) (u v : ℕ) : Type 0 where
  pub hops : List (Hop C)
  pub chain : Chain p u hops v

-- the sum of the costs of the hops
abbrev pub cost_of : {C : Type 0} → CostKind C → List (Hop C) → C
cost_of K hops = total K (map (λ h. h.cost) hops)

-- every two relays have a walk between them
abbrev pub Connected : {C : Type 0} → Plan C → Type 0
Connected p = (u v : ℕ) → u < length p.relays → v < length p.relays → Walk p u v

-- v is out of reach of relay 0, and each relay of a lower number is in reach
pub record LowestOut {C : Type 0} (p : Plan C) (v : ℕ) : Type 0 where
  pub relay : v < length p.relays
  pub out : Walk p 0 v → ⊥
  pub below : (u : ℕ) → u < v → Walk p 0 u
