-- Distances and next relays.
use Rattle.std.specs.Prelude.{◌≡◌, ℕ, ◌<◌, ◌≤◌, ◌⊎◌, List, ◌∷◌, length, ◌≢◌}
use Rattle.kind.specs.Laws.{AtMost, CostKind}
use Rattle.plan.specs.Plan.{Plan}
use Rattle.plan.specs.Walk.{Walk, Hop, Chain, cost_of}

module _ {C : Type 0} (K : CostKind C) where
  -- c is the distance from u to v: the least cost of a walk
  pub record Distance (p : Plan C) (u v : ℕ) (c : C) : Type 0 where
    pub walk : Walk p u v
    pub costs : cost_of K walk.hops ≡ c
    pub least : (w : Walk p u v) → AtMost K c (cost_of K w.hops)

  -- D is the distance of the plan
  abbrev pub Distances : Plan C → (ℕ → ℕ → C) → Type 0
  Distances p D =
      (u v : ℕ) → u < length p.relays → v < length p.relays → Distance p u v (D u v)

  -- r is the first relay after u on a cheapest walk to x
  pub record FirstStep (p : Plan C) (u x r : ℕ) : Type 0 where
    pub over : C
    pub hops : List (Hop C)
    pub chain : Chain p u (record { cost = over; to = r } ∷ hops) x
    pub cheapest : (w : Walk p u x) → AtMost K (K.plus over (cost_of K hops)) (cost_of K w.hops)

  -- the next relay from u toward x: of the first relays after u on cheapest walks the lowest,
  -- and u itself toward u
  abbrev pub Next : Plan C → ℕ → ℕ → ℕ → Type 0
  Next p u x r =
      ((u ≡ x) × (r ≡ u))
      ⊎ ((u ≢ x) × FirstStep p u x r × ((s : ℕ) → FirstStep p u x s → r ≤ s))
