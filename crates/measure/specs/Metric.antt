-- What holds of the distances of a sound plan.
use Rattle.std.specs.Prelude.{◌≡◌, ℕ, ◌-◌, ◌<◌, ◌≤◌, List, [], ◌∷◌, length, ◌≢◌}
use Rattle.kind.specs.Laws.{AtMost, SumOf, CostKind, IsLess, IsLink}
use Rattle.plan.specs.Plan.{Plan}
use Rattle.plan.specs.Walk.{Linked, Hop, Chain, Walk, cost_of}
use Rattle.measure.specs.Distance.{Distance, FirstStep, Next}

-- f falls at each hop of a walk from u
abbrev pub Falls : {C : Type 0} → CostKind C → (ℕ → C) → ℕ → List (Hop C) → Type 0
Falls K f u [] = Unit {0}
Falls K f u (h ∷ hs) = IsLess K (f h.to) (f u) × Falls K f h.to hs

pub record Metric {C : Type 0} (K : CostKind C) (p : Plan C) : Type 0 where
  -- two relays have at most one distance; it is zero for one relay and no others,
  -- the same both ways, and no detour is shorter
  pub unique : (u v : ℕ) (c d : C) → Distance K p u v c → Distance K p u v d → c ≡ d
  pub self : (u : ℕ) → Distance K p u u K.none
  pub apart : (u v : ℕ) → Distance K p u v K.none → u ≡ v
  pub symmetric : (u v : ℕ) (c : C) → Distance K p u v c → Distance K p v u c
  pub triangle : (u v w : ℕ) (a b c : C)
      → Distance K p u v a → Distance K p v w b → Distance K p u w c → AtMost K c (K.plus a b)
  -- a next relay lies one link nearer, by exactly that link's cost
  pub nearer : (u x r : ℕ) → (u ≢ x) → Next K p u x r
      → (c : C) → Distance K p u x c
      → (w : C) × (d : C) × Linked p u r w × IsLink K w × Distance K p r x d × (c ≡ K.plus w d)
  -- a distance is a sum of fewer link costs than there are relays
  pub few : (u v : ℕ) (c : C) → u < length p.relays → Distance K p u v c
      → SumOf K (length p.relays - 1) c
  -- a walk along which some cost falls has fewer links than there are relays
  pub falling : (f : ℕ → C) (u v : ℕ) (hs : List (Hop C))
      → u < length p.relays → Chain p u hs v → Falls K f u hs
      → length hs ≤ length p.relays - 1
  -- costs of walks to v that no link improves are the distances to v
  pub certificate : (D : ℕ → ℕ → C) (v : ℕ)
      → ((u : ℕ) → u < length p.relays → (w : Walk p u v) × (cost_of K w.hops ≡ D u v))
      → D v v ≡ K.none
      → ((u x : ℕ) (w : C) → Linked p u x w → AtMost K (D u v) (K.plus w (D x v)))
      → (u : ℕ) → u < length p.relays → Distance K p u v (D u v)
  -- r comes first on a cheapest walk from u
  -- exactly where the distance falls by the cost of the link to r
  pub step : (u x r : ℕ) (w d c : C)
      → (u ≢ x) → Linked p u r w → Distance K p r x d → Distance K p u x c
      → c ≡ K.plus w d → FirstStep K p u x r
  pub first_step : (u x r : ℕ) → FirstStep K p u x r → (c : C) → Distance K p u x c
      → (w : C) × (d : C) × Linked p u r w × Distance K p r x d × (c ≡ K.plus w d)
  -- a chain from a relay ends at a relay
  pub inside : (u v : ℕ) (hs : List (Hop C)) → u < length p.relays → Chain p u hs v
      → v < length p.relays
