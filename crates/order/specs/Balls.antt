-- What holds of orders, balls and managers in a sound plan whose distance is D.
use Rattle.std.specs.Prelude.{◌≡◌, ℕ, ◌<◌, ◌⊎◌, ◌↔◌, List, length, ◌≢◌}
use Rattle.std.specs.List.{ContainsAt}
use Rattle.kind.specs.Laws.{AtMost, CostKind}
use Rattle.plan.specs.Plan.{Plan, colour_of}
use Rattle.plan.specs.Sound.{IsColour, ColourUsed}
use Rattle.measure.specs.Distance.{Next}
use Rattle.order.specs.Seen.{Before, Order, Ball, InBall, Manager}

pub record Balls {C : Type 0} (K : CostKind C) (D : ℕ → ℕ → C) (p : Plan C) : Type 0 where
  -- seen from u, relays stand in a strict and total order
  pub strict : (u x : ℕ) → Before K D u x x → ⊥
  pub trans : (u x y z : ℕ) → Before K D u x y → Before K D u y z → Before K D u x z
  pub compared : (u x y : ℕ) → Before K D u x y ⊎ ((x ≡ y) ⊎ Before K D u y x)
  -- each relay stands first in its own order
  pub first : (u y : ℕ) → u < length p.relays → y < length p.relays → Before K D u y u → ⊥
  -- the next relay is a relay
  pub next_relay : (u v r : ℕ) → u < length p.relays → Next K p u v r → r < length p.relays
  -- the order travels along a cheapest way:
  -- what stands before v one relay on stood before v already
  pub travels : (u v r y : ℕ) → u < length p.relays → v < length p.relays → y < length p.relays
      → (u ≢ v)
      → Next K p u v r → Before K D r y v → Before K D u y v
  -- there is one order that u sees, and if every colour is borne, one ball
  pub ordered : (u : ℕ) → (zs : List ℕ) × Order K D p u zs
  pub order_same : (u : ℕ) (xs ys : List ℕ) → Order K D p u xs → Order K D p u ys → xs ≡ ys
  pub has_ball : (u : ℕ) → ((c : ℕ) → IsColour p.colours c → ColourUsed p c)
      → (xs : List ℕ) × Ball K D p u xs
  pub ball_same : (u : ℕ) (xs ys : List ℕ) → Ball K D p u xs → Ball K D p u ys → xs ≡ ys
  -- the ball, as a list, has exactly the members, and they are relays
  pub members : (u : ℕ) (xs : List ℕ) → Ball K D p u xs
      → (x : ℕ) → InBall K D p u x ↔ ContainsAt xs x
  pub member_relay : (u x : ℕ) → InBall K D p u x → x < length p.relays
  -- each relay is in its own ball
  pub centre : (u : ℕ) → u < length p.relays → InBall K D p u u
  -- balls are monotone: a member of the ball of u is also in the ball of the next relay toward it
  pub monotone : (u v r : ℕ) → u < length p.relays → (u ≢ v) → Next K p u v r → InBall K D p u v
      → InBall K D p r v
  -- a ball member is no farther than a relay outside
  pub inside : (u x y : ℕ) → InBall K D p u x → y < length p.relays → (InBall K D p u y → ⊥)
      → AtMost K (D u x) (D u y)
  -- every colour that is borne has one manager, a relay of that colour
  pub managed : (u c : ℕ) → ColourUsed p c → (m : ℕ) × Manager K D p u c m
  pub manager_same : (u c m l : ℕ) → Manager K D p u c m → Manager K D p u c l → m ≡ l
  pub manager_relay : (u c m : ℕ) → Manager K D p u c m
      → (m < length p.relays) × (colour_of p m ≡ c)
  -- no relay of its colour is nearer than the manager
  pub nearest : (u c m y : ℕ) → Manager K D p u c m → y < length p.relays → colour_of p y ≡ c
      → AtMost K (D u m) (D u y)
  -- the manager is in the ball
  pub manager_near : (u c m : ℕ) → IsColour p.colours c → Manager K D p u c m → InBall K D p u m
  -- managers persist: one relay on toward the manager, it is the manager still
  pub persists : (u c m r : ℕ) → u < length p.relays → (u ≢ m) → Next K p u m r
      → Manager K D p u c m → Manager K D p r c m
  -- a relay is its own manager for its own colour
  pub own : (u : ℕ) → u < length p.relays → Manager K D p u (colour_of p u) u
