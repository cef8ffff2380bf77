-- The order of the relays as one of them sees it, balls and managers.
-- D u v stands for the distance from u to v (`Distances` of crate measure,
-- specs/Distance.antt, says so).
use Rattle.std.specs.Prelude.{◌≡◌, ℕ, ◌<◌, ◌≤◌, ◌⊎◌, List, length, take, slice_index}
use Rattle.std.specs.List.{AllByRecursion}
use Rattle.kind.specs.Laws.{CostKind, IsLess}
use Rattle.plan.specs.Plan.{Plan, colour_of}
use Rattle.plan.specs.Sound.{IsColour}

-- one of the first a of the relays zs has the colour c,
-- where `colouring` tells the colour of a relay
abbrev pub Met : (ℕ → ℕ) → List ℕ → ℕ → ℕ → Type 0
Met colouring zs a c = (i : ℕ) × (i < a) × (i < length zs) × (colouring (slice_index zs i) ≡ c)

-- the first a of the relays zs have every colour of 1 to k
abbrev pub Covers : (ℕ → ℕ) → ℕ → List ℕ → ℕ → Type 0
Covers colouring k zs a = (c : ℕ) → IsColour k c → Met colouring zs a c

-- b is the place, counted from 1, where the last colour is met:
-- the first b relays have every colour, and no fewer have
pub record BallSize (colouring : ℕ → ℕ) (k : ℕ) (zs : List ℕ) (b : ℕ) : Type 0 where
  pub within : b ≤ length zs
  pub covers : Covers colouring k zs b
  pub least : (a : ℕ) → a < b → Covers colouring k zs a → ⊥

module _ {C : Type 0} (K : CostKind C) (D : ℕ → ℕ → C) where
  -- seen from u, x stands before y: it is nearer, or as near and of a lower number
  abbrev pub Before : ℕ → ℕ → ℕ → Type 0
  Before u x y = IsLess K (D u x) (D u y) ⊎ ((D u x ≡ D u y) × (x < y))

  module _ (p : Plan C) where
    -- zs is the order that u sees: every relay, each before every later one
    pub record Order (u : ℕ) (zs : List ℕ) : Type 0 where
      pub count : length zs ≡ length p.relays
      pub relays : AllByRecursion (λ z. z < length p.relays) zs
      pub sorted : (i j : ℕ) → i < j → j < length zs
          → Before u (slice_index zs i) (slice_index zs j)

    -- xs is the ball of u, the nearest first:
    -- the shortest beginning of the order that has every colour
    pub record Ball (u : ℕ) (xs : List ℕ) : Type 0 where
      pub order : List ℕ
      pub seen : Order u order
      pub size : BallSize (colour_of p) p.colours order (length xs)
      pub begins : xs ≡ take (length xs) order

    -- x is in the ball of u: it is a relay,
    -- and some colour of 1 to k is borne by no relay that stands before it
    pub record InBall (u x : ℕ) : Type 0 where
      pub is_relay : x < length p.relays
      pub colour : ℕ
      pub is_colour : IsColour p.colours colour
      pub none_before : (y : ℕ) → y < length p.relays → colour_of p y ≡ colour → Before u y x → ⊥

    -- m is the manager of u for the colour c: the first relay of that colour in u's order
    pub record Manager (u c m : ℕ) : Type 0 where
      pub is_relay : m < length p.relays
      pub coloured : colour_of p m ≡ c
      pub none_before : (y : ℕ) → y < length p.relays → colour_of p y ≡ c → Before u y m → ⊥

    -- l is the home landmark of v: its manager for colour 1
    abbrev pub Home : ℕ → ℕ → Type 0
    Home v l = Manager v 1 l
