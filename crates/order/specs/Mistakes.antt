-- Three classic mistakes, each with a small plan on which it fails.
use Rattle.std.specs.Prelude.{◌≡◌, ℕ, ◌<◌, ◌⊎◌, List, [], ◌∷◌, length, ◌≢◌, slice_index, slice_index_or}
use Rattle.kind.specs.declared.delay.Delay.{Delay}
use Rattle.kind.specs.Kinds.{delay, delay_kind}
use Rattle.kind.specs.Laws.{IsLess}
use Rattle.plan.specs.Plan.{Plan, relay, link, colour_of}
use Rattle.plan.specs.Sound.{IsColour}
use Rattle.measure.specs.Distance.{Next}
use Rattle.order.specs.Seen.{Ball, InBall, Order}
use Rattle.order.specs.Views.{from_table, WithDistances}
use Rattle.order.specs.Examples.{line, line_delays}

-- Any ball member of the right colour as manager.
-- Neither u nor r has the colour c. Relay u picks the member x of its ball, of colour c,
-- and the packet goes to r; relay r picks the member y of its own, of colour c too,
-- and the packet goes back to u: as long as both keep their picks, it comes to none of colour c.
pub record AnyMember (p : Plan Delay) (D : ℕ → ℕ → Delay) (c u x r y : ℕ) : Type 0 where
  pub distances : WithDistances p D
  pub not_there : colour_of p u ≡ c → ⊥
  pub nor_there : colour_of p r ≡ c → ⊥
  pub one : InBall delay_kind D p u x
  pub one_coloured : colour_of p x ≡ c
  pub out : Next delay_kind p u x r
  pub other : InBall delay_kind D p r y
  pub other_coloured : colour_of p y ≡ c
  pub back : Next delay_kind p r y u

-- five relays in a row
abbrev pub row : Plan Delay
row = record {
  colours = 3;
  relays = relay 30 2 ∷ relay 31 1 ∷ relay 32 1 ∷ relay 33 2 ∷ relay 34 3 ∷ [];
  links = link 0 1 (delay 1) ∷ link 1 2 (delay 1) ∷ link 2 3 (delay 1) ∷ link 3 4 (delay 1) ∷ [];
}

abbrev pub row_delays : ℕ → ℕ → Delay
row_delays = from_table (
    (0 ∷ 1 ∷ 2 ∷ 3 ∷ 4 ∷ [])
    ∷ (1 ∷ 0 ∷ 1 ∷ 2 ∷ 3 ∷ [])
    ∷ (2 ∷ 1 ∷ 0 ∷ 1 ∷ 2 ∷ [])
    ∷ (3 ∷ 2 ∷ 1 ∷ 0 ∷ 1 ∷ [])
    ∷ (4 ∷ 3 ∷ 2 ∷ 1 ∷ 0 ∷ [])
    ∷ [])

abbrev pub AnyMemberFails : Type 0
AnyMemberFails = AnyMember row row_delays 2 1 3 2 0

-- Balls of a fixed size.
-- xs is the ball of u; the first relays that v sees, as many as xs has, lack the colour c.
pub record FixedSize (p : Plan Delay) (D : ℕ → ℕ → Delay)
    (u : ℕ) (xs : List ℕ) (v : ℕ) (ys : List ℕ) (c : ℕ) : Type 0 where
  pub distances : WithDistances p D
  pub one : Ball delay_kind D p u xs
  pub other : Order delay_kind D p v ys
  pub is_colour : IsColour p.colours c
  pub lacks : (i : ℕ) → i < length xs → colour_of p (slice_index ys i) ≢ c

abbrev pub FixedSizeFails : Type 0
FixedSizeFails = FixedSize line line_delays 0 (0 ∷ 1 ∷ []) 2 (2 ∷ 1 ∷ 3 ∷ 0 ∷ 4 ∷ 5 ∷ []) 1

-- Ties by the order of entry of links, in place of the number.
module _ (p : Plan Delay) (D : ℕ → ℕ → Delay) where
  -- a cheapest way from u to x begins with link k
  abbrev pub Begins : ℕ → ℕ → ℕ → Type 0
  Begins u x k =
      let l = slice_index_or p.links k (link 0 0 (delay 0)) in
      (k < length p.links) × (((l.from ≡ u) × (D u x ≡ delay_kind.plus l.cost (D l.to x)))
      ⊎ ((l.to ≡ u) × (D u x ≡ delay_kind.plus l.cost (D l.from x))))

  -- k is the first such link that was entered
  abbrev pub FirstEntered : ℕ → ℕ → ℕ → Type 0
  FirstEntered u x k = Begins u x k × ((j : ℕ) → j < k → Begins u x j → ⊥)

  -- seen from u, x stands before y: it is nearer, or as near and reached over a link that was
  -- entered earlier, or over the same link and of a lower number
  abbrev pub EntryBefore : ℕ → ℕ → ℕ → Type 0
  EntryBefore u x y =
      IsLess delay_kind (D u x) (D u y)
      ⊎ ((D u x ≡ D u y) × ((i : ℕ) × (j : ℕ) × FirstEntered u x i × FirstEntered u y j
      × ((i < j) ⊎ ((i ≡ j) × (x < y)))))

  -- the ball in that order: some colour is borne by no relay that stands before x
  abbrev pub EntryBall : ℕ → ℕ → Type 0
  EntryBall u x = (c : ℕ) × IsColour p.colours c
      × ((y : ℕ) → y < length p.relays → colour_of p y ≡ c → EntryBefore u y x → ⊥)

-- Relay v is in the ball of u, and one relay on toward it,
-- at r, it is in the ball no more. By number it is.
pub record EntryOrder (p : Plan Delay) (D : ℕ → ℕ → Delay) (u v r : ℕ) : Type 0 where
  pub distances : WithDistances p D
  pub member : EntryBall p D u v
  pub next : Next delay_kind p u v r
  pub member_no_more : EntryBall p D r v → ⊥
  pub by_number : InBall delay_kind D p r v

-- a ring of four relays and a fifth beside it
abbrev pub ring : Plan Delay
ring = record {
  colours = 2;
  relays = relay 40 1 ∷ relay 41 1 ∷ relay 42 1 ∷ relay 43 1 ∷ relay 44 2 ∷ [];
  links = link 0 2 (delay 1) ∷ link 0 1 (delay 1) ∷ link 1 4 (delay 1) ∷ link 1 3 (delay 1)
      ∷ link 2 3 (delay 1) ∷ [];
}

abbrev pub ring_delays : ℕ → ℕ → Delay
ring_delays = from_table (
    (0 ∷ 1 ∷ 1 ∷ 2 ∷ 2 ∷ [])
    ∷ (1 ∷ 0 ∷ 2 ∷ 1 ∷ 1 ∷ [])
    ∷ (1 ∷ 2 ∷ 0 ∷ 1 ∷ 3 ∷ [])
    ∷ (2 ∷ 1 ∷ 1 ∷ 0 ∷ 2 ∷ [])
    ∷ (2 ∷ 1 ∷ 3 ∷ 2 ∷ 0 ∷ [])
    ∷ [])

abbrev pub EntryOrderFails : Type 0
EntryOrderFails = EntryOrder ring ring_delays 0 3 1
