-- What the lists of a measured plan and an order of relays tell.
use Rattle.std.specs.Prelude.{◌≡◌, ℕ, ◌*◌, ◌<◌, ◌≤◌, List, length, take, slice_index, slice_index_or}
use Rattle.kind.specs.Laws.{CostKind}
use Rattle.plan.specs.declared.counts.Counts.{Counts}
use Rattle.plan.specs.Plan.{Plan, colour_of}
use Rattle.plan.specs.Sound.{IsColour, ColourUsed}
use Rattle.measure.specs.declared.square.Square.{Square}
use Rattle.measure.specs.Squares.{in_square}

-- the lists of a measured plan: how many colours there are, the colour of each relay, and the
-- distance of each pair, row by row
pub record MeasuredLists (C : Type 0) : Type 0 where
  pub palette : ℕ
  pub colours : List ℕ
  pub distances : List C

-- at most 256 relays, a colour for each, and a distance for each pair
pub record IsWhole {C : Type 0} (cs : List ℕ) (square : Square C) : Type 0 where
  pub few : length cs ≤ 256
  pub side : square.side ≡ length cs
  pub pairs : length square.cells.now ≡ length cs * length cs

-- of longer lists, the entries that belong to a plan of these counts
abbrev pub entries_of : {C : Type 0} → Counts → List ℕ → List C → MeasuredLists C
entries_of n colours distances = record {
  palette = n.colours;
  colours = take n.relays colours;
  distances = take (n.relays * n.relays) distances;
}

-- the colour of the relay x, and 0, which is no colour, past the end
abbrev pub colour_at : List ℕ → ℕ → ℕ
colour_at cs x = slice_index cs x

-- x is a relay of the colour c
abbrev pub HasColour : List ℕ → ℕ → ℕ → Type 0
HasColour cs x c = (x < length cs) × (colour_at cs x ≡ c)

-- none of the relays zs has the colour c
abbrev pub NoneOf : List ℕ → List ℕ → ℕ → Type 0
NoneOf zs cs c = (i : ℕ) → i < length zs → HasColour cs (slice_index zs i) c → ⊥

-- m is the first of zs that is a relay of the colour c
pub record FirstOf (zs cs : List ℕ) (c m : ℕ) : Type 0 where
  pub place : ℕ
  pub within : place < length zs
  pub relay : slice_index_or zs place 0 ≡ m
  pub coloured : HasColour cs m c
  pub earlier : (i : ℕ) → i < place → HasColour cs (slice_index zs i) c → ⊥

-- some colour of the plan is borne by no relay
abbrev pub SomeAbsent : {C : Type 0} → Plan C → Type 0
SomeAbsent p = (c : ℕ) × IsColour p.colours c × (ColourUsed p c → ⊥)

module _ {C : Type 0} (m : MeasuredLists C) where
  -- the first entries of an order, as many as there are relays
  abbrev pub first_relays : List ℕ → List ℕ
  first_relays order = take (length m.colours) order

  -- the lists have the colours of the plan
  pub record Shows (p : Plan C) : Type 0 where
    pub palette : p.colours ≡ m.palette
    pub count : length p.relays ≡ length m.colours
    pub each : (x : ℕ) → x < length m.colours → colour_of p x ≡ colour_at m.colours x

  -- the distance that the lists have from u to v
  abbrev pub distance_in : CostKind C → ℕ → ℕ → C
  distance_in K u v = in_square K.none (length m.colours) m.distances u v
