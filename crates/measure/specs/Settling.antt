-- How costs spread from one relay: what is known of each relay so far, and what the links offer.
-- For the inner functions: no public contract cites these.
use Rattle.std.specs.Prelude.{◌≡◌, ℕ, ◌*◌, ◌<◌, ◌≤◌, Bool, true, false, ◌⊎◌, List, map, length, Some, None, Option, ◌≢◌, slice_index_or, slice_set}
use Rattle.std.specs.List.{Contains}
use Rattle.kind.specs.Laws.{AtMost, CostKind, IsLess}
use Rattle.plan.specs.Plan.{Plan, paired, link_of}
use Rattle.plan.specs.Walk.{Walk}
use Rattle.plan.specs.Sound.{Sound}
use Rattle.measure.specs.declared.graph.Graph.{Graph}
use Rattle.measure.specs.declared.graph.Reached.{Reached}
use Rattle.measure.specs.declared.mark.Mark.{Mark}
use Rattle.measure.specs.declared.mark.Mark.TheVariants.{Unknown, Open, Settled}
use Rattle.measure.specs.Links.{links_of, reached}
use Rattle.measure.specs.declared.square.Square.{Square}
use Rattle.measure.specs.Squares.{in_square}
use Rattle.measure.specs.Distance.{Distance}

-- the plan has the links and the relays of the graph
pub record Entered {C : Type 0} (p : Plan C) (g : Graph C) : Type 0 where
  pub links : p.links ≡ paired link_of g.ends.now g.costs.now
  pub relays : length p.relays ≡ g.relays

-- what is known of a relay: nothing, the cost of some walk to it, or a cost that no walk improves
pub data Reach (C : Type 0) : Type 0 where
  Unreached : Reach C
  Near : C → Reach C
  Final : C → Reach C

-- the marks say which, and the costs stand in the row
abbrev pub reach_of : {C : Type 0} → Mark → C → Reach C
reach_of Unknown c = Unreached
reach_of Open c = Near c
reach_of Settled c = Final c

abbrev pub reaches_of : {C : Type 0} → List Mark → List C → List (Reach C)
reaches_of marks row = paired reach_of marks row

-- the cost that is known of a relay
abbrev pub known_cost : {C : Type 0} → Reach C → Option C
known_cost Unreached = None
known_cost (Near c) = Some c
known_cost (Final c) = Some c

abbrev pub is_settled : {C : Type 0} → Reach C → Bool
is_settled Unreached = false
is_settled (Near c) = false
is_settled (Final c) = true

-- of each relay the cost that is known, and whether it is settled
abbrev pub near_of : {C : Type 0} → List (Reach C) → List (Option C)
near_of reaches = map known_cost reaches

abbrev pub settled_of : {C : Type 0} → List (Reach C) → List Bool
settled_of reaches = map is_settled reaches

-- what is known is at most c; what is not known is at most nothing
abbrev pub Covers : {C : Type 0} → CostKind C → Option C → C → Type 0
Covers K None c = ⊥
Covers K (Some b) c = AtMost K b c

-- c is less than what is known; any cost is where nothing is known
abbrev pub Improves : {C : Type 0} → CostKind C → Option C → C → Type 0
Improves K None c = Unit {0}
Improves K (Some b) c = IsLess K c b

-- after an offer of c: a settled relay takes none,
-- another the offer that is less than what is known
abbrev pub Takes : {C : Type 0} → CostKind C → Reach C → C → Reach C → Type 0
Takes K Unreached c r = r ≡ Near c
Takes K (Near b) c r = ((r ≡ Near c) × IsLess K c b) ⊎ ((r ≡ Near b) × AtMost K b c)
Takes K (Final b) c r = r ≡ Final b

-- relay x was offered the cost c, and nothing else changed
abbrev pub Offered :
    {C : Type 0} → CostKind C → ℕ → C → List (Reach C) → List (Reach C) → Type 0
Offered K x c old new =
    let now = slice_index_or new x Unreached in
    Takes K (slice_index_or old x Unreached) c now × (new ≡ slice_set old x now)

-- one of the links leads from a relay that costs `cost` to x, which then costs c
abbrev pub Offers : {C : Type 0} → CostKind C → C → List (Reached C) → ℕ → C → Type 0
Offers {C} K cost links x c = (w : C) × Contains links (reached x w) × (c ≡ K.adds cost w)

-- relay x is not settled
abbrev pub IsOpen : List Bool → ℕ → Type 0
IsOpen settled x = slice_index_or settled x false ≡ false

-- every offer to a relay that is not settled was taken where it is less than what was known,
-- and nothing else changed
pub record Relaxed {C : Type 0} (K : CostKind C) (settled : List Bool)
    (offers : ℕ → C → Type 0) (old new : List (Option C)) : Type 0 where
  pub size : length new ≡ length old
  pub from : (x : ℕ)
      → (slice_index_or new x None ≡ slice_index_or old x None)
      ⊎ ((c : C) × offers x c × (slice_index_or new x None ≡ Some c)
      × Improves K (slice_index_or old x None) c)
  pub covers : (x : ℕ) (c : C) → IsOpen settled x → offers x c
      → Covers K (slice_index_or new x None) c

-- the links at relay `at`, which costs `cost`, were followed
pub record Followed {C : Type 0} (K : CostKind C) (cost : C) (links : List (Reached C))
    (old new : List (Reach C)) : Type 0 where
  pub settled : settled_of new ≡ settled_of old
  pub relaxed : Relaxed K (settled_of old) (Offers K cost links) (near_of old) (near_of new)

-- of the first n relays every one that is known is settled
abbrev pub NoneLeft : {C : Type 0} → List (Option C) → List Bool → ℕ → Type 0
NoneLeft near settled n =
    (x : ℕ) → x < n → IsOpen settled x → slice_index_or near x None ≡ None

-- of the first n relays that are known and not settled t has the least cost, and it is c
pub record Nearest {C : Type 0} (K : CostKind C) (near : List (Option C)) (settled : List Bool)
    (n t : ℕ) (c : C) : Type 0 where
  pub relay : t < n
  pub open' : IsOpen settled t
  pub cost : slice_index_or near t None ≡ Some c
  pub least : (x : ℕ) (b : C) → x < n → IsOpen settled x → slice_index_or near x None ≡ Some b
      → AtMost K c b

abbrev pub cost_of_best : {C : Type 0} → Option (Reached C) → Option C
cost_of_best None = None
cost_of_best (Some t) = Some t.cost

-- the best of the first n relays that are known and not settled; None if there is none
abbrev pub BestOf :
    {C : Type 0} → CostKind C → List (Option C) → List Bool → ℕ → Option (Reached C) → Type 0
BestOf K near settled n None = NoneLeft near settled n
BestOf K near settled n (Some t) = Nearest K near settled n t.relay t.cost

-- the row has the distance of every relay that a walk from s leads to
abbrev pub DistancesFrom : {C : Type 0} → CostKind C → Graph C → ℕ → List C → Type 0
DistancesFrom {C} K g s row =
    (p : Plan C) → Entered p g → Sound K p → (x : ℕ) → Walk p s x
    → Distance K p s x (slice_index_or row x K.none)

-- a link leads from u to r, and the cost toward x falls by the link's cost
abbrev pub StepsTo :
    {C : Type 0} → CostKind C → List (Reached C) → (ℕ → ℕ → C) → ℕ → ℕ → ℕ → Type 0
StepsTo {C} K links D u x r =
    (w : C) × Contains links (reached r w) × (D u x ≡ K.adds w (D r x))

-- of the relays that these links step to from u toward x, r is the lowest;
-- None if they step to none
abbrev pub LowestStep :
    {C : Type 0} → CostKind C → List (Reached C) → (ℕ → ℕ → C) → ℕ → ℕ → Option ℕ → Type 0
LowestStep K links D u x None = (s : ℕ) → StepsTo K links D u x s → ⊥
LowestStep K links D u x (Some r) =
    StepsTo K links D u x r × ((s : ℕ) → StepsTo K links D u x s → r ≤ s)

-- the square has an entry for each two relays
pub record IsSquareOf {C : Type 0} (g : Graph C) (square : Square C) : Type 0 where
  pub side : square.side ≡ g.relays
  pub full : g.relays * g.relays ≤ length square.cells.now

-- The entry of the nexts from u toward x:
-- u itself where u is x, else the lowest relay that a link steps to.
-- Where no link does, which the distances rule out, nothing more is said.
abbrev pub Toward : {C : Type 0} → CostKind C → Graph C → List C → ℕ → ℕ → ℕ → Type 0
Toward K g ds u x r =
    let D = in_square K.none g.relays ds in
    let Lowest = LowestStep K (links_of g u) D u x in
    (u ≡ x → r ≡ u) × ((u ≢ x) → Lowest (Some r) ⊎ Lowest None)

-- every entry behind a square of side n is as it was
abbrev pub Behind : {V : Type 0} → ℕ → List V → List V → Type 0
Behind {V} n old new =
    (k : ℕ) (d : V) → n * n ≤ k → slice_index_or new k d ≡ slice_index_or old k d

-- the first u rows of the square have the distances
abbrev pub Rows : {C : Type 0} → CostKind C → Graph C → List C → ℕ → Type 0
Rows {C} K g ds u =
    (p : Plan C) → Entered p g → Sound K p → (v x : ℕ) → v < u → x < g.relays → Walk p v x
    → Distance K p v x (in_square K.none g.relays ds v x)

-- the first u rows of the square have the next relays
abbrev pub NextRows : {C : Type 0} → CostKind C → Graph C → List C → List ℕ → ℕ → Type 0
NextRows K g ds ns u =
    (v x : ℕ) → v < u → x < g.relays → Toward K g ds v x (in_square 0 g.relays ns v x)
