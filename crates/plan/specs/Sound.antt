-- When a plan is sound: names, colours, ends and costs within their limits, and nothing twice.
use Rattle.std.specs.Prelude.{◌≡◌, ℕ, ◌^◌, ◌<◌, ◌≤◌, ◌⊎◌, List, [], ◌∷◌, length, slice_index_or, ◌≢◌}
use Rattle.std.specs.List.{HoldsAt, AllByRecursion}
use Rattle.kind.specs.Laws.{CostKind, IsLink}
use Rattle.plan.specs.Plan.{Plan, Relay, Link}

-- no two elements of the list are related
abbrev pub NoTwo : {A : Type 0} → (A → A → Type 0) → List A → Type 0
NoTwo R [] = Unit {0}
NoTwo R (x ∷ xs) = AllByRecursion (λ y. R x y → ⊥) xs × NoTwo R xs

abbrev pub SameName : Relay → Relay → Type 0
SameName r s = r.name ≡ s.name

-- two links between the same two relays
abbrev pub SamePair : {C : Type 0} → Link C → Link C → Type 0
SamePair l m = ((l.from ≡ m.from) × (l.to ≡ m.to)) ⊎ ((l.from ≡ m.to) × (l.to ≡ m.from))

-- a number that a name may be
abbrev pub IsName : ℕ → Type 0
IsName a = (1 ≤ a) × (a < 2 ^ 32)

-- c is one of the colours 1 to k
abbrev pub IsColour : ℕ → ℕ → Type 0
IsColour k c = (1 ≤ c) × (c ≤ k)

-- a number of colours that a plan may have
abbrev pub ColourCount : ℕ → Type 0
ColourCount k = (1 ≤ k) × (k ≤ 16)

-- two relays among n, and not the same
abbrev pub TwoRelays : ℕ → ℕ → ℕ → Type 0
TwoRelays n u v = (u < n) × (v < n) × (u ≢ v)

-- A sound plan keeps every limit; `K` says which costs a link may have.
pub record Sound {C : Type 0} (K : CostKind C) (p : Plan C) : Type 0 where
  pub colours_few : ColourCount p.colours
  pub relays_few : length p.relays ≤ 256
  pub links_few : length p.links ≤ 1024
  pub names : AllByRecursion (λ r. IsName r.name) p.relays
  pub names_differ : NoTwo SameName p.relays
  pub colours : AllByRecursion (λ r. IsColour p.colours r.colour) p.relays
  pub ends : AllByRecursion (λ l. TwoRelays (length p.relays) l.from l.to) p.links
  pub pairs_differ : NoTwo SamePair p.links
  pub costs : AllByRecursion (λ l. IsLink K l.cost) p.links

-- the relay of number i has the name a
abbrev pub Bears : {C : Type 0} → Plan C → ℕ → ℕ → Type 0
Bears p i a = (i < length p.relays) × HoldsAt (λ r. r.name ≡ a) p.relays i

-- the relay that is called a: the first that bears it, and in a sound plan the only one
pub record Called {C : Type 0} (p : Plan C) (i a : ℕ) : Type 0 where
  pub bears : Bears p i a
  pub first : (j : ℕ) → j < i → Bears p j a → ⊥

-- no relay is called a
abbrev pub Unknown : {C : Type 0} → Plan C → ℕ → Type 0
Unknown p a = (i : ℕ) → Bears p i a → ⊥

-- some relay has the colour c
abbrev pub ColourUsed : {C : Type 0} → Plan C → ℕ → Type 0
ColourUsed p c = (i : ℕ) × (i < length p.relays) × HoldsAt (λ r. r.colour ≡ c) p.relays i

-- some relay has each colour
abbrev pub ColoursUsed : {C : Type 0} → Plan C → Type 0
ColoursUsed p = (c : ℕ) → IsColour p.colours c → ColourUsed p c

-- c is the lowest colour that no relay has
pub record LowestAbsent {C : Type 0} (p : Plan C) (c : ℕ) : Type 0 where
  pub colour : IsColour p.colours c
  pub absent : ColourUsed p c → ⊥
  pub below : (b : ℕ) → 1 ≤ b → b < c → ColourUsed p b

-- both ends of the link are relays
abbrev pub JoinsRelays : {C : Type 0} → Plan C → Link C → Type 0
JoinsRelays p l = (l.from < length p.relays) × (l.to < length p.relays)

-- the ends of each link are relays: always so in a sound plan
abbrev pub AreRelays : {C : Type 0} → Plan C → Type 0
AreRelays p = AllByRecursion (JoinsRelays p) p.links

-- a link has an end that is no relay
pub record Dangling {C : Type 0} (p : Plan C) : Type 0 where
  pub place : ℕ
  pub within : place < length p.links
  pub loose : (d : Link C) → JoinsRelays p (slice_index_or p.links place d) → ⊥
