-- A plan: relays in order of entry, numbered from 0, and links between them, in order of entry.
use Rattle.std.specs.Prelude.{◌≡◌, ℕ, ◌≤◌, List, [], ◌∷◌, ◌++◌, length, map, take, slice_index_or}
use Rattle.plan.specs.declared.ends.Ends.{Ends}
use Rattle.plan.specs.declared.counts.Counts.{Counts}

pub record Relay : Type 0 where
  pub name : ℕ
  pub colour : ℕ

-- the two ends, by number, and the cost, the same both ways
pub record Link (C : Type 0) : Type 0 where
  pub from : ℕ
  pub to : ℕ
  pub cost : C

-- colours are numbered 1 to `colours`; the relays of colour 1 are the landmarks
pub record Plan (C : Type 0) : Type 0 where
  pub colours : ℕ
  pub relays : List Relay
  pub links : List (Link C)

abbrev pub relay : ℕ → ℕ → Relay
relay n c = record { name = n; colour = c }

abbrev pub link : {C : Type 0} → ℕ → ℕ → C → Link C
link u v c = record { from = u; to = v; cost = c }

-- the plan with one relay, or one link, at its end
abbrev pub with_relay : {C : Type 0} → Plan C → Relay → Plan C
with_relay p r = record { colours = p.colours; relays = p.relays ++ r ∷ []; links = p.links }

abbrev pub with_link : {C : Type 0} → Plan C → Link C → Plan C
with_link p l = record { colours = p.colours; relays = p.relays; links = p.links ++ l ∷ [] }

-- the name and the colour of the relay of number u, and 0 where there is no such relay
abbrev pub name_of : {C : Type 0} → Plan C → ℕ → ℕ
name_of p u = (slice_index_or p.relays u (relay 0 0)).name

abbrev pub colour_of : {C : Type 0} → Plan C → ℕ → ℕ
colour_of p u = (slice_index_or p.relays u (relay 0 0)).colour

-- two lists side by side, as far as both go
abbrev pub paired : {A B X : Type 0} → (A → B → X) → List A → List B → List X
paired f [] ys = []
paired f (x ∷ xs) [] = []
paired f (x ∷ xs) (y ∷ ys) = f x y ∷ paired f xs ys

abbrev pub link_of : {C : Type 0} → Ends → C → Link C
link_of e c = link e.from e.to c

-- the two ends of each link, and the cost of each
abbrev pub ends_of : {C : Type 0} → Plan C → List Ends
ends_of p = map (λ l. record { from = l.from; to = l.to }) p.links

abbrev pub costs_of : {C : Type 0} → Plan C → List C
costs_of p = map (λ l. l.cost) p.links

-- no relay and no link yet
abbrev pub empty_plan : {C : Type 0} → ℕ → Plan C
empty_plan k = record { colours = k; relays = []; links = [] }

-- the plan of k colours with these relays and links
abbrev pub plan_with : {C : Type 0} → ℕ → List ℕ → List ℕ → List Ends → List C → Plan C
plan_with k names colours ends costs = record {
  colours = k;
  relays = paired relay names colours;
  links = paired link_of ends costs;
}

-- lists cut to a plan: a name and a colour for each relay, ends and a cost for each link, and as many as a plan may have
pub record InStep {C : Type 0} (k : ℕ) (names colours : List ℕ)
    (ends : List Ends) (costs : List C) : Type 0 where
  pub palette : k ≤ 16
  pub few : length names ≤ 256
  pub relays : length colours ≡ length names
  pub sparse : length ends ≤ 1024
  pub links : length costs ≡ length ends

-- what the lists of relays hold, and those of links
pub record RelayEntries : Type 0 where
  pub names : List ℕ
  pub colours : List ℕ

pub record LinkEntries (C : Type 0) : Type 0 where
  pub ends : List Ends
  pub costs : List C

-- the four lists in which a plan is entered
pub record Lists (C : Type 0) : Type 0 where
  pub relays : RelayEntries
  pub links : LinkEntries C

abbrev pub lists : {C : Type 0} → RelayEntries → LinkEntries C → Lists C
lists r l = record { relays = r; links = l }

-- The plan that the lists hold: the first entries of each, as many as there are relays and links.
-- What stands behind them in the lists means nothing.
abbrev pub plan_of : {C : Type 0} → Counts → Lists C → Plan C
plan_of n l = plan_with n.colours
    (take n.relays l.relays.names) (take n.relays l.relays.colours)
    (take n.links l.links.ends) (take n.links l.links.costs)

-- no list is shorter than the entries that belong into it
pub record IsLong {C : Type 0} (n : Counts) (l : Lists C) : Type 0 where
  pub names : n.relays ≤ length l.relays.names
  pub colours : n.relays ≤ length l.relays.colours
  pub ends : n.links ≤ length l.links.ends
  pub costs : n.links ≤ length l.links.costs
