-- What each call checks, in order.
use Rattle.std.specs.Prelude.{◌≡◌, ℕ, ◌^◌, ◌<◌, ◌⊎◌, List, [], ◌∷◌, ◌++◌, length}
use Rattle.kind.specs.Laws.{CostKind, IsLink}
use Rattle.plan.specs.declared.counts.Counts.{Counts}
use Rattle.plan.specs.declared.refusal.Refusal.TheVariants.{BeyondLimit, NameBorne, BadLink, ColourAbsent, OutOfReach, ListTooShort, EntryBroken, NoPlace}
use Rattle.plan.specs.Plan.{Plan, Lists, RelayEntries, LinkEntries, plan_of, IsLong}
use Rattle.plan.specs.Sound.{IsName, IsColour, ColourCount, Bears, Called, Unknown, ColoursUsed, LowestAbsent, AreRelays, Dangling}
use Rattle.plan.specs.Walk.{Linked, Connected, LowestOut}
use Rattle.plan.specs.Checks.{Check, ◌orelse◌, ◌otherwise◌, because}

-- opening a draft with k colours
abbrev pub open_checks : ℕ → List Check
open_checks k = ColourCount k otherwise BeyondLimit ∷ []

-- what a plan asks of a relay of name a and colour c that is to be added
abbrev pub relay_rules : {C : Type 0} → Plan C → ℕ → ℕ → List Check
relay_rules p a c =
    (IsName a × IsColour p.colours c) otherwise BeyondLimit
    ∷ Unknown p a orelse because NameBorne ((i : ℕ) × Bears p i a)
    ∷ (length p.relays < 256) otherwise NoPlace
    ∷ []

-- a link joins the relays that are called a and b
pub record Joined {C : Type 0} (p : Plan C) (a b : ℕ) : Type 0 where
  pub one : ℕ
  pub other : ℕ
  pub one_called : Called p one a
  pub other_called : Called p other b
  pub cost : C
  pub linked : Linked p one other cost

-- two relays are called a and b, and no link joins them yet
pub record IsNewPair {C : Type 0} (p : Plan C) (a b : ℕ) : Type 0 where
  pub from : ℕ
  pub to : ℕ
  pub from_called : Called p from a
  pub to_called : Called p to b
  pub differ : a ≡ b → ⊥
  pub apart : Joined p a b → ⊥

-- a name that no relay bears, twice the same name, or a pair that a link joins already
abbrev pub IsBadPair : {C : Type 0} → Plan C → ℕ → ℕ → Type 0
IsBadPair p a b = (Unknown p a ⊎ Unknown p b) ⊎ ((a ≡ b) ⊎ Joined p a b)

-- what a plan asks of a link of cost c between the names a and b that is to be added
abbrev pub link_rules : {C : Type 0} → CostKind C → Plan C → ℕ → ℕ → C → List Check
link_rules K p a b c =
    ((a < 2 ^ 32) × (b < 2 ^ 32) × IsLink K c) otherwise BeyondLimit
    ∷ IsNewPair p a b orelse because BadLink (IsBadPair p a b)
    ∷ (length p.links < 1024) otherwise NoPlace
    ∷ []

-- both lists have a place of this number
abbrev pub RelayPlace : ℕ → RelayEntries → Type 0
RelayPlace i r = (i < length r.names) × (i < length r.colours)

abbrev pub LinkPlace : {C : Type 0} → ℕ → LinkEntries C → Type 0
LinkPlace j l = (j < length l.ends) × (j < length l.costs)

-- the rules of the plan, between the checks of the lists
abbrev pub add_checks : {C : Type 0} → Counts → Lists C → List Check → Type 0 → List Check
add_checks n l rules place =
    IsLong n l otherwise ListTooShort
    ∷ rules
    ++ place otherwise NoPlace
    ∷ []

-- adding a relay
abbrev pub relay_checks : {C : Type 0} → Counts → Lists C → ℕ → ℕ → List Check
relay_checks n l a c = add_checks n l (relay_rules (plan_of n l) a c) (RelayPlace n.relays l.relays)

-- adding a link
abbrev pub link_checks : {C : Type 0} → CostKind C → Counts → Lists C → ℕ → ℕ → C → List Check
link_checks K n l a b c =
    add_checks n l (link_rules K (plan_of n l) a b c) (LinkPlace n.links l.links)

-- closing: what the plan must be
abbrev pub closing_rules : {C : Type 0} → Plan C → List Check
closing_rules p =
    ColoursUsed p orelse (λ f. (c : ℕ) × (f ≡ ColourAbsent c) × LowestAbsent p c)
    ∷ AreRelays p orelse because EntryBroken (Dangling p)
    ∷ Connected p orelse (λ f. (v : ℕ) × (f ≡ OutOfReach v) × LowestOut p v)
    ∷ []

abbrev pub close_checks : {C : Type 0} → Counts → Lists C → List Check
close_checks n l = IsLong n l otherwise ListTooShort ∷ closing_rules (plan_of n l)

-- every colour is borne, and every two relays have a walk between them
pub record Closable {C : Type 0} (p : Plan C) : Type 0 where
  pub worn : ColoursUsed p
  pub connected : Connected p
