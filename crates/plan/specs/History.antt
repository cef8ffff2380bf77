-- The calls that have been made on a draft, and the plan that they have entered.
use Rattle.std.specs.Prelude.{◌≡◌, ℕ, List, [], ◌∷◌, Option, Some, None, Ok, Err, Result}
use Rattle.kind.specs.Laws.{CostKind}
use Rattle.plan.specs.declared.counts.Counts.{Counts}
use Rattle.plan.specs.declared.draft.Draft.{Draft}
use Rattle.plan.specs.declared.ends.Ends.{Ends}
use Rattle.plan.specs.declared.refusal.Refusal.{Refusal}
use Rattle.plan.specs.Plan.{Plan, Lists, plan_of, relay, with_relay, empty_plan}
use Rattle.plan.specs.Sound.{ColourCount}
use Rattle.plan.specs.Checks.{AllHold}
use Rattle.plan.specs.Rules.{relay_rules, link_rules}
use Rattle.plan.specs.Steps.{AddsLink}

-- adding a relay of this name and colour, or a link between these names at this cost
pub data Call (C : Type 0) : Type 0 where
  AddRelay : (name colour : ℕ) → Call C
  AddLink : (from to : ℕ) (cost : C) → Call C

-- a call that was made, and with what it was refused, if it was
pub record Made (C : Type 0) : Type 0 where
  pub call : Call C
  pub refused : Option Refusal

module _ {C : Type 0} (K : CostKind C) where
  -- the plan old allows the call, and new is old with what it enters at its end
  abbrev pub Enters : Call C → Plan C → Plan C → Type 0
  Enters (AddRelay a c) old new = AllHold (relay_rules old a c) × (new ≡ with_relay old (relay a c))
  Enters (AddLink a b c) old new =
      AllHold (link_rules K old a b c) × ((e : Ends) × AddsLink old new e a b c)

  -- what a call makes of the plan old: what it enters, and where it was refused nothing new
  abbrev pub Makes : Made C → Plan C → Plan C → Type 0
  Makes m old new = enters m.refused
    where
      enters : Option Refusal → Type 0
      enters None = Enters m.call old new
      enters (Some f) = new ≡ old

  -- the plan p is what the calls, the latest first, entered into a draft that was opened with k colours
  abbrev pub Drafted : ℕ → List (Made C) → Plan C → Type 0
  Drafted k [] p = ColourCount k × (p ≡ empty_plan k)
  Drafted k (m ∷ calls) p = (old : Plan C) × Drafted k calls old × Makes m old p

-- the draft that a call gives back, and with what it was refused
abbrev pub kept_draft : Result Draft (Draft × Refusal) → Counts
kept_draft (Ok d) = d
kept_draft (Err e) = e.0

abbrev pub refusal_of : Result Draft (Draft × Refusal) → Option Refusal
refusal_of (Ok d) = None
refusal_of (Err e) = Some e.1

-- whatever calls drafted the plan that n and l hold, they and this call drafted what the result and l' hold
abbrev pub Continues : {C : Type 0} → CostKind C → Counts → Lists C → Call C
    → Result Draft (Draft × Refusal) → Lists C → Type 0
Continues {C} K n l call r l' = (k : ℕ) (calls : List (Made C)) → Drafted K k calls (plan_of n l)
    → Drafted K k (record { call = call; refused = refusal_of r } ∷ calls)
    (plan_of (kept_draft r) l')
