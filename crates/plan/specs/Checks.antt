-- A call's checks in their order. Each says what must hold, and which refusal comes where it does not.
use Rattle.std.specs.Prelude.{◌≡◌, ◌⊎◌, List, [], ◌∷◌}
use Rattle.plan.specs.declared.refusal.Refusal.{Refusal}

pub record Check : Type 1 where
  -- what must hold
  pub holds : Type 0
  -- with which refusals the call is refused where it does not
  pub refused : Refusal → Type 0

infix 70 ◌orelse◌ ◌otherwise◌
-- the refusal is r, since Q holds
abbrev pub because : Refusal → Type 0 → Refusal → Type 0
because r Q f = (f ≡ r) × Q

-- P must hold, and Q says with which refusals it is refused where it does not
abbrev pub ◌orelse◌ : Type 0 → (Refusal → Type 0) → Check
◌orelse◌ P Q = record { holds = P; refused = Q }

-- P must hold; where it does not, the refusal is r
abbrev pub ◌otherwise◌ : Type 0 → Refusal → Check
◌otherwise◌ P r = P orelse because r (P → ⊥)

-- all that the checks ask holds
abbrev pub AllHold : List Check → Type 0
AllHold [] = Unit {0}
AllHold (c ∷ cs) = c.holds × AllHold cs

-- f is what the first check that fails refuses with: those before it hold
abbrev pub FirstFails : List Check → Refusal → Type 0
FirstFails [] f = ⊥
FirstFails (c ∷ cs) f = c.refused f ⊎ (c.holds × FirstFails cs f)
