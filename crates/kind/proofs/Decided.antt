-- Which costs a link may have: that is decided, for every kind.
use Rattle.std.proofs.Common.{◌≡◌, ℕ, ◌<◌, ◌≤◌, true, false, ◌⊎◌, inl, inr, arith}
use Rattle.std.proofs.lemmas.Bool.{cases_Bool, cases_lt, both_ways}
use Rattle.kind.specs.declared.paid.Paid.{Paid}
use Rattle.kind.specs.Laws.{CostKind, IsLink}
use Rattle.kind.specs.Kinds.{paid_kind}

-- a link may have a cost, or may not
pub decided : {C : Type 0} (K : CostKind C) (c : C) → IsLink K c ⊎ (IsLink K c → ⊥)
decided K c = by (cases_Bool (K.is_link c))
  where
    by : (K.is_link c ≡ true) ⊎ (K.is_link c ≡ false) → IsLink K c ⊎ (IsLink K c → ⊥)
    by (inl e) = inl e
    by (inr e) = inr (both_ways (K.is_link c) e)

-- a paid link may have a cost, or may not
pub paid_decided : (a : Paid) → IsLink paid_kind a ⊎ (IsLink paid_kind a → ⊥)
paid_decided = decided paid_kind

-- a number lies within bounds, or does not
pub between : (low n high : ℕ) → ((low ≤ n) × (n ≤ high)) ⊎ ((low ≤ n) × (n ≤ high) → ⊥)
between low n high = by (cases_lt n low) (cases_lt high n)
  where
    by : (n < low) ⊎ (low ≤ n) → (high < n) ⊎ (n ≤ high) → ((low ≤ n) × (n ≤ high)) ⊎ ((low ≤ n) × (n ≤ high) → ⊥)
    by (inl l) h = inr (λ b. omega arith)
    by (inr l) (inl h) = inr (λ b. omega arith)
    by (inr l) (inr h) = inl (l, h)
