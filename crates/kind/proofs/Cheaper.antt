-- The laws of paid costs, one by one.
use Rattle.std.proofs.Common.{◌≡◌, ℕ, ◌+◌, ◌≤◌, ◌⊎◌}
use Rattle.kind.specs.declared.paid.Paid.{Paid}
use Rattle.kind.specs.Laws.{IsLess, IsLink, SumOf}
use Rattle.kind.specs.Kinds.{paid, paid_kind}
use Rattle.kind.specs.Kept.{paid_laws}
use Rattle.kind.proofs.Sums.{strict, compared}

-- what is cheaper than something cheaper is cheaper
pub cheaper_trans : (a b c : Paid) → IsLess paid_kind a b → IsLess paid_kind b c → IsLess paid_kind a c
cheaper_trans = paid_laws.order.trans

-- no cost is cheaper than itself
pub cheaper_strict : (a : Paid) → IsLess paid_kind a a → ⊥
cheaper_strict = strict paid_laws

-- no cost is cheaper than nothing
pub cheaper_least : (a : Paid) → IsLess paid_kind a (paid 0 0) → ⊥
cheaper_least = paid_laws.least

-- a cheaper cost stays cheaper after the same cost is added to both
pub cheaper_grows : (a b c : Paid) → IsLess paid_kind a b → IsLess paid_kind (paid_kind.plus a c) (paid_kind.plus b c)
cheaper_grows = paid_laws.grows

-- of two costs one is cheaper, or they are the same
pub cheaper_compared : (a b : Paid) → IsLess paid_kind a b ⊎ ((a ≡ b) ⊎ IsLess paid_kind b a)
cheaper_compared = compared paid_laws

-- nothing is cheaper than every link
pub cheaper_positive : (a : Paid) → IsLink paid_kind a → IsLess paid_kind (paid 0 0) a
cheaper_positive = paid_laws.positive

-- sums of at most 4,096 links in all are added exactly
pub paid_exact : (m n : ℕ) (a b : Paid) → SumOf paid_kind m a → SumOf paid_kind n b → m + n ≤ 4096
    → paid_kind.adds a b ≡ paid_kind.plus a b
paid_exact = paid_laws.exact
