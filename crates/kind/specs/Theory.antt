-- What follows from the laws of a kind alone, whatever the costs are.
use Rattle.std.specs.Prelude.{◌≡◌, ℕ, ◌+◌, ◌⊎◌, List, ◌++◌}
use Rattle.kind.specs.Laws.{CostKind, IsLess, AtMost, IsLink, SumOf, total, seven}

pub record Theory {C : Type 0} (K : CostKind C) : Type 0 where
  -- less is an order, strict, and of two costs one is less or they are the same
  pub irreflexive : (a : C) → IsLess K a a → ⊥
  pub less_transitive : (a b c : C) → IsLess K a b → IsLess K b c → IsLess K a c
  pub compared : (a b : C) → IsLess K a b ⊎ ((a ≡ b) ⊎ IsLess K b a)
  -- at most is an order, total, with zero at its foot
  pub reflexive : (a : C) → AtMost K a a
  pub transitive : (a b c : C) → AtMost K a b → AtMost K b c → AtMost K a c
  pub antisymmetric : (a b : C) → AtMost K a b → AtMost K b a → a ≡ b
  pub less_or_equal : (a b : C) → AtMost K a b → IsLess K a b ⊎ (a ≡ b)
  pub zero_least : (a : C) → AtMost K K.none a
  pub total_order : (a b : C) → AtMost K a b ⊎ AtMost K b a
  -- sums keep it, and cancel
  pub monotone : (a b c d : C) → AtMost K a b → AtMost K c d → AtMost K (K.plus a c) (K.plus b d)
  pub cancels : (a b c : C) → K.plus a c ≡ K.plus b c → a ≡ b
  pub cancels_less : (a b c : C) → IsLess K (K.plus a c) (K.plus b c) → IsLess K a b
  pub cancels_most : (a b c : C) → AtMost K (K.plus a c) (K.plus b c) → AtMost K a b
  -- a link adds to every cost
  pub link_increases : (a l : C) → IsLink K l → IsLess K a (K.plus a l)
  -- seven times a lesser cost is no more
  pub sevenfold : (a b : C) → AtMost K a b → AtMost K (seven K a) (seven K b)
  -- the sum of two lists, and of two sums of links
  pub append : (xs ys : List C) → total K (xs ++ ys) ≡ K.plus (total K xs) (total K ys)
  pub links : (m n : ℕ) (a b : C) → SumOf K m a → SumOf K n b → SumOf K (m + n) (K.plus a b)
