-- What a kind of costs means: a zero, a sum, an order, and which costs a link may have.
use Rattle.std.specs.Prelude.{◌≡◌, ℕ, ◌+◌, ◌≤◌, Bool, IsTrue, List, [], ◌∷◌, length}
use Rattle.std.specs.Cmp.{IsTotalOrder}
use Rattle.std.specs.List.{AllByRecursion}
use Rattle.std.specs.declared.cmp.Ordering.{Ordering}
use Rattle.std.specs.declared.cmp.Ordering.TheVariants.{Less, Equal}

-- A kind of costs.
pub record CostKind (C : Type 0) : Type 0 where
  -- the zero, and the sum
  pub none : C
  pub plus : C → C → C
  -- the sum as the program computes it: exact up to 4096 links in all, and open past that
  pub adds : C → C → C
  -- the order
  pub cmp : C → C → Ordering
  -- whether a link may have a cost
  pub is_link : C → Bool

module _ {C : Type 0} (K : CostKind C) where
  abbrev pub IsLess : C → C → Type 0
  IsLess a b = K.cmp a b ≡ Less

  -- a is at most b: b is not less
  abbrev pub AtMost : C → C → Type 0
  AtMost a b = IsLess b a → ⊥

  -- a link may cost c
  abbrev pub IsLink : C → Type 0
  IsLink c = IsTrue (K.is_link c)

  -- the sum of a list of costs
  abbrev pub total : List C → C
  total [] = K.none
  total (c ∷ cs) = K.plus c (total cs)

  -- the sum of seven of a
  abbrev pub seven : C → C
  seven a = K.plus a (K.plus a (K.plus a (K.plus a (K.plus a (K.plus a a)))))

  -- c is a sum of at most n link costs
  pub record SumOf (n : ℕ) (c : C) : Type 0 where
    pub parts : List C
    pub links : AllByRecursion IsLink parts
    pub few : length parts ≤ n
    pub sums : total parts ≡ c

  -- the laws of a kind
  pub record Laws : Type 0 where
    pub assoc : (a b c : C) → K.plus (K.plus a b) c ≡ K.plus a (K.plus b c)
    pub comm : (a b : C) → K.plus a b ≡ K.plus b a
    pub neutral : (a : C) → K.plus K.none a ≡ a
    -- the order is total, and costs that it does not tell apart are the same
    pub order : IsTotalOrder K.cmp
    pub same : (a b : C) → K.cmp a b ≡ Equal → a ≡ b
    -- no cost is below zero
    pub least : (a : C) → AtMost K.none a
    -- a lesser cost stays less after the same cost is added to both
    pub grows : (a b c : C) → IsLess a b → IsLess (K.plus a c) (K.plus b c)
    -- every link cost is above zero
    pub positive : (a : C) → IsLink a → IsLess K.none a
    pub exact : (m n : ℕ) (a b : C) → SumOf m a → SumOf n b → m + n ≤ 4096 → K.adds a b ≡ K.plus a b
