-- What the laws of a kind give of sums and order, for every kind.
use Rattle.std.specs.Cmp.{tied_itself}
use Rattle.std.specs.declared.cmp.Ordering.{Ordering}
use Rattle.std.specs.declared.cmp.Ordering.TheVariants.{Less, Equal, Greater}
use Rattle.std.specs.Ordering.{ordering_reverse, is_lt}
use Rattle.std.proofs.Common.{◌≡◌, ℕ, ◌+◌, ◌≤◌, ◌⊎◌, List, [], ◌∷◌, ◌++◌, sym, refl, ap, ◌∙◌, subst, ap₂, inl, inr, arith, length-append}
use Rattle.std.proofs.ByRecursion.{All-append}
use Rattle.std.proofs.lemmas.Bool.{true≢false}
use Rattle.kind.specs.Laws.{CostKind, Laws, IsLess, IsLink, SumOf, total, AtMost, seven}
use Rattle.kind.specs.Theory.{Theory}

module _ {C : Type 0} {K : CostKind C} (laws : Laws K) where
  -- of two costs one is less, or they are the same
  pub compared : (a b : C) → IsLess K a b ⊎ ((a ≡ b) ⊎ IsLess K b a)
  compared a b = by (K.cmp a b) refl
    where
      by : (o : Ordering) → K.cmp a b ≡ o → IsLess K a b ⊎ ((a ≡ b) ⊎ IsLess K b a)
      by Less e = inl e
      by Equal e = inr (inl (laws.same a b e))
      by Greater e = inr (inr (laws.order.antisymm b a ∙ ap ordering_reverse e))

  pub strict : (a : C) → IsLess K a a → ⊥
  strict a h = absurd (true≢false (ap is_lt (sym h ∙ tied_itself laws.order a)))

  pub neutral_right : (a : C) → K.plus a K.none ≡ a
  neutral_right a = laws.comm a K.none ∙ laws.neutral a

  pub grows_left : (a b c : C) → IsLess K a b → IsLess K (K.plus c a) (K.plus c b)
  grows_left a b c h = subst (λ (x : C). IsLess K (K.plus c a) x) (laws.comm b c) (subst (λ (x : C). IsLess K x (K.plus b c)) (laws.comm a c) (laws.grows a b c h))

  -- at most is an order, and total
  pub le_refl : (a : C) → AtMost K a a
  le_refl a = strict a

  pub le_of_less : (a b : C) → IsLess K a b → AtMost K a b
  le_of_less a b h k = strict a (laws.order.trans a b a h k)

  pub less-le : (a b c : C) → IsLess K a b → AtMost K b c → IsLess K a c
  less-le a b c h k = by (compared a c)
    where
      by : IsLess K a c ⊎ ((a ≡ c) ⊎ IsLess K c a) → IsLess K a c
      by (inl l) = l
      by (inr (inl e)) = absurd (k (subst (λ (x : C). IsLess K x b) e h))
      by (inr (inr l)) = absurd (k (laws.order.trans c a b l h))

  pub le-less : (a b c : C) → AtMost K a b → IsLess K b c → IsLess K a c
  le-less a b c h k = by (compared a c)
    where
      by : IsLess K a c ⊎ ((a ≡ c) ⊎ IsLess K c a) → IsLess K a c
      by (inl l) = l
      by (inr (inl e)) = absurd (h (subst (λ (x : C). IsLess K b x) (sym e) k))
      by (inr (inr l)) = absurd (h (laws.order.trans b c a k l))

  pub le_trans : (a b c : C) → AtMost K a b → AtMost K b c → AtMost K a c
  le_trans a b c h k l = k (less-le c a b l h)

  pub le_of_eq : (a b : C) → a ≡ b → AtMost K a b
  le_of_eq a b e = subst (λ (x : C). AtMost K a x) e (le_refl a)

  pub le_antisym : (a b : C) → AtMost K a b → AtMost K b a → a ≡ b
  le_antisym a b h k = by (compared a b)
    where
      by : IsLess K a b ⊎ ((a ≡ b) ⊎ IsLess K b a) → a ≡ b
      by (inl l) = absurd (k l)
      by (inr (inl e)) = e
      by (inr (inr l)) = absurd (h l)

  pub le_split : (a b : C) → AtMost K a b → IsLess K a b ⊎ (a ≡ b)
  le_split a b h = by (compared a b)
    where
      by : IsLess K a b ⊎ ((a ≡ b) ⊎ IsLess K b a) → IsLess K a b ⊎ (a ≡ b)
      by (inl l) = inl l
      by (inr (inl e)) = inr e
      by (inr (inr l)) = absurd (h l)

  pub zero_le : (a : C) → AtMost K K.none a
  zero_le a = laws.least a

  -- sums keep the order
  pub plus-le_right : (a b c : C) → AtMost K a b → AtMost K (K.plus a c) (K.plus b c)
  plus-le_right a b c h = by (le_split a b h)
    where
      by : IsLess K a b ⊎ (a ≡ b) → AtMost K (K.plus a c) (K.plus b c)
      by (inl l) = le_of_less _ _ (laws.grows a b c l)
      by (inr e) = le_of_eq _ _ (ap (λ (x : C). K.plus x c) e)

  pub plus-le_left : (a b c : C) → AtMost K a b → AtMost K (K.plus c a) (K.plus c b)
  plus-le_left a b c h = subst (λ (x : C). AtMost K (K.plus c a) x) (laws.comm b c)
      (subst (λ (x : C). AtMost K x (K.plus b c)) (laws.comm a c) (plus-le_right a b c h))

  pub plus-le : (a b c d : C) → AtMost K a b → AtMost K c d → AtMost K (K.plus a c) (K.plus b d)
  plus-le a b c d h k = le_trans _ _ _ (plus-le_right a b c h) (plus-le_left c d b k)

  pub le-plus_right : (a b : C) → AtMost K a (K.plus a b)
  le-plus_right a b = subst (λ (x : C). AtMost K x (K.plus a b)) (neutral_right a) (plus-le_left K.none b a (zero_le b))

  pub le-plus_left : (a b : C) → AtMost K b (K.plus a b)
  le-plus_left a b = subst (λ (x : C). AtMost K b x) (laws.comm b a) (le-plus_right b a)

  -- a cost grows by every link
  pub less-plus-link : (a l : C) → IsLink K l → IsLess K a (K.plus a l)
  less-plus-link a l h = subst (λ (x : C). IsLess K x (K.plus a l)) (neutral_right a) (grows_left K.none l a (laws.positive l h))

  -- sums cancel
  pub cancel : (a b c : C) → K.plus a c ≡ K.plus b c → a ≡ b
  cancel a b c e = by (compared a b)
    where
      by : IsLess K a b ⊎ ((a ≡ b) ⊎ IsLess K b a) → a ≡ b
      by (inl l) = absurd (le_of_eq (K.plus b c) (K.plus a c) (sym e) (laws.grows a b c l))
      by (inr (inl s)) = s
      by (inr (inr l)) = absurd (le_of_eq (K.plus a c) (K.plus b c) e (laws.grows b a c l))

  pub cancel_left : (a b c : C) → K.plus c a ≡ K.plus c b → a ≡ b
  cancel_left a b c e = cancel a b c (laws.comm a c ∙ e ∙ laws.comm c b)

  pub cancel_le : (a b c : C) → AtMost K (K.plus a c) (K.plus b c) → AtMost K a b
  cancel_le a b c h l = h (laws.grows b a c l)

  pub cancel_less : (a b c : C) → IsLess K (K.plus a c) (K.plus b c) → IsLess K a b
  cancel_less a b c h = by (compared a b)
    where
      by : IsLess K a b ⊎ ((a ≡ b) ⊎ IsLess K b a) → IsLess K a b
      by (inl l) = l
      by (inr (inl e)) = absurd (le_of_eq _ _ (ap (λ (x : C). K.plus x c) (sym e)) h)
      by (inr (inr l)) = absurd (strict _ (laws.order.trans _ _ _ h (laws.grows b a c l)))

  -- seven times a lesser cost is no more
  pub seven-le : (a b : C) → AtMost K a b → AtMost K (seven K a) (seven K b)
  seven-le a b h =
      plus-le a b _ _ h (plus-le a b _ _ h (plus-le a b _ _ h (plus-le a b _ _ h (plus-le a b _ _ h (plus-le a b _ _ h h)))))

  -- sums of lists
  pub total-append : (xs ys : List C) → total K (xs ++ ys) ≡ K.plus (total K xs) (total K ys)
  total-append [] ys = sym (laws.neutral (total K ys))
  total-append (x ∷ xs) ys = ap (K.plus x) (total-append xs ys) ∙ sym (laws.assoc x (total K xs) (total K ys))

  -- sums of links
  pub sum_none : (n : ℕ) → SumOf K n K.none
  sum_none n = record { parts = []; links = tt; few = omega arith; sums = refl }

  pub sum_link : (l : C) → IsLink K l → SumOf K 1 l
  sum_link l h = record { parts = l ∷ []; links = (h, tt); few = omega arith; sums = neutral_right l }

  pub sum_plus : (m n : ℕ) (a b : C) → SumOf K m a → SumOf K n b → SumOf K (m + n) (K.plus a b)
  sum_plus m n a b p q = record {
    parts = p.parts ++ q.parts;
    links = All-append (IsLink K) p.parts q.parts p.links q.links;
    few = omega (arith, length-append p.parts q.parts, p.few, q.few);
    sums = total-append p.parts q.parts ∙ ap₂ K.plus p.sums q.sums;
  }

  pub sum_more : (m n : ℕ) (a : C) → m ≤ n → SumOf K m a → SumOf K n a
  sum_more m n a h p = record { parts = p.parts; links = p.links; few = omega (arith, p.few); sums = p.sums }

  pub le_total : (a b : C) → AtMost K a b ⊎ AtMost K b a
  le_total a b = by (compared a b)
    where
      by : IsLess K a b ⊎ ((a ≡ b) ⊎ IsLess K b a) → AtMost K a b ⊎ AtMost K b a
      by (inl l) = inl (le_of_less a b l)
      by (inr (inl e)) = inl (le_of_eq a b e)
      by (inr (inr l)) = inr (le_of_less b a l)

  pub theory : Theory K
  theory = record {
    irreflexive = strict;
    less_transitive = laws.order.trans;
    compared = compared;
    reflexive = le_refl;
    transitive = le_trans;
    antisymmetric = le_antisym;
    less_or_equal = le_split;
    zero_least = zero_le;
    total_order = le_total;
    monotone = plus-le;
    cancels = cancel;
    cancels_less = cancel_less;
    cancels_most = cancel_le;
    link_increases = less-plus-link;
    sevenfold = seven-le;
    append = total-append;
    links = sum_plus;
  }
