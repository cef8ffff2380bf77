-- There is one order that a relay sees, and one ball.
use Rattle.std.proofs.Common.{◌≡◌, ℕ, zero, suc, ◌<◌, ◌⊎◌, List, [], ◌∷◌, length, get_or, take, sym, refl, ap, ◌∙◌, subst, inl, inr, arith, below_more}
use Rattle.std.specs.List.{AllByRecursion}
use Rattle.std.proofs.lemmas.List.{same_lists, get_or_default}
use Rattle.std.proofs.ByRecursion.{All-get_or, All-weaker}
use Rattle.std.proofs.lemmas.Bool.{cases_order}
use Rattle.kind.specs.Laws.{Laws, CostKind}
use Rattle.plan.specs.Plan.{Plan, relay, colour_of}
use Rattle.plan.specs.Sound.{IsColour, ColourUsed}
use Rattle.order.specs.Seen as s
use Rattle.order.specs.Seen.{Met, Covers, BallSize}
use Rattle.order.proofs.Places.{lacks}
use Rattle.order.proofs.Order as o

-- the least place that covers the colours, below n
module _ (colouring : ℕ → ℕ) (k : ℕ) (zs : List ℕ) where
  abbrev NoneCovers : ℕ → Type 0
  NoneCovers n = (a : ℕ) → a < n → Covers colouring k zs a → ⊥

  abbrev LeastCovers : ℕ → Type 0
  LeastCovers n = (b : ℕ) × (b < n) × Covers colouring k zs b × NoneCovers b

  least_below : (n : ℕ) → NoneCovers n ⊎ LeastCovers n
  least_below zero = inl (λ a l all. omega arith)
  least_below (suc n) = by (least_below n) (lacks colouring zs n k)
    where
      by : NoneCovers n ⊎ LeastCovers n → Covers colouring k zs n ⊎ ((c : ℕ) × IsColour k c × (Met colouring zs n c → ⊥)) → NoneCovers (suc n) ⊎ LeastCovers (suc n)
      by (inr (b, l, all, none)) t = inr (b, omega arith, all, none)
      by (inl none) (inl all) = inr (n, omega arith, all, none)
      by (inl none) (inr (c, is, unmet)) = inl (λ a l. below_more (λ b. Covers colouring k zs b → ⊥) n none (λ all. unmet (all c is)) a (omega arith))

  sized : Covers colouring k zs (length zs) → (b : ℕ) × BallSize colouring k zs b
  sized all = by (least_below (suc (length zs)))
    where
      by : NoneCovers (suc (length zs)) ⊎ LeastCovers (suc (length zs)) → (b : ℕ) × BallSize colouring k zs b
      by (inl none) = absurd (none (length zs) (omega arith) all)
      by (inr (b, l, enough, none)) = (b, record { within = omega arith; covers = enough; least = none })

  size_same : (a b : ℕ) → BallSize colouring k zs a → BallSize colouring k zs b → a ≡ b
  size_same a b h m = by (cases_order a b)
    where
      by : (a ≡ b) ⊎ ((a < b) ⊎ (b < a)) → a ≡ b
      by (inl e) = e
      by (inr (inl l)) = absurd (m.least a l h.covers)
      by (inr (inr l)) = absurd (h.least b l m.covers)

module _ {C : Type 0} {K : CostKind C}
    (laws : Laws K) (p : Plan C) (D : ℕ → ℕ → C) (u : ℕ) where
  abbrev Before : ℕ → ℕ → Type 0
  Before x y = s.Before K D u x y

  abbrev Order : List ℕ → Type 0
  Order zs = s.Order K D p u zs

  abbrev Ball : List ℕ → Type 0
  Ball xs = s.Ball K D p u xs

  -- two orders that agree before place k do not differ there
  module _ (xs ys : List ℕ) (ox : Order xs) (oy : Order ys) where
    no_earlier : (k : ℕ) → k < length xs → ((j : ℕ) → j < k → get_or xs j 0 ≡ get_or ys j 0) → Before (get_or xs k 0) (get_or ys k 0) → ⊥
    no_earlier k l agree b = at (o.place laws p D u ys oy (get_or xs k 0) (All-get_or (λ z. z < length p.relays) xs k 0 l ox.relays))
      where
        at : (j : ℕ) × (j < length ys) × (get_or ys j 0 ≡ get_or xs k 0) → ⊥
        at (j, m, e) = by (cases_order j k)
          where
            by : (j ≡ k) ⊎ ((j < k) ⊎ (k < j)) → ⊥
            by (inl f) = o.strict laws p D u (get_or ys k 0) (subst (λ (x : ℕ). Before x (get_or ys k 0)) (sym e ∙ ap (λ (i : ℕ). get_or ys i 0) f) b)
            by (inr (inl f)) = o.strict laws p D u (get_or xs k 0) (subst (λ (x : ℕ). Before x (get_or xs k 0)) (agree j f ∙ e) (ox.sorted j k f l))
            by (inr (inr f)) =
                o.strict laws p D u (get_or xs k 0)
                (o.order_trans laws p D u _ _ _ b (subst (λ (x : ℕ). Before (get_or ys k 0) x) e (oy.sorted k j f m)))

  pub order_same : (xs ys : List ℕ) → Order xs → Order ys → xs ≡ ys
  order_same xs ys ox oy = same_lists xs ys long (λ k d l. read k d l (agree (suc k) k (omega arith) l))
    where
      long : length xs ≡ length ys
      long = ox.count ∙ sym oy.count

      agree : (n k : ℕ) → k < n → k < length xs → get_or xs k 0 ≡ get_or ys k 0
      agree zero k h l = absurd (omega arith)
      agree (suc n) k h l = by (o.order_compared laws p D u (get_or xs k 0) (get_or ys k 0)) (λ j m. agree n j (omega arith) (omega arith))
        where
          by : Before (get_or xs k 0) (get_or ys k 0) ⊎ ((get_or xs k 0 ≡ get_or ys k 0) ⊎ Before (get_or ys k 0) (get_or xs k 0)) → ((j : ℕ) → j < k → get_or xs j 0 ≡ get_or ys j 0)
              → get_or xs k 0 ≡ get_or ys k 0
          by (inl b) before = absurd (no_earlier xs ys ox oy k l before b)
          by (inr (inl e)) before = e
          by (inr (inr b)) before = absurd (no_earlier ys xs oy ox k (omega (arith, long)) (λ j m. sym (before j m)) b)

      read : (k d : ℕ) → k < length xs → get_or xs k 0 ≡ get_or ys k 0 → get_or xs k d ≡ get_or ys k d
      read k d l e = get_or_default xs k d 0 l ∙ e ∙ get_or_default ys k 0 d (omega (arith, long))

  pub ball_same : (xs ys : List ℕ) → Ball xs → Ball ys → xs ≡ ys
  ball_same xs ys bx by' =
      let same = order_same bx.order by'.order bx.seen by'.seen in
      let size = size_same (colour_of p) p.colours by'.order (length xs) (length ys)
      (subst (λ (zs : List ℕ). BallSize (colour_of p) p.colours zs (length xs)) same bx.size) by'.size in
      bx.begins ∙ ap (λ (zs : List ℕ). take (length xs) zs) same ∙ ap (λ (n : ℕ). take n by'.order) size ∙ sym by'.begins

  -- each stands before all that follow
  abbrev Ascending : List ℕ → Type 0
  Ascending [] = Unit {0}
  Ascending (x ∷ xs) = AllByRecursion (Before x) xs × Ascending xs

  ascending_at : (xs : List ℕ) → Ascending xs → (i j : ℕ) → i < j → j < length xs → Before (get_or xs i 0) (get_or xs j 0)
  ascending_at [] h i j l m = absurd (omega arith)
  ascending_at (x ∷ xs) h zero zero l m = absurd (omega arith)
  ascending_at (x ∷ xs) h zero (suc j) l m = All-get_or (Before x) xs j 0 (omega arith) h.0
  ascending_at (x ∷ xs) h (suc i) zero l m = absurd (omega arith)
  ascending_at (x ∷ xs) h (suc i) (suc j) l m = ascending_at xs h.1 i j (omega arith) (omega arith)

  -- x put in its place, where `rest` is x put among ys
  abbrev put_by : (x y : ℕ) (ys rest : List ℕ) → Before x y ⊎ ((x ≡ y) ⊎ Before y x) → List ℕ
  put_by x y ys rest (inl b) = x ∷ y ∷ ys
  put_by x y ys rest (inr t) = y ∷ rest

  abbrev put : ℕ → List ℕ → List ℕ
  put x [] = x ∷ []
  put x (y ∷ ys) = put_by x y ys (put x ys) (o.order_compared laws p D u x y)

  length-put : (x : ℕ) (zs : List ℕ) → length (put x zs) ≡ suc (length zs)
  length-put x [] = refl
  length-put x (y ∷ ys) = by (o.order_compared laws p D u x y) (length-put x ys)
    where
      by : (t : Before x y ⊎ ((x ≡ y) ⊎ Before y x)) → length (put x ys) ≡ suc (length ys) → length (put_by x y ys (put x ys) t) ≡ suc (suc (length ys))
      by (inl b) rest = refl
      by (inr t) rest = ap suc rest

  all_put : (P : ℕ → Type 0) (x : ℕ) (zs : List ℕ) → P x → AllByRecursion P zs → AllByRecursion P (put x zs)
  all_put P x [] h all = (h, tt)
  all_put P x (y ∷ ys) h all = by (o.order_compared laws p D u x y) (all_put P x ys h all.1)
    where
      by : (t : Before x y ⊎ ((x ≡ y) ⊎ Before y x)) → AllByRecursion P (put x ys) → AllByRecursion P (put_by x y ys (put x ys) t)
      by (inl b) rest = (h, all)
      by (inr t) rest = (all.0, rest)

  ascending_put : (x : ℕ) (zs : List ℕ) → AllByRecursion (λ z. z < x) zs → Ascending zs → Ascending (put x zs)
  ascending_put x [] small h = (tt, tt)
  ascending_put x (y ∷ ys) small h = by (o.order_compared laws p D u x y) (ascending_put x ys small.1 h.1)
    where
      by : (t : Before x y ⊎ ((x ≡ y) ⊎ Before y x)) → Ascending (put x ys) → Ascending (put_by x y ys (put x ys) t)
      by (inl b) rest = ((b, All-weaker (Before y) (Before x) (λ z later. o.order_trans laws p D u x y z b later) ys h.0), h)
      by (inr (inl e)) rest = absurd (omega (arith, small.0, e))
      by (inr (inr b)) rest = (all_put (Before y) x ys b h.0, rest)

  -- the relays below n in their order
  below : (n : ℕ) → (zs : List ℕ) × (length zs ≡ n) × AllByRecursion (λ z. z < n) zs × Ascending zs
  below zero = ([], refl, tt, tt)
  below (suc n) = by (below n)
    where
      by : (zs : List ℕ) × (length zs ≡ n) × AllByRecursion (λ z. z < n) zs × Ascending zs → (zs : List ℕ) × (length zs ≡ suc n) × AllByRecursion (λ z. z < suc n) zs × Ascending zs
      by (zs, long, small, ascending) = (
        put n zs,
        length-put n zs ∙ ap suc long,
        all_put (λ z. z < suc n) n zs (omega arith) (All-weaker (λ z. z < n) (λ z. z < suc n) (λ z l. omega arith) zs small),
        ascending_put n zs small ascending,
      )

  pub ordered : (zs : List ℕ) × Order zs
  ordered = by (below (length p.relays))
    where
      by : (zs : List ℕ) × (length zs ≡ length p.relays) × AllByRecursion (λ z. z < length p.relays) zs × Ascending zs → (zs : List ℕ) × Order zs
      by (zs, long, small, ascending) = (zs, record { count = long; relays = small; sorted = ascending_at zs ascending })

  pub has_ball : ((c : ℕ) → IsColour p.colours c → ColourUsed p c) → (xs : List ℕ) × Ball xs
  has_ball used = with_order ordered
    where
      with_order : (zs : List ℕ) × Order zs → (xs : List ℕ) × Ball xs
      with_order (zs, seen) = with_size (sized (colour_of p) p.colours zs covered)
        where
          covered : Covers (colour_of p) p.colours zs (length zs)
          covered c is = at (used c is)
            where
              at : ColourUsed p c → Met (colour_of p) zs (length zs) c
              at (x, l, bears) = from (o.place laws p D u zs seen x l)
                where
                  from : (i : ℕ) × (i < length zs) × (get_or zs i 0 ≡ x) → Met (colour_of p) zs (length zs) c
                  from (i, m, e) = (i, m, m, ap (colour_of p) e ∙ bears (relay 0 0))

          with_size : (b : ℕ) × BallSize (colour_of p) p.colours zs b → (xs : List ℕ) × Ball xs
          with_size (b, size) = (take b zs, o.ball_from laws p D u b zs seen size)
