-- The order that a relay sees, balls and managers of a sound plan.
use Rattle.std.proofs.Common.{◌≡◌, ℕ, zero, suc, ◌<◌, ◌≤◌, ◌⊎◌, ◌↔◌, List, ◌∷◌, length, get_or, take, sym, refl, ap, ◌∙◌, subst, inl, inr, arith, length-take-le, get_or-take, below_more}
use Rattle.std.specs.List.{ContainsAt}
use Rattle.std.proofs.ByRecursion.{All-get_or, has_get_or}
use Rattle.std.proofs.lemmas.Bool.{cases_eq, cases_lt, cases_order}
use Rattle.kind.specs.Laws.{Laws, AtMost, CostKind, IsLess, IsLink}
use Rattle.kind.proofs.Sums.{grows_left, le-less, le_split, compared}
use Rattle.kind.proofs.Sums as costs
use Rattle.plan.specs.Plan.{Plan, relay, colour_of}
use Rattle.plan.specs.Walk.{Linked}
use Rattle.plan.specs.Sound.{Sound, IsColour, ColourUsed}
use Rattle.measure.specs.Distance as d
use Rattle.measure.proofs.Chains.{linked_to}
use Rattle.measure.proofs.Metric.{metric}
use Rattle.order.specs.Seen as s
use Rattle.order.specs.Seen.{Met, BallSize, Covers}
use Rattle.order.proofs.Places.{lacks, no_two, place_of}

module _ {C : Type 0} {K : CostKind C}
    (laws : Laws K) (D : ℕ → ℕ → C) where
  before_strict : (u x : ℕ) → s.Before K D u x x → ⊥
  before_strict u x (inl h) = costs.strict laws (D u x) h
  before_strict u x (inr h) = omega (arith, h.1)

  pub before_trans : (u x y z : ℕ) → s.Before K D u x y → s.Before K D u y z → s.Before K D u x z
  before_trans u x y z (inl h) (inl k) = inl (laws.order.trans _ _ _ h k)
  before_trans u x y z (inl h) (inr k) = inl (subst (λ (c : C). IsLess K (D u x) c) k.0 h)
  before_trans u x y z (inr h) (inl k) = inl (subst (λ (c : C). IsLess K c (D u z)) (sym h.0) k)
  before_trans u x y z (inr h) (inr k) = inr (h.0 ∙ k.0, omega (arith, h.1, k.1))

module _ {C : Type 0} {K : CostKind C}
    (laws : Laws K) (p : Plan C) (D : ℕ → ℕ → C) where
  abbrev Before : ℕ → ℕ → ℕ → Type 0
  Before u x y = s.Before K D u x y

  abbrev InBall : ℕ → ℕ → Type 0
  InBall u x = s.InBall K D p u x

  abbrev Manager : ℕ → ℕ → ℕ → Type 0
  Manager u c m = s.Manager K D p u c m

  pub strict : (u x : ℕ) → Before u x x → ⊥
  strict = before_strict laws D

  pub order_trans : (u x y z : ℕ) → Before u x y → Before u y z → Before u x z
  order_trans = before_trans laws D

  pub order_compared : (u x y : ℕ) → Before u x y ⊎ ((x ≡ y) ⊎ Before u y x)
  order_compared u x y = by (compared laws (D u x) (D u y)) (cases_order x y)
    where
      by : IsLess K (D u x) (D u y) ⊎ ((D u x ≡ D u y) ⊎ IsLess K (D u y) (D u x)) → (x ≡ y) ⊎ ((x < y) ⊎ (y < x)) → Before u x y ⊎ ((x ≡ y) ⊎ Before u y x)
      by (inl l) n = inl (inl l)
      by (inr (inr l)) n = inr (inr (inl l))
      by (inr (inl e)) (inl f) = inr (inl f)
      by (inr (inl e)) (inr (inl l)) = inl (inr (e, l))
      by (inr (inl e)) (inr (inr l)) = inr (inr (inr (sym e, l)))

  pub manager_near : (u c m : ℕ) → IsColour p.colours c → Manager u c m → InBall u m
  manager_near u c m h k = record { is_relay = k.is_relay; colour = c; is_colour = h; none_before = k.none_before }

  pub nearest : (u c m y : ℕ) → Manager u c m → y < length p.relays → colour_of p y ≡ c → AtMost K (D u m) (D u y)
  nearest u c m y h k e l = h.none_before y k e (inl l)

  pub manager_same : (u c m l : ℕ) → Manager u c m → Manager u c l → m ≡ l
  manager_same u c m l h k = by (order_compared u m l)
    where
      by : Before u m l ⊎ ((m ≡ l) ⊎ Before u l m) → m ≡ l
      by (inl b) = absurd (k.none_before m h.is_relay h.coloured b)
      by (inr (inl e)) = e
      by (inr (inr b)) = absurd (h.none_before l k.is_relay k.coloured b)

  pub inside : (u x y : ℕ) → InBall u x → y < length p.relays → (InBall u y → ⊥) → AtMost K (D u x) (D u y)
  inside u x y h is out l = out (record {
    is_relay = is;
    colour = h.colour;
    is_colour = h.is_colour;
    none_before = λ z m e b. h.none_before z m e (order_trans u z y x b (inl l));
  })

  -- no relay below n has the colour c, or one of them is the first that has it
  module _ (u c : ℕ) where
    abbrev NoneBelow : ℕ → Type 0
    NoneBelow n = (y : ℕ) → y < n → colour_of p y ≡ c → ⊥

    abbrev FirstBelow : ℕ → ℕ → Type 0
    FirstBelow n m = (m < n) × (colour_of p m ≡ c) × ((y : ℕ) → y < n → colour_of p y ≡ c → Before u y m → ⊥)

    step : (P : ℕ → Type 0) (n : ℕ) → ((y : ℕ) → y < n → P y) → P n → (y : ℕ) → y < suc n → P y
    step P n below here y l = below_more P n below here y (omega arith)

    first_below : (n : ℕ) → NoneBelow n ⊎ ((m : ℕ) × FirstBelow n m)
    first_below zero = inl (λ y l e. omega arith)
    first_below (suc n) = by (first_below n) (cases_eq (colour_of p n) c)
      where
        by : NoneBelow n ⊎ ((m : ℕ) × FirstBelow n m) → (colour_of p n ≡ c) ⊎ (colour_of p n ≡ c → ⊥) → NoneBelow (suc n) ⊎ ((m : ℕ) × FirstBelow (suc n) m)
        by (inl none_yet) (inr ne) = inl (step (λ y. colour_of p y ≡ c → ⊥) n none_yet ne)
        by (inl none_yet) (inl e) = inr (n, (omega arith, e, step (λ y. colour_of p y ≡ c → Before u y n → ⊥) n (λ y l f b. none_yet y l f) (λ f b. strict u n b)))
        by (inr (m, (l, f, clear))) (inr ne) = inr (m, (omega arith, f, step (λ y. colour_of p y ≡ c → Before u y m → ⊥) n clear (λ e b. ne e)))
        by (inr (m, (l, f, clear))) (inl e) = at (order_compared u m n)
          where
            at : Before u m n ⊎ ((m ≡ n) ⊎ Before u n m) → NoneBelow (suc n) ⊎ ((k : ℕ) × FirstBelow (suc n) k)
            at (inl b) = inr (m, (omega arith, f, step (λ y. colour_of p y ≡ c → Before u y m → ⊥) n clear (λ g back. strict u m (order_trans u m n m b back))))
            at (inr (inl same)) = absurd (omega arith)
            at (inr (inr b)) = inr (n, (omega arith, e, step (λ y. colour_of p y ≡ c → Before u y n → ⊥) n (λ y k g before. clear y k g (order_trans u y n m before b)) (λ g back. strict u n back)))

    pub managed : ColourUsed p c → (m : ℕ) × Manager u c m
    managed (i, l, at) = by (first_below (length p.relays))
      where
        by : NoneBelow (length p.relays) ⊎ ((m : ℕ) × FirstBelow (length p.relays) m) → (m : ℕ) × Manager u c m
        by (inl none_has) = absurd (none_has i l (at (relay 0 0)))
        by (inr (m, (k, e, clear))) = (m, record { is_relay = k; coloured = e; none_before = clear })

  -- as many relays as the size tells are the ball
  pub ball_from : (u b : ℕ) (zs : List ℕ) → s.Order K D p u zs → BallSize (colour_of p) p.colours zs b → s.Ball K D p u (take b zs)
  ball_from u b zs o size =
      let long : length (take b zs) ≡ b = length-take-le b zs size.within in
      record {
        order = zs;
        seen = o;
        size = subst (λ (n : ℕ). BallSize (colour_of p) p.colours zs n) (sym long) size;
        begins = sym (ap (λ (n : ℕ). take n zs) long);
      }

  -- every relay has a place in the order
  pub place : (u : ℕ) (zs : List ℕ) → s.Order K D p u zs → (y : ℕ) → y < length p.relays → (i : ℕ) × (i < length zs) × (get_or zs i 0 ≡ y)
  place u zs o y l = place_of (length p.relays) zs o.count o.relays
      (no_two zs (λ i j h m e. strict u (get_or zs i 0) (subst (λ (z : ℕ). Before u (get_or zs i 0) z) (sym e) (o.sorted i j h m)))) y l

  -- who stands before the relay at place i stands at a lower place
  pub lower : (u : ℕ) (zs : List ℕ) → s.Order K D p u zs → (i j : ℕ) → i < length zs → j < length zs → Before u (get_or zs j 0) (get_or zs i 0) → j < i
  lower u zs o i j h k b = by (cases_order j i)
    where
      by : (j ≡ i) ⊎ ((j < i) ⊎ (i < j)) → j < i
      by (inl e) = absurd (strict u (get_or zs i 0) (subst (λ (x : ℕ). Before u (get_or zs x 0) (get_or zs i 0)) e b))
      by (inr (inl l)) = l
      by (inr (inr l)) = absurd (strict u (get_or zs i 0) (order_trans u _ _ _ (o.sorted i j l k) b))

  module _ (u b : ℕ) (zs : List ℕ) (o : s.Order K D p u zs) (size : BallSize (colour_of p) p.colours zs b) (i : ℕ) (h : i < length zs) where
    into : i < b → InBall u (get_or zs i 0)
    into l = by (lacks (colour_of p) zs i p.colours)
      where
        by : Covers (colour_of p) p.colours zs i ⊎ ((c : ℕ) × IsColour p.colours c × (Met (colour_of p) zs i c → ⊥)) → InBall u (get_or zs i 0)
        by (inl all) = absurd (size.least i l all)
        by (inr (c, is, unmet)) = record {
          is_relay = All-get_or (λ z. z < length p.relays) zs i 0 h o.relays;
          colour = c;
          is_colour = is;
          none_before = none_before;
        }
          where
            none_before : (y : ℕ) → y < length p.relays → colour_of p y ≡ c → Before u y (get_or zs i 0) → ⊥
            none_before y m e before = at (place u zs o y m)
              where
                at : (j : ℕ) × (j < length zs) × (get_or zs j 0 ≡ y) → ⊥
                at (j, k, f) = unmet (j, lower u zs o i j h k (subst (λ (x : ℕ). Before u x (get_or zs i 0)) (sym f) before), k, ap (colour_of p) f ∙ e)

    out : InBall u (get_or zs i 0) → i < b
    out ball = by (cases_lt i b)
      where
        by : (i < b) ⊎ (b ≤ i) → i < b
        by (inl l) = l
        by (inr l) =
            let (j, m, k, e) = size.covers ball.colour ball.is_colour in
            absurd (ball.none_before (get_or zs j 0) (All-get_or (λ z. z < length p.relays) zs j 0 k o.relays) e
            (o.sorted j i (omega (arith, m, l)) h))

  pub members : (u : ℕ) (xs : List ℕ) → s.Ball K D p u xs → (x : ℕ) → InBall u x ↔ ContainsAt xs x
  members u xs ball x = subst (λ (ys : List ℕ). InBall u x ↔ ContainsAt ys x) (sym ball.begins) (there, back)
    where
      zs : List ℕ
      zs = ball.order

      b : ℕ
      b = length xs

      there : InBall u x → ContainsAt (take b zs) x
      there h = at (place u zs ball.seen x h.is_relay)
        where
          at : (i : ℕ) × (i < length zs) × (get_or zs i 0 ≡ x) → ContainsAt (take b zs) x
          at (i, k, e) =
              let l : i < b = out u b zs ball.seen ball.size i k (subst (λ (y : ℕ). InBall u y) (sym e) h) in
              subst (λ (y : ℕ). ContainsAt (take b zs) y) (get_or-take b zs i 0 l ∙ e)
              (has_get_or (take b zs) i 0 (omega (arith, length-take-le b zs ball.size.within)))

      back : ContainsAt (take b zs) x → InBall u x
      back (i, l, at) =
          let m : i < b = omega (arith, length-take-le b zs ball.size.within) in
          subst (λ (y : ℕ). InBall u y) (sym (get_or-take b zs i 0 m) ∙ at 0)
          (into u b zs ball.seen ball.size i (omega (arith, ball.size.within)) m)

  module _ (sound : Sound K p) (distances : d.Distances K p D) where
    pub first : (u y : ℕ) → u < length p.relays → y < length p.relays → Before u y u → ⊥
    first u y h k b = by b
      where
        zero : D u u ≡ K.none
        zero = (metric laws p sound).unique u u (D u u) K.none (distances u u h h) ((metric laws p sound).self u)

        by : Before u y u → ⊥
        by (inl l) = laws.least (D u y) (subst (λ (c : C). IsLess K (D u y) c) zero l)
        by (inr e) =
            let same : u ≡ y = (metric laws p sound).apart u y (subst (λ (c : C). d.Distance K p u y c) (e.0 ∙ zero) (distances u y h k)) in
            omega (arith, e.1)

    pub travels : (u v r y : ℕ) → u < length p.relays → v < length p.relays → y < length p.relays → (u ≡ v → ⊥)
        → d.Next K p u v r → Before r y v → Before u y v
    travels u v r y hu hv hy ne next b = by ((metric laws p sound).nearer u v r ne next (D u v) (distances u v hu hv))
      where
        by : (w : C) × (e : C) × Linked p u r w × IsLink K w × d.Distance K p r v e × (D u v ≡ K.plus w e) → Before u y v
        by (w, e, linked, lw, dist, is) = at b
          where
            hr : r < length p.relays
            hr = linked_to p sound u r w linked

            from_u : D u v ≡ K.plus w (D r v)
            from_u = is ∙ ap (K.plus w) ((metric laws p sound).unique r v e (D r v) dist (distances r v hr hv))

            far : d.Distance K p r y (D r y)
            far = distances r y hr hy

            near : AtMost K (D u y) (K.plus w (D r y))
            near = subst (λ (c : C). AtMost K (D u y) (K.plus w c)) far.costs
                ((distances u y hu hy).least (record { hops = record { cost = w; to = r } ∷ far.walk.hops; chain = (linked, far.walk.chain) }))

            at : Before r y v → Before u y v
            at (inl l) = inl (le-less laws _ _ _ near (subst (λ (c : C). IsLess K (K.plus w (D r y)) c) (sym from_u) (grows_left laws _ _ w l)))
            at (inr (f, l)) = split (le_split laws _ _ (subst (λ (c : C). AtMost K (D u y) c) (ap (K.plus w) f ∙ sym from_u) near))
              where
                split : IsLess K (D u y) (D u v) ⊎ (D u y ≡ D u v) → Before u y v
                split (inl m) = inl m
                split (inr m) = inr (m, l)

    pub own : (u : ℕ) → u < length p.relays → Manager u (colour_of p u) u
    own u h = record { is_relay = h; coloured = refl; none_before = λ y k e b. first u y h k b }

    pub centre : (u : ℕ) → u < length p.relays → InBall u u
    centre u h = manager_near u (colour_of p u) u (All-get_or (λ r. IsColour p.colours r.colour) p.relays u (relay 0 0) h sound.colours) (own u h)

    pub monotone : (u v r : ℕ) → u < length p.relays → (u ≡ v → ⊥) → d.Next K p u v r → InBall u v → InBall r v
    monotone u v r hu ne next h = record {
      is_relay = h.is_relay;
      colour = h.colour;
      is_colour = h.is_colour;
      none_before = λ y hy e b. h.none_before y hy e (travels u v r y hu h.is_relay hy ne next b);
    }

    pub persists : (u c m r : ℕ) → u < length p.relays → (u ≡ m → ⊥) → d.Next K p u m r → Manager u c m → Manager r c m
    persists u c m r hu ne next h = record {
      is_relay = h.is_relay;
      coloured = h.coloured;
      none_before = λ y hy e b. h.none_before y hy e (travels u m r y hu h.is_relay hy ne next b);
    }

    pub next_relay : (u v r : ℕ) → u < length p.relays → d.Next K p u v r → r < length p.relays
    next_relay u v r h (inl (e, f)) = omega (arith, f)
    next_relay u v r h (inr (ne, step, lowest)) = linked_to p sound u r step.over step.chain.0

  -- The manager is the first relay of its colour in the order.
  pub manager_is : (u c i : ℕ) (zs : List ℕ) → s.Order K D p u zs → i < length zs → colour_of p (get_or zs i 0) ≡ c
      → ((j : ℕ) → j < i → colour_of p (get_or zs j 0) ≡ c → ⊥) → Manager u c (get_or zs i 0)
  manager_is u c i zs o h e none = record { is_relay = All-get_or (λ z. z < length p.relays) zs i 0 h o.relays; coloured = e; none_before = none_before }
    where
      none_before : (y : ℕ) → y < length p.relays → colour_of p y ≡ c → Before u y (get_or zs i 0) → ⊥
      none_before y m f b = at (place u zs o y m)
        where
          at : (j : ℕ) × (j < length zs) × (get_or zs j 0 ≡ y) → ⊥
          at (j, k, g) = none j (lower u zs o i j h k (subst (λ (x : ℕ). Before u x (get_or zs i 0)) (sym g) b)) (ap (colour_of p) g ∙ f)
