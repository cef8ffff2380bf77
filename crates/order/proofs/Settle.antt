-- Plans of kind delay that are settled by tests that compute.
-- T u v is the delay from u to v in ticks, as a table has it.
use Rattle.std.proofs.Common.{◌≡◌, ℕ, zero, suc, ◌+◌, ◌-◌, ◌^◌, ◌<◌, ◌≤◌, Bool, true, not, ◌&&◌, ◌||◌, eqb, ltb, leb, ◌⊎◌, List, [], ◌∷◌, length, get_or, take, sym, refl, ap, ◌∙◌, subst, inl, inr, arith}
use Rattle.std.specs.List.{ContainsAt, AllByRecursion, list_all, list_any}
use Rattle.std.proofs.ByRecursion.{All-weaker, all-has}
use Rattle.std.proofs.lemmas.Bool.{and_parts, and_from, or_cases, or_left, or_right, cases_lt, lt-ltb, ltb-true, leb-true, eqb-true, eq-eqb}
use Rattle.kind.specs.declared.delay.Delay.{Delay}
use Rattle.kind.specs.Kinds.{delay, delay_kind}
use Rattle.kind.specs.Kept.{delay_laws}
use Rattle.kind.specs.Laws.{IsLink}
use Rattle.kind.proofs.Delays.{less_ticks, ticks_less, delay_link}
use Rattle.plan.specs.Plan.{Plan, Relay, Link, link, colour_of}
use Rattle.plan.specs.Walk.{Linked, Walk, cost_of}
use Rattle.plan.specs.Sound.{Sound, SameName, SamePair, IsName, IsColour, TwoRelays}
use Rattle.measure.specs.Distance.{Distance, Distances, FirstStep, Next}
use Rattle.measure.proofs.Chains.{linked_to, linked_cost}
use Rattle.measure.proofs.Metric.{metric}
use Rattle.order.specs.Seen.{Before, Ball, Manager, Order, BallSize, Covers}
use Rattle.order.specs.Views.{WithDistances}
use Rattle.order.proofs.Tests.{not_both, all_pass, some_passes, all_below, all_below_is, some_below, some_below_is, pairs, pairs_no_two, pairs_at}
use Rattle.order.proofs.Order.{manager_is}

-- the ticks of a table of delays
abbrev pub ticks_of : (ℕ → ℕ → Delay) → ℕ → ℕ → ℕ
ticks_of D u v = (D u v).ticks

-- within bounds
abbrev between : ℕ → ℕ → ℕ → Bool
between low high x = leb low x && leb x high

between_is : (low high x : ℕ) → between low high x ≡ true → (low ≤ x) × (x ≤ high)
between_is low high x e = let h = and_parts (leb low x) (leb x high) e in (leb-true low x h.0, leb-true x high h.1)

-- the plan is sound
abbrev name_test : Relay → Bool
name_test r = leb 1 r.name && ltb r.name (2 ^ 32)

abbrev names_differ : Relay → Relay → Bool
names_differ r s = not (eqb r.name s.name)

abbrev ends_test : ℕ → Link Delay → Bool
ends_test n l = ltb l.from n && (ltb l.to n && not (eqb l.from l.to))

abbrev pairs_differ : Link Delay → Link Delay → Bool
pairs_differ l m = not (eqb l.from m.from && eqb l.to m.to) && not (eqb l.from m.to && eqb l.to m.from)

abbrev pub sound_test : Plan Delay → Bool
sound_test p =
    between 1 16 p.colours && (leb (length p.relays) 256 && (leb (length p.links) 1024
    && (list_all name_test p.relays && (pairs names_differ p.relays && (list_all (λ r. between 1 p.colours r.colour) p.relays
    && (list_all (ends_test (length p.relays)) p.links && (pairs pairs_differ p.links && list_all (λ l. delay_kind.is_link l.cost) p.links)))))))

names_apart : (r s : Relay) → names_differ r s ≡ true → SameName r s → ⊥
names_apart r s e h = not_both (eqb r.name s.name) e (eq-eqb r.name s.name h)

pairs_apart : (l m : Link Delay) → pairs_differ l m ≡ true → SamePair l m → ⊥
pairs_apart l m e (inl h) =
    not_both (eqb l.from m.from && eqb l.to m.to) (and_parts _ _ e).0
    (and_from (eqb l.from m.from) (eqb l.to m.to) (eq-eqb _ _ h.0) (eq-eqb _ _ h.1))
pairs_apart l m e (inr h) =
    not_both (eqb l.from m.to && eqb l.to m.from) (and_parts (not (eqb l.from m.from && eqb l.to m.to)) _ e).1
    (and_from (eqb l.from m.to) (eqb l.to m.from) (eq-eqb _ _ h.0) (eq-eqb _ _ h.1))

name_is : (r : Relay) → name_test r ≡ true → IsName r.name
name_is r e = let h = and_parts (leb 1 r.name) (ltb r.name (2 ^ 32)) e in (leb-true 1 r.name h.0, ltb-true r.name (2 ^ 32) h.1)

ends_are : (n : ℕ) (l : Link Delay) → ends_test n l ≡ true → TwoRelays n l.from l.to
ends_are n l e =
    let h = and_parts (ltb l.from n) (ltb l.to n && not (eqb l.from l.to)) e in
    let k = and_parts (ltb l.to n) (not (eqb l.from l.to)) h.1 in
    (ltb-true l.from n h.0, ltb-true l.to n k.0, λ same. not_both (eqb l.from l.to) k.1 (eq-eqb l.from l.to same))

pub sound_is : (p : Plan Delay) → sound_test p ≡ true → Sound delay_kind p
sound_is p e0 =
    let e1 = and_parts (between 1 16 p.colours) _ e0 in
    let e2 = and_parts (leb (length p.relays) 256) _ e1.1 in
    let e3 = and_parts (leb (length p.links) 1024) _ e2.1 in
    let e4 = and_parts (list_all name_test p.relays) _ e3.1 in
    let e5 = and_parts (pairs names_differ p.relays) _ e4.1 in
    let e6 = and_parts (list_all (λ r. between 1 p.colours r.colour) p.relays) _ e5.1 in
    let e7 = and_parts (list_all (ends_test (length p.relays)) p.links) _ e6.1 in
    let e8 = and_parts (pairs pairs_differ p.links) _ e7.1 in
    record {
      colours_few = between_is 1 16 p.colours e1.0;
      relays_few = leb-true _ _ e2.0;
      links_few = leb-true _ _ e3.0;
      names = All-weaker (λ r. name_test r ≡ true) (λ r. IsName r.name) name_is p.relays (all_pass name_test p.relays e4.0);
      names_differ = pairs_no_two names_differ SameName names_apart p.relays e5.0;
      colours = All-weaker (λ r. between 1 p.colours r.colour ≡ true) (λ r. IsColour p.colours r.colour)
          (λ r. between_is 1 p.colours r.colour) p.relays (all_pass (λ r. between 1 p.colours r.colour) p.relays e6.0);
      ends = All-weaker (λ l. ends_test (length p.relays) l ≡ true) (λ l. TwoRelays (length p.relays) l.from l.to)
          (ends_are (length p.relays)) p.links (all_pass (ends_test (length p.relays)) p.links e7.0);
      pairs_differ = pairs_no_two pairs_differ SamePair pairs_apart p.links e8.0;
      costs = all_pass (λ l. delay_kind.is_link l.cost) p.links e8.1;
    }

module _ (p : Plan Delay) (T : ℕ → ℕ → ℕ) where
  abbrev pub D : ℕ → ℕ → Delay
  D u v = delay (T u v)

  -- the link leads from u toward v, by a cheapest way, to the relay r that passes the test
  abbrev pub on : ℕ → ℕ → (ℕ → Bool) → Link Delay → Bool
  on u v t l = (eqb l.from u && (eqb (T u v) (l.cost.ticks + T l.to v) && t l.to))
      || (eqb l.to u && (eqb (T u v) (l.cost.ticks + T l.from v) && t l.from))

  -- no link improves the delay to v
  abbrev tight : ℕ → Link Delay → Bool
  tight v l = leb (T l.from v) (l.cost.ticks + T l.to v) && leb (T l.to v) (l.cost.ticks + T l.from v)

  abbrev yes_to : ℕ → Bool
  yes_to r = true

  abbrev toward : ℕ → ℕ → Bool
  toward v u = eqb u v || list_any (on u v yes_to) p.links

  abbrev target : ℕ → Bool
  target v = eqb (T v v) 0 && (list_all (tight v) p.links && all_below (toward v) (length p.relays))

  abbrev pub distances_test : Bool
  distances_test = all_below target (length p.relays)

  pub on_is : (u v : ℕ) (t : ℕ → Bool) (l : Link Delay) → ContainsAt p.links l → on u v t l ≡ true
      → (r : ℕ) × (c : Delay) × Linked p u r c × (T u v ≡ c.ticks + T r v) × (t r ≡ true)
  on_is u v t l h e = by (or_cases _ _ e)
    where
      by : ((eqb l.from u && (eqb (T u v) (l.cost.ticks + T l.to v) && t l.to)) ≡ true)
          ⊎ ((eqb l.to u && (eqb (T u v) (l.cost.ticks + T l.from v) && t l.from)) ≡ true)
          → (r : ℕ) × (c : Delay) × Linked p u r c × (T u v ≡ c.ticks + T r v) × (t r ≡ true)
      by (inl f) =
          let a = and_parts (eqb l.from u) (eqb (T u v) (l.cost.ticks + T l.to v) && t l.to) f in
          let b = and_parts (eqb (T u v) (l.cost.ticks + T l.to v)) (t l.to) a.1 in
          (l.to, l.cost, inl (subst (λ (x : ℕ). ContainsAt p.links (link x l.to l.cost)) (eqb-true _ _ a.0) h), eqb-true _ _ b.0, b.1)
      by (inr f) =
          let a = and_parts (eqb l.to u) (eqb (T u v) (l.cost.ticks + T l.from v) && t l.from) f in
          let b = and_parts (eqb (T u v) (l.cost.ticks + T l.from v)) (t l.from) a.1 in
          (l.from, l.cost, inr (subst (λ (x : ℕ). ContainsAt p.links (link l.from x l.cost)) (eqb-true _ _ a.0) h), eqb-true _ _ b.0, b.1)

  tight_is : (v : ℕ) → AllByRecursion (λ l. tight v l ≡ true) p.links → (u x : ℕ) (w : Delay) → Linked p u x w → T u v ≤ w.ticks + T x v
  tight_is v all u x w (inl h) = leb-true _ _ (and_parts _ _ (all-has (λ l. tight v l ≡ true) p.links (link u x w) all h)).0
  tight_is v all u x w (inr h) =
      leb-true _ _ (and_parts (leb (T x v) (w.ticks + T u v)) _ (all-has (λ l. tight v l ≡ true) p.links (link x u w) all h)).1

  module _ (sound : Sound delay_kind p) where
    -- a walk that costs as the table says
    walk : (v : ℕ) → T v v ≡ 0 → ((u : ℕ) → u < length p.relays → toward v u ≡ true)
        → (most u : ℕ) → u < length p.relays → T u v < most → (w : Walk p u v) × (cost_of delay_kind w.hops ≡ D u v)
    walk v zero_v all zero u h l = absurd (omega arith)
    walk v zero_v all (suc most) u h l = by (or_cases _ _ (all u h)) (walk v zero_v all most)
      where
        by : (eqb u v ≡ true) ⊎ (list_any (on u v yes_to) p.links ≡ true)
            → ((x : ℕ) → x < length p.relays → T x v < most → (w : Walk p x v) × (cost_of delay_kind w.hops ≡ D x v))
            → (w : Walk p u v) × (cost_of delay_kind w.hops ≡ D u v)
        by (inl e) rest =
            (record { hops = []; chain = eqb-true u v e }, ap delay (sym (ap (λ (x : ℕ). T x v) (eqb-true u v e) ∙ zero_v)))
        by (inr e) rest = step (some_passes (on u v yes_to) p.links e)
          where
            step : (x : Link Delay) × ContainsAt p.links x × (on u v yes_to x ≡ true) → (w : Walk p u v) × (cost_of delay_kind w.hops ≡ D u v)
            step (x, has, f) = go (on_is u v yes_to x has f)
              where
                go : (r : ℕ) × (c : Delay) × Linked p u r c × (T u v ≡ c.ticks + T r v) × (true ≡ true) → (w : Walk p u v) × (cost_of delay_kind w.hops ≡ D u v)
                go (r, c, linked, is, t) =
                    let positive : IsLink delay_kind c = linked_cost p sound u r c linked in
                    let more = rest r (linked_to p sound u r c linked) (omega (arith, is, delay_link c positive)) in (
                      record { hops = record { cost = c; to = r } ∷ more.0.hops; chain = (linked, more.0.chain) },
                      ap (delay_kind.plus c) more.1 ∙ ap delay (sym is),
                    )

    pub distances_are : distances_test ≡ true → Distances delay_kind p D
    distances_are e u v hu hv =
        let a = and_parts (eqb (T v v) 0) _ (all_below_is target (length p.relays) e v hv) in
        let b = and_parts (list_all (tight v) p.links) (all_below (toward v) (length p.relays)) a.1 in
        let zero_v : T v v ≡ 0 = eqb-true _ _ a.0 in
        (metric delay_laws p sound).certificate D v
        (λ x hx. walk v zero_v (all_below_is (toward v) (length p.relays) b.1) (suc (T x v)) x hx (omega arith))
        (ap delay zero_v)
        (λ x y w linked l. omega (arith, less_ticks (delay_kind.plus w (D y v)) (D x v) l, tight_is v (all_pass (tight v) p.links b.0) x y w linked))
        u hu

  -- the order that u sees
  abbrev before_test : ℕ → ℕ → ℕ → Bool
  before_test u x y = ltb (T u x) (T u y) || (eqb (T u x) (T u y) && ltb x y)

  before_is : (u x y : ℕ) → before_test u x y ≡ true → Before delay_kind D u x y
  before_is u x y e = by (or_cases _ _ e)
    where
      by : (ltb (T u x) (T u y) ≡ true) ⊎ ((eqb (T u x) (T u y) && ltb x y) ≡ true) → Before delay_kind D u x y
      by (inl f) = inl (ticks_less _ _ (ltb-true _ _ f))
      by (inr f) = let h = and_parts (eqb (T u x) (T u y)) (ltb x y) f in inr (ap delay (eqb-true _ _ h.0), ltb-true _ _ h.1)

  module _ (u : ℕ) (zs : List ℕ) where
    abbrev pub order_test : Bool
    order_test = eqb (length zs) (length p.relays) && (list_all (λ z. ltb z (length p.relays)) zs && pairs (before_test u) zs)

    pub order_is : order_test ≡ true → Order delay_kind D p u zs
    order_is e =
        let a = and_parts (eqb (length zs) (length p.relays)) _ e in
        let b = and_parts (list_all (λ z. ltb z (length p.relays)) zs) (pairs (before_test u) zs) a.1 in
        record {
          count = eqb-true _ _ a.0;
          relays = All-weaker (λ z. ltb z (length p.relays) ≡ true) (λ z. z < length p.relays) (λ z. ltb-true z (length p.relays))
              zs (all_pass (λ z. ltb z (length p.relays)) zs b.0);
          sorted = λ i j l m. before_is u (get_or zs i 0) (get_or zs j 0) (pairs_at (before_test u) zs 0 b.1 i j l m);
        }

    -- the first i have not the colour c
    abbrev pub lacks_test : ℕ → ℕ → Bool
    lacks_test i c = all_below (λ j. not (eqb (colour_of p (get_or zs j 0)) c)) i

    pub lacks_is : (i c : ℕ) → lacks_test i c ≡ true → (j : ℕ) → j < i → colour_of p (get_or zs j 0) ≡ c → ⊥
    lacks_is i c e j l f = not_both (eqb (colour_of p (get_or zs j 0)) c) (all_below_is (λ k. not (eqb (colour_of p (get_or zs k 0)) c)) i e j l) (eq-eqb _ _ f)

    -- the manager for the colour c stands at place i
    abbrev pub manager_test : ℕ → ℕ → Bool
    manager_test c i = order_test && (ltb i (length zs) && (eqb (colour_of p (get_or zs i 0)) c && lacks_test i c))

    pub manager_at : (c i : ℕ) → manager_test c i ≡ true → Manager delay_kind D p u c (get_or zs i 0)
    manager_at c i e0 =
        let e1 = and_parts order_test _ e0 in
        let e2 = and_parts (ltb i (length zs)) _ e1.1 in
        let e3 = and_parts (eqb (colour_of p (get_or zs i 0)) c) (lacks_test i c) e2.1 in
        manager_is delay_laws p D u c i zs (order_is e1.0) (ltb-true _ _ e2.0) (eqb-true _ _ e3.0) (lacks_is i c e3.1)

    -- the first b have every colour, and at place b - 1 one is met for the first time
    abbrev meets : ℕ → ℕ → ℕ → Bool
    meets b c i = ltb i (length zs) && eqb (colour_of p (get_or zs i 0)) (suc c)

    abbrev covers_test : ℕ → Bool
    covers_test b = all_below (λ c. some_below (meets b c) b) p.colours

    abbrev last_colour : ℕ → ℕ
    last_colour b = colour_of p (get_or zs (b - 1) 0)

    abbrev pub ball_test : ℕ → Bool
    ball_test b = order_test && (leb b (length zs) && (covers_test b && (between 1 p.colours (last_colour b) && lacks_test (b - 1) (last_colour b))))

    covers_is : (b : ℕ) → covers_test b ≡ true → Covers (colour_of p) p.colours zs b
    covers_is b e zero h = absurd (omega (arith, h.0))
    covers_is b e (suc c) h =
        let f = some_below_is (meets b c) b (all_below_is (λ x. some_below (meets b x) b) p.colours e c (omega (arith, h.1))) in
        let g = and_parts (ltb f.0 (length zs)) (eqb (colour_of p (get_or zs f.0 0)) (suc c)) f.2 in
        (f.0, f.1, ltb-true _ _ g.0, eqb-true _ _ g.1)

    size_is : (b : ℕ) → ball_test b ≡ true → BallSize (colour_of p) p.colours zs b
    size_is b e0 =
        let e1 = and_parts order_test _ e0 in
        let e2 = and_parts (leb b (length zs)) _ e1.1 in
        let e3 = and_parts (covers_test b) _ e2.1 in
        let e4 = and_parts (between 1 p.colours (last_colour b)) (lacks_test (b - 1) (last_colour b)) e3.1 in
        record {
          within = leb-true _ _ e2.0;
          covers = covers_is b e3.0;
          least = λ a l all.
              let met = all (last_colour b) (between_is 1 p.colours (last_colour b) e4.0) in
              lacks_is (b - 1) (last_colour b) e4.1 met.0 (omega (arith, met.1, l)) met.3;
        }

    pub ball_is : (b : ℕ) → ball_test b ≡ true → (xs : List ℕ) → length xs ≡ b → xs ≡ take (length xs) zs → Ball delay_kind D p u xs
    ball_is b e xs long begins = record {
      order = zs;
      seen = order_is (and_parts order_test _ e).0;
      size = subst (λ (n : ℕ). BallSize (colour_of p) p.colours zs n) (sym long) (size_is b e);
      begins = begins;
    }

pub with_distances : (p : Plan Delay) (T : ℕ → ℕ → ℕ) → sound_test p ≡ true → distances_test p T ≡ true → WithDistances p (D p T)
with_distances p T e f = let sound = sound_is p e in record { sound = sound; distances = distances_are p T sound f }

-- what is next, in a plan with its distances
module _ (p : Plan Delay) (T : ℕ → ℕ → ℕ) where
  on_so : (u v r : ℕ) (t : ℕ → Bool) (c : Delay) → Linked p u r c → T u v ≡ c.ticks + T r v → t r ≡ true
      → (l : Link Delay) × ContainsAt p.links l × (on p T u v t l ≡ true)
  on_so u v r t c (inl h) is e = (
    link u r c,
    h,
    or_left (eqb u u && (eqb (T u v) (c.ticks + T r v) && t r)) _ (and_from _ _ (eq-eqb u u refl) (and_from _ _ (eq-eqb _ _ is) e)),
  )
  on_so u v r t c (inr h) is e = (
    link r u c,
    h,
    or_right (eqb r u && (eqb (T u v) (c.ticks + T u v) && t u)) _ (and_from _ _ (eq-eqb u u refl) (and_from _ _ (eq-eqb _ _ is) e)),
  )

  -- r is the lowest relay to which a cheapest way leads
  abbrev pub next_test : ℕ → ℕ → ℕ → Bool
  next_test u v r =
      ltb u (length p.relays) && (ltb v (length p.relays) && (not (eqb u v)
      && (list_any (on p T u v (λ s. eqb s r)) p.links && list_all (λ l. not (on p T u v (λ s. ltb s r) l)) p.links)))

  pub next_is : WithDistances p (D p T) → (u v r : ℕ) → next_test u v r ≡ true → Next delay_kind p u v r
  next_is given u v r e0 =
      let e1 = and_parts (ltb u (length p.relays)) _ e0 in
      let e2 = and_parts (ltb v (length p.relays)) _ e1.1 in
      let e3 = and_parts (not (eqb u v)) _ e2.1 in
      let e4 = and_parts (list_any (on p T u v (λ s. eqb s r)) p.links) (list_all (λ l. not (on p T u v (λ s. ltb s r) l)) p.links) e3.1 in
      next (ltb-true _ _ e1.0) (ltb-true _ _ e2.0) (λ e. not_both (eqb u v) e3.0 (eq-eqb u v e))
      (some_passes (on p T u v (λ s. eqb s r)) p.links e4.0) (all_pass (λ l. not (on p T u v (λ s. ltb s r) l)) p.links e4.1)
    where
      next : u < length p.relays → v < length p.relays → (u ≡ v → ⊥)
          → (l : Link Delay) × ContainsAt p.links l × (on p T u v (λ s. eqb s r) l ≡ true) → AllByRecursion (λ l. not (on p T u v (λ s. ltb s r) l) ≡ true) p.links
          → Next delay_kind p u v r
      next hu hv ne (l, has, f) none = inr (ne, first (on_is p T u v (λ s. eqb s r) l has f), lowest)
        where
          first : (s : ℕ) × (c : Delay) × Linked p u s c × (T u v ≡ c.ticks + T s v) × (eqb s r ≡ true) → FirstStep delay_kind p u v r
          first (s, c, linked, is, same) = subst (λ (x : ℕ). FirstStep delay_kind p u v x) (eqb-true s r same)
              ((metric delay_laws p given.sound).step u v s c (D p T s v) (D p T u v) ne linked
              (given.distances s v (linked_to p given.sound u s c linked) hv) (given.distances u v hu hv) (ap delay is))

          lowest : (s : ℕ) → FirstStep delay_kind p u v s → r ≤ s
          lowest s step = by (cases_lt s r) ((metric delay_laws p given.sound).first_step u v s step (D p T u v) (given.distances u v hu hv))
            where
              by : (s < r) ⊎ (r ≤ s) → (c : Delay) × (d : Delay) × Linked p u s c × Distance delay_kind p s v d × (D p T u v ≡ delay_kind.plus c d) → r ≤ s
              by (inr h) x = h
              by (inl h) (c, d, linked, dist, is) =
                  let same : d ≡ D p T s v = (metric delay_laws p given.sound).unique s v d (D p T s v) dist
                  (given.distances s v (linked_to p given.sound u s c linked) hv) in
                  let m = on_so u v s (λ x. ltb x r) c linked (ap (λ (x : Delay). x.ticks) (is ∙ ap (delay_kind.plus c) same)) (lt-ltb s r h) in
                  absurd (not_both (on p T u v (λ x. ltb x r) m.0) (all-has (λ l. not (on p T u v (λ x. ltb x r) l) ≡ true) p.links m.0 none m.1) m.2)
