-- The distance of a sound plan is a metric.
use Rattle.std.proofs.Common.{◌≡◌, ℕ, ◌-◌, ◌<◌, ◌≤◌, List, [], ◌∷◌, ◌++◌, map, length, sym, refl, ap, ◌∙◌, subst, ap₂, inl, inr, arith}
use Rattle.std.proofs.lemmas.List.{length-map}
use Rattle.kind.specs.Laws.{Laws, AtMost, SumOf, CostKind, IsLess, IsLink}
use Rattle.kind.proofs.Sums.{grows_left, le_antisym, le_of_eq, le_trans, plus-le_left, strict}
use Rattle.plan.specs.Plan.{Plan}
use Rattle.plan.specs.Walk.{Linked, Hop, Chain, Walk, cost_of}
use Rattle.plan.specs.Sound.{Sound}
use Rattle.plan.proofs.Walks.{chain_append, back, chain_back}
use Rattle.measure.specs.Distance as d
use Rattle.measure.specs.Metric.{Metric, Falls}
use Rattle.measure.proofs.Chains.{linked_cost, chain_inside, chain_links, chain_short, cost_of-append, cost_of-back, cost_positive, falls_differ, cheapest_differ}

module _ {C : Type 0} {K : CostKind C}
    (laws : Laws K) (p : Plan C) (sound : Sound K p) where
  abbrev Distance : ℕ → ℕ → C → Type 0
  Distance u v c = d.Distance K p u v c

  abbrev FirstStep : ℕ → ℕ → ℕ → Type 0
  FirstStep u x r = d.FirstStep K p u x r

  abbrev Next : ℕ → ℕ → ℕ → Type 0
  Next u x r = d.Next K p u x r

  abbrev cost : List (Hop C) → C
  cost hs = cost_of K hs

  -- a distance is at most the cost of each chain
  le_chain : (u v : ℕ) (b c : C) → Distance u v c → (hs : List (Hop C)) → Chain p u hs v → cost hs ≡ b → AtMost K c b
  le_chain u v b c m hs ch e = subst (λ (x : C). AtMost K c x) e (m.least (record { hops = hs; chain = ch }))

  unique : (u v : ℕ) (c e : C) → Distance u v c → Distance u v e → c ≡ e
  unique u v c e m n = le_antisym laws c e (le_chain u v e c m n.walk.hops n.walk.chain n.costs)
      (le_chain u v c e n m.walk.hops m.walk.chain m.costs)

  self : (u : ℕ) → Distance u u K.none
  self u = record { walk = record { hops = []; chain = refl }; costs = refl; least = λ w. laws.least (cost w.hops) }

  apart : (u v : ℕ) → Distance u v K.none → u ≡ v
  apart u v m = by m.walk.hops m.walk.chain m.costs
    where
      by : (hs : List (Hop C)) → Chain p u hs v → cost hs ≡ K.none → u ≡ v
      by [] h e = h
      by (x ∷ hs) h e = absurd (strict laws K.none (subst (IsLess K K.none) e (cost_positive laws p sound u v x hs h)))

  symmetric : (u v : ℕ) (c : C) → Distance u v c → Distance v u c
  symmetric u v c m = record {
    walk = record { hops = back p u m.walk.hops; chain = chain_back p u v m.walk.hops m.walk.chain };
    costs = cost_of-back laws p u m.walk.hops ∙ m.costs;
    least = λ w. le_chain u v (cost w.hops) c m (back p v w.hops) (chain_back p v u w.hops w.chain) (cost_of-back laws p v w.hops);
  }

  triangle : (u v w : ℕ) (a b c : C) → Distance u v a → Distance v w b → Distance u w c → AtMost K c (K.plus a b)
  triangle u v w a b c k l m =
      le_chain u w (K.plus a b) c m (k.walk.hops ++ l.walk.hops)
      (chain_append p u v w k.walk.hops l.walk.hops k.walk.chain l.walk.chain)
      (cost_of-append laws k.walk.hops l.walk.hops ∙ ap₂ K.plus k.costs l.costs)

  first_step : (u x r : ℕ) → FirstStep u x r → (c : C) → Distance u x c → (w : C) × (e : C) × Linked p u r w × Distance r x e × (c ≡ K.plus w e)
  first_step u x r s c m = (
    s.over,
    cost s.hops,
    s.chain.0,
    record {
      walk = record { hops = s.hops; chain = s.chain.1 };
      costs = refl;
      least = λ w l. s.cheapest (record { hops = record { cost = s.over; to = r } ∷ w.hops; chain = (s.chain.0, w.chain) }) (grows_left laws _ _ s.over l);
    },
    le_antisym laws c (K.plus s.over (cost s.hops))
        (le_chain u x _ c m (record { cost = s.over; to = r } ∷ s.hops) s.chain refl)
        (subst (λ (y : C). AtMost K (K.plus s.over (cost s.hops)) y) m.costs (s.cheapest m.walk)),
  )

  step : (u x r : ℕ) (w e c : C) → (u ≡ x → ⊥) → Linked p u r w → Distance r x e → Distance u x c → c ≡ K.plus w e → FirstStep u x r
  step u x r w e c ne l n m is = record {
    over = w;
    hops = n.walk.hops;
    chain = (l, n.walk.chain);
    cheapest = λ k. subst (λ (y : C). AtMost K y (cost k.hops)) (is ∙ ap (K.plus w) (sym n.costs)) (m.least k);
  }

  nearer : (u x r : ℕ) → (u ≡ x → ⊥) → Next u x r → (c : C) → Distance u x c
      → (w : C) × (e : C) × Linked p u r w × IsLink K w × Distance r x e × (c ≡ K.plus w e)
  nearer u x r ne (inl h) c m = absurd (ne h.0)
  nearer u x r ne (inr h) c m =
      let (w, e, l, n, is) = first_step u x r h.1 c m in
      (w, e, l, linked_cost p sound u r w l, n, is)

  few : (u v : ℕ) (c : C) → u < length p.relays → Distance u v c → SumOf K (length p.relays - 1) c
  few u v c h m =
      let hs = m.walk.hops in
      let ch = m.walk.chain in
      let short : length hs ≤ length p.relays - 1 = chain_short p sound u v hs h ch
      (cheapest_differ laws p sound v u hs ch (λ w. subst (λ (y : C). AtMost K y (cost w.hops)) (sym m.costs) (m.least w))) in
      record {
        parts = map (λ h. h.cost) hs;
        links = chain_links p sound u v hs ch;
        few = omega (arith, length-map hs (λ (x : Hop C). x.cost));
        sums = m.costs;
      }

  falling : (f : ℕ → C) (u v : ℕ) (hs : List (Hop C)) → u < length p.relays → Chain p u hs v → Falls K f u hs → length hs ≤ length p.relays - 1
  falling f u v hs h ch falls = chain_short p sound u v hs h ch (falls_differ laws f u hs falls)

  -- costs that no link improves are at most the cost of each walk
  no_less : (D : ℕ → ℕ → C) (v : ℕ) → D v v ≡ K.none → ((u x : ℕ) (w : C) → Linked p u x w → AtMost K (D u v) (K.plus w (D x v)))
      → (u : ℕ) (hs : List (Hop C)) → Chain p u hs v → AtMost K (D u v) (cost hs)
  no_less D v zero tight u [] h = le_of_eq laws (D u v) K.none (ap (λ (x : ℕ). D x v) h ∙ zero)
  no_less D v zero tight u (x ∷ hs) h =
      le_trans laws (D u v) (K.plus x.cost (D x.to v)) (cost (x ∷ hs)) (tight u x.to x.cost h.0)
      (plus-le_left laws (D x.to v) (cost hs) x.cost (no_less D v zero tight x.to hs h.1))

  certificate : (D : ℕ → ℕ → C) (v : ℕ)
      → ((u : ℕ) → u < length p.relays → (w : Walk p u v) × (cost w.hops ≡ D u v))
      → D v v ≡ K.none
      → ((u x : ℕ) (w : C) → Linked p u x w → AtMost K (D u v) (K.plus w (D x v)))
      → (u : ℕ) → u < length p.relays → Distance u v (D u v)
  certificate D v walks zero tight u h = record {
    walk = (walks u h).0;
    costs = (walks u h).1;
    least = λ w. no_less D v zero tight u w.hops w.chain;
  }

  pub metric : Metric K p
  metric = record {
    unique = unique;
    self = self;
    apart = apart;
    symmetric = symmetric;
    triangle = triangle;
    nearer = nearer;
    few = few;
    falling = falling;
    certificate = certificate;
    step = step;
    first_step = first_step;
    inside = chain_inside p sound;
  }
