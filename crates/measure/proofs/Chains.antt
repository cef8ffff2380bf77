-- What chains of a sound plan cost, and where they lead.
use Rattle.std.proofs.Common.{◌≡◌, ℕ, ◌-◌, ◌<◌, ◌≤◌, List, [], ◌∷◌, ◌++◌, map, length, sym, refl, ap, ◌∙◌, subst, inl, inr, arith}
use Rattle.std.specs.List.{AllByRecursion}
use Rattle.std.proofs.lemmas.List.{map-append, length-map}
use Rattle.std.proofs.ByRecursion.{all-has, All-weaker}
use Rattle.kind.specs.Laws.{Laws, AtMost, total, CostKind, IsLess, IsLink}
use Rattle.kind.proofs.Sums.{neutral_right, grows_left, less-plus-link, le-less, total-append, strict}
use Rattle.plan.specs.Plan.{Plan}
use Rattle.plan.specs.Plan as plan
use Rattle.plan.specs.Walk.{Linked, Hop, Chain, Walk, cost_of}
use Rattle.plan.specs.Sound.{Sound, NoTwo, TwoRelays}
use Rattle.plan.proofs.Walks.{back}
use Rattle.measure.specs.Metric.{Falls}
use Rattle.measure.proofs.Different.{at_most}

-- the relays that the hops lead to
abbrev pub stops : {C : Type 0} → List (Hop C) → List ℕ
stops hs = map (λ h. h.to) hs

module _ {C : Type 0} {K : CostKind C} (p : Plan C) (sound : Sound K p) where
  -- a link leads to a relay, and has a link's cost
  pub linked_to : (u v : ℕ) (c : C) → Linked p u v c → v < length p.relays
  linked_to u v c (inl h) = (all-has (λ l. TwoRelays (length p.relays) l.from l.to) p.links (plan.link u v c) sound.ends h).1
  linked_to u v c (inr h) = (all-has (λ l. TwoRelays (length p.relays) l.from l.to) p.links (plan.link v u c) sound.ends h).0

  pub linked_cost : (u v : ℕ) (c : C) → Linked p u v c → IsLink K c
  linked_cost u v c (inl h) = all-has (λ l. IsLink K l.cost) p.links (plan.link u v c) sound.costs h
  linked_cost u v c (inr h) = all-has (λ l. IsLink K l.cost) p.links (plan.link v u c) sound.costs h

  pub chain_inside : (u v : ℕ) (hs : List (Hop C)) → u < length p.relays → Chain p u hs v → v < length p.relays
  chain_inside u v [] l h = subst (λ (x : ℕ). x < length p.relays) h l
  chain_inside u v (x ∷ hs) l h = chain_inside x.to v hs (linked_to u x.to x.cost h.0) h.1

  pub stops_inside : (u v : ℕ) (hs : List (Hop C)) → Chain p u hs v → AllByRecursion (λ x. x < length p.relays) (stops hs)
  stops_inside u v [] h = tt
  stops_inside u v (x ∷ hs) h = (linked_to u x.to x.cost h.0, stops_inside x.to v hs h.1)

  pub chain_links : (u v : ℕ) (hs : List (Hop C)) → Chain p u hs v → AllByRecursion (IsLink K) (map (λ h. h.cost) hs)
  chain_links u v [] h = tt
  chain_links u v (x ∷ hs) h = (linked_cost u x.to x.cost h.0, chain_links x.to v hs h.1)

  -- a chain that comes to no relay twice has fewer links than there are relays
  pub chain_short : (u v : ℕ) (hs : List (Hop C)) → u < length p.relays → Chain p u hs v → NoTwo ◌≡◌ (u ∷ stops hs)
      → length hs ≤ length p.relays - 1
  chain_short u v hs l h differ =
      let all : length (u ∷ stops hs) ≤ length p.relays = at_most (length p.relays) (u ∷ stops hs) (l, stops_inside u v hs h) differ in
      omega (arith, length-map hs (λ (x : Hop C). x.to))

module _ {C : Type 0} {K : CostKind C}
    (laws : Laws K) where
  -- the cost of chains that are joined, and of the way back
  pub cost_of-append : (hs ks : List (Hop C)) → cost_of K (hs ++ ks) ≡ K.plus (cost_of K hs) (cost_of K ks)
  cost_of-append hs ks =
      ap (total K) (map-append (λ (h : Hop C). h.cost) hs ks) ∙ total-append laws (map (λ h. h.cost) hs) (map (λ h. h.cost) ks)

  pub cost_of-back : (p : Plan C) (u : ℕ) (hs : List (Hop C)) → cost_of K (back p u hs) ≡ cost_of K hs
  cost_of-back p u [] = refl
  cost_of-back p u (h ∷ hs) =
      cost_of-append (back p h.to hs) (record { cost = h.cost; to = u } ∷ [])
      ∙ ap (K.plus (cost_of K (back p h.to hs))) (neutral_right laws h.cost)
      ∙ ap (λ (c : C). K.plus c h.cost) (cost_of-back p h.to hs)
      ∙ laws.comm (cost_of K hs) h.cost

  -- the rest of a chain costs less than the chain
  pub rest_less : (l c : C) → IsLink K l → IsLess K c (K.plus l c)
  rest_less l c h = subst (λ (x : C). IsLess K c x) (laws.comm c l) (less-plus-link laws c l h)

  pub cost_positive : (p : Plan C) (sound : Sound K p) (u v : ℕ) (h : Hop C) (hs : List (Hop C)) → Chain p u (h ∷ hs) v → IsLess K K.none (cost_of K (h ∷ hs))
  cost_positive p sound u v h hs ch =
      le-less laws K.none (cost_of K hs) (cost_of K (h ∷ hs)) (laws.least (cost_of K hs))
      (rest_less h.cost (cost_of K hs) (linked_cost p sound u h.to h.cost ch.0))

  -- where a cost falls along a chain, it comes to no relay twice
  falls_below : (f : ℕ → C) (u : ℕ) (hs : List (Hop C)) → Falls K f u hs → AllByRecursion (λ x. IsLess K (f x) (f u)) (stops hs)
  falls_below f u [] h = tt
  falls_below f u (x ∷ hs) h =
      (h.0, All-weaker (λ y. IsLess K (f y) (f x.to)) (λ y. IsLess K (f y) (f u)) (λ y l. laws.order.trans _ _ _ l h.0) (stops hs) (falls_below f x.to hs h.1))

  pub falls_differ : (f : ℕ → C) (u : ℕ) (hs : List (Hop C)) → Falls K f u hs → NoTwo ◌≡◌ (u ∷ stops hs)
  falls_differ f u [] h = (tt, tt)
  falls_differ f u (x ∷ hs) h = (
    All-weaker (λ y. IsLess K (f y) (f u)) (λ y. u ≡ y → ⊥) (λ y l e. strict laws (f u) (subst (λ (z : ℕ). IsLess K (f z) (f u)) (sym e) l))
        (stops (x ∷ hs)) (falls_below f u (x ∷ hs) h),
    falls_differ f x.to hs h.1,
  )

  -- from each relay of a chain there is a cheaper walk to its end
  module _ (p : Plan C) (sound : Sound K p) (v : ℕ) where
    abbrev Cheaper : C → ℕ → Type 0
    Cheaper c x = (w : Walk p x v) × IsLess K (cost_of K w.hops) c

    cheaper_rest : (u : ℕ) (hs : List (Hop C)) → Chain p u hs v → AllByRecursion (Cheaper (cost_of K hs)) (stops hs)
    cheaper_rest u [] h = tt
    cheaper_rest u (x ∷ hs) h =
        let falls : IsLess K (cost_of K hs) (cost_of K (x ∷ hs)) =
        rest_less x.cost (cost_of K hs) (linked_cost p sound u x.to x.cost h.0) in (
          (record { hops = hs; chain = h.1 }, falls),
          All-weaker (Cheaper (cost_of K hs)) (Cheaper (cost_of K (x ∷ hs))) (λ y c. (c.0, laws.order.trans _ _ _ c.1 falls))
              (stops hs) (cheaper_rest x.to hs h.1),
        )

    -- a cheapest chain comes to no relay twice
    pub cheapest_differ : (u : ℕ) (hs : List (Hop C)) → Chain p u hs v → ((w : Walk p u v) → AtMost K (cost_of K hs) (cost_of K w.hops))
        → NoTwo ◌≡◌ (u ∷ stops hs)
    cheapest_differ u [] h least = (tt, tt)
    cheapest_differ u (x ∷ hs) h least = (
      All-weaker (Cheaper (cost_of K (x ∷ hs))) (λ y. u ≡ y → ⊥) twice (stops (x ∷ hs)) (cheaper_rest u (x ∷ hs) h),
      cheapest_differ x.to hs h.1 (λ w l. least (record { hops = x ∷ w.hops; chain = (h.0, w.chain) }) (grows_left laws _ _ x.cost l)),
    )
      where
        twice : (y : ℕ) → Cheaper (cost_of K (x ∷ hs)) y → u ≡ y → ⊥
        twice y c e = least (record { hops = c.0.hops; chain = subst (λ (z : ℕ). Chain p z c.0.hops v) (sym e) c.0.chain }) c.1
