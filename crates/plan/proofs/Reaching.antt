-- Marks spread from relay 0 over the pairs of ends: they reach what walks reach.
use Rattle.std.proofs.Common.{◌≡◌, ℕ, zero, suc, ◌+◌, ◌<◌, Bool, true, false, cond, not, ◌⊎◌, List, [], ◌∷◌, ◌++◌, length, get_or, set, replicate, count_by, sym, refl, ap, ◌∙◌, subst, inl, inr, arith}
use Rattle.std.proofs.lemmas.List.{get_or-set_same, get_or-set_other, length-set}
use Rattle.std.proofs.lemmas.List.Sums.{sum_by-set}
use Rattle.std.proofs.lemmas.Bool.{cases_eq, true≢false}
use Rattle.plan.specs.declared.ends.Ends.{Ends}
use Rattle.plan.specs.Plan.{InStep, plan_with}
use Rattle.plan.specs.Walk.{Hop, Walk, Chain, SomePair, Pair, nowhere}
use Rattle.plan.specs.Reach.{Route, Reaches, IsMarked, Marked, Crosses, NoCrossing, Within, AllReached}
use Rattle.plan.proofs.Held.{linked_at, pair_of}
use Rattle.plan.proofs.Walks.{walk_join, walk_back}

-- one stop more
path_more : (es : List Ends) (u v w : ℕ) (ss : List ℕ) → Route es u ss v → SomePair es v w → Route es u (ss ++ w ∷ []) w
path_more es u v w [] p q = (subst (λ (x : ℕ). SomePair es x w) (sym p) q, refl)
path_more es u v w (s ∷ ss) p q = (p.0, path_more es s v w ss p.1 q)

reach_more : (es : List Ends) (u v w : ℕ) → Reaches es u v → SomePair es v w → Reaches es u w
reach_more es u v w r q = record { stops = r.stops ++ w ∷ []; route = path_more es u v w r.stops r.route q }

-- a relay that is marked was so before, or is the new one
marked_cases : (ms : List Bool) (k v : ℕ) → IsMarked (set ms k true) v → IsMarked ms v ⊎ (v ≡ k)
marked_cases ms k v h = by (cases_eq v k)
  where
    by : (v ≡ k) ⊎ (v ≡ k → ⊥) → IsMarked ms v ⊎ (v ≡ k)
    by (inl e) = inr e
    by (inr ne) = inl (sym (get_or-set_other ms k v true false ne) ∙ h)

pub mark_more : (es : List Ends) (ms : List Bool) (k v : ℕ) → Marked es ms → Crosses es ms v → k ≡ v → Marked es (set ms k true)
mark_more es ms k v m c e = (start, reached)
  where
    at_zero : (0 ≡ k) ⊎ (0 ≡ k → ⊥) → IsMarked (set ms k true) 0
    at_zero (inl z) = subst (λ (x : ℕ). IsMarked (set ms k true) x) (sym z) (get_or-set_same ms k true false (omega (arith, c.0)))
    at_zero (inr ne) = get_or-set_other ms k 0 true false ne ∙ m.0

    start : IsMarked (set ms k true) 0
    start = at_zero (cases_eq 0 k)

    from : (u : ℕ) → IsMarked ms u ⊎ (u ≡ k) → Reaches es 0 u
    from u (inl h) = m.1 u h
    from u (inr same) = subst (λ (x : ℕ). Reaches es 0 x) (sym (same ∙ e)) (reach_more es 0 c.2.0 v (m.1 c.2.0 c.2.1) c.2.2)

    reached : (u : ℕ) → IsMarked (set ms k true) u → Reaches es 0 u
    reached u h = from u (marked_cases ms k u h)

-- fewer relays are left to mark
pub mark_falls : (es : List Ends) (ms : List Bool) (k v : ℕ) → Crosses es ms v → k ≡ v → count_by not (set ms k true) < count_by not ms
mark_falls es ms k v c e =
    let f : Bool → ℕ = λ b. cond (not b) 1 0 in
    let changed : count_by not (set ms k true) + f (get_or ms k false) ≡ count_by not ms + 0 = sum_by-set f ms k true false (omega (arith, c.0)) in
    let was : f (get_or ms k false) ≡ 1 = ap f (ap (λ (x : ℕ). get_or ms x false) e ∙ c.1) in
    omega (arith, changed, was)

pub within_set : (es : List Ends) (ms : List Bool) (k : ℕ) → Within es (length ms) → Within es (length (set ms k true))
within_set es ms k w i h = let at = w i h in (omega (arith, length-set ms k true, at.0), omega (arith, length-set ms k true, at.1))

-- only relay 0 is marked at first
pub no_marks : (n v : ℕ) → get_or (replicate n false) v false ≡ false
no_marks zero v = refl
no_marks (suc n) zero = refl
no_marks (suc n) (suc v) = no_marks n v

pub first_mark : (es : List Ends) (ms : List Bool) → ((v : ℕ) → get_or ms v false ≡ false) → 0 < length ms → Marked es (set ms 0 true)
first_mark es ms none some = (get_or-set_same ms 0 true false some, reached)
  where
    from : (v : ℕ) → IsMarked ms v ⊎ (v ≡ 0) → Reaches es 0 v
    from v (inl h) = absurd (true≢false (sym h ∙ none v))
    from v (inr e) = record { stops = []; route = sym e }

    reached : (v : ℕ) → IsMarked (set ms 0 true) v → Reaches es 0 v
    reached v h = from v (marked_cases ms 0 v h)

-- marks that no pair leads out of hold all that is reached from them
pub stays_marked : (es : List Ends) (ms : List Bool) → NoCrossing es ms → (u v : ℕ) → IsMarked ms u → Reaches es u v → IsMarked ms v
stays_marked es ms shut u v h r = along u r.stops h r.route
  where
    along : (x : ℕ) (ss : List ℕ) → IsMarked ms x → Route es x ss v → IsMarked ms v
    along x [] m p = subst (λ (y : ℕ). IsMarked ms y) p m
    along x (s ∷ ss) m p = along s ss (shut x s p.0 m) p.1

-- What is reached over the pairs is reached by a walk, and the other way round.
module _ {C : Type 0} (none : C) (k : ℕ) (names colours : List ℕ) (ends : List Ends) (costs : List C)
    (step : InStep k names colours ends costs) where
  walk_along : (u v : ℕ) (ss : List ℕ) → Route ends u ss v → Walk (plan_with k names colours ends costs) u v
  walk_along u v [] p = record { hops = []; chain = p }
  walk_along u v (s ∷ ss) ((j, h, pair), p) =
      let rest = walk_along s v ss p in
      record {
        hops = record { cost = get_or costs j none; to = s } ∷ rest.hops;
        chain = (linked_at k names colours ends costs step j u s none h pair, rest.chain);
      }

  pub walk_of : (u v : ℕ) → Reaches ends u v → Walk (plan_with k names colours ends costs) u v
  walk_of u v r = walk_along u v r.stops r.route

  stops_of : List (Hop C) → List ℕ
  stops_of [] = []
  stops_of (h ∷ hs) = h.to ∷ stops_of hs

  path_of : (u v : ℕ) (hs : List (Hop C)) → Chain (plan_with k names colours ends costs) u hs v → Route ends u (stops_of hs) v
  unfolding stops_of
  path_of u v [] c = c
  path_of u v (h ∷ hs) c = (pair_of k names colours ends costs step u h.to h.cost c.0, path_of h.to v hs c.1)

  pub reach_of : (u v : ℕ) → Walk (plan_with k names colours ends costs) u v → Reaches ends u v
  reach_of u v w = record { stops = stops_of w.hops; route = path_of u v w.hops w.chain }

  -- what relay 0 reaches is joined both ways
  pub connected : (m : ℕ) → AllReached ends m → (u v : ℕ) → u < m → v < m → Walk (plan_with k names colours ends costs) u v
  connected m all u v hu hv =
      walk_join _ u 0 v (walk_back _ 0 u (walk_of 0 u (all u hu))) (walk_of 0 v (all v hv))
