-- Settling the nearest relay, over and over, finds the distances.
use Rattle.std.proofs.Common.{◌≡◌, ℕ, ◌+◌, ◌<◌, ◌≤◌, Bool, true, false, cond, not, ◌⊎◌, List, [], ◌∷◌, ◌++◌, map, length, get_or, set, replicate, Some, None, count_by, Option, sym, refl, ap, ◌∙◌, subst, inl, inr, arith, length-append}
use Rattle.std.specs.List.{Contains, ContainsAt}
use Rattle.std.proofs.lemmas.List.{get_or-set_same, get_or-set_other, length-map, length-replicate}
use Rattle.std.proofs.lemmas.List.Sums.{sum_by-set, count_by-le-length}
use Rattle.std.proofs.lemmas.Bool.{cases_eq, cases_Bool, both_ways, true≢false}
use Rattle.kind.specs.Laws.{Laws, AtMost, SumOf, CostKind, IsLink}
use Rattle.kind.proofs.Sums.{le_refl, le_trans, le-plus_right, neutral_right, plus-le_right, sum_link, le_of_eq}
use Rattle.std.proofs.lemmas.Option.{none-some, same_Some}
use Rattle.plan.specs.Plan.{Plan, Link, link_of}
use Rattle.plan.specs.Plan as plan
use Rattle.plan.specs.Walk.{Linked, Hop, Chain, Walk, Pair, cost_of, nowhere}
use Rattle.plan.specs.Sound.{Sound}
use Rattle.plan.proofs.Paired.{length-paired, get_or-paired}
use Rattle.plan.proofs.Walks.{chain_append}
use Rattle.measure.specs.declared.graph.Graph.{Graph}
use Rattle.measure.specs.declared.graph.Reached.{Reached}
use Rattle.measure.specs.declared.mark.Mark.{Mark}
use Rattle.measure.specs.declared.mark.Mark.TheVariants.{Unknown, Open, Settled}
use Rattle.measure.specs.Distance.{Distance}
use Rattle.measure.specs.Links.{links_of, reached}
use Rattle.measure.specs.Settling.{Reach, Unreached, Near, Final, reaches_of, Entered, known_cost, is_settled, near_of, settled_of, Covers, Improves, Offers, IsOpen, Relaxed, Followed, NoneLeft, Nearest, BestOf}
use Rattle.measure.proofs.Chains.{linked_cost, chain_inside, chain_links, cost_of-append}
use Rattle.measure.proofs.Known.{known_read, mark_set, reaches_size, reaches_within, reaches_none, near_size, settled_size, near_at, settled_at, near_set, settled_set, near_same, settled_same}
use Rattle.measure.proofs.Linking.{all_pair, pair_all}
use Rattle.measure.proofs.Relaxing.{covers_still}

-- how many relays are settled
abbrev pub settled_count : List Bool → ℕ
settled_count settled = count_by (λ b. b) settled

-- The links of the plan are those of the graph.
module _ {C : Type 0} (none : C) (g : Graph C) (p : Plan C) (entered : Entered p g) where
  links_size : length p.links ≡ length g.ends.now
  links_size = ap length entered.links ∙ length-paired link_of g.ends.now g.costs.now g.same

  link_at : (k : ℕ) → k < length g.ends.now → (d : Link C) → get_or p.links k d ≡ link_of (get_or g.ends.now k nowhere) (get_or g.costs.now k none)
  link_at k h d =
      let there : k < length g.costs.now = omega (arith, g.same) in
      ap (λ (ls : List (Link C)). get_or ls k d) entered.links ∙ get_or-paired link_of g.ends.now g.costs.now k nowhere none d h there

  has_at : (k u v : ℕ) → k < length g.ends.now → (get_or g.ends.now k nowhere).from ≡ u → (get_or g.ends.now k nowhere).to ≡ v
      → ContainsAt p.links (plan.link u v (get_or g.costs.now k none))
  has_at k u v h e f = (
    k,
    omega (arith, links_size),
    λ d. link_at k h d ∙ ap (λ (x : ℕ). plan.link x (get_or g.ends.now k nowhere).to (get_or g.costs.now k none)) e ∙ ap (λ (x : ℕ). plan.link u x (get_or g.costs.now k none)) f,
  )

  pair_linked : (k u v : ℕ) → k < length g.ends.now → Pair (get_or g.ends.now k nowhere) u v → Linked p u v (get_or g.costs.now k none)
  pair_linked k u v h (inl e) = inl (has_at k u v h e.0 e.1)
  pair_linked k u v h (inr e) = inr (has_at k v u h e.0 e.1)

  has_pair : (u v : ℕ) (c : C) → ContainsAt p.links (plan.link u v c)
      → (k : ℕ) × (k < length g.ends.now) × (((get_or g.ends.now k nowhere).from ≡ u) × ((get_or g.ends.now k nowhere).to ≡ v)) × (c ≡ get_or g.costs.now k none)
  has_pair u v c (k, h, at) =
      let below : k < length g.ends.now = omega (arith, links_size, h) in
      let is : link_of (get_or g.ends.now k nowhere) (get_or g.costs.now k none) ≡ plan.link u v c = sym (link_at k below (plan.link u v c)) ∙ at (plan.link u v c) in
      (k, below, (ap (λ (l : Link C). l.from) is, ap (λ (l : Link C). l.to) is), sym (ap (λ (l : Link C). l.cost) is))

  linked_pair : (u v : ℕ) (c : C) → Linked p u v c → (k : ℕ) × (k < length g.ends.now) × Pair (get_or g.ends.now k nowhere) u v × (c ≡ get_or g.costs.now k none)
  linked_pair u v c (inl h) = let (k, l, e, f) = has_pair u v c h in (k, l, inl e, f)
  linked_pair u v c (inr h) = let (k, l, e, f) = has_pair v u c h in (k, l, inr e, f)

  -- a link of the plan is a link at its ends
  pub leads_linked : (u x : ℕ) (w : C) → Contains (links_of g u) (reached x w) → Linked p u x w
  leads_linked u x w h =
      let (j, l, pair, e) = all_pair u x none g.ends.now g.costs.now w h in
      subst (λ (c : C). Linked p u x c) (sym e) (pair_linked j u x l pair)

  pub linked_leads : (u x : ℕ) (w : C) → Linked p u x w → Contains (links_of g u) (reached x w)
  linked_leads u x w linked =
      let (j, l, pair, e) = linked_pair u x w linked in
      subst (λ (c : C). Contains (links_of g u) (reached x c)) (sym e)
      (pair_all u x none g.ends.now g.costs.now j l (omega (arith, g.same)) pair)

module _ {C : Type 0} (K : CostKind C) (s : ℕ) (p : Plan C) where
  -- a walk from the source to x of at most m links, of cost c
  pub record Way (m x : ℕ) (c : C) : Type 0 where
    pub hops : List (Hop C)
    pub chain : Chain p s hops x
    pub costs : cost_of K hops ≡ c
    pub short : length hops ≤ m

  -- x is settled: no link from it offers less than what is known, and what is known of open relays is not less
  pub record Shut (near : List (Option C)) (settled : List Bool) (x : ℕ) : Type 0 where
    pub cost : C
    pub known : get_or near x None ≡ Some cost
    pub tight : (y : ℕ) (w : C) → Linked p x y w → Covers K (get_or near y None) (K.plus cost w)
    pub first : (y : ℕ) (c : C) → IsOpen settled y → get_or near y None ≡ Some c → AtMost K cost c

  -- what holds while costs spread from the source
  pub record Spreading (near : List (Option C)) (settled : List Bool) : Type 0 where
    pub source : get_or near s None ≡ Some K.none
    pub ways : (x : ℕ) (c : C) → get_or near x None ≡ Some c → Way (settled_count settled) x c
    pub shut : (x : ℕ) → get_or settled x false ≡ true → Shut near settled x

-- the nearest relay is marked as settled
pub marked : {C : Type 0} {K : CostKind C} (marks : List Mark) (row : List C) (n : ℕ) (t : Reached C)
    → BestOf K (near_of (reaches_of marks row)) (settled_of (reaches_of marks row)) n (Some t)
    → reaches_of (set marks t.relay Settled) row ≡ set (reaches_of marks row) t.relay (Final t.cost)
marked marks row n t best =
    let read : get_or row t.relay t.cost ≡ t.cost = known_read marks row t.relay t.cost t.cost (sym (near_at (reaches_of marks row) t.relay) ∙ best.cost) in
    mark_set marks row t.relay Settled t.cost ∙ ap (λ c. set (reaches_of marks row) t.relay (Final c)) read

module _ {C : Type 0} {K : CostKind C}
    (laws : Laws K) (g : Graph C) (s : ℕ) (p : Plan C) where
  abbrev AWay : ℕ → ℕ → C → Type 0
  AWay m x c = Way K s p m x c

  abbrev IsShut : List (Option C) → List Bool → ℕ → Type 0
  IsShut near settled x = Shut K s p near settled x

  abbrev Spreads : List (Option C) → List Bool → Type 0
  Spreads near settled = Spreading K s p near settled

  -- at first only the source is known
  spreading_none : (near : List (Option C)) (settled : List Bool) (z : C) (i : ℕ) → i ≡ s → z ≡ K.none → s < length near
      → ((x : ℕ) → get_or near x None ≡ None) → ((x : ℕ) → get_or settled x false ≡ false) → Spreads (set near i (Some z)) settled
  spreading_none near settled z i at zero_cost h unknown unsettled = record {
    source = here;
    ways = λ x c e. way x c e (cases_eq x i);
    shut = λ x e. absurd (both_ways (get_or settled x false) (unsettled x) e);
  }
    where
      here : get_or (set near i (Some z)) s None ≡ Some K.none
      here = ap (λ (k : ℕ). get_or (set near i (Some z)) k None) (sym at) ∙ get_or-set_same near i (Some z) None (omega arith) ∙ ap Some zero_cost

      way : (x : ℕ) (c : C) → get_or (set near i (Some z)) x None ≡ Some c → (x ≡ i) ⊎ (x ≡ i → ⊥) → AWay (settled_count settled) x c
      way x c e (inl q) = record {
        hops = [];
        chain = sym (q ∙ at);
        costs = same_Some K.none c (sym here ∙ ap (λ (k : ℕ). get_or (set near i (Some z)) k None) (sym (q ∙ at)) ∙ e);
        short = omega arith;
      }
      way x c e (inr ne) = absurd (none-some c (sym (unknown x) ∙ sym (get_or-set_other near i x (Some z) None ne) ∙ e))

  pub first_known : (reaches : List (Reach C)) (z : C) → z ≡ K.none → s < length reaches → ((x : ℕ) → get_or reaches x Unreached ≡ Unreached)
      → Spreads (near_of (set reaches s (Near z))) (settled_of (set reaches s (Near z)))
  first_known reaches z zero_cost within unknown =
      subst (λ (near : List (Option C)). Spreads near (settled_of (set reaches s (Near z)))) (sym (near_set reaches s (Near z)))
      (subst (λ (settled : List Bool). Spreads (set (near_of reaches) s (Some z)) settled) (sym (settled_same reaches s (Near z) (ap is_settled (sym (unknown s)))))
      (spreading_none (near_of reaches) (settled_of reaches) z s refl zero_cost (omega (arith, near_size reaches))
      (λ x. near_at reaches x ∙ ap known_cost (unknown x)) (λ x. settled_at reaches x ∙ ap is_settled (unknown x))))

  pub first_marked : (row : List C) → s < 256 → s < length row → get_or row s K.none ≡ K.none
      → Spreads (near_of (reaches_of (set (replicate 256 Unknown) s Open) row)) (settled_of (reaches_of (set (replicate 256 Unknown) s Open) row))
  first_marked row few within zero_cost =
      let marked_there : s < length {A = Mark} (replicate 256 Unknown) = omega (arith, length-replicate {A = Mark} 256 Unknown) in
      subst (λ (reaches : List (Reach C)). Spreads (near_of reaches) (settled_of reaches)) (sym (mark_set (replicate 256 Unknown) row s Open K.none))
      (first_known (reaches_of (replicate 256 Unknown) row) (get_or row s K.none) zero_cost
      (reaches_within (replicate 256 Unknown) row s marked_there within) (reaches_none 256 row))

  module _ (entered : Entered p g) (sound : Sound K p) (inside : s < g.relays) where
    -- a walk leads to a relay, and what it costs is a sum of as many links
    way_inside : (m x : ℕ) (c : C) → AWay m x c → x < g.relays
    way_inside m x c w = let h : x < length p.relays = chain_inside p sound s x w.hops (omega (arith, entered.relays)) w.chain in omega (arith, entered.relays)

    way_sum : (m x : ℕ) (c : C) → AWay m x c → SumOf K m c
    way_sum m x c w = record {
      parts = map (λ h. h.cost) w.hops;
      links = chain_links p sound s x w.hops w.chain;
      few = omega (arith, length-map w.hops (λ (h : Hop C). h.cost), w.short);
      sums = w.costs;
    }

    way_on : (m x y : ℕ) (c w : C) → AWay m x c → Linked p x y w → AWay (m + 1) y (K.plus c w)
    way_on m x y c w way l = record {
      hops = way.hops ++ record { cost = w; to = y } ∷ [];
      chain = chain_append p s x y way.hops (record { cost = w; to = y } ∷ []) way.chain (l, refl);
      costs = cost_of-append laws way.hops (record { cost = w; to = y } ∷ []) ∙ ap (λ (a : C). K.plus a (K.plus w K.none)) way.costs ∙ ap (K.plus c) (neutral_right laws w);
      short = omega (arith, way.short, length-append way.hops (record { cost = w; to = y } ∷ []));
    }

    way_more : (m k x : ℕ) (c : C) → m ≤ k → AWay m x c → AWay k x c
    way_more m k x c h w = record { hops = w.hops; chain = w.chain; costs = w.costs; short = omega (arith, w.short) }

    -- the next relay is settled
    module _ (near near' : List (Option C)) (settled : List Bool) (t : ℕ) (c : C) (size : length settled ≡ g.relays)
        (spreading : Spreads near settled) (next : Nearest K near settled g.relays t c) (relaxed : Relaxed K (set settled t true) (Offers K c (links_of g t)) near near') where
      abbrev settled' : List Bool
      settled' = set settled t true

      abbrev Offered : ℕ → C → Type 0
      Offered x d = Offers K c (links_of g t) x d

      reach : t < length settled
      reach = omega (arith, next.relay)

      count_more : settled_count settled' ≡ settled_count settled + 1
      count_more =
          let f : Bool → ℕ = λ b. cond b 1 0 in
          let changed : settled_count settled' + f (get_or settled t false) ≡ settled_count settled + 1 = sum_by-set f settled t true false reach in
          let was : f (get_or settled t false) ≡ 0 = ap f next.open' in
          omega (arith, changed, was)

      count_few : settled_count settled ≤ 256
      count_few = omega (arith, count_by-le-length (λ (b : Bool). b) settled, g.few)

      way_here : AWay (settled_count settled) t c
      way_here = spreading.ways t c next.cost

      exact : (w : C) → IsLink K w → K.adds c w ≡ K.plus c w
      exact w h = laws.exact (settled_count settled) 1 c w (way_sum (settled_count settled) t c way_here) (sum_link laws w h) (omega (arith, count_few))

      -- what is offered is the cost over a link
      offered_over : (x : ℕ) (d : C) → Offered x d → (w : C) × Linked p t x w × IsLink K w × (d ≡ K.plus c w)
      offered_over x d (w, leads, e) =
          let linked : Linked p t x w = leads_linked K.none g p entered t x w leads in
          let lawful : IsLink K w = linked_cost p sound t x w linked in
          (w, linked, lawful, e ∙ exact w lawful)

      -- an offer is above the cost of the settled relay, and no less than what is at most that
      above : (x : ℕ) (d b : C) → Offered x d → AtMost K b c → AtMost K b d
      above x d b o h = by (offered_over x d o)
        where
          by : (w : C) × Linked p t x w × IsLink K w × (d ≡ K.plus c w) → AtMost K b d
          by (w, l, k, e) = subst (λ (a : C). AtMost K b a) (sym e) (le_trans laws b c (K.plus c w) h (le-plus_right laws c w))

      -- what is at most c stays as it is
      stays : (x : ℕ) (b : C) → get_or near x None ≡ Some b → AtMost K b c → get_or near' x None ≡ Some b
      stays x b e h = by (relaxed.from x)
        where
          by : (get_or near' x None ≡ get_or near x None) ⊎ ((d : C) × Offered x d × (get_or near' x None ≡ Some d) × Improves K (get_or near x None) d) → get_or near' x None ≡ Some b
          by (inl q) = q ∙ e
          by (inr (d, o, q, l)) = absurd (above x d b o h (subst (λ (m : Option C). Improves K m d) e l))

      -- what is known of a relay that is still open is no less than what was at most all of it
      later : (b : C) → AtMost K b c → ((y : ℕ) (d : C) → IsOpen settled y → get_or near y None ≡ Some d → AtMost K b d)
          → (y : ℕ) (d : C) → IsOpen settled y → get_or near' y None ≡ Some d → AtMost K b d
      later b h first y d o e = by (relaxed.from y)
        where
          by : (get_or near' y None ≡ get_or near y None) ⊎ ((a : C) × Offered y a × (get_or near' y None ≡ Some a) × Improves K (get_or near y None) a) → AtMost K b d
          by (inl q) = first y d o (sym q ∙ e)
          by (inr (a, off, q, l)) = subst (λ (z : C). AtMost K b z) (same_Some a d (sym q ∙ e)) (above y a b off h)

      open_still : (y : ℕ) → IsOpen settled' y → IsOpen settled y
      open_still y o = by (cases_eq y t)
        where
          by : (y ≡ t) ⊎ (y ≡ t → ⊥) → IsOpen settled y
          by (inl e) = absurd (true≢false (sym (get_or-set_same settled t true false reach) ∙ ap (λ (z : ℕ). get_or settled' z false) (sym e) ∙ o))
          by (inr ne) = sym (get_or-set_other settled t y true false ne) ∙ o

      shut_here : IsShut near' settled' t
      shut_here = record {
        cost = c;
        known = stays t c next.cost (le_refl laws c);
        tight = tight;
        first = λ y d o e. later c (le_refl laws c) least y d (open_still y o) e;
      }
        where
          least : (y : ℕ) (d : C) → IsOpen settled y → get_or near y None ≡ Some d → AtMost K c d
          least y d o e = next.least y d (way_inside (settled_count settled) y d (spreading.ways y d e)) o e

          tight : (y : ℕ) (w : C) → Linked p t y w → Covers K (get_or near' y None) (K.plus c w)
          tight y w l =
              let lawful : IsLink K w = linked_cost p sound t y w l in
              by (cases_Bool (get_or settled' y false)) (w, linked_leads K.none g p entered t y w l, sym (exact w lawful))
            where
              -- a settled relay costs no more than this one
              before : get_or settled' y false ≡ true → (b : C) × (get_or near y None ≡ Some b) × AtMost K b c
              before e = which (cases_eq y t)
                where
                  which : (y ≡ t) ⊎ (y ≡ t → ⊥) → (b : C) × (get_or near y None ≡ Some b) × AtMost K b c
                  which (inl at) = (c, ap (λ (z : ℕ). get_or near z None) at ∙ next.cost, le_refl laws c)
                  which (inr ne) =
                      let sh = spreading.shut y (sym (get_or-set_other settled t y true false ne) ∙ e) in
                      (sh.cost, sh.known, sh.first t c next.open' next.cost)

              by : (get_or settled' y false ≡ true) ⊎ (get_or settled' y false ≡ false) → Offered y (K.plus c w) → Covers K (get_or near' y None) (K.plus c w)
              by (inl e) o =
                  let (b, known, low) = before e in
                  subst (λ (m : Option C). Covers K m (K.plus c w)) (sym (stays y b known low)) (le_trans laws b c (K.plus c w) low (le-plus_right laws c w))
              by (inr e) o = relaxed.covers y (K.plus c w) e o

      shut_still : (x : ℕ) → IsShut near settled x → IsShut near' settled' x
      shut_still x sh =
          let low : AtMost K sh.cost c = sh.first t c next.open' next.cost in
          record {
            cost = sh.cost;
            known = stays x sh.cost sh.known low;
            tight = λ y w l. covers_still laws settled' Offered near near' relaxed y (K.plus sh.cost w) (sh.tight y w l);
            first = λ y d o e. later sh.cost low sh.first y d (open_still y o) e;
          }

      pub settle : Spreads near' settled'
      settle = record { source = source; ways = λ x d e. way x d e (relaxed.from x); shut = λ x e. closed x e (cases_eq x t) }
        where
          source : get_or near' s None ≡ Some K.none
          source = stays s K.none spreading.source (laws.least c)

          way : (x : ℕ) (d : C) → get_or near' x None ≡ Some d
              → (get_or near' x None ≡ get_or near x None) ⊎ ((a : C) × Offered x a × (get_or near' x None ≡ Some a) × Improves K (get_or near x None) a)
              → AWay (settled_count settled') x d
          way x d e (inl q) = way_more (settled_count settled) (settled_count settled') x d (omega (arith, count_more)) (spreading.ways x d (sym q ∙ e))
          way x d e (inr (a, o, q, l)) = by (offered_over x a o)
            where
              by : (w : C) × Linked p t x w × IsLink K w × (a ≡ K.plus c w) → AWay (settled_count settled') x d
              by (w, k, lawful, f) =
                  subst (λ (z : C). AWay (settled_count settled') x z) (sym f ∙ same_Some a d (sym q ∙ e))
                  (way_more (settled_count settled + 1) (settled_count settled') x (K.plus c w) (omega (arith, count_more)) (way_on (settled_count settled) t x c w way_here k))

          closed : (x : ℕ) → get_or settled' x false ≡ true → (x ≡ t) ⊎ (x ≡ t → ⊥) → IsShut near' settled' x
          closed x e (inl q) = subst (λ (z : ℕ). IsShut near' settled' z) (sym q) shut_here
          closed x e (inr ne) = shut_still x (spreading.shut x (sym (get_or-set_other settled t x true false ne) ∙ e))

    -- where none is left, what is known are the distances
    module _ (near : List (Option C)) (settled : List Bool) (spreading : Spreads near settled) (done : NoneLeft near settled g.relays) where
      all_shut : (x : ℕ) (c : C) → get_or near x None ≡ Some c → IsShut near settled x
      all_shut x c e = by (cases_Bool (get_or settled x false))
        where
          by : (get_or settled x false ≡ true) ⊎ (get_or settled x false ≡ false) → IsShut near settled x
          by (inl q) = spreading.shut x q
          by (inr q) = absurd (none-some c (sym (done x (way_inside (settled_count settled) x c (spreading.ways x c e)) q) ∙ e))

      covered : (o : Option C) (c : C) → Covers K o c → (b : C) × (o ≡ Some b) × AtMost K b c
      covered None c h = absurd h
      covered (Some b) c h = (b, refl, h)

      tight_at : (x : ℕ) (b : C) → get_or near x None ≡ Some b → (y : ℕ) (w : C) → Linked p x y w → Covers K (get_or near y None) (K.plus b w)
      tight_at x b e y w l =
          let sh : IsShut near settled x = all_shut x b e in
          subst (λ (z : C). Covers K (get_or near y None) (K.plus z w)) (same_Some sh.cost b (sym sh.known ∙ e)) (sh.tight y w l)

      -- along a chain no more is known than the sum
      along : (x y : ℕ) (b : C) (hs : List (Hop C)) → get_or near x None ≡ Some b → Chain p x hs y
          → (d : C) × (get_or near y None ≡ Some d) × AtMost K d (K.plus b (cost_of K hs))
      along x y b [] e ch = (b, ap (λ (z : ℕ). get_or near z None) (sym ch) ∙ e, le_of_eq laws b (K.plus b K.none) (sym (neutral_right laws b)))
      along x y b (h ∷ hs) e ch =
          let (a, q, l) = covered (get_or near h.to None) (K.plus b h.cost) (tight_at x b e h.to h.cost ch.0) in
          let (d, f, m) = along h.to y a hs q ch.1 in (
            d,
            f,
            subst (λ (z : C). AtMost K d z) (laws.assoc b h.cost (cost_of K hs))
                (le_trans laws d (K.plus a (cost_of K hs)) (K.plus (K.plus b h.cost) (cost_of K hs)) m (plus-le_right laws a (K.plus b h.cost) (cost_of K hs) l)),
          )

      from_source : (x : ℕ) (hs : List (Hop C)) → Chain p s hs x → (d : C) × (get_or near x None ≡ Some d) × AtMost K d (cost_of K hs)
      from_source x hs ch =
          let (d, e, l) = along s x K.none hs spreading.source ch in
          (d, e, subst (λ (z : C). AtMost K d z) (laws.neutral (cost_of K hs)) l)

      pub distances : (x : ℕ) → Walk p s x → (c : C) × (get_or near x None ≡ Some c) × Distance K p s x c
      distances x w =
          let (c, e, l) = from_source x w.hops w.chain in
          let way = spreading.ways x c e in (
            c,
            e,
            record {
              walk = record { hops = way.hops; chain = way.chain };
              costs = way.costs;
              least = λ v. least c e v;
            },
          )
        where
          least : (c : C) → get_or near x None ≡ Some c → (v : Walk p s x) → AtMost K c (cost_of K v.hops)
          least c e v =
              let (d, f, l) = from_source x v.hops v.chain in
              subst (λ (z : C). AtMost K z (cost_of K v.hops)) (same_Some d c (sym f ∙ e)) l

    -- one relay is settled, and its links are followed
    pub settled_next : (old new : List (Reach C)) (t : Reached C) → length old ≡ g.relays → Spreads (near_of old) (settled_of old)
        → BestOf K (near_of old) (settled_of old) (length old) (Some t) → Followed K t.cost (links_of g t.relay) (set old t.relay (Final t.cost)) new
        → Spreads (near_of new) (settled_of new)
    settled_next old new t size spreading best followed =
        let next : Nearest K (near_of old) (settled_of old) g.relays t.relay t.cost = subst (λ (n : ℕ). Nearest K (near_of old) (settled_of old) n t.relay t.cost) size best in
        let near : near_of (set old t.relay (Final t.cost)) ≡ near_of old = near_same old t.relay (Final t.cost) (sym next.cost ∙ near_at old t.relay) in
        let marks : settled_of (set old t.relay (Final t.cost)) ≡ set (settled_of old) t.relay true = settled_set old t.relay (Final t.cost) in
        subst (λ (settled : List Bool). Spreads (near_of new) settled) (sym (followed.settled ∙ marks))
        (settle (near_of old) (near_of new) (settled_of old) t.relay t.cost (settled_size old ∙ size) spreading next
        (subst (λ (settled : List Bool). Relaxed K settled (Offers K t.cost (links_of g t.relay)) (near_of old) (near_of new)) marks
        (subst (λ (m : List (Option C)). Relaxed K (settled_of (set old t.relay (Final t.cost))) (Offers K t.cost (links_of g t.relay)) m (near_of new)) near followed.relaxed)))

    pub settled_mark : (marks : List Mark) (row : List C) (new : List (Reach C)) (t : Reached C) → g.relays ≤ length marks → length row ≡ g.relays
        → Spreads (near_of (reaches_of marks row)) (settled_of (reaches_of marks row))
        → BestOf K (near_of (reaches_of marks row)) (settled_of (reaches_of marks row)) (length row) (Some t)
        → Followed K t.cost (links_of g t.relay) (reaches_of (set marks t.relay Settled) row) new
        → Spreads (near_of new) (settled_of new)
    settled_mark marks row new t many size spreading best followed =
        let old : List (Reach C) = reaches_of marks row in
        let long : length old ≡ length row = reaches_size marks row (omega arith) in
        settled_next old new t (long ∙ size) spreading (subst (λ (n : ℕ). BestOf K (near_of old) (settled_of old) n (Some t)) (sym long) best)
        (subst (λ (mid : List (Reach C)). Followed K t.cost (links_of g t.relay) mid new) (marked marks row (length row) t best) followed)

    -- where none is left, the row has the distances
    pub all_distances : (marks : List Mark) (row : List C) → g.relays ≤ length marks → length row ≡ g.relays → Spreads (near_of (reaches_of marks row)) (settled_of (reaches_of marks row))
        → NoneLeft (near_of (reaches_of marks row)) (settled_of (reaches_of marks row)) (length row)
        → (x : ℕ) → Walk p s x → Distance K p s x (get_or row x K.none)
    all_distances marks row many size spreading done x w =
        let reaches = reaches_of marks row in
        let (c, known, m) = distances (near_of reaches) (settled_of reaches) spreading (subst (λ (n : ℕ). NoneLeft (near_of reaches) (settled_of reaches) n) size done) x w in
        subst (λ (b : C). Distance K p s x b) (sym (known_read marks row x c K.none (sym (near_at reaches x) ∙ known))) m

-- fewer relays are open
pub settle_falls : {C : Type 0} (reaches : List (Reach C)) (t : ℕ) (c : C) → t < length reaches → IsOpen (settled_of reaches) t
    → count_by not (settled_of (set reaches t (Final c))) < count_by not (settled_of reaches)
settle_falls reaches t c h open_here =
    let f : Bool → ℕ = λ b. cond (not b) 1 0 in
    let there : t < length (settled_of reaches) = omega (arith, settled_size reaches) in
    let changed : count_by not (set (settled_of reaches) t true) + f (get_or (settled_of reaches) t false) ≡ count_by not (settled_of reaches) + 0 =
    sum_by-set f (settled_of reaches) t true false there in
    let was : f (get_or (settled_of reaches) t false) ≡ 1 = ap f open_here in
    let same : count_by not (settled_of (set reaches t (Final c))) ≡ count_by not (set (settled_of reaches) t true) = ap (count_by not) (settled_set reaches t (Final c)) in
    omega (arith, changed, was, same)

pub mark_falls : {C : Type 0} {K : CostKind C} (marks : List Mark) (row : List C) (new : List (Reach C)) (n : ℕ) (t : Reached C) (links : List (Reached C))
    → n ≤ length marks → length row ≡ n → BestOf K (near_of (reaches_of marks row)) (settled_of (reaches_of marks row)) (length row) (Some t)
    → Followed K t.cost links (reaches_of (set marks t.relay Settled) row) new
    → count_by not (settled_of new) < count_by not (settled_of (reaches_of marks row))
mark_falls marks row new n t links many size best followed =
    let long : length (reaches_of marks row) ≡ length row = reaches_size marks row (omega arith) in
    let inside : t.relay < length row = best.relay in
    subst (λ (settled : List Bool). count_by not settled < count_by not (settled_of (reaches_of marks row)))
    (sym (followed.settled ∙ ap settled_of (marked marks row (length row) t best)))
    (settle_falls (reaches_of marks row) t.relay t.cost (omega arith) best.open')
