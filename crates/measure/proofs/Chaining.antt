-- The links of each relay, one link more.
use Rattle.std.proofs.Common.{◌≡◌, ℕ, zero, suc, ◌+◌, ◌<◌, ◌≤◌, ◌⊎◌, List, [], ◌∷◌, ◌++◌, append_assoc, map, length, get_or, set, replicate, refl, sym, ap, ◌∙◌, subst, inl, inr, arith}
use Rattle.std.proofs.lemmas.List.{get_or-set_same, get_or-set_other, length-set, length-map, length-append, get_or_at, get_or-replicate}
use Rattle.std.proofs.lemmas.Bool.{cases_eq}
use Rattle.plan.specs.declared.ends.Ends.{Ends}
use Rattle.plan.specs.Walk.{nowhere}
use Rattle.std.specs.List.{AllByRecursion}
use Rattle.plan.specs.Plan.{Plan, Link, ends_of, costs_of}
use Rattle.plan.specs.Sound.{AreRelays}
use Rattle.plan.specs.Reach.{Within}
use Rattle.measure.specs.declared.incidence.Incidence.{Incidence}
use Rattle.measure.specs.Incidence.{EndsAt, Skips, Chained, Incident}

-- the first link of a relay, as the code reads it
pub first_skips : (es : List Ends) (t : Incidence) (u j : ℕ) → j ≡ get_or t.first u 0 → u < 256 → Incident es t → Skips es u 0 j
first_skips es t u j e h all = subst (λ (i : ℕ). Skips es u 0 i) (sym e) (all.heads u h)

-- as many as there are links
pub ends_size : {C : Type 0} (p : Plan C) → length (ends_of p) ≡ length p.links
ends_size {C} p = length-map p.links (λ (l : Link C). record { from = l.from; to = l.to })

-- the ends of a plan whose links end at relays
pub within_plan : {C : Type 0} (p : Plan C) → AreRelays p → Within (ends_of p) (length p.relays)
within_plan p tied k h = within_links p.links (length p.relays) tied k h
  where
    within_links : {C : Type 0} (links : List (Link C)) (n : ℕ) → AllByRecursion (λ l. (l.from < n) × (l.to < n)) links
        → Within (map (λ l. record { from = l.from; to = l.to }) links) n
    within_links [] n h k l = absurd (omega arith)
    within_links (x ∷ xs) n h zero l = h.0
    within_links (x ∷ xs) n h (suc k) l = within_links xs n h.1 k (omega arith)

-- and so they are below 256
pub small_ends : {C : Type 0} (p : Plan C) (k : ℕ) → AreRelays p → length p.relays ≤ 256 → k < length p.links
    → ((get_or (ends_of p) k nowhere).from < 256) × ((get_or (ends_of p) k nowhere).to < 256)
small_ends p k tied few h =
    let inside = within_plan p tied k (omega (arith, ends_size p)) in
    (omega (arith, inside.0), omega (arith, inside.1))

pub costs_size : {C : Type 0} (p : Plan C) → length (costs_of p) ≡ length p.links
costs_size {C} p = length-map p.links (λ (l : Link C). l.cost)

-- before the last link
pub chained_none : (es : List Ends) (from to : List ℕ) (n : ℕ) → n ≡ length es → Chained es (replicate 256 n) from to n
chained_none es from to n e = record {
  heads = λ u h. subst (λ (j : ℕ). Skips es u n j) (sym (get_or-replicate 256 u n 0 h)) (record { least = omega arith; place = record { most = omega arith; here = λ l. absurd (omega arith) }; none = λ i l m. absurd (omega arith) });
  froms = λ j l m. absurd (omega arith);
  tos = λ j l m. absurd (omega arith);
}

-- the last of the ends that are left stands in the place that their number says
pub last_left : (left fewer es : List Ends) (e : Ends) → left ≡ fewer ++ (e ∷ []) → (after : List Ends) × (left ++ after ≡ es)
    → (after : List Ends) × (fewer ++ after ≡ es) × (get_or es (length fewer) nowhere ≡ e) × (length fewer < length es)
last_left left fewer es e is (after, whole) =
    let all : fewer ++ (e ∷ after) ≡ es = sym (append_assoc fewer (e ∷ []) after) ∙ ap (λ (xs : List Ends). xs ++ after) (sym is) ∙ whole in
    let long : length (fewer ++ (e ∷ after)) ≡ length es = ap length all in (
      e ∷ after,
      all,
      ap (λ (xs : List Ends). get_or xs (length fewer) nowhere) (sym all) ∙ get_or_at fewer e after nowhere (length fewer) refl,
      omega (arith, long, length-append fewer (e ∷ after)),
    )

module _ (es : List Ends) (first from to : List ℕ) (k u v : ℕ) (is_from : u ≡ (get_or es k nowhere).from) (is_to : v ≡ (get_or es k nowhere).to) (here : k < length es) where
  -- the link ends at u and v alone
  elsewhere : (w : ℕ) → (w ≡ u → ⊥) → (w ≡ v → ⊥) → EndsAt (get_or es k nowhere) w → ⊥
  elsewhere w a b p = b (sym (p (λ e. a (sym e ∙ sym is_from))) ∙ sym is_to)

  skips_here : (w : ℕ) → EndsAt (get_or es k nowhere) w → Skips es w k k
  skips_here w at = record { least = omega arith; place = record { most = omega arith; here = λ l. at }; none = λ i l m. absurd (omega arith) }

  skips_one : (w j : ℕ) → (w ≡ u → ⊥) → (w ≡ v → ⊥) → Skips es w (k + 1) j → Skips es w k j
  skips_one w j a b s = record { least = omega (arith, s.least); place = s.place; none = λ i l m p. by i l m p (cases_eq i k) }
    where
      by : (i : ℕ) → k ≤ i → i < j → EndsAt (get_or es i nowhere) w → (i ≡ k) ⊎ (i ≡ k → ⊥) → ⊥
      by i l m p (inl e) = elsewhere w a b (subst (λ (z : ℕ). EndsAt (get_or es z nowhere) w) e p)
      by i l m p (inr ne) = s.none i (omega arith) m p

  -- one link more, at the front
  pub chained_more : u < length first → v < length first → k < length from → k < length to → u < 256 → v < 256 → (m : ℕ) → m ≡ k + 1 → Chained es first from to m
      → Chained es (set (set first u k) v k) (set from k (get_or first u 0)) (set to k (get_or first v 0)) k
  chained_more in_u in_v in_from in_to small_u small_v m after before = record {
    heads = λ w h. head w h (cases_eq w v) (cases_eq w u);
    froms = λ j l h. at_from j l h (cases_eq j k);
    tos = λ j l h. at_to j l h (cases_eq j k);
  }
    where
      old : Chained es first from to (k + 1)
      old = subst (λ (j : ℕ). Chained es first from to j) after before

      head : (w : ℕ) → w < 256 → (w ≡ v) ⊎ (w ≡ v → ⊥) → (w ≡ u) ⊎ (w ≡ u → ⊥) → Skips es w k (get_or (set (set first u k) v k) w 0)
      head w h (inl e) _ =
          let in_set : v < length (set first u k) = omega (arith, length-set first u k) in
          subst (λ (j : ℕ). Skips es w k j) (sym (ap (λ (z : ℕ). get_or (set (set first u k) v k) z 0) e ∙ get_or-set_same (set first u k) v k 0 in_set)) (skips_here w (λ ne. sym is_to ∙ sym e))
      head w h (inr ne) (inl e) =
          subst (λ (j : ℕ). Skips es w k j)
          (sym (get_or-set_other (set first u k) v w k 0 ne ∙ ap (λ (z : ℕ). get_or (set first u k) z 0) e ∙ get_or-set_same first u k 0 in_u)) (skips_here w (λ ne. absurd (ne (sym is_from ∙ sym e))))
      head w h (inr ne) (inr nu) =
          subst (λ (j : ℕ). Skips es w k j) (sym (get_or-set_other (set first u k) v w k 0 ne ∙ get_or-set_other first u w k 0 nu))
          (skips_one w (get_or first w 0) nu ne (old.heads w h))

      -- the next link at an end of link j
      next : (w : Ends → ℕ) (z : ℕ) (nexts : List ℕ) → z ≡ w (get_or es k nowhere) → z < 256 → k < length nexts
          → ((j : ℕ) → k + 1 ≤ j → j < length es → Skips es (w (get_or es j nowhere)) (j + 1) (get_or nexts j 0))
          → (j : ℕ) → k ≤ j → j < length es → (j ≡ k) ⊎ (j ≡ k → ⊥) → Skips es (w (get_or es j nowhere)) (j + 1) (get_or (set nexts k (get_or first z 0)) j 0)
      next w z nexts is small room was j l m (inl e) =
          subst (λ (i : ℕ). Skips es (w (get_or es i nowhere)) (i + 1) (get_or (set nexts k (get_or first z 0)) i 0)) (sym e)
          (subst (λ (i : ℕ). Skips es (w (get_or es k nowhere)) (k + 1) i) (sym (get_or-set_same nexts k (get_or first z 0) 0 room))
          (subst (λ (y : ℕ). Skips es y (k + 1) (get_or first z 0)) is (old.heads z small)))
      next w z nexts is small room was j l m (inr ne) =
          subst (λ (i : ℕ). Skips es (w (get_or es j nowhere)) (j + 1) i) (sym (get_or-set_other nexts k j (get_or first z 0) 0 ne)) (was j (omega arith) m)

      at_from : (j : ℕ) → k ≤ j → j < length es → (j ≡ k) ⊎ (j ≡ k → ⊥) → Skips es (get_or es j nowhere).from (j + 1) (get_or (set from k (get_or first u 0)) j 0)
      at_from = next (λ e. e.from) u from is_from small_u in_from old.froms

      at_to : (j : ℕ) → k ≤ j → j < length es → (j ≡ k) ⊎ (j ≡ k → ⊥) → Skips es (get_or es j nowhere).to (j + 1) (get_or (set to k (get_or first v 0)) j 0)
      at_to = next (λ e. e.to) v to is_to small_v in_to old.tos
