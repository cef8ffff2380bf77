-- Offers that are taken where they are less than what is known.
use Rattle.std.proofs.Common.{◌≡◌, ℕ, ◌+◌, ◌<◌, Bool, false, ◌⊎◌, List, [], ◌∷◌, ◌++◌, length, get_or, set, Some, None, Option, sym, refl, ap, ◌∙◌, subst, inl, inr, arith}
use Rattle.std.specs.List.{Contains}
use Rattle.std.proofs.lemmas.List.{get_or-set_same, get_or-set_other, set-get_or, length-set}
use Rattle.std.proofs.lemmas.List.Elements.{Contains-push, Contains-push_cases, Contains-append_left}
use Rattle.std.proofs.lemmas.Bool.{cases_eq, true≢false}
use Rattle.kind.specs.Laws.{Laws, AtMost, CostKind, IsLess}
use Rattle.kind.proofs.Sums.{le_of_eq, le_of_less, less-le}
use Rattle.std.proofs.lemmas.Option.{none-some, same_Some}
use Rattle.measure.specs.declared.graph.Reached.{Reached}
use Rattle.measure.specs.declared.mark.Mark.{Mark}
use Rattle.measure.specs.declared.mark.Mark.TheVariants.{Unknown, Open, Settled}
use Rattle.measure.specs.Links.{reached}
use Rattle.measure.specs.Settling.{Reach, Unreached, Near, Final, reach_of, reaches_of, known_cost, is_settled, near_of, settled_of, Covers, Improves, Takes, Offered, Offers, IsOpen, Relaxed, Followed, cost_of_best, BestOf}
use Rattle.measure.proofs.Known.{near_size, near_at, settled_at, near_set, near_same, settled_same, reaches_within, reaches_at, reaches_set}

module _ {C : Type 0} {K : CostKind C}
    (laws : Laws K) where
  improves_trans : (o : Option C) (b c : C) → Improves K o b → IsLess K c b → Improves K o c
  improves_trans None b c h l = tt
  improves_trans (Some a) b c h l = laws.order.trans c b a l h

  covers_improved : (o : Option C) (c d : C) → Covers K o c → Improves K o d → AtMost K d c
  covers_improved None c d h l = absurd h
  covers_improved (Some a) c d h l = le_of_less laws d c (less-le laws d a c l h)

  -- what was at most c still is
  pub covers_still : (settled : List Bool) (Q : ℕ → C → Type 0) (old new : List (Option C)) → Relaxed K settled Q old new → (x : ℕ) (c : C) → Covers K (get_or old x None) c → Covers K (get_or new x None) c
  covers_still settled Q old new r x c h = by (r.from x)
    where
      by : (get_or new x None ≡ get_or old x None) ⊎ ((d : C) × Q x d × (get_or new x None ≡ Some d) × Improves K (get_or old x None) d) → Covers K (get_or new x None) c
      by (inl e) = subst (λ (o : Option C). Covers K o c) (sym e) h
      by (inr (d, q, e, l)) = subst (λ (o : Option C). Covers K o c) (sym e) (covers_improved (get_or old x None) c d h l)

  -- one offer
  module _ (settled : List Bool) (near : List (Option C)) (x : ℕ) (cost : C) where
    offered : x < length near → Improves K (get_or near x None) cost → Relaxed K settled (λ y c. (y ≡ x) × (c ≡ cost)) near (set near x (Some cost))
    offered h better = record { size = length-set near x (Some cost); from = λ y. at y (cases_eq y x); covers = λ y c o q. covered y c q }
      where
        here : get_or (set near x (Some cost)) x None ≡ Some cost
        here = get_or-set_same near x (Some cost) None h

        at : (y : ℕ) → (y ≡ x) ⊎ (y ≡ x → ⊥)
            → (get_or (set near x (Some cost)) y None ≡ get_or near y None) ⊎ ((c : C) × ((y ≡ x) × (c ≡ cost)) × (get_or (set near x (Some cost)) y None ≡ Some c) × Improves K (get_or near y None) c)
        at y (inl e) = inr (cost, (e, refl), ap (λ (z : ℕ). get_or (set near x (Some cost)) z None) e ∙ here, subst (λ (z : ℕ). Improves K (get_or near z None) cost) (sym e) better)
        at y (inr ne) = inl (get_or-set_other near x y (Some cost) None ne)

        covered : (y : ℕ) (c : C) → (y ≡ x) × (c ≡ cost) → Covers K (get_or (set near x (Some cost)) y None) c
        covered y c (e, f) =
            subst (λ (o : Option C). Covers K o c) (sym (ap (λ (z : ℕ). get_or (set near x (Some cost)) z None) e ∙ here)) (le_of_eq laws cost c (sym f))

    declined : (IsOpen settled x → Covers K (get_or near x None) cost) → Relaxed K settled (λ y c. (y ≡ x) × (c ≡ cost)) near near
    declined enough = record {
      size = refl;
      from = λ y. inl refl;
      covers = λ y c o (e, f). subst (λ (z : ℕ). Covers K (get_or near z None) c) (sym e)
          (subst (λ (d : C). Covers K (get_or near x None) d) (sym f) (enough (subst (λ (z : ℕ). IsOpen settled z) e o)));
    }

  -- one offer, to what is known of relay x
  module _ (reaches : List (Reach C)) (x : ℕ) (cost : C) (r : Reach C) (within : x < length reaches) where
    abbrev Outcome : Type 0
    Outcome = (settled_of (set reaches x r) ≡ settled_of reaches)
        × Relaxed K (settled_of reaches) (λ y c. (y ≡ x) × (c ≡ cost)) (near_of reaches) (near_of (set reaches x r))

    -- it was taken, or it changed nothing
    taken : r ≡ Near cost → is_settled (get_or reaches x Unreached) ≡ false → Improves K (known_cost (get_or reaches x Unreached)) cost → Outcome
    taken e unsettled better = (
      settled_same reaches x r (ap is_settled e ∙ sym unsettled),
      subst (λ (near : List (Option C)). Relaxed K (settled_of reaches) (λ y c. (y ≡ x) × (c ≡ cost)) (near_of reaches) near)
          (sym (near_set reaches x r ∙ ap (λ (z : Reach C). set (near_of reaches) x (known_cost z)) e))
          (offered (settled_of reaches) (near_of reaches) x cost (omega (arith, near_size reaches)) (subst (λ (o : Option C). Improves K o cost) (sym (near_at reaches x)) better)),
    )

    left : r ≡ get_or reaches x Unreached → (is_settled (get_or reaches x Unreached) ≡ false → Covers K (known_cost (get_or reaches x Unreached)) cost) → Outcome
    left e enough = (
      settled_same reaches x r (ap is_settled e),
      subst (λ (near : List (Option C)). Relaxed K (settled_of reaches) (λ y c. (y ≡ x) × (c ≡ cost)) (near_of reaches) near) (sym (near_same reaches x r (ap known_cost e)))
          (declined (settled_of reaches) (near_of reaches) x cost
          (λ o. subst (λ (z : Option C). Covers K z cost) (sym (near_at reaches x)) (enough (sym (settled_at reaches x) ∙ o)))),
    )

    pub offer : Takes K (get_or reaches x Unreached) cost r → Outcome
    offer takes = by (get_or reaches x Unreached) refl takes
      where
        by : (old : Reach C) → get_or reaches x Unreached ≡ old → Takes K old cost r → Outcome
        by Unreached e t = taken t (ap is_settled e) (subst (λ (z : Reach C). Improves K (known_cost z) cost) (sym e) tt)
        by (Near b) e (inl t) = taken t.0 (ap is_settled e) (subst (λ (z : Reach C). Improves K (known_cost z) cost) (sym e) t.1)
        by (Near b) e (inr t) = left (t.0 ∙ sym e) (λ u. subst (λ (z : Reach C). Covers K (known_cost z) cost) (sym e) t.1)
        by (Final b) e t = left (t ∙ sym e) (λ u. absurd (true≢false (sym (ap is_settled e) ∙ u)))

  -- offers one after another
  relaxed_none : (settled : List Bool) (Q : ℕ → C → Type 0) (near : List (Option C)) → ((x : ℕ) (c : C) → Q x c → ⊥) → Relaxed K settled Q near near
  relaxed_none settled Q near never = record { size = refl; from = λ x. inl refl; covers = λ x c o q. absurd (never x c q) }

  relaxed_both : (settled : List Bool) (Q R : ℕ → C → Type 0) (a b c : List (Option C)) → Relaxed K settled Q a b → Relaxed K settled R b c → Relaxed K settled (λ x d. Q x d ⊎ R x d) a c
  relaxed_both settled Q R a b c q r = record { size = r.size ∙ q.size; from = λ x. by x (r.from x) (q.from x); covers = covered }
    where
      by : (x : ℕ) → (get_or c x None ≡ get_or b x None) ⊎ ((d : C) × R x d × (get_or c x None ≡ Some d) × Improves K (get_or b x None) d)
          → (get_or b x None ≡ get_or a x None) ⊎ ((d : C) × Q x d × (get_or b x None ≡ Some d) × Improves K (get_or a x None) d)
          → (get_or c x None ≡ get_or a x None) ⊎ ((d : C) × (Q x d ⊎ R x d) × (get_or c x None ≡ Some d) × Improves K (get_or a x None) d)
      by x (inl e) (inl f) = inl (e ∙ f)
      by x (inl e) (inr (d, o, f, l)) = inr (d, inl o, e ∙ f, l)
      by x (inr (d, o, e, l)) (inl f) = inr (d, inr o, e, subst (λ (m : Option C). Improves K m d) f l)
      by x (inr (d, o, e, l)) (inr (d', o', f, l')) =
          inr (d, inr o, e, improves_trans (get_or a x None) d' d l' (subst (λ (m : Option C). Improves K m d) f l))

      covered : (x : ℕ) (d : C) → IsOpen settled x → Q x d ⊎ R x d → Covers K (get_or c x None) d
      covered x d u (inl o) = covers_still settled R b c r x d (q.covers x d u o)
      covered x d u (inr o) = r.covers x d u o

  relaxed_as : (settled : List Bool) (Q R : ℕ → C → Type 0) (a b : List (Option C)) → ((x : ℕ) (c : C) → Q x c → R x c) → ((x : ℕ) (c : C) → R x c → Q x c)
      → Relaxed K settled Q a b → Relaxed K settled R a b
  relaxed_as settled Q R a b to from r = record { size = r.size; from = λ x. by x (r.from x); covers = λ x c u o. r.covers x c u (from x c o) }
    where
      by : (x : ℕ) → (get_or b x None ≡ get_or a x None) ⊎ ((d : C) × Q x d × (get_or b x None ≡ Some d) × Improves K (get_or a x None) d)
          → (get_or b x None ≡ get_or a x None) ⊎ ((d : C) × R x d × (get_or b x None ≡ Some d) × Improves K (get_or a x None) d)
      by x (inl e) = inl e
      by x (inr (d, o, e, l)) = inr (d, to x d o, e, l)

  -- one offer, over marks and a row
  module _ (marks : List Mark) (row : List C) (x : ℕ) (cost known : C) (mark : x < length marks) (cell : x < length row) (read : known ≡ get_or row x known) where
    is : get_or (reaches_of marks row) x Unreached ≡ reach_of (get_or marks x Unknown) known
    is = reaches_at marks row x known mark cell ∙ ap (reach_of (get_or marks x Unknown)) (sym read)

    pub offer_taken : Takes K (reach_of (get_or marks x Unknown) known) cost (Near cost)
        → Offered K x cost (reaches_of marks row) (reaches_of (set marks x Open) (set row x cost))
    offer_taken takes =
        let within : x < length (reaches_of marks row) = reaches_within marks row x mark cell in
        let now : get_or (reaches_of (set marks x Open) (set row x cost)) x Unreached ≡ Near cost =
        ap (λ (rs : List (Reach C)). get_or rs x Unreached) (reaches_set marks row x Open cost) ∙ get_or-set_same (reaches_of marks row) x (Near cost) Unreached within in (
          subst (λ (r : Reach C). Takes K r cost (get_or (reaches_of (set marks x Open) (set row x cost)) x Unreached)) (sym is)
              (subst (λ (r : Reach C). Takes K (reach_of (get_or marks x Unknown) known) cost r) (sym now) takes),
          reaches_set marks row x Open cost ∙ ap (λ (r : Reach C). set (reaches_of marks row) x r) (sym now),
        )

    pub offer_left : Takes K (reach_of (get_or marks x Unknown) known) cost (reach_of (get_or marks x Unknown) known)
        → Offered K x cost (reaches_of marks row) (reaches_of marks row)
    offer_left takes = (
      subst (λ (r : Reach C). Takes K r cost r) (sym is) takes,
      sym (set-get_or (reaches_of marks row) x Unreached),
    )

  -- no link was followed yet
  pub followed_none : (cost : C) (reaches : List (Reach C)) → Followed K cost [] reaches reaches
  followed_none cost reaches =
      record { settled = refl; relaxed = relaxed_none (settled_of reaches) (Offers K cost []) (near_of reaches) (λ x c (w, (k, l, e), f). omega arith) }

  followed_set : (cost : C) (links : List (Reached C)) (l : Reached C) (old mid : List (Reach C)) (r : Reach C) → l.relay < length mid
      → Takes K (get_or mid l.relay Unreached) (K.adds cost l.cost) r → Followed K cost links old mid → Followed K cost (links ++ l ∷ []) old (set mid l.relay r)
  followed_set cost links l old mid r within takes before =
      let now = offer mid l.relay (K.adds cost l.cost) r within takes in
      let one : Relaxed K (settled_of old) (λ y c. (y ≡ l.relay) × (c ≡ K.adds cost l.cost)) (near_of mid) (near_of (set mid l.relay r)) =
      subst (λ (settled : List Bool). Relaxed K settled (λ y c. (y ≡ l.relay) × (c ≡ K.adds cost l.cost)) (near_of mid) (near_of (set mid l.relay r))) before.settled now.1 in
      record {
        settled = now.0 ∙ before.settled;
        relaxed = relaxed_as (settled_of old) (λ x c. Offers K cost links x c ⊎ ((x ≡ l.relay) × (c ≡ K.adds cost l.cost))) (Offers K cost (links ++ l ∷ [])) (near_of old) (near_of (set mid l.relay r)) to from
            (relaxed_both (settled_of old) (Offers K cost links) (λ x c. (x ≡ l.relay) × (c ≡ K.adds cost l.cost)) (near_of old) (near_of mid) (near_of (set mid l.relay r)) before.relaxed one);
      }
    where
      to : (x : ℕ) (c : C) → Offers K cost links x c ⊎ ((x ≡ l.relay) × (c ≡ K.adds cost l.cost)) → Offers K cost (links ++ l ∷ []) x c
      to x c (inl (w, h, e)) = (w, Contains-append_left links (l ∷ []) (reached x w) h, e)
      to x c (inr (e, f)) = (l.cost, subst (λ (y : ℕ). Contains (links ++ l ∷ []) (reached y l.cost)) (sym e) (Contains-push links l), f)

      from : (x : ℕ) (c : C) → Offers K cost (links ++ l ∷ []) x c → Offers K cost links x c ⊎ ((x ≡ l.relay) × (c ≡ K.adds cost l.cost))
      from x c (w, h, e) = by (Contains-push_cases links l (reached x w) h)
        where
          by : Contains links (reached x w) ⊎ (l ≡ reached x w) → Offers K cost links x c ⊎ ((x ≡ l.relay) × (c ≡ K.adds cost l.cost))
          by (inl there) = inl (w, there, e)
          by (inr same) = inr (ap (λ (z : Reached C). z.relay) (sym same), e ∙ ap (λ (z : Reached C). K.adds cost z.cost) (sym same))

  -- one link more was followed
  pub followed_more : (cost : C) (links : List (Reached C)) (l : Reached C) (c : C) (old mid new : List (Reach C)) → l.relay < length mid → c ≡ K.adds cost l.cost
      → Offered K l.relay c mid new → Followed K cost links old mid → Followed K cost (links ++ l ∷ []) old new
  followed_more cost links l c old mid new within sum offered before =
      subst (λ (reaches : List (Reach C)). Followed K cost (links ++ l ∷ []) old reaches) (sym offered.1)
      (followed_set cost links l old mid (get_or new l.relay Unreached) within (subst (λ (d : C). Takes K (get_or mid l.relay Unreached) d (get_or new l.relay Unreached)) sum offered.0) before)

  -- the nearest of one relay more
  module _ (near : List (Option C)) (settled : List Bool) (x : ℕ) where
    best_skip : (best : Option (Reached C)) → (IsOpen settled x → get_or near x None ≡ None) → BestOf K near settled x best → BestOf K near settled (x + 1) best
    best_skip None unknown h = λ y l o. by y l o (cases_eq y x)
      where
        by : (y : ℕ) → y < x + 1 → IsOpen settled y → (y ≡ x) ⊎ (y ≡ x → ⊥) → get_or near y None ≡ None
        by y l o (inl e) = subst (λ (z : ℕ). IsOpen settled z → get_or near z None ≡ None) (sym e) unknown o
        by y l o (inr ne) = h y (omega arith) o
    best_skip (Some t) unknown h = record { relay = omega (arith, h.relay); open' = h.open'; cost = h.cost; least = least }
      where
        least : (y : ℕ) (b : C) → y < x + 1 → IsOpen settled y → get_or near y None ≡ Some b → AtMost K t.cost b
        least y b l o e = by (cases_eq y x)
          where
            by : (y ≡ x) ⊎ (y ≡ x → ⊥) → AtMost K t.cost b
            by (inl s) = absurd (none-some b (sym (subst (λ (z : ℕ). IsOpen settled z → get_or near z None ≡ None) (sym s) unknown o) ∙ e))
            by (inr ne) = h.least y b (omega arith) o e

    module _ (c : C) (here : get_or near x None ≡ Some c) where
      same_cost : (y : ℕ) (b : C) → y ≡ x → get_or near y None ≡ Some b → c ≡ b
      same_cost y b s e = same_Some c b (sym here ∙ ap (λ (z : ℕ). get_or near z None) (sym s) ∙ e)

      best_keep : (best : Option (Reached C)) → (Improves K (cost_of_best best) c → ⊥) → BestOf K near settled x best → BestOf K near settled (x + 1) best
      best_keep None never h = absurd (never tt)
      best_keep (Some t) never h = record { relay = omega (arith, h.relay); open' = h.open'; cost = h.cost; least = least }
        where
          least : (y : ℕ) (b : C) → y < x + 1 → IsOpen settled y → get_or near y None ≡ Some b → AtMost K t.cost b
          least y b l o e = by (cases_eq y x)
            where
              by : (y ≡ x) ⊎ (y ≡ x → ⊥) → AtMost K t.cost b
              by (inl s) = subst (λ (d : C). AtMost K t.cost d) (same_cost y b s e) never
              by (inr ne) = h.least y b (omega arith) o e

      best_take : (best : Option (Reached C)) → IsOpen settled x → Improves K (cost_of_best best) c → BestOf K near settled x best
          → BestOf K near settled (x + 1) (Some (record { relay = x; cost = c }))
      best_take best o better h = record { relay = omega arith; open' = o; cost = here; least = λ y b l p e. at y b l p e (cases_eq y x) }
        where
          before : (best : Option (Reached C)) → Improves K (cost_of_best best) c → BestOf K near settled x best
              → (y : ℕ) (b : C) → y < x → IsOpen settled y → get_or near y None ≡ Some b → AtMost K c b
          before None i m y b l p e = absurd (none-some b (sym (m y l p) ∙ e))
          before (Some t) i m y b l p e = le_of_less laws c b (less-le laws c t.cost b i (m.least y b l p e))

          at : (y : ℕ) (b : C) → y < x + 1 → IsOpen settled y → get_or near y None ≡ Some b → (y ≡ x) ⊎ (y ≡ x → ⊥) → AtMost K c b
          at y b l p e (inl s) = le_of_eq laws c b (same_cost y b s e)
          at y b l p e (inr ne) = before best better h y b (omega arith) p e

  -- the best of one relay more
  module _ (reaches : List (Reach C)) (x : ℕ) (best : Option (Reached C)) (m : Mark) (c : C) (is : get_or reaches x Unreached ≡ reach_of m c)
      (before : BestOf K (near_of reaches) (settled_of reaches) x best) where
    pub best_taken : (m ≡ Open) × Improves K (cost_of_best best) c → BestOf K (near_of reaches) (settled_of reaches) (x + 1) (Some (record { relay = x; cost = c }))
    best_taken (e, better) =
        let open_there : get_or reaches x Unreached ≡ Near c = is ∙ ap (λ (k : Mark). reach_of k c) e in
        best_take (near_of reaches) (settled_of reaches) x c (near_at reaches x ∙ ap known_cost open_there) best (settled_at reaches x ∙ ap is_settled open_there) better before

    pub best_kept : (m ≡ Open → Improves K (cost_of_best best) c → ⊥) → BestOf K (near_of reaches) (settled_of reaches) (x + 1) best
    best_kept worse = by m is worse
      where
        by : (k : Mark) → get_or reaches x Unreached ≡ reach_of k c → (k ≡ Open → Improves K (cost_of_best best) c → ⊥)
            → BestOf K (near_of reaches) (settled_of reaches) (x + 1) best
        by Unknown e h = best_skip (near_of reaches) (settled_of reaches) x best (λ o. near_at reaches x ∙ ap known_cost e) before
        by Open e h = best_keep (near_of reaches) (settled_of reaches) x c (near_at reaches x ∙ ap known_cost e) best (h refl) before
        by Settled e h = best_skip (near_of reaches) (settled_of reaches) x best (λ o. absurd (true≢false (sym (settled_at reaches x ∙ ap is_settled e) ∙ o))) before
