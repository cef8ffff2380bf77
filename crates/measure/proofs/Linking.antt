-- The links at a relay, one after another.
use Rattle.std.proofs.Common.{◌≡◌, ℕ, zero, suc, ◌+◌, ◌-◌, ◌<◌, ◌≤◌, ◌⊎◌, List, [], ◌∷◌, ◌++◌, length, get_or, drop, sym, ap, ◌∙◌, subst, inl, inr, arith, drop-cons, add-one}
use Rattle.std.specs.List.{Contains}
use Rattle.std.proofs.lemmas.List.Elements.{Contains-push, Contains-push_cases, Contains-append_cases, Contains-append_left, Contains-append_right}
use Rattle.std.proofs.lemmas.Bool.{cases_eq}
use Rattle.std.proofs.lemmas.Bool.Decides.{nat_tests}
use Rattle.plan.specs.declared.ends.Ends.{Ends}
use Rattle.plan.specs.Walk.{Pair, nowhere}
use Rattle.measure.specs.declared.graph.Graph.{Graph}
use Rattle.measure.specs.declared.graph.Reached.{Reached}
use Rattle.measure.specs.Incidence.{EndsAt, Skips}
use Rattle.measure.specs.Links.{reached, led, all_led, links_of}

module _ {C : Type 0} where
  led_from : (u : ℕ) (e : Ends) (c : C) → e.from ≡ u → led u e c ≡ reached e.to c ∷ []
  led_from u e c h = grind (arith, nat_tests)

  led_to : (u : ℕ) (e : Ends) (c : C) → (e.from ≡ u → ⊥) → e.to ≡ u → led u e c ≡ reached e.from c ∷ []
  led_to u e c n h = grind (arith, nat_tests)

  led_nowhere : (u : ℕ) (e : Ends) (c : C) → (EndsAt e u → ⊥) → led u e c ≡ []
  led_nowhere u e c n =
      let no_from : e.from ≡ u → ⊥ = λ h. n (λ ne. absurd (ne h)) in
      let no_to : e.to ≡ u → ⊥ = λ h. n (λ ne. h) in
      grind (arith, nat_tests)

  module _ (u : ℕ) (es : List Ends) (cs : List C) (same : length es ≡ length cs) where
    abbrev From : ℕ → List (Reached C)
    From k = all_led u (drop k es) (drop k cs)

    -- one link, and the links behind it
    one_more : (k : ℕ) (d : C) → k < length es → From k ≡ led u (get_or es k nowhere) (get_or cs k d) ++ From (k + 1)
    one_more k d h =
        let there : k < length cs = omega arith in
        rw (add-one, drop-cons es k nowhere h, drop-cons cs k d there)

    -- links that do not end there
    skipped : (d : C) (m k : ℕ) → ((i : ℕ) → k ≤ i → i < k + m → EndsAt (get_or es i nowhere) u → ⊥) → k + m ≤ length es → From k ≡ From (k + m)
    skipped d zero k none h = let e : k ≡ k + 0 = omega arith in ap From e
    skipped d (suc m) k none h =
        let here : k < length es = omega arith in
        let rest : From (k + 1) ≡ From (k + 1 + m) = skipped d m (k + 1) (λ i l n. none i (omega arith) (omega arith)) (omega arith) in
        let e : k + 1 + m ≡ k + suc m = omega arith in
        one_more k d here ∙ ap (λ (xs : List (Reached C)). xs ++ From (k + 1)) (led_nowhere u (get_or es k nowhere) (get_or cs k d) (none k (omega arith) (omega arith)))
        ∙ rest ∙ ap From e

    pub skips : (d : C) (k j : ℕ) → Skips es u k j → From k ≡ From j
    skips d k j s =
        let e : k + (j - k) ≡ j = omega (arith, s.least) in
        skipped d (j - k) k (λ i l m. s.none i l (omega arith)) (omega (arith, s.place.most)) ∙ ap From e

    -- the first of the links from place k on, and the others
    module _ (c d : C) (e : Ends) (k j x : ℕ) (here : k < length es) (ends : get_or es k nowhere ≡ e) (cost : get_or cs k d ≡ c) where
      first_of : led u e c ≡ reached x c ∷ [] → Skips es u (k + 1) j → From k ≡ reached x c ∷ From j
      first_of leads s =
          one_more k d here ∙ ap (λ (l : Ends). led u l (get_or cs k d) ++ From (k + 1)) ends ∙ ap (λ (z : C). led u e z ++ From (k + 1)) cost
          ∙ ap (λ (xs : List (Reached C)). xs ++ From (k + 1)) leads ∙ ap (λ (xs : List (Reached C)). reached x c ∷ xs) (skips d (k + 1) j s)

      pub first_from : e.from ≡ u → x ≡ e.to → Skips es (get_or es k nowhere).from (k + 1) j → From k ≡ reached x c ∷ From j
      first_from at to s =
          first_of (led_from u e c at ∙ ap (λ (z : ℕ). reached z c ∷ []) (sym to))
          (subst (λ (v : ℕ). Skips es v (k + 1) j) (ap (λ (l : Ends). l.from) ends ∙ at) s)

      pub first_to : (e.from ≡ u → ⊥) → EndsAt (get_or es k nowhere) u → x ≡ e.from → Skips es (get_or es k nowhere).to (k + 1) j
          → From k ≡ reached x c ∷ From j
      first_to ne at from s =
          let there : (get_or es k nowhere).to ≡ u = at (λ h. ne (ap (λ (l : Ends). l.from) (sym ends) ∙ h)) in
          first_of (led_to u e c ne (ap (λ (l : Ends). l.to) (sym ends) ∙ there) ∙ ap (λ (z : ℕ). reached z c ∷ []) (sym from))
          (subst (λ (v : ℕ). Skips es v (k + 1) j) there s)

-- where the links at a relay lead, by the places of the lists
module _ {C : Type 0} (u x : ℕ) (d : C) where
  one_there : (y : ℕ) (c w : C) → Contains (reached y c ∷ []) (reached x w) → (y ≡ x) × (c ≡ w)
  one_there y c w h = by (Contains-push_cases [] (reached y c) (reached x w) h)
    where
      by : Contains [] (reached x w) ⊎ (reached y c ≡ reached x w) → (y ≡ x) × (c ≡ w)
      by (inl (k, l, e)) = absurd (omega arith)
      by (inr e) = (ap (λ (r : Reached C). r.relay) e, ap (λ (r : Reached C). r.cost) e)

  led_pair : (e : Ends) (c w : C) → Contains (led u e c) (reached x w) → Pair e u x × (w ≡ c)
  led_pair e c w h = by (cases_eq e.from u) (cases_eq e.to u)
    where
      by : (e.from ≡ u) ⊎ (e.from ≡ u → ⊥) → (e.to ≡ u) ⊎ (e.to ≡ u → ⊥) → Pair e u x × (w ≡ c)
      by (inl at) _ =
          let (same, cost) = one_there e.to c w (subst (λ (xs : List (Reached C)). Contains xs (reached x w)) (led_from u e c at) h) in
          (inl (at, same), sym cost)
      by (inr ne) (inl at) =
          let (same, cost) = one_there e.from c w (subst (λ (xs : List (Reached C)). Contains xs (reached x w)) (led_to u e c ne at) h) in
          (inr (same, at), sym cost)
      by (inr ne) (inr far) = absurd (none (subst (λ (xs : List (Reached C)). Contains xs (reached x w)) (led_nowhere u e c (λ ends. far (ends ne))) h))
        where
          none : Contains [] (reached x w) → ⊥
          none (k, l, e) = omega arith

  pair_led : (e : Ends) (c : C) → Pair e u x → Contains (led u e c) (reached x c)
  pair_led e c (inl (at, to)) =
      subst (λ (xs : List (Reached C)). Contains xs (reached x c)) (sym (led_from u e c at ∙ ap (λ (y : ℕ). reached y c ∷ []) to)) (Contains-push [] (reached x c))
  pair_led e c (inr (from, at)) = by (cases_eq e.from u)
    where
      by : (e.from ≡ u) ⊎ (e.from ≡ u → ⊥) → Contains (led u e c) (reached x c)
      by (inl here) =
          let to : e.to ≡ x = omega arith in
          subst (λ (xs : List (Reached C)). Contains xs (reached x c)) (sym (led_from u e c here ∙ ap (λ (y : ℕ). reached y c ∷ []) to)) (Contains-push [] (reached x c))
      by (inr ne) =
          subst (λ (xs : List (Reached C)). Contains xs (reached x c)) (sym (led_to u e c ne at ∙ ap (λ (y : ℕ). reached y c ∷ []) from)) (Contains-push [] (reached x c))

  pub all_pair : (es : List Ends) (cs : List C) (w : C) → Contains (all_led u es cs) (reached x w)
      → (j : ℕ) × (j < length es) × Pair (get_or es j nowhere) u x × (w ≡ get_or cs j d)
  all_pair [] cs w (k, l, e) = absurd (omega arith)
  all_pair (e ∷ es) [] w (k, l, f) = absurd (omega arith)
  all_pair (e ∷ es) (c ∷ cs) w h =
      by (λ there. let (j, l, pair, cost) = all_pair es cs w there in (suc j, omega arith, pair, cost)) (Contains-append_cases (led u e c) (all_led u es cs) (reached x w) h)
    where
      by : (Contains (all_led u es cs) (reached x w) → (j : ℕ) × (j < length (e ∷ es)) × Pair (get_or (e ∷ es) j nowhere) u x × (w ≡ get_or (c ∷ cs) j d))
          → Contains (led u e c) (reached x w) ⊎ Contains (all_led u es cs) (reached x w)
          → (j : ℕ) × (j < length (e ∷ es)) × Pair (get_or (e ∷ es) j nowhere) u x × (w ≡ get_or (c ∷ cs) j d)
      by later (inl here) = let (pair, cost) = led_pair e c w here in (zero, omega arith, pair, cost)
      by later (inr there) = later there

  pub pair_all : (es : List Ends) (cs : List C) (j : ℕ) → j < length es → j < length cs → Pair (get_or es j nowhere) u x
      → Contains (all_led u es cs) (reached x (get_or cs j d))
  pair_all [] cs j h l pair = absurd (omega arith)
  pair_all (e ∷ es) [] j h l pair = absurd (omega arith)
  pair_all (e ∷ es) (c ∷ cs) zero h l pair = Contains-append_left (led u e c) (all_led u es cs) (reached x c) (pair_led e c pair)
  pair_all (e ∷ es) (c ∷ cs) (suc j) h l pair =
      Contains-append_right (led u e c) (all_led u es cs) (reached x (get_or cs j d)) (pair_all es cs j (omega arith) (omega arith) pair)

-- a link of the graph leads to a relay
pub leads_inside : {C : Type 0} (d : C) (g : Graph C) (u : ℕ) (l : Reached C) → Contains (links_of g u) l → l.relay < g.relays
leads_inside {C} d g u l there = by (all_pair u l.relay d g.ends.now g.costs.now l.cost there)
  where
    by : (j : ℕ) × (j < length g.ends.now) × Pair (get_or g.ends.now j nowhere) u l.relay × (l.cost ≡ get_or g.costs.now j d) → l.relay < g.relays
    by (j, h, inl pair, f) = omega (arith, (g.within j h).1, pair.1)
    by (j, h, inr pair, f) = omega (arith, (g.within j h).0, pair.0)

pub link_inside : {C : Type 0} (d : C) (g : Graph C) (u : ℕ) (before after : List (Reached C)) (l : Reached C) → before ++ l ∷ after ≡ links_of g u → l.relay < g.relays
link_inside {C} d g u before after l e =
    leads_inside d g u l
    (subst (λ (ls : List (Reached C)). Contains ls l) e (Contains-append_right before (l ∷ after) l (Contains-append_left (l ∷ []) after l (Contains-push [] l))))

-- the links so far, this one, and those to come
pub all_of : {A : Type 0} (before rest after links : List A) (x : A) → before ++ rest ≡ links → rest ≡ x ∷ after → before ++ x ∷ after ≡ links
all_of before rest after links x e f = ap (λ xs. before ++ xs) (sym f) ∙ e
