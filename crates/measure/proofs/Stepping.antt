-- The lowest relay that a link steps to, and that it is the next relay.
use Rattle.std.proofs.Common.{◌≡◌, ℕ, ◌-◌, ◌<◌, ◌≤◌, min, ◌⊎◌, List, [], ◌∷◌, ◌++◌, length, Some, None, Option, unwrap_or, sym, ap, ◌∙◌, subst, inl, inr, arith}
use Rattle.std.specs.List.{Contains}
use Rattle.std.proofs.lemmas.List.Elements.{Contains-push, Contains-push_cases, Contains-append_left}
use Rattle.std.proofs.lemmas.Bool.{cases_eq, cases_lt}
use Rattle.kind.specs.Laws.{Laws, AtMost, CostKind, IsLink}
use Rattle.kind.proofs.Sums.{sum_link}
use Rattle.plan.specs.Plan.{Plan}
use Rattle.plan.specs.Walk.{Linked, Hop, Chain, cost_of}
use Rattle.plan.specs.Sound.{Sound}
use Rattle.measure.specs.declared.graph.Graph.{Graph}
use Rattle.measure.specs.declared.graph.Reached.{Reached}
use Rattle.measure.specs.Distance.{Distance, FirstStep, Next}
use Rattle.measure.specs.Links.{reached, links_of}
use Rattle.measure.specs.Squares.{in_square}
use Rattle.measure.specs.Settling.{Entered, StepsTo, LowestStep, Toward}
use Rattle.measure.proofs.Chains.{linked_to, linked_cost}
use Rattle.measure.proofs.Linking.{leads_inside}
use Rattle.measure.proofs.Metric.{metric}
use Rattle.measure.proofs.Settled.{leads_linked, linked_leads}

-- one link more
module _ {C : Type 0} (K : CostKind C) (D : ℕ → ℕ → C) (u x : ℕ) where
  abbrev Steps : List (Reached C) → ℕ → Type 0
  Steps links r = StepsTo K links D u x r

  abbrev Lowest : List (Reached C) → Option ℕ → Type 0
  Lowest links r = LowestStep K links D u x r

  pub lowest_none : Lowest [] None
  lowest_none = λ s (w, (k, l, e), f). absurd (omega arith)

  earlier : (links : List (Reached C)) (l : Reached C) (s : ℕ) → Steps links s → Steps (links ++ l ∷ []) s
  earlier links l s (w, h, f) = (w, Contains-append_left links (l ∷ []) (reached s w) h, f)

  -- a step over the links is one over those so far, or over the last
  later : (links : List (Reached C)) (l : Reached C) (s : ℕ) → Steps (links ++ l ∷ []) s → Steps links s ⊎ ((s ≡ l.relay) × (D u x ≡ K.adds l.cost (D l.relay x)))
  later links l s (w, h, f) = by (Contains-push_cases links l (reached s w) h)
    where
      by : Contains links (reached s w) ⊎ (l ≡ reached s w) → Steps links s ⊎ ((s ≡ l.relay) × (D u x ≡ K.adds l.cost (D l.relay x)))
      by (inl there) = inl (w, there, f)
      by (inr e) = inr (ap (λ (z : Reached C). z.relay) (sym e), subst (λ (z : Reached C). D u x ≡ K.adds z.cost (D z.relay x)) (sym e) f)

  pub lowest_left : (links : List (Reached C)) (l : Reached C) (r : Option ℕ) → (D u x ≡ K.adds l.cost (D l.relay x) → ⊥) → Lowest links r → Lowest (links ++ l ∷ []) r
  lowest_left links l None differ low = λ s step. by s (later links l s step)
    where
      by : (s : ℕ) → Steps links s ⊎ ((s ≡ l.relay) × (D u x ≡ K.adds l.cost (D l.relay x))) → ⊥
      by s (inl h) = low s h
      by s (inr h) = differ h.1
  lowest_left links l (Some r) differ low = (earlier links l r low.0, λ s step. by s (later links l s step))
    where
      by : (s : ℕ) → Steps links s ⊎ ((s ≡ l.relay) × (D u x ≡ K.adds l.cost (D l.relay x))) → r ≤ s
      by s (inl h) = low.1 s h
      by s (inr h) = absurd (differ h.1)

  pub lowest_taken : (links : List (Reached C)) (l : Reached C) (r : Option ℕ) (m : ℕ) → m ≡ min l.relay (unwrap_or r l.relay) → D u x ≡ K.adds l.cost (D l.relay x)
      → Lowest links r → Lowest (links ++ l ∷ []) (Some m)
  lowest_taken links l None m e sums low =
      let same : l.relay ≡ m = omega arith in
      (subst (λ (s : ℕ). Steps (links ++ l ∷ []) s) same (l.cost, Contains-push links l, sums), λ s step. by s (later links l s step))
    where
      by : (s : ℕ) → Steps links s ⊎ ((s ≡ l.relay) × (D u x ≡ K.adds l.cost (D l.relay x))) → m ≤ s
      by s (inl h) = absurd (low s h)
      by s (inr h) = omega (arith, h.0)
  lowest_taken links l (Some r) m e sums low = (which (cases_lt l.relay r), λ s step. by s (later links l s step))
    where
      which : (l.relay < r) ⊎ (r ≤ l.relay) → Steps (links ++ l ∷ []) m
      which (inl h) = let same : l.relay ≡ m = omega arith in subst (λ (s : ℕ). Steps (links ++ l ∷ []) s) same (l.cost, Contains-push links l, sums)
      which (inr h) = let same : r ≡ m = omega arith in subst (λ (s : ℕ). Steps (links ++ l ∷ []) s) same (earlier links l r low.0)

      by : (s : ℕ) → Steps links s ⊎ ((s ≡ l.relay) × (D u x ≡ K.adds l.cost (D l.relay x))) → m ≤ s
      by s (inl h) = omega (arith, low.1 s h)
      by s (inr h) = omega (arith, h.0)

-- what the lowest step over all links of a relay tells
module _ {C : Type 0} (K : CostKind C) (D : ℕ → ℕ → C) (g : Graph C) (u x : ℕ) where
  pub lowest_inside : (r : Option ℕ) → u < g.relays → LowestStep K (links_of g u) D u x r → unwrap_or r u < g.relays
  lowest_inside None h low = h
  lowest_inside (Some r) h ((w, leads, sums), low) = leads_inside K.none g u (reached r w) leads

  pub lowest_toward : (r : Option ℕ) → LowestStep K (links_of g u) D u x r
      → LowestStep K (links_of g u) D u x (Some (unwrap_or r u)) ⊎ LowestStep K (links_of g u) D u x None
  lowest_toward None low = inr low
  lowest_toward (Some r) low = inl low

module _ {C : Type 0} {K : CostKind C}
    (laws : Laws K) (g : Graph C) (p : Plan C) (entered : Entered p g) (sound : Sound K p) (ds : List C)
    (all : (u v : ℕ) → u < g.relays → v < g.relays → Distance K p u v (in_square K.none g.relays ds u v)) where
  abbrev D : ℕ → ℕ → C
  D u v = in_square K.none g.relays ds u v

  leads_to : (u v : ℕ) (c : C) → Linked p u v c → v < g.relays
  leads_to u v c l = omega (arith, linked_to p sound u v c l, entered.relays)

  exact : (w : C) (b x : ℕ) → IsLink K w → b < g.relays → x < g.relays → K.adds w (D b x) ≡ K.plus w (D b x)
  exact w b x lawful hb hx =
      laws.exact 1 (length p.relays - 1) w (D b x) (sum_link laws w lawful)
      ((metric laws p sound).few b x (D b x) (omega (arith, entered.relays)) (all b x hb hx)) (omega (arith, entered.relays, g.few))

  module _ (u x : ℕ) (hu : u < g.relays) (hx : x < g.relays) (apart : u ≡ x → ⊥) where
    step_first : (b : ℕ) → StepsTo K (links_of g u) D u x b → FirstStep K p u x b
    step_first b (w, leads, sums) =
        let linked : Linked p u b w = leads_linked K.none g p entered u b w leads in
        let hb : b < g.relays = leads_to u b w linked in
        (metric laws p sound).step u x b w (D b x) (D u x) apart linked (all b x hb hx) (all u x hu hx)
        (sums ∙ exact w b x (linked_cost p sound u b w linked) hb hx)

    first_over : (b : ℕ) → FirstStep K p u x b → StepsTo K (links_of g u) D u x b
    first_over b f =
        let (w, e, linked, m, is) = (metric laws p sound).first_step u x b f (D u x) (all u x hu hx) in
        let hb : b < g.relays = leads_to u b w linked in
        let same_rest : e ≡ D b x = (metric laws p sound).unique b x e (D b x) m (all b x hb hx) in
        (w, linked_leads K.none g p entered u b w linked, is ∙ ap (K.plus w) same_rest ∙ sym (exact w b x (linked_cost p sound u b w linked) hb hx))

    some_first : (b : ℕ) × FirstStep K p u x b × (b < g.relays)
    some_first = by m.walk.hops m.walk.chain m.costs
      where
        m : Distance K p u x (D u x)
        m = all u x hu hx

        by : (hs : List (Hop C)) → Chain p u hs x → cost_of K hs ≡ D u x → (b : ℕ) × FirstStep K p u x b × (b < g.relays)
        by [] ch e = absurd (apart ch)
        by (h ∷ hs) ch e = (
          h.to,
          record {
            over = h.cost;
            hops = hs;
            chain = ch;
            cheapest = λ w. subst (λ (z : C). AtMost K z (cost_of K w.hops)) (sym e) (m.least w);
          },
          leads_to u h.to h.cost ch.0,
        )

  pub toward_next : (u x r : ℕ) → u < g.relays → x < g.relays → Toward K g ds u x r → Next K p u x r
  toward_next u x r hu hx t = by (cases_eq u x)
    where
      far : (ne : u ≡ x → ⊥) → LowestStep K (links_of g u) D u x (Some r) ⊎ LowestStep K (links_of g u) D u x None → Next K p u x r
      far ne (inl low) = inr (ne, step_first u x hu hx ne r low.0, λ b f. low.1 b (first_over u x hu hx ne b f))
      far ne (inr never) = let (b, f, hb) = some_first u x hu hx ne in absurd (never b (first_over u x hu hx ne b f))

      by : (u ≡ x) ⊎ (u ≡ x → ⊥) → Next K p u x r
      by (inl e) = inl (e, t.0 e)
      by (inr ne) = far ne (t.1 ne)
