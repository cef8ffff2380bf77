-- What lists in step say of the plan that they hold.
use Rattle.std.proofs.Common.{◌≡◌, ℕ, ◌<◌, List, length, get_or, take, Some, None, Option, sym, ap, ◌∙◌, ap₂, inl, inr, arith, MatchOption}
use Rattle.std.specs.List.{ContainsAt}
use Rattle.std.proofs.lemmas.List.{length-take-le}
use Rattle.plan.specs.Reach.{FirstPlace}
use Rattle.plan.specs.declared.ends.Ends.{Ends}
use Rattle.plan.specs.declared.counts.Counts.{Counts}
use Rattle.plan.specs.Plan.{Lists, IsLong, InStep, Relay, Link, plan_of, plan_with, relay, link, link_of}
use Rattle.plan.specs.Walk.{Linked, ArePaired, Pair, SomePair, nowhere}
use Rattle.plan.specs.Sound.{Bears, Called, Unknown}
use Rattle.plan.proofs.Paired.{length-paired, get_or-paired}

-- the plan that lists hold has as many relays and links as are counted
module _ {C : Type 0} (n : Counts) (l : Lists C) (long : IsLong n l) where
  pub relays_entered : length (plan_of n l).relays ≡ n.relays
  relays_entered =
      let one : length (take n.relays l.relays.names) ≡ n.relays = length-take-le n.relays l.relays.names long.names in
      let other : length (take n.relays l.relays.colours) ≡ n.relays = length-take-le n.relays l.relays.colours long.colours in
      length-paired relay (take n.relays l.relays.names) (take n.relays l.relays.colours) (one ∙ sym other) ∙ one

  pub links_entered : length (plan_of n l).links ≡ n.links
  links_entered =
      let one : length (take n.links l.links.ends) ≡ n.links = length-take-le n.links l.links.ends long.ends in
      let other : length (take n.links l.links.costs) ≡ n.links = length-take-le n.links l.links.costs long.costs in
      length-paired link_of (take n.links l.links.ends) (take n.links l.links.costs) (one ∙ sym other) ∙ one

module _ {C : Type 0} (k : ℕ) (names colours : List ℕ) (ends : List Ends) (costs : List C)
    (step : InStep k names colours ends costs) where
  pub relays_count : length (plan_with k names colours ends costs).relays ≡ length names
  relays_count = length-paired relay names colours (sym step.relays)

  pub links_count : length (plan_with k names colours ends costs).links ≡ length ends
  links_count = length-paired link_of ends costs (sym step.links)

  pub relay_at : (i : ℕ) → i < length names → (d : Relay)
      → get_or (plan_with k names colours ends costs).relays i d ≡ relay (get_or names i 0) (get_or colours i 0)
  relay_at i h d = get_or-paired relay names colours i 0 0 d h (omega (arith, step.relays))

  pub link_at : (j : ℕ) → j < length ends → (d : Link C) (e : Ends) (c : C)
      → get_or (plan_with k names colours ends costs).links j d ≡ link_of (get_or ends j e) (get_or costs j c)
  link_at j h d e c = get_or-paired link_of ends costs j e c d h (omega (arith, step.links))

  bears : (i a : ℕ) → i < length names → get_or names i 0 ≡ a → Bears (plan_with k names colours ends costs) i a
  bears i a h e = (omega (arith, relays_count), λ d. ap (λ (r : Relay). r.name) (relay_at i h d) ∙ e)

  borne : (i a : ℕ) → Bears (plan_with k names colours ends costs) i a → (i < length names) × (get_or names i 0 ≡ a)
  borne i a b =
      let h : i < length names = omega (arith, relays_count, b.0) in
      (h, sym (ap (λ (r : Relay). r.name) (relay_at i h (relay 0 0))) ∙ b.1 (relay 0 0))

  -- a search of the names finds the relay of that name, or tells that there is none
  pub searched : (a : ℕ) (r : Option ℕ) → FirstPlace names a r
      → MatchOption r (Unknown (plan_with k names colours ends costs) a) (λ i. Called (plan_with k names colours ends costs) i a)
  searched a None h = λ i b. let at = borne i a b in h i at.0 at.1
  searched a (Some i) h = record { bears = bears i a h.0 h.1; first = λ j l b. h.2 j l (borne j a b).1 }

  -- the pair of ends that the list has at a place, and the link that the plan has there
  pub linked_at : (j u v : ℕ) (c : C) → j < length ends → Pair (get_or ends j nowhere) u v
      → Linked (plan_with k names colours ends costs) u v (get_or costs j c)
  linked_at j u v c h (inl e) = inl (j, omega (arith, links_count), λ d. link_at j h d nowhere c ∙ ap₂ (λ (x y : ℕ). link x y (get_or costs j c)) e.0 e.1)
  linked_at j u v c h (inr e) = inr (j, omega (arith, links_count), λ d. link_at j h d nowhere c ∙ ap₂ (λ (x y : ℕ). link x y (get_or costs j c)) e.0 e.1)

  has_pair : (u v : ℕ) (c : C) → ContainsAt (plan_with k names colours ends costs).links (link u v c)
      → (j : ℕ) × (j < length ends) × (((get_or ends j nowhere).from ≡ u) × ((get_or ends j nowhere).to ≡ v))
  has_pair u v c (j, h, at) =
      let below : j < length ends = omega (arith, links_count, h) in
      let same : link_of (get_or ends j nowhere) (get_or costs j c) ≡ link u v c = sym (link_at j below (link u v c) nowhere c) ∙ at (link u v c) in
      (j, below, (ap (λ (l : Link C). l.from) same, ap (λ (l : Link C). l.to) same))

  pub pair_of : (u v : ℕ) (c : C) → Linked (plan_with k names colours ends costs) u v c → SomePair ends u v
  pair_of u v c (inl h) = let at = has_pair u v c h in (at.0, at.1, inl at.2)
  pair_of u v c (inr h) = let at = has_pair v u c h in (at.0, at.1, inr at.2)

  -- a pair of the list joins two relays where a link of the plan does
  pub pairs_decide : (none : C) (u v : ℕ)
      → (SomePair ends u v → ArePaired (plan_with k names colours ends costs) u v)
      × (ArePaired (plan_with k names colours ends costs) u v → SomePair ends u v)
  pairs_decide none u v = (
    (λ p. (get_or costs p.0 none, linked_at p.0 u v none p.1 p.2)),
    (λ l. pair_of u v l.0 l.1),
  )
