-- Plans that calls have entered: they are sound, and the calls settle them.
use Rattle.std.proofs.Common.{◌≡◌, ℕ, List, [], ◌∷◌, Option, Some, None, sym, ◌∙◌, subst, ap₂, arith, refl, ap, take}
use Rattle.kind.specs.Laws.{CostKind}
use Rattle.plan.specs.declared.refusal.Refusal.{Refusal}
use Rattle.plan.specs.declared.counts.Counts.{Counts}
use Rattle.plan.specs.Plan.{Plan, Lists, plan_of, empty_plan, relay, link, link_of, paired, with_link}
use Rattle.plan.specs.Sound.{Sound, ColourCount}
use Rattle.plan.specs.History.{Call, AddRelay, AddLink, Made, Enters, Makes, Drafted}
use Rattle.plan.proofs.Adding.{same_plan, sound_relay, sound_link}
use Rattle.plan.proofs.Pairs.{same_called}

module _ {C : Type 0} (K : CostKind C) where
  pub sound_enters : (call : Call C) (old new : Plan C) → Enters K call old new → Sound K old → Sound K new
  sound_enters (AddRelay a c) old new (rules, e) s = subst (λ (p : Plan C). Sound K p) (sym e) (sound_relay K old a c s rules)
  sound_enters (AddLink a b c) old new (rules, (pair, adds)) s = subst (λ (p : Plan C). Sound K p) (sym adds.is)
      (sound_link K old a b pair.from pair.to c s rules adds.from_called adds.to_called)

  sound_makes : (call : Call C) (r : Option Refusal) (old new : Plan C) → Makes K (record { call = call; refused = r }) old new → Sound K old → Sound K new
  sound_makes call None old new e s = sound_enters call old new e s
  sound_makes call (Some f) old new e s = subst (λ (p : Plan C). Sound K p) (sym e) s

  sound_empty : (k : ℕ) → ColourCount k → Sound K (empty_plan k)
  sound_empty k few = record {
    colours_few = few;
    relays_few = omega arith;
    links_few = omega arith;
    names = tt;
    names_differ = tt;
    colours = tt;
    ends = tt;
    pairs_differ = tt;
    costs = tt;
  }

  pub sound_drafted : (k : ℕ) (calls : List (Made C)) (p : Plan C) → Drafted K k calls p → Sound K p
  sound_drafted k [] p (few, e) = subst (λ (q : Plan C). Sound K q) (sym e) (sound_empty k few)
  sound_drafted k (m ∷ calls) p (old, drafted, makes) = sound_makes m.call m.refused old p makes (sound_drafted k calls old drafted)

  same_enters : (call : Call C) (old p q : Plan C) → Enters K call old p → Enters K call old q → p ≡ q
  same_enters (AddRelay a c) old p q (_, e) (_, f) = e ∙ sym f
  same_enters (AddLink a b c) old p q (_, (e, x)) (_, (f, y)) =
      x.is
      ∙ ap₂ (λ (u v : ℕ). with_link old (link u v c)) (same_called old e.from f.from a x.from_called y.from_called) (same_called old e.to f.to b x.to_called y.to_called)
      ∙ sym y.is

  same_makes : (call : Call C) (r : Option Refusal) (old p q : Plan C) → Makes K (record { call = call; refused = r }) old p
      → Makes K (record { call = call; refused = r }) old q → p ≡ q
  same_makes call None old p q e f = same_enters call old p q e f
  same_makes call (Some r) old p q e f = e ∙ sym f

  pub same_drafted : (k : ℕ) (calls : List (Made C)) (p q : Plan C) → Drafted K k calls p → Drafted K k calls q → p ≡ q
  same_drafted k [] p q (_, e) (_, f) = e ∙ sym f
  same_drafted k (m ∷ calls) p q (o, d, x) (o', d', y) = same_makes m.call m.refused o' p q
      (subst (λ (old : Plan C). Makes K m old p) (same_drafted k calls o o' d d') x) y

  pub opened_drafted : (n : Counts) (l : Lists C) → n.relays ≡ 0 → n.links ≡ 0 → Drafted K n.colours [] (plan_of n l)
  opened_drafted n l e f = (
    (n.coloured, n.palette),
    same_plan refl
        (ap (λ (m : ℕ). paired relay (take m l.relays.names) (take m l.relays.colours)) e)
        (ap (λ (m : ℕ). paired link_of (take m l.links.ends) (take m l.links.costs)) f),
  )
