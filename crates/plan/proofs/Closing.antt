-- What the checks of closing have found out, told of the plan.
use Rattle.std.proofs.Common.{◌≡◌, ℕ, ◌<◌, ◌⊎◌, List, length, get_or, sym, ap, ◌∙◌, inl, inr, arith, Option, Some, None, MatchOption, Bool, true, false}
use Rattle.std.specs.Bool.{OnTrue, OnFalse}
use Rattle.std.specs.List.{ContainsAt}
use Rattle.std.proofs.lemmas.List.{get_or_default}
use Rattle.kind.specs.Laws.{CostKind}
use Rattle.plan.specs.declared.refusal.Refusal.{Refusal}
use Rattle.plan.specs.declared.refusal.Refusal.TheVariants.{ColourAbsent, OutOfReach}
use Rattle.plan.specs.declared.ends.Ends.{Ends}
use Rattle.plan.specs.declared.counts.Counts.{Counts}
use Rattle.plan.specs.Plan.{Lists, IsLong, InStep, Relay, Link, plan_of, plan_with, relay, link}
use Rattle.plan.specs.Sound.{Sound, ColourUsed, ColoursUsed, LowestAbsent, Dangling, AreRelays}
use Rattle.std.proofs.ByRecursion.{All-get_or, All-from_get_or}
use Rattle.plan.specs.Walk.{LowestOut, Connected, nowhere}
use Rattle.plan.specs.Reach.{NoneAbsent, FirstAbsent, Loose, Within, AllReached, FirstOut}
use Rattle.plan.specs.Checks.{FirstFails}
use Rattle.plan.specs.Rules.{close_checks}
use Rattle.plan.proofs.Held.{relays_count, links_count, relay_at, link_at}
use Rattle.plan.proofs.Reaching.{walk_of, reach_of, connected}

module _ {C : Type 0} (none : C) (k : ℕ) (names colours : List ℕ) (ends : List Ends) (costs : List C)
    (step : InStep k names colours ends costs) where
  worn_has : (c : ℕ) → ContainsAt colours c → ColourUsed (plan_with k names colours ends costs) c
  worn_has c (i, h, at) =
      let below : i < length names = omega (arith, step.relays, h) in (
        i,
        omega (arith, relays_count k names colours ends costs step, below),
        λ d. ap (λ (r : Relay). r.colour) (relay_at k names colours ends costs step i below d) ∙ at 0,
      )

  has_worn : (c : ℕ) → ColourUsed (plan_with k names colours ends costs) c → ContainsAt colours c
  has_worn c (i, h, at) =
      let below : i < length names = omega (arith, relays_count k names colours ends costs step, h) in
      let inside : i < length colours = omega (arith, step.relays, below) in (
        i,
        inside,
        λ d. get_or_default colours i d 0 inside
            ∙ sym (ap (λ (r : Relay). r.colour) (relay_at k names colours ends costs step i below (relay 0 0))) ∙ at (relay 0 0),
      )

  pub absent : (r : Option ℕ) → MatchOption r (NoneAbsent colours k) (λ c. FirstAbsent colours k c)
      → MatchOption r (ColoursUsed (plan_with k names colours ends costs)) (λ c. LowestAbsent (plan_with k names colours ends costs) c)
  absent None all = λ c colour. worn_has c (all c colour)
  absent (Some c) a = record { colour = a.0; absent = λ h. a.1 (has_worn c h); below = λ b low high. worn_has b (a.2 b low high) }

  link_ends : (j : ℕ) → j < length ends → (d : Link C)
      → ((get_or (plan_with k names colours ends costs).links j d).from ≡ (get_or ends j nowhere).from)
      × ((get_or (plan_with k names colours ends costs).links j d).to ≡ (get_or ends j nowhere).to)
  link_ends j h d =
      let same = link_at k names colours ends costs step j h d nowhere none in
      (ap (λ (l : Link C). l.from) same, ap (λ (l : Link C). l.to) same)

  loose_there : Loose ends (length names) → Dangling (plan_with k names colours ends costs)
  loose_there (j, h, out) = record {
    place = j;
    within = omega (arith, links_count k names colours ends costs step, h);
    loose = λ d inside. let same = link_ends j h d in
        let count = relays_count k names colours ends costs step in
        out (omega (arith, inside.0, same.0, count), omega (arith, inside.1, same.1, count));
  }

  within_there : Within ends (length names) → AreRelays (plan_with k names colours ends costs)
  within_there w = All-from_get_or _ (plan_with k names colours ends costs).links (link 0 0 none) (λ j h.
      let below : j < length ends = omega (arith, links_count k names colours ends costs step, h) in
      let at = w j below in
      let same = link_ends j below (link 0 0 none) in
      let count = relays_count k names colours ends costs step in
      (omega (arith, at.0, same.0, count), omega (arith, at.1, same.1, count)))

  pub within_here : AreRelays (plan_with k names colours ends costs) → Within ends (length names)
  within_here tied j below =
      let at = All-get_or _ (plan_with k names colours ends costs).links j (link 0 0 none)
      (omega (arith, links_count k names colours ends costs step, below)) tied in
      let same = link_ends j below (link 0 0 none) in
      let count = relays_count k names colours ends costs step in
      (omega (arith, at.0, same.0, count), omega (arith, at.1, same.1, count))

  pub tied_or_not : (r : Bool) → OnTrue r (Loose ends (length names)) → OnFalse r (Within ends (length names))
      → OnTrue r (Dangling (plan_with k names colours ends costs)) × OnFalse r (AreRelays (plan_with k names colours ends costs))
  tied_or_not true loose within = (loose_there loose, tt)
  tied_or_not false loose within = (tt, within_there within)

  pub reached : (r : Option ℕ) → MatchOption r (AllReached ends (length names)) (λ v. FirstOut ends (length names) v)
      → MatchOption r (Connected (plan_with k names colours ends costs)) (λ v. LowestOut (plan_with k names colours ends costs) v)
  reached None all = λ u v hu hv. connected none k names colours ends costs step (length names) all u v
      (omega (arith, relays_count k names colours ends costs step)) (omega (arith, relays_count k names colours ends costs step))
  reached (Some v) o = record {
    relay = omega (arith, relays_count k names colours ends costs step, o.0);
    out = λ w. o.1 (reach_of none k names colours ends costs step 0 v w);
    below = λ u h. walk_of none k names colours ends costs step 0 u (o.2 u h);
  }

-- A sound plan that the lists hold is refused for want of a colour, or of a walk.
pub refused_plainly : {C : Type 0} (none : C) (K : CostKind C) (n : Counts) (l : Lists C) (f : Refusal) → FirstFails (close_checks n l) f
    → IsLong n l → Sound K (plan_of n l)
    → ((c : ℕ) × (f ≡ ColourAbsent c) × LowestAbsent (plan_of n l) c)
    ⊎ ((v : ℕ) × (f ≡ OutOfReach v) × ((c : ℕ) → LowestAbsent (plan_of n l) c → ⊥) × LowestOut (plan_of n l) v)
refused_plainly none K n l f (inl short) long s = absurd (short.1 long)
refused_plainly none K n l f (inr (_, inl a)) long s = inl a
refused_plainly none K n l f (inr (_, inr (used, inl (_, d)))) long s =
    absurd (d.loose (link 0 0 none) (let at = All-get_or _ (plan_of n l).links d.place (link 0 0 none) d.within s.ends in (at.0, at.1)))
refused_plainly none K n l f (inr (_, inr (used, inr (_, inl (v, e, o))))) long s =
    inr (v, e, (λ c a. a.absent (used c a.colour)), o)
refused_plainly none K n l f (inr (_, inr (_, inr (_, inr none_left)))) long s = absurd none_left.1
