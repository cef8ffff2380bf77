-- The plan that lent lists hold, told of the lists themselves, which may be longer than the plan.
use Rattle.std.proofs.Common.{◌≡◌, ℕ, ◌<◌, ◌≤◌, ◌⊎◌, List, length, get_or, take, Some, None, Option, sym, refl, ◌∙◌, subst, ap₂, inl, inr, arith, MatchOption, true, false}
use Rattle.std.proofs.lemmas.List.{length-take-le, get_or-take}
use Rattle.std.proofs.lemmas.Bool.{cases_lt}
use Rattle.plan.specs.declared.counts.Counts.{Counts}
use Rattle.plan.specs.declared.ends.Ends.{Ends}
use Rattle.plan.specs.declared.refusal.Refusal.{Refusal}
use Rattle.plan.specs.declared.refusal.Refusal.TheVariants.{ColourAbsent, OutOfReach, EntryBroken}
use Rattle.plan.specs.Plan.{Lists, IsLong, InStep, Relay, Link, plan_of, relay, link_of}
use Rattle.plan.specs.Walk.{Walk, Connected, nowhere}
use Rattle.plan.specs.Sound.{Called, Unknown, ColoursUsed, AreRelays}
use Rattle.plan.specs.Reach.{FirstPlace, NoneAbsent, FirstAbsent, Reaches, Inside, Within, Loose, AllReached, FirstOut}
use Rattle.plan.specs.Checks.{AllHold, FirstFails}
use Rattle.plan.specs.Rules.{Closable, close_checks}
use Rattle.plan.proofs.Held.{relay_at, link_at, searched}
use Rattle.plan.proofs.Reaching.{walk_of, reach_of, connected}
use Rattle.plan.proofs.Closing.{absent, tied_or_not, reached}
use Rattle.plan.proofs.Failing.{closing_fails, closing_holds}
use Rattle.plan.proofs.Accepted.{closing_accepted}

module _ {C : Type 0} (n : Counts) (l : Lists C) (long : IsLong n l) where
  -- the lists, cut to the plan
  abbrev names : List ℕ
  names = take n.relays l.relays.names

  abbrev colours : List ℕ
  colours = take n.relays l.relays.colours

  abbrev ends : List Ends
  ends = take n.links l.links.ends

  abbrev costs : List C
  costs = take n.links l.links.costs

  as_many_names : length names ≡ n.relays
  as_many_names = length-take-le n.relays l.relays.names long.names

  as_many_ends : length ends ≡ n.links
  as_many_ends = length-take-le n.links l.links.ends long.ends

  in_step : InStep n.colours names colours ends costs
  in_step = record {
    palette = n.palette;
    few = omega (arith, as_many_names, n.few);
    relays = length-take-le n.relays l.relays.colours long.colours ∙ sym as_many_names;
    sparse = omega (arith, as_many_ends, n.sparse);
    links = length-take-le n.links l.links.costs long.costs ∙ sym as_many_ends;
  }

  -- the relays and the links of the plan are the first entries of the lists
  pub held_relay_at : (i : ℕ) → i < n.relays → (d : Relay) → get_or (plan_of n l).relays i d ≡ relay (get_or l.relays.names i 0) (get_or l.relays.colours i 0)
  held_relay_at i h d =
      relay_at n.colours names colours ends costs in_step i (omega (arith, as_many_names, h)) d
      ∙ ap₂ relay (get_or-take n.relays l.relays.names i 0 h) (get_or-take n.relays l.relays.colours i 0 h)

  pub held_link_at : (j : ℕ) → j < n.links → (d : Link C) (e : Ends) (c : C)
      → get_or (plan_of n l).links j d ≡ link_of (get_or l.links.ends j e) (get_or l.links.costs j c)
  held_link_at j h d e c =
      link_at n.colours names colours ends costs in_step j (omega (arith, as_many_ends, h)) d e c
      ∙ ap₂ link_of (get_or-take n.links l.links.ends j e h) (get_or-take n.links l.links.costs j c h)

  -- a search of the first names finds the relay of that name, or tells that there is none
  pub held_searched : (a : ℕ) (r : Option ℕ) → FirstPlace names a r
      → MatchOption r (Unknown (plan_of n l) a) (λ i. Called (plan_of n l) i a)
  held_searched = searched n.colours names colours ends costs in_step

  module _ (none : C) where
    -- what is reached over the first pairs of ends is reached by a walk, and the other way round
    pub held_walk_of : (u v : ℕ) → Reaches ends u v → Walk (plan_of n l) u v
    held_walk_of = walk_of none n.colours names colours ends costs in_step

    pub held_reach_of : (u v : ℕ) → Walk (plan_of n l) u v → Reaches ends u v
    held_reach_of = reach_of none n.colours names colours ends costs in_step

    -- what relay 0 reaches is joined both ways
    pub held_connected : (m : ℕ) → AllReached ends m → (u v : ℕ) → u < m → v < m → Walk (plan_of n l) u v
    held_connected = connected none n.colours names colours ends costs in_step

    -- the first colour that the first colours lack is that with which closing is refused
    pub held_absent : (c : ℕ) → FirstAbsent colours n.colours c → FirstFails (close_checks n l) (ColourAbsent c)
    held_absent c a = closing_fails n l long (plan_of n l) refl (ColourAbsent c)
        (inl (c, refl, absent none n.colours names colours ends costs in_step (Some c) a))

    -- where the first colours lack none
    module _ (every : NoneAbsent colours n.colours) where
      used : ColoursUsed (plan_of n l)
      used = absent none n.colours names colours ends costs in_step None every

      -- a loose end among the first pairs has closing refused
      pub broken : Loose ends n.relays → FirstFails (close_checks n l) EntryBroken
      broken loose = closing_fails n l long (plan_of n l) refl EntryBroken (inr (
        used,
        inl (
          refl,
          (tied_or_not none n.colours names colours ends costs in_step true (subst (λ (m : ℕ). Loose ends m) (sym as_many_names) loose) tt).0,
        ),
      ))

      joined : AllReached ends n.relays → Connected (plan_of n l)
      joined all = reached none n.colours names colours ends costs in_step None (subst (λ (m : ℕ). AllReached ends m) (sym as_many_names) all)

      -- the plan can be closed where relay 0 reaches every relay over the first pairs
      pub closable : AllReached ends n.relays → Closable (plan_of n l)
      closable all = record { worn = used; connected = joined all }

      -- and no end is loose
      module _ (tight : Loose ends n.relays → ⊥) where
        within : Within ends (length names)
        within k h = by (cases_lt (get_or ends k nowhere).from n.relays) (cases_lt (get_or ends k nowhere).to n.relays)
          where
            by : ((get_or ends k nowhere).from < n.relays) ⊎ (n.relays ≤ (get_or ends k nowhere).from)
                → ((get_or ends k nowhere).to < n.relays) ⊎ (n.relays ≤ (get_or ends k nowhere).to) → Inside ends (length names) k
            by (inl from) (inl to) = (omega (arith, as_many_names, from), omega (arith, as_many_names, to))
            by (inl from) (inr far) = absurd (tight (k, h, λ inside. omega (arith, inside.1, far)))
            by (inr far) to = absurd (tight (k, h, λ inside. omega (arith, inside.0, far)))

        tied : AreRelays (plan_of n l)
        tied = (tied_or_not none n.colours names colours ends costs in_step false tt within).1

        -- the first relay out of reach is that with which closing is refused
        pub out : (v : ℕ) → FirstOut ends n.relays v → FirstFails (close_checks n l) (OutOfReach v)
        out v first = closing_fails n l long (plan_of n l) refl (OutOfReach v) (inr (
          used,
          inr (
            tied,
            inl (v, refl, reached none n.colours names colours ends costs in_step (Some v) (subst (λ (m : ℕ). FirstOut ends m v) (sym as_many_names) first)),
          ),
        ))

        -- and where there is none, closing is accepted: all its checks hold, and nothing is refused
        pub accepted : AllReached ends n.relays → AllHold (close_checks n l) × ((f : Refusal) → FirstFails (close_checks n l) f → ⊥)
        accepted all =
            let holds : AllHold (close_checks n l) = closing_holds n l long (plan_of n l) refl (used, (tied, (joined all, tt))) in
            (holds, closing_accepted none n l holds)
