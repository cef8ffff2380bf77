-- What the steps of a draft do to the lists and to the plan that they hold.
use Rattle.std.specs.Prelude.{◌≡◌, ℕ, ◌+◌, ◌⊎◌, Ok, Err, Result, slice_set}
use Rattle.plan.specs.declared.closed.Closed.{Closed}
use Rattle.plan.specs.declared.counts.Counts.{Counts}
use Rattle.plan.specs.declared.draft.Draft.{Draft}
use Rattle.plan.specs.declared.ends.Ends.{Ends}
use Rattle.plan.specs.declared.refusal.Refusal.{Refusal}
use Rattle.plan.specs.declared.refusal.Refusal.TheVariants.{ColourAbsent, OutOfReach}
use Rattle.plan.specs.Plan.{Plan, Lists, RelayEntries, LinkEntries, lists, plan_of, IsLong, relay, with_relay, with_link, link_of}
use Rattle.plan.specs.Sound.{Called, LowestAbsent}
use Rattle.plan.specs.Walk.{LowestOut}
use Rattle.plan.specs.Rules.{Closable}

-- so many relays and links more, and the same colours
pub record Grown (old new : Counts) (relays links : ℕ) : Type 0 where
  pub same_colours : new.colours ≡ old.colours
  pub more_relays : new.relays ≡ old.relays + relays
  pub more_links : new.links ≡ old.links + links

-- the lists with a relay, or a link, written at the place of its number
abbrev pub relay_written : RelayEntries → ℕ → ℕ → ℕ → RelayEntries
relay_written r i a c = record { names = slice_set r.names i a; colours = slice_set r.colours i c }

abbrev pub link_written : {C : Type 0} → LinkEntries C → ℕ → Ends → C → LinkEntries C
link_written l j e c = record { ends = slice_set l.ends j e; costs = slice_set l.costs j c }

-- A draft n in the lists l, to which a relay of name a and colour c is added; then they are n' and l'.
pub record RelayAdded {C : Type 0} (n : Counts) (l : Lists C) (a c : ℕ)
    (n' : Counts) (l' : Lists C) : Type 0 where
  pub counts : Grown n n' 1 0
  pub plan : plan_of n' l' ≡ with_relay (plan_of n l) (relay a c)
  pub long : IsLong n' l'
  pub written : l' ≡ lists (relay_written l.relays n.relays a c) l.links

-- the plan new is old with a link at its end, of ends e and cost c, between the relays called a and b
pub record AddsLink {C : Type 0} (old new : Plan C) (e : Ends) (a b : ℕ) (c : C) : Type 0 where
  pub from_called : Called old e.from a
  pub to_called : Called old e.to b
  pub is : new ≡ with_link old (link_of e c)

-- a draft n in the lists l, to which a link of cost c between the names a and b is added; then they are n' and l'
pub record LinkAdded {C : Type 0} (n : Counts) (l : Lists C) (a b : ℕ) (c : C)
    (n' : Counts) (l' : Lists C) : Type 0 where
  pub counts : Grown n n' 0 1
  pub pair : Ends
  pub plan : AddsLink (plan_of n l) (plan_of n' l') pair a b c
  pub long : IsLong n' l'
  pub written : l' ≡ lists l.relays (link_written l.links n.links pair c)

-- closing a sound plan: accepted exactly when it can be closed; otherwise a colour is absent, or, all colours being there, a relay is out of reach
abbrev pub Closes : {C : Type 0} → Plan C → Result Closed (Draft × Refusal) → Type 0
Closes p (Ok c) = Closable p
Closes p (Err e) = ((c : ℕ) × (e.1 ≡ ColourAbsent c) × LowestAbsent p c)
    ⊎ ((v : ℕ) × (e.1 ≡ OutOfReach v) × ((c : ℕ) → LowestAbsent p c → ⊥) × LowestOut p v)
