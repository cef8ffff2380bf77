-- What adding does to the plan that the lists hold.
use Rattle.std.proofs.Common.{◌≡◌, ℕ, ◌+◌, ◌^◌, ◌<◌, List, [], ◌∷◌, ◌++◌, length, get_or, take, set, sym, ap, ◌∙◌, subst, ap₂, inl, inr, arith}
use Rattle.std.specs.List.{AllByRecursion}
use Rattle.std.proofs.lemmas.List.{length-take-le, take_more_set, length_push, length-set, get_or_default}
use Rattle.std.proofs.ByRecursion.{All-push, All-get_or, All-from_get_or, All-weaker}
use Rattle.kind.specs.Laws.{CostKind, IsLink}
use Rattle.plan.specs.declared.ends.Ends.{Ends}
use Rattle.plan.specs.declared.counts.Counts.{Counts}
use Rattle.plan.specs.Plan.{Lists, lists, IsLong, Plan, Relay, Link, plan_of, relay, link, link_of, paired, with_relay, with_link}
use Rattle.plan.specs.Walk.{Linked}
use Rattle.plan.specs.Sound.{Sound, NoTwo, SameName, SamePair, Called}
use Rattle.plan.specs.Checks.{AllHold}
use Rattle.plan.specs.Rules.{relay_checks, link_checks, relay_rules, link_rules, Joined, IsNewPair, LinkPlace}
use Rattle.plan.specs.Steps.{Grown, relay_written, link_written, RelayAdded, AddsLink, LinkAdded}
use Rattle.plan.specs.History.{Call, AddRelay, AddLink, Enters}
use Rattle.plan.proofs.Held.{links_entered}
use Rattle.plan.proofs.Paired.{paired_push}

pub same_plan : {C : Type 0} {k k' : ℕ} {rs rs' : List Relay} {ls ls' : List (Link C)} → k ≡ k' → rs ≡ rs' → ls ≡ ls'
    → ◌≡◌ {A = Plan C} (record { colours = k; relays = rs; links = ls }) (record { colours = k'; relays = rs'; links = ls' })
same_plan e f g i = record { colours = e i; relays = f i; links = g i }

-- one entry more at the end of two lists side by side
paired_more : {A B X : Type 0} (f : A → B → X) (xs : List A) (ys : List B) (n m : ℕ) (x : A) (y : B)
    → m ≡ n + 1 → n < length xs → n < length ys
    → paired f (take m (set xs n x)) (take m (set ys n y)) ≡ paired f (take n xs) (take n ys) ++ f x y ∷ []
paired_more f xs ys n m x y e hx hy =
    let one : length (take n xs) ≡ n = length-take-le n xs (omega arith) in
    let other : length (take n ys) ≡ n = length-take-le n ys (omega arith) in
    ap₂ (paired f) (ap (λ (k : ℕ). take k (set xs n x)) e ∙ take_more_set xs n x hx) (ap (λ (k : ℕ). take k (set ys n y)) e ∙ take_more_set ys n y hy)
    ∙ paired_push f (take n xs) (take n ys) x y (one ∙ sym other)

-- nothing new at the end of a list that has no two alike
no_two_push : {A : Type 0} (R : A → A → Type 0) (xs : List A) (y : A) → NoTwo R xs → AllByRecursion (λ x. R x y → ⊥) xs → NoTwo R (xs ++ y ∷ [])
no_two_push R [] y h k = (tt, tt)
no_two_push R (x ∷ xs) y h k = (All-push _ xs y h.0 k.0, no_two_push R xs y h.1 k.1)

-- a sound plan stays sound with one relay more
pub sound_relay : {C : Type 0} (K : CostKind C) (p : Plan C) (a c : ℕ) → Sound K p → AllHold (relay_rules p a c) → Sound K (with_relay p (relay a c))
sound_relay K p a c s (limits, (new, (few, _))) = record {
  colours_few = s.colours_few;
  relays_few = omega (arith, length_push p.relays (relay a c));
  links_few = s.links_few;
  names = All-push _ p.relays (relay a c) s.names limits.0;
  names_differ = no_two_push SameName p.relays (relay a c) s.names_differ
      (All-from_get_or _ p.relays (relay 0 0) (λ i h e. new i (h, λ d. ap (λ (r : Relay). r.name) (get_or_default p.relays i d (relay 0 0) h) ∙ e)));
  colours = All-push _ p.relays (relay a c) s.colours limits.1;
  ends = All-weaker _ _ (λ l t. (omega (arith, length_push p.relays (relay a c), t.0), omega (arith, length_push p.relays (relay a c), t.1), t.2)) p.links s.ends;
  pairs_differ = s.pairs_differ;
  costs = s.costs;
}

-- what adding has done: the lists hold the plan that the call entered
pub record Done {C : Type 0} (K : CostKind C) (n : Counts) (l : Lists C) (call : Call C) (n' : Counts) (l' : Lists C) : Type 0 where
  pub long : IsLong n' l'
  pub enters : Enters K call (plan_of n l) (plan_of n' l')

module _ {C : Type 0} (K : CostKind C) (n n' : Counts) (l l' : Lists C) (a c : ℕ)
    (fits : AllHold (relay_checks n l a c)) (grown : Grown n n' 1 0)
    (written : l' ≡ lists (relay_written l.relays n.relays a c) l.links) where
  same_links : n'.links ≡ n.links
  same_links = omega (arith, grown.more_links)

  names : l'.relays.names ≡ set l.relays.names n.relays a
  names = ap (λ (x : Lists C). x.relays.names) written

  colours : l'.relays.colours ≡ set l.relays.colours n.relays c
  colours = ap (λ (x : Lists C). x.relays.colours) written

  ends : l'.links.ends ≡ l.links.ends
  ends = ap (λ (x : Lists C). x.links.ends) written

  costs : l'.links.costs ≡ l.links.costs
  costs = ap (λ (x : Lists C). x.links.costs) written

  relay_plan : plan_of n' l' ≡ with_relay (plan_of n l) (relay a c)
  relay_plan =
      let place = fits.1.1.1.1.0 in
      same_plan grown.same_colours
      (ap₂ (λ (xs ys : List ℕ). paired relay (take n'.relays xs) (take n'.relays ys)) names colours
      ∙ paired_more relay l.relays.names l.relays.colours n.relays n'.relays a c grown.more_relays place.0 place.1)
      (ap₂ (λ (xs : List Ends) (ys : List C). paired link_of (take n'.links xs) (take n'.links ys)) ends costs
      ∙ ap (λ (m : ℕ). paired link_of (take m l.links.ends) (take m l.links.costs)) same_links)

  pub relay_done : Done K n l (AddRelay a c) n' l'
  relay_done = let place = fits.1.1.1.1.0 in let long = fits.0 in let rules : AllHold (relay_rules (plan_of n l) a c) = (fits.1.0, (fits.1.1.0, (fits.1.1.1.0, tt))) in record {
    long = record {
      names = omega (arith, ap length names, length-set l.relays.names n.relays a, grown.more_relays, place.0);
      colours = omega (arith, ap length colours, length-set l.relays.colours n.relays c, grown.more_relays, place.1);
      ends = omega (arith, ap length ends, same_links, long.ends);
      costs = omega (arith, ap length costs, same_links, long.costs);
    };
    enters = (rules, relay_plan);
  }

  -- the relay is entered behind the others, and a sound plan stays sound
  pub relay_added : RelayAdded n l a c n' l' × (Sound K (plan_of n l) → Sound K (plan_of n' l'))
  relay_added = (
    record { counts = grown; plan = relay_plan; long = relay_done.long; written = written },
    λ s. subst (λ (p : Plan C). Sound K p) (sym relay_plan) (sound_relay K (plan_of n l) a c s relay_done.enters.0),
  )

same_link : {C : Type 0} (l : Link C) (u v : ℕ) → l.from ≡ u → l.to ≡ v → l ≡ link u v l.cost
same_link l u v e f i = record { from = e i; to = f i; cost = l.cost }

-- a sound plan stays sound with one link more
pub sound_link : {C : Type 0} (K : CostKind C) (p : Plan C) (a b u v : ℕ) (c : C) → Sound K p → AllHold (link_rules K p a b c)
    → Called p u a → Called p v b → Sound K (with_link p (link u v c))
sound_link {C} K p a b u v c s (limits, (fresh, (few, _))) u_called v_called = record {
  colours_few = s.colours_few;
  relays_few = s.relays_few;
  links_few = omega (arith, length_push p.links (link u v c));
  names = s.names;
  names_differ = s.names_differ;
  colours = s.colours;
  ends = All-push _ p.links (link u v c) s.ends
      (u_called.bears.0, v_called.bears.0, λ e. fresh.differ (same_name e));
  pairs_differ = no_two_push SamePair p.links (link u v c) s.pairs_differ
      (All-from_get_or _ p.links (link u v c) (λ i h e. fresh.apart (record {
        one = u;
        other = v;
        one_called = u_called;
        other_called = v_called;
        cost = (get_or p.links i (link u v c)).cost;
        linked = found i h e;
      })));
  costs = All-push _ p.links (link u v c) s.costs limits.2;
}
  where
    same_name : u ≡ v → a ≡ b
    same_name e = sym (u_called.bears.1 (relay 0 0)) ∙ ap (λ (x : ℕ). (get_or p.relays x (relay 0 0)).name) e ∙ v_called.bears.1 (relay 0 0)

    found : (i : ℕ) → i < length p.links → SamePair (get_or p.links i (link u v c)) (link u v c)
        → Linked p u v (get_or p.links i (link u v c)).cost
    found i h (inl e) = inl (i, h, λ d. get_or_default p.links i d (link u v c) h ∙ same_link (get_or p.links i (link u v c)) u v e.0 e.1)
    found i h (inr e) = inr (i, h, λ d. get_or_default p.links i d (link u v c) h ∙ same_link (get_or p.links i (link u v c)) v u e.0 e.1)

-- the same where the two relays are known by their numbers: that their names are below 2 ^ 32 follows
pub sound_with_link : {C : Type 0} (K : CostKind C) (p : Plan C) (a b u v : ℕ) (c : C) → Sound K p → length p.links < 1024
    → IsLink K c → (a ≡ b → ⊥) → (Joined p a b → ⊥) → Called p u a → Called p v b → Sound K (with_link p (link u v c))
sound_with_link K p a b u v c s few lawful differ apart from to = sound_link K p a b u v c s (limits, (fresh, (few, tt))) from to
  where
    small : (w x : ℕ) → Called p w x → x < 2 ^ 32
    small w x called =
        let name = All-get_or _ p.relays w (relay 0 0) called.bears.0 s.names in
        omega (arith, name.1, called.bears.1 (relay 0 0))

    limits : (a < 2 ^ 32) × (b < 2 ^ 32) × IsLink K c
    limits = (small u a from, small v b to, lawful)

    fresh : IsNewPair p a b
    fresh = record { from = u; to = v; from_called = from; to_called = to; differ = differ; apart = apart }

module _ {C : Type 0} (n n' : Counts) (l l' : Lists C) (c : C) (pair : Ends)
    (place : LinkPlace n.links l.links) (grown : Grown n n' 0 1) (written : l' ≡ lists l.relays (link_written l.links n.links pair c)) where
  same_relays : n'.relays ≡ n.relays
  same_relays = omega (arith, grown.more_relays)

  ends_written : l'.links.ends ≡ set l.links.ends n.links pair
  ends_written = ap (λ (x : Lists C). x.links.ends) written

  costs_written : l'.links.costs ≡ set l.links.costs n.links c
  costs_written = ap (λ (x : Lists C). x.links.costs) written

  names_kept : l'.relays.names ≡ l.relays.names
  names_kept = ap (λ (x : Lists C). x.relays.names) written

  colours_kept : l'.relays.colours ≡ l.relays.colours
  colours_kept = ap (λ (x : Lists C). x.relays.colours) written

  link_plan : plan_of n' l' ≡ with_link (plan_of n l) (link_of pair c)
  link_plan =
      same_plan grown.same_colours
      (ap₂ (λ (xs ys : List ℕ). paired relay (take n'.relays xs) (take n'.relays ys)) names_kept colours_kept
      ∙ ap (λ (m : ℕ). paired relay (take m l.relays.names) (take m l.relays.colours)) same_relays)
      (ap₂ (λ (xs : List Ends) (ys : List C). paired link_of (take n'.links xs) (take n'.links ys)) ends_written costs_written
      ∙ paired_more link_of l.links.ends l.links.costs n.links n'.links pair c grown.more_links place.0 place.1)

  link_long : IsLong n l → IsLong n' l'
  link_long long = record {
    names = omega (arith, ap length names_kept, same_relays, long.names);
    colours = omega (arith, ap length colours_kept, same_relays, long.colours);
    ends = omega (arith, ap length ends_written, length-set l.links.ends n.links pair, grown.more_links, place.0);
    costs = omega (arith, ap length costs_written, length-set l.links.costs n.links c, grown.more_links, place.1);
  }

module _ {C : Type 0} (K : CostKind C) (n n' : Counts) (l l' : Lists C) (a b : ℕ) (c : C) (pair : Ends)
    (fits : AllHold (link_checks K n l a b c)) (from_called : Called (plan_of n l) pair.from a) (to_called : Called (plan_of n l) pair.to b)
    (grown : Grown n n' 0 1) (written : l' ≡ lists l.relays (link_written l.links n.links pair c)) where
  adds : AddsLink (plan_of n l) (plan_of n' l') pair a b c
  adds = record { from_called = from_called; to_called = to_called; is = link_plan n n' l l' c pair fits.1.1.1.1.0 grown written }

  entered : Done K n l (AddLink a b c) n' l'
  entered = let rules : AllHold (link_rules K (plan_of n l) a b c) = (fits.1.0, (fits.1.1.0, (fits.1.1.1.0, tt))) in record {
    long = link_long n n' l l' c pair fits.1.1.1.1.0 grown written fits.0;
    enters = (rules, (pair, adds));
  }

  pub link_done : Done K n l (AddLink a b c) n' l' × LinkAdded n l a b c n' l'
  link_done = (entered, record { counts = grown; pair = pair; plan = adds; long = entered.long; written = written })

-- the link is entered behind the others, and a sound plan stays sound
pub link_added : {C : Type 0} (K : CostKind C) (n n' : Counts) (l l' : Lists C) (a b : ℕ) (c : C) (pair : Ends)
    → IsLong n l → IsLink K c → (a ≡ b → ⊥) → (Joined (plan_of n l) a b → ⊥) → n.links < 1024 → LinkPlace n.links l.links
    → Grown n n' 0 1 → Called (plan_of n l) pair.from a → Called (plan_of n l) pair.to b
    → l' ≡ lists l.relays (link_written l.links n.links pair c)
    → LinkAdded n l a b c n' l' × (Sound K (plan_of n l) → Sound K (plan_of n' l'))
link_added {C} K n n' l l' a b c pair long lawful differ apart few place grown from to written =
    let same : plan_of n' l' ≡ with_link (plan_of n l) (link_of pair c) = link_plan n n' l l' c pair place grown written in (
      record {
        counts = grown;
        pair = pair;
        plan = record { from_called = from; to_called = to; is = same };
        long = link_long n n' l l' c pair place grown written long;
        written = written;
      },
      λ s. subst (λ (p : Plan C). Sound K p) (sym same) (sound_with_link K (plan_of n l) a b pair.from pair.to c s
          (omega (arith, links_entered n l long, few)) lawful differ apart from to),
    )
