-- The text of a sound and closable plan that fits the lists is accepted, and the lists then hold that plan.
use Rattle.std.proofs.Common.{◌≡◌, ℕ, ◌+◌, ◌^◌, ◌<◌, ◌≤◌, ◌⊎◌, List, [], ◌∷◌, ◌++◌, length, get_or, take, drop, Ok, Err, Result, MatchResult, sym, refl, ap, ◌∙◌, subst, inl, inr, arith}
use Rattle.std.specs.List.{HoldsAt, ContainsAt, flat_map, AllByRecursion}
use Rattle.std.proofs.ByRecursion.{All-get_or}
use Rattle.std.proofs.lemmas.List.{append_assoc, append-nil, append_cancel_left, get_or-take, get_or_default, drop_all, length-drop}
use Rattle.kind.specs.Laws.{CostKind, IsLink}
use Rattle.plan.specs.declared.closed.Closed.{Closed}
use Rattle.plan.specs.declared.counts.Counts.{Counts}
use Rattle.plan.specs.declared.refusal.Refusal.{Refusal}
use Rattle.plan.specs.Plan.{Plan, Relay, Link, relay, name_of, Lists, plan_of, IsLong}
use Rattle.plan.specs.Walk.{LowestOut}
use Rattle.plan.specs.Sound.{Sound, SameName, SamePair, IsName, IsColour, Bears, Dangling}
use Rattle.plan.specs.Checks.{FirstFails}
use Rattle.plan.specs.Rules.{Joined, IsBadPair, Closable, RelayPlace, LinkPlace, relay_checks, link_checks, close_checks}
use Rattle.plan.proofs.Held.{relays_entered, links_entered}
use Rattle.plan_text.specs.declared.refused.Refused.{Refused}
use Rattle.plan_text.specs.Rows.{row, TenDigits}
use Rattle.plan_text.specs.Kinds.{heading_of, TextKind, TextLaws}
use Rattle.plan_text.specs.Text.{plan_heading, relay_heading, counts_line, header, relay_line, link_line, relays_written, links_written, text_of}
use Rattle.plan_text.specs.Reading.{Kept, Sofar, Stopped, Read, Fits, Gives}
use Rattle.plan_text.proofs.Lines.{rows_same}
use Rattle.plan_text.proofs.Unique.{no_two_places, same_relay, joined_next, from_relay, from_link, HeaderTold, RelaysTold, LinksTold, from_header, after_header, after_relays, after_links, numbers_of, numbers_short, numbers_count, Fair, fair_links, text_injective}

-- behind the entries the lists are as long as they were
place_kept : {A : Type 0} (xs ys : List A) (n : ℕ) → drop n xs ≡ drop n ys → n < length ys → n < length xs
place_kept xs ys n e h = omega (arith, length-drop n xs, length-drop n ys, ap length e)

-- the first entries of a list
read_first : {A : Type 0} (xs ys : List A) (i : ℕ) (d : A) → xs ≡ take (length xs) ys → i < length xs → get_or xs i d ≡ get_or ys i d
read_first xs ys i d e h = ap (λ zs. get_or zs i d) e ∙ get_or-take (length xs) ys i d h

-- a check that does not refuse, before checks that do not
passes : {A P B : Type 0} → (A → ⊥) → (B → ⊥) → A ⊎ (P × B) → ⊥
passes first later (inl a) = first a
passes first later (inr x) = later x.1

-- no check is left
at_end : ⊥ → ⊥
at_end x = x

-- Closing does not refuse a closable plan.
module _ {C : Type 0} (K : CostKind C) (d : Link C) (n : Counts) (l : Lists C) where
  pub closing_passes : IsLong n l → Sound K (plan_of n l) → Closable (plan_of n l) → (f : Refusal) → FirstFails (close_checks n l) f → ⊥
  closing_passes long sound closable f =
      passes (λ x. x.1 long) (passes (λ x. x.2.absent (closable.worn x.0 x.2.colour)) (passes (λ x. dangling x.1) (passes (λ x. out x.0 x.2) at_end)))
    where
      dangling : Dangling (plan_of n l) → ⊥
      dangling x = let ends = All-get_or _ (plan_of n l).links x.place d x.within sound.ends in x.loose d (ends.0, ends.1)

      out : (v : ℕ) → LowestOut (plan_of n l) v → ⊥
      out v x = x.out (closable.connected 0 v (omega (arith, x.relay)) x.relay)

module _ {C : Type 0} (K : CostKind C) (T : TextKind C) (told : TextLaws K T)
    (p : Plan C) (sound : Sound K p) (old new : Lists C) (fits : Fits p old) where
  -- what stands for a link at a place past the list's end
  abbrev no_such : Link C
  no_such = record { from = 0; to = 0; cost = T.read [] }

  relays_counted : (d : Counts) → IsLong d new → length (plan_of d new).relays ≡ d.relays
  relays_counted d long = relays_entered d new long

  links_counted : (d : Counts) → IsLong d new → length (plan_of d new).links ≡ d.links
  links_counted d long = links_entered d new long

  -- The draft holds the first relays of p: it accepts the next.
  module _ (d : Counts) (long : IsLong d new) (kept : Kept d old new) (k n m : ℕ) (rest : List ℕ)
      (same_colours : d.colours ≡ k) (t : RelaysTold T p (plan_of d new) k n m rest)
      (more : length (plan_of d new).relays < length p.relays) where
    abbrev next_relay : Relay
    next_relay = get_or p.relays (length (plan_of d new).relays) (relay 0 0)

    relay_next : rest ≡ row (next_relay.name ∷ (next_relay.colour ∷ [])) ++ from_relay T p (length (plan_of d new).relays + 1)
    relay_next = t.there ∙ joined_next relay_line p.relays (length (plan_of d new).relays) (relay 0 0) (heading_of T.kind ++ flat_map (link_line T p) p.links) more

    next_name : IsName next_relay.name
    next_name = All-get_or _ p.relays (length (plan_of d new).relays) (relay 0 0) more sound.names

    next_colour : IsColour p.colours next_relay.colour
    next_colour = All-get_or _ p.relays (length (plan_of d new).relays) (relay 0 0) more sound.colours

    next_short : AllByRecursion TenDigits (next_relay.name ∷ (next_relay.colour ∷ []))
    next_short = (omega (arith, next_name.1), (omega (arith, next_colour.1, sound.colours_few.1), tt))

    relay_passes : (a c : ℕ) → a ≡ next_relay.name → c ≡ next_relay.colour → (f : Refusal) → FirstFails (relay_checks d new a c) f → ⊥
    relay_passes a c same_name same_colour f =
        passes (λ x. x.1 long) (passes (λ x. x.1 limits) (passes (λ x. borne x.1) (passes (λ x. x.1 few) (passes (λ x. x.1 place) at_end))))
      where
        count : length (plan_of d new).relays ≡ d.relays
        count = relays_counted d long

        limits : IsName a × IsColour d.colours c
        limits = ((omega (arith, next_name.0), omega (arith, next_name.1)), (omega (arith, next_colour.0), omega (arith, next_colour.1, t.same_colours)))

        borne : ((i : ℕ) × Bears (plan_of d new) i a) → ⊥
        borne b = no_two_places SameName p.relays b.0 (length (plan_of d new).relays) (relay 0 0) sound.names_differ b.1.0 more
            (ap (λ (r : Relay). r.name) (sym (read_first (plan_of d new).relays p.relays b.0 (relay 0 0) t.first_relays b.1.0))
            ∙ b.1.1 (relay 0 0) ∙ same_name)

        few : length (plan_of d new).relays < 256
        few = omega (arith, more, sound.relays_few)

        place : RelayPlace d.relays new.relays
        place = (
          place_kept new.relays.names old.relays.names d.relays kept.kept_names (omega (arith, count, more, fits.name_places)),
          place_kept new.relays.colours old.relays.colours d.relays kept.kept_colours (omega (arith, count, more, fits.colour_places)),
        )

  -- The draft holds the relays of p and its first links: it accepts the next.
  module _ (d : Counts) (long : IsLong d new) (kept : Kept d old new) (k n m : ℕ) (rest : List ℕ)
      (t : LinksTold T p (plan_of d new) k n m rest) (more : length (plan_of d new).links < length p.links) where
    abbrev next_link : Link C
    next_link = get_or p.links (length (plan_of d new).links) no_such

    link_next : rest ≡ row (numbers_of K T told p sound next_link) ++ from_link T p (length (plan_of d new).links + 1)
    link_next =
        t.there ∙ sym (append-nil (from_link T p (length (plan_of d new).links)))
        ∙ joined_next (link_line T p) p.links (length (plan_of d new).links) no_such [] more
        ∙ ap (λ (xs : List ℕ). link_line T p next_link ++ xs) (append-nil (from_link T p (length (plan_of d new).links + 1)))

    next_fair : Fair K T told p sound next_link
    next_fair = All-get_or _ p.links (length (plan_of d new).links) no_such more (fair_links K T told p sound p sound refl)

    next_apart : next_link.from ≡ next_link.to → ⊥
    next_apart = (All-get_or _ p.links (length (plan_of d new).links) no_such more sound.ends).2

    -- the relays of the draft are those of p
    known : (u a : ℕ) → u < length p.relays → a ≡ name_of p u → Bears (plan_of d new) u a
    known u a h e = subst (λ (rs : List Relay). (u < length rs) × HoldsAt (λ r. r.name ≡ a) rs u) (sym t.all_relays)
        (h, λ x. ap (λ (r : Relay). r.name) (get_or_default p.relays u x (relay 0 0) h) ∙ sym e)

    only : (u v a : ℕ) → Bears (plan_of d new) u a → v < length p.relays → a ≡ name_of p v → u ≡ v
    only u v a b h e = same_relay K p sound u v (omega (arith, b.0, ap length t.all_relays)) h
        (ap (λ (rs : List Relay). (get_or rs u (relay 0 0)).name) (sym t.all_relays) ∙ b.1 (relay 0 0) ∙ e)

    -- no link of the draft joins the ends of the next
    unjoined : (l : Link C) → ContainsAt (plan_of d new).links l → SamePair l next_link → ⊥
    unjoined l has pair =
        no_two_places SamePair p.links has.0 (length (plan_of d new).links) no_such sound.pairs_differ has.1 more
        (subst (λ (x : Link C). SamePair x next_link)
        (sym (has.2 no_such) ∙ read_first (plan_of d new).links p.links has.0 no_such t.first_links has.1) pair)

    link_passes : (a b : ℕ) (c : C) → a ≡ name_of p next_link.from → b ≡ name_of p next_link.to → c ≡ next_link.cost
        → (f : Refusal) → FirstFails (link_checks K d new a b c) f → ⊥
    link_passes a b c same_from same_to same_cost f =
        passes (λ x. x.1 long) (passes (λ x. x.1 limits) (passes (λ x. good x.1) (passes (λ x. x.1 few) (passes (λ x. x.1 place) at_end))))
      where
        count : length (plan_of d new).links ≡ d.links
        count = links_counted d long

        from_name : IsName (name_of p next_link.from)
        from_name = All-get_or _ p.relays next_link.from (relay 0 0) next_fair.0 sound.names

        to_name : IsName (name_of p next_link.to)
        to_name = All-get_or _ p.relays next_link.to (relay 0 0) next_fair.1 sound.names

        limits : (a < 2 ^ 32) × (b < 2 ^ 32) × IsLink K c
        limits = (omega (arith, from_name.1), omega (arith, to_name.1), subst (λ (x : C). IsLink K x) (sym same_cost) next_fair.2)

        apart : Joined (plan_of d new) a b → ⊥
        apart x =
            let one : x.one ≡ next_link.from = only x.one next_link.from a x.one_called.bears next_fair.0 same_from in
            let other : x.other ≡ next_link.to = only x.other next_link.to b x.other_called.bears next_fair.1 same_to in
            elim x.linked [ inl has ↦ unjoined _ has (inl (one, other)) | inr has ↦ unjoined _ has (inr (other, one)) ]

        good : IsBadPair (plan_of d new) a b → ⊥
        good bad = elim bad [
          | inl (inl none) ↦ none next_link.from (known next_link.from a next_fair.0 same_from)
          | inl (inr none) ↦ none next_link.to (known next_link.to b next_fair.1 same_to)
          | inr (inl e) ↦ next_apart (same_relay K p sound next_link.from next_link.to next_fair.0 next_fair.1 (sym same_from ∙ e ∙ same_to))
          | inr (inr x) ↦ apart x
        ]

        few : length (plan_of d new).links < 1024
        few = omega (arith, more, sound.links_few)

        place : LinkPlace d.links new.links
        place = (
          place_kept new.links.ends old.links.ends d.links kept.kept_ends (omega (arith, count, more, fits.end_places)),
          place_kept new.links.costs old.links.costs d.links kept.kept_costs (omega (arith, count, more, fits.cost_places)),
        )

  -- Reading the text of p never stops.
  module _ (closable : Closable p) (text : List ℕ) (there : text ≡ text_of T p) where
    some_relay : 1 ≤ length p.relays
    some_relay = let worn = closable.worn 1 (omega arith, sound.colours_few.0) in omega (arith, worn.1)

    headed : text ≡ plan_heading ++ (counts_line T.kind p.colours (length p.relays) (length p.links) ++ (relay_heading ++ from_relay T p 0))
    headed = there ∙ from_header K T told p sound
        ∙ append_assoc plan_heading (counts_line T.kind p.colours (length p.relays) (length p.links)) (relay_heading ++ from_relay T p 0)

    header_told : (k n m : ℕ) (rest : List ℕ) → TenDigits k → TenDigits n → TenDigits m → text ≡ header T.kind k n m ++ rest → HeaderTold T p k n m rest
    header_told k n m rest sk sn sm e = after_header K T told p sound k n m rest sk sn sm (sym e ∙ there)

    relays_told : (k n m : ℕ) (rest : List ℕ) (d : Counts) → Sofar K T text (relays_written T.kind) rest k n m old new d
        → d.relays ≤ n → RelaysTold T p (plan_of d new) k n m rest
    relays_told k n m rest d s few =
        after_relays K T told p sound (plan_of d new) s.sound k n m rest
        (omega (arith, s.colours, d.palette)) (omega (arith, s.allowed.1)) (omega (arith, s.allowed.2))
        (omega (arith, relays_counted d s.enough)) (sym s.there ∙ there)

    links_told : (k n m : ℕ) (rest : List ℕ) (d : Counts) → Sofar K T text (links_written T) rest k n m old new d
        → d.relays ≡ n → d.links ≤ m → LinksTold T p (plan_of d new) k n m rest
    links_told k n m rest d s all few =
        after_links K T told p sound (plan_of d new) s.sound k n m rest
        (omega (arith, s.colours, d.palette)) (omega (arith, s.allowed.1)) (omega (arith, s.allowed.2))
        (relays_counted d s.enough ∙ all)
        (omega (arith, links_counted d s.enough)) (sym s.there ∙ there)

    goes_through : (e : Refused) → Stopped K T text old new e → ⊥
    goes_through e (Stopped.no_heading lacks same says) = lacks _ headed
    goes_through e (Stopped.no_counts rest begun none same says) =
        none p.colours (length p.relays) (length p.links) (relay_heading ++ from_relay T p 0)
        (omega (arith, sound.colours_few.1)) (omega (arith, sound.relays_few)) (omega (arith, sound.links_few))
        (append_cancel_left plan_heading rest (counts_line T.kind p.colours (length p.relays) (length p.links) ++ (relay_heading ++ from_relay T p 0)) (sym begun ∙ headed))
    goes_through e (Stopped.counts_beyond k n m rest sk sn sm begun beyond same says) =
        let head = header_told k n m rest sk sn sm begun in
        beyond (omega (arith, head.same_relays, some_relay), omega (arith, head.same_relays, sound.relays_few), omega (arith, head.same_links, sound.links_few))
    goes_through e (Stopped.colours_beyond k n m rest f sk begun allowed refused same says) =
        let head = header_told k n m rest sk (omega (arith, allowed.1)) (omega (arith, allowed.2)) begun in
        passes (λ x. x.1 (omega (arith, head.same_colours, sound.colours_few.0), omega (arith, head.same_colours, sound.colours_few.1))) (λ x. at_end x) refused
    goes_through e (Stopped.no_relay_heading k n m rest d s no_relays no_links lacks says) =
        lacks (from_relay T p 0) (header_told k n m rest (omega (arith, s.colours, d.palette)) (omega (arith, s.allowed.1)) (omega (arith, s.allowed.2)) s.there).there
    goes_through e (Stopped.no_relay k n m rest d s less no_links lacks says) =
        let t = relays_told k n m rest d s (omega arith) in
        let more : length (plan_of d new).relays < length p.relays = omega (arith, relays_counted d s.enough, t.same_relays) in
        let next = next_relay d s.enough s.kept k n m rest s.colours t more in
        lacks (next.name ∷ (next.colour ∷ [])) (from_relay T p (length (plan_of d new).relays + 1)) refl
        (next_short d s.enough s.kept k n m rest s.colours t more) (relay_next d s.enough s.kept k n m rest s.colours t more)
    goes_through e (Stopped.no_such_relay k n m rest d a c f s less no_links sa sc refused says) =
        let t = relays_told k n m (row (a ∷ (c ∷ [])) ++ rest) d s (omega arith) in
        let more : length (plan_of d new).relays < length p.relays = omega (arith, relays_counted d s.enough, t.same_relays) in
        let next = next_relay d s.enough s.kept k n m (row (a ∷ (c ∷ [])) ++ rest) s.colours t more in
        let same = rows_same (a ∷ (c ∷ [])) (next.name ∷ (next.colour ∷ [])) rest (from_relay T p (length (plan_of d new).relays + 1)) refl (sa, (sc, tt))
        (next_short d s.enough s.kept k n m (row (a ∷ (c ∷ [])) ++ rest) s.colours t more)
        (relay_next d s.enough s.kept k n m (row (a ∷ (c ∷ [])) ++ rest) s.colours t more) in
        relay_passes d s.enough s.kept k n m (row (a ∷ (c ∷ [])) ++ rest) s.colours t more a c
        (ap (λ (ns : List ℕ). get_or ns 0 0) same.0) (ap (λ (ns : List ℕ). get_or ns 1 0) same.0) f refused
    goes_through e (Stopped.no_link_heading k n m rest d s all no_links lacks says) =
        let t = relays_told k n m rest d s (omega arith) in
        lacks (flat_map (link_line T p) p.links)
        (t.there ∙ ap (λ (rs : List Relay). flat_map relay_line rs ++ (heading_of T.kind ++ flat_map (link_line T p) p.links))
        (drop_all (length (plan_of d new).relays) p.relays (omega (arith, relays_counted d s.enough, t.same_relays))))
    goes_through e (Stopped.no_link k n m rest d s all less lacks says) =
        let t = links_told k n m rest d s all (omega arith) in
        let more : length (plan_of d new).links < length p.links = omega (arith, links_counted d s.enough, t.same_links) in
        let next = next_link d s.enough s.kept k n m rest t more in
        let fair = next_fair d s.enough s.kept k n m rest t more in
        lacks (numbers_of K T told p sound next) (from_link T p (length (plan_of d new).links + 1))
        (numbers_count K T told p sound next) (numbers_short K T told p sound next fair)
        (link_next d s.enough s.kept k n m rest t more)
    goes_through e (Stopped.no_such_link k n m rest d a b ns f s all less size sa sb sns refused says) =
        let t = links_told k n m (row (a ∷ (b ∷ ns)) ++ rest) d s all (omega arith) in
        let more : length (plan_of d new).links < length p.links = omega (arith, links_counted d s.enough, t.same_links) in
        let next = next_link d s.enough s.kept k n m (row (a ∷ (b ∷ ns)) ++ rest) t more in
        let fair = next_fair d s.enough s.kept k n m (row (a ∷ (b ∷ ns)) ++ rest) t more in
        let long : length (a ∷ (b ∷ ns)) ≡ length (numbers_of K T told p sound next) =
        omega (arith, numbers_count K T told p sound next) in
        let same = rows_same (a ∷ (b ∷ ns)) (numbers_of K T told p sound next) rest (from_link T p (length (plan_of d new).links + 1))
        long (sa, (sb, sns)) (numbers_short K T told p sound next fair)
        (link_next d s.enough s.kept k n m (row (a ∷ (b ∷ ns)) ++ rest) t more) in
        link_passes d s.enough s.kept k n m (row (a ∷ (b ∷ ns)) ++ rest) t more a b (T.read ns)
        (ap (λ (xs : List ℕ). get_or xs 0 0) same.0) (ap (λ (xs : List ℕ). get_or xs 1 0) same.0)
        (ap (λ (xs : List ℕ). T.read (drop 2 xs)) same.0 ∙ told.back next.cost fair.2) f refused
    goes_through e (Stopped.more_text k n m rest d s all_relays all_links some says) =
        let t = links_told k n m rest d s all_relays (omega arith) in
        let none = ap (λ (ls : List (Link C)). flat_map (link_line T p) ls)
        (drop_all (length (plan_of d new).links) p.links (omega (arith, links_counted d s.enough, t.same_links))) in
        omega (arith, ap length (t.there ∙ none))
    goes_through e (Stopped.not_closed d f whole some long q_sound kept refused says) =
        let same : p ≡ plan_of d new = text_injective K T told p (plan_of d new) sound q_sound (sym there ∙ whole) in
        closing_passes K no_such d new long q_sound (subst (λ (q : Plan C). Closable q) same closable) f refused

-- Whatever comes of reading: if the text is that of such a plan, it is accepted, and the lists hold the plan.
pub complete : {C : Type 0} (K : CostKind C) (T : TextKind C) (told : TextLaws K T) (text : List ℕ) (old new : Lists C) (r : Result Closed Refused)
    → MatchResult r (λ n. Read K T text old new n) (λ e. Stopped K T text old new e)
    → (p : Plan C) → Sound K p → Closable p → Fits p old → text ≡ text_of T p → Gives p new r
complete K T told text old new (Ok n) read p sound closable fits there = text_injective K T told (plan_of n new) p read.sound sound (sym read.written ∙ there)
complete K T told text old new (Err e) stopped p sound closable fits there = goes_through K T told p sound old new fits closable text there e stopped

-- so reading such a text never stops
pub never_stopped : {C : Type 0} (K : CostKind C) (T : TextKind C) (told : TextLaws K T) (text : List ℕ) (old new : Lists C) (e : Refused)
    → Stopped K T text old new e → (p : Plan C) → Sound K p → Closable p → Fits p old → text ≡ text_of T p → ⊥
never_stopped K T told text old new e = complete K T told text old new (Err e)

-- and where the text of a sound plan is accepted, the lists hold that plan
pub same_accepted : {C : Type 0} (K : CostKind C) (T : TextKind C) (told : TextLaws K T) (text : List ℕ) (old new : Lists C) (n : Counts)
    → Read K T text old new n → (p : Plan C) → Sound K p → text ≡ text_of T p → plan_of n new ≡ p
same_accepted K T told text old new n read p sound there = text_injective K T told (plan_of n new) p read.sound sound (sym read.written ∙ there)
