-- The first block, and how the others grow line by line.
use Rattle.std.proofs.Common.{◌≡◌, ℕ, ◌+◌, ◌<◌, ◌≤◌, List, [], ◌∷◌, ◌++◌, length, take, drop, set, Some, None, Option, sym, refl, ap, ◌∙◌, subst, ap₂, arith}
use Rattle.std.specs.List.{flat_map}
use Rattle.std.proofs.lemmas.List.{append_assoc, append-nil, append_cancel_left, flat_map_more, drop-drop, drop_all, drop-set-lt}
use Rattle.kind.specs.Laws.{CostKind}
use Rattle.plan.specs.declared.counts.Counts.{Counts}
use Rattle.plan.specs.declared.refusal.Refusal.{Refusal}
use Rattle.plan.specs.declared.refusal.Refusal.TheVariants.{NotInForm, BeyondLimit}
use Rattle.plan.specs.Plan.{Plan, Link, RelayEntries, LinkEntries, relay, link_of, paired, Lists, lists, plan_of, empty_plan, IsLong}
use Rattle.plan.specs.Sound.{Sound}
use Rattle.plan.specs.Checks.{FirstFails}
use Rattle.plan.specs.Rules.{Closable, open_checks, close_checks}
use Rattle.plan.proofs.Adding.{same_plan}
use Rattle.plan.proofs.Held.{relays_entered, links_entered}
use Rattle.plan_text.specs.declared.read.HeaderCounts.{HeaderCounts}
use Rattle.plan_text.specs.declared.read.Progress.{Progress}
use Rattle.plan_text.specs.declared.refused.Refused.{Refused}
use Rattle.plan_text.specs.declared.refused.Refuser.{Refuser}
use Rattle.plan_text.specs.declared.refused.Refuser.TheVariants.{Text as by_text, Draft as by_draft, Closing as by_closing}
use Rattle.plan_text.specs.Rows.{row}
use Rattle.plan_text.specs.Kinds.{letter_of, heading_of, TextKind, TextLaws}
use Rattle.plan_text.specs.Text.{Lacks, plan_heading, relay_heading, header, relay_line, link_line, relays_written, links_written, text_of}
use Rattle.plan_text.specs.Reading.{Kept, Allowed, LacksRow, Says, Sofar, Stopped, Read}
use Rattle.plan_text.specs.Stages.{HeaderRead, Begun, SameSize, RelaysRead, RelayRead, RelayStopped, LinksRead, LinkRead, LinkStopped}

-- where nothing is entered yet the plan is empty, and sound
plan_empty : {C : Type 0} (n : Counts) (l : Lists C) → n.relays ≡ 0 → n.links ≡ 0 → plan_of n l ≡ empty_plan n.colours
plan_empty n l e f = same_plan refl
    (ap (λ (k : ℕ). paired relay (take k l.relays.names) (take k l.relays.colours)) e)
    (ap (λ (k : ℕ). paired link_of (take k l.links.ends) (take k l.links.costs)) f)

pub sound_empty : {C : Type 0} (K : CostKind C) (n : Counts) (l : Lists C) → n.relays ≡ 0 → n.links ≡ 0 → Sound K (plan_of n l)
sound_empty {C} K n l e f = subst (λ (p : Plan C). Sound K p) (sym (plan_empty n l e f)) (record {
  colours_few = (n.coloured, n.palette);
  relays_few = omega arith;
  links_few = omega arith;
  names = tt;
  names_differ = tt;
  colours = tt;
  ends = tt;
  pairs_differ = tt;
  costs = tt;
})

-- and no list is too short for it
pub nothing_short : {C : Type 0} (n : Counts) (l : Lists C) → n.relays ≡ 0 → n.links ≡ 0 → IsLong n l
nothing_short n l e f = record { names = omega arith; colours = omega arith; ends = omega arith; costs = omega arith }

pub kept_same : {C : Type 0} (n : Counts) (l : Lists C) → Kept n l l
kept_same n l = record { kept_names = refl; kept_colours = refl; kept_ends = refl; kept_costs = refl }

-- The first two lines: the heading stands in front of `first`, and the letter of `second`.
module _ {C : Type 0} (K : CostKind C) (T : TextKind C)
    (text first : List ℕ) (headed : text ≡ plan_heading ++ first)
    (label : List ℕ) (labelled : label ≡ letter_of T.kind ∷ (32 ∷ [])) where
  pub no_letter : Lacks first label → (e : Refused) → Says e NotInForm 2 by_text None → (l : Lists C) → Stopped K T text l l e
  no_letter lacks e says l = Stopped.no_counts first headed
      (λ k n m more sk sn sm there. lacks (row (k ∷ (n ∷ (m ∷ []))) ++ more) (there ∙ ap (λ (xs : List ℕ). xs ++ (row (k ∷ (n ∷ (m ∷ []))) ++ more)) (sym labelled)))
      refl says

  module _ (second : List ℕ) (lettered : first ≡ label ++ second) where
    pub no_numbers : LacksRow second 3 → (e : Refused) → Says e NotInForm 2 by_text None → (l : Lists C) → Stopped K T text l l e
    no_numbers lacks e says l = Stopped.no_counts first headed
        (λ k n m more sk sn sm there. lacks (k ∷ (n ∷ (m ∷ []))) more refl (sk, (sn, (sm, tt)))
        (append_cancel_left label second (row (k ∷ (n ∷ (m ∷ []))) ++ more)
        (sym lettered ∙ there ∙ ap (λ (xs : List ℕ). xs ++ (row (k ∷ (n ∷ (m ∷ []))) ++ more)) (sym labelled))))
        refl says

-- The first block is read: what the numbers n in it, and what stands behind it, come to.
module _ {C : Type 0} (K : CostKind C) (T : TextKind C) (text : List ℕ) (n : HeaderCounts) (rest : List ℕ) (h : HeaderRead T.kind text n rest) where
  pub too_many : (Allowed n.relays n.links → ⊥) → (e : Refused) → Says e BeyondLimit 2 by_text None → (l : Lists C) → Stopped K T text l l e
  too_many beyond e says l = Stopped.counts_beyond n.colours n.relays n.links rest
      h.colours_short h.relays_short h.links_short h.there beyond refl says

  module _ (allowed : Allowed n.relays n.links) where
    pub no_draft : (f : Refusal) → FirstFails (open_checks n.colours) f → (e : Refused) → Says e f 2 by_draft None → (l : Lists C) → Stopped K T text l l e
    no_draft f refused e says l = Stopped.colours_beyond n.colours n.relays n.links rest f
        h.colours_short h.there allowed refused refl says

    -- the third line is the heading of the relays, or is not; d is the draft that was opened
    module _ (d : Counts) (opened : (d.colours ≡ n.colours) × (d.relays ≡ 0) × (d.links ≡ 0)) where
      header_of : text ≡ header T.kind d.colours n.relays n.links ++ rest
      header_of = h.there ∙ ap (λ (k : ℕ). header T.kind k n.relays n.links ++ rest) (sym opened.0)

      pub no_relay_heading : Lacks rest relay_heading → (e : Refused) → Says e NotInForm 3 by_text (Some d) → (l : Lists C) → Stopped K T text l l e
      no_relay_heading lacks e says l = Stopped.no_relay_heading d.colours n.relays n.links rest d
          (record { there = header_of; allowed = allowed; colours = refl; enough = nothing_short d l opened.1 opened.2; sound = sound_empty K d l opened.1 opened.2; kept = kept_same d l })
          opened.1 opened.2 lacks says

      pub begun : (s : Progress) → s.draft ≡ d → s.relays ≡ n.relays → s.links ≡ n.links → rest ≡ relay_heading ++ s.rest.now → Begun T.kind text s
      begun s same relays_is links_is headed = record {
        there = header_of
            ∙ ap (λ (xs : List ℕ). header T.kind d.colours n.relays n.links ++ xs) headed
            ∙ sym (append_assoc (header T.kind d.colours n.relays n.links) relay_heading s.rest.now)
            ∙ ap (λ (xs : List ℕ). (xs ++ relay_heading) ++ s.rest.now)
            (ap (λ (x : Counts). header T.kind x.colours n.relays n.links) (sym same)
            ∙ ap₂ (λ (x y : ℕ). header T.kind s.draft.colours x y) (sym relays_is) (sym links_is));
        allowed = (omega (arith, allowed.0, relays_is), omega (arith, allowed.1, relays_is), omega (arith, allowed.2, links_is));
        no_relays = ap (λ (x : Counts). x.relays) same ∙ opened.1;
        no_links = ap (λ (x : Counts). x.links) same ∙ opened.2;
      }

-- one entry more, and what stands behind it is as it was
drop_one_more : {A : Type 0} (xs ys zs : List A) (n m : ℕ) (x : A) → m ≡ n + 1 → ys ≡ set xs n x → drop n xs ≡ drop n zs → drop m ys ≡ drop m zs
drop_one_more xs ys zs n m x e s k =
    ap₂ (λ (j : ℕ) (vs : List _). drop j vs) e s
    ∙ drop-set-lt (n + 1) xs n x (omega arith)
    ∙ sym (drop-drop 1 n xs) ∙ ap (drop 1) k ∙ drop-drop 1 n zs
    ∙ ap (λ (j : ℕ). drop j zs) (sym e)

drop_same : {A : Type 0} (xs zs : List A) (n m : ℕ) → m ≡ n + 0 → drop n xs ≡ drop n zs → drop m xs ≡ drop m zs
drop_same xs zs n m e k =
    let same : m ≡ n = omega arith in
    ap (λ (j : ℕ). drop j xs) same ∙ k ∙ ap (λ (j : ℕ). drop j zs) (sym same)

-- one line more
line_more : {X : Type 0} (f : X → List ℕ) (text front : List ℕ) (xs : List X) (x : X) (here there : List ℕ)
    → text ≡ (front ++ flat_map f xs) ++ here → here ≡ f x ++ there → text ≡ (front ++ flat_map f (xs ++ x ∷ [])) ++ there
line_more f text front xs x here there e h =
    e ∙ ap (λ (ys : List ℕ). (front ++ flat_map f xs) ++ ys) h
    ∙ sym (append_assoc (front ++ flat_map f xs) (f x) there)
    ∙ ap (λ (ys : List ℕ). ys ++ there) (flat_map_more f front xs x)

-- the line at which reading says that it stopped
says_at : (e : Refused) (f : Refusal) (line line' : ℕ) (who : Refuser) (o : Option Counts) → line ≡ line' → Says e f line who o → Says e f line' who o
says_at e f line line' who o same s = record { refusal = s.refusal; at_line = s.at_line ∙ same; by_whom = s.by_whom; in_hand = s.in_hand }

module _ {C : Type 0} (K : CostKind C) (T : TextKind C) (text : List ℕ) where
  pub relays_more : (i next : ℕ) (s s' : Progress) (l l' l'' : Lists C) → next ≡ i + 1
      → RelaysRead K T text i s l l' → RelayRead K s s' l' l'' → RelaysRead K T text next s' l l''
  relays_more i next s s' l l' l'' one_more b r =
      let grown = r.added.counts in
      let size = r.same_size in
      record {
        there = line_more relay_line text (header T.kind s.draft.colours s.relays s.links ++ relay_heading) (plan_of s.draft l').relays (relay r.name r.colour) s.rest.now s'.rest.now b.there r.line
            ∙ ap (λ (xs : List ℕ). xs ++ s'.rest.now)
            (ap₂ (λ (k : ℕ) (p : Plan C). relays_written T.kind k s.relays s.links p) (sym grown.same_colours) (sym r.added.plan)
            ∙ ap₂ (λ (n m : ℕ). relays_written T.kind s'.draft.colours n m (plan_of s'.draft l'')) (sym size.relays) (sym size.links));
        allowed = (omega (arith, b.allowed.0, size.relays), omega (arith, b.allowed.1, size.relays), omega (arith, b.allowed.2, size.links));
        relays = omega (arith, one_more, grown.more_relays, b.relays);
        no_links = omega (arith, grown.more_links, b.no_links);
        enough = r.added.long;
        sound = r.sound b.sound;
        kept = record {
          kept_names = drop_one_more l'.relays.names l''.relays.names l.relays.names s.draft.relays s'.draft.relays r.name grown.more_relays (ap (λ (x : Lists C). x.relays.names) r.added.written) b.kept.kept_names;
          kept_colours = drop_one_more l'.relays.colours l''.relays.colours l.relays.colours s.draft.relays s'.draft.relays r.colour grown.more_relays (ap (λ (x : Lists C). x.relays.colours) r.added.written) b.kept.kept_colours;
          kept_ends = ap (λ (x : Lists C). drop s'.draft.links x.links.ends) r.added.written ∙ drop_same l'.links.ends l.links.ends s.draft.links s'.draft.links grown.more_links b.kept.kept_ends;
          kept_costs = ap (λ (x : Lists C). drop s'.draft.links x.links.costs) r.added.written ∙ drop_same l'.links.costs l.links.costs s.draft.links s'.draft.links grown.more_links b.kept.kept_costs;
        };
      }

  relays_sofar : (more : List ℕ) (i : ℕ) (s : Progress) (l l' : Lists C) → RelaysRead K T text i s l l' → s.rest.now ≡ more
      → Sofar K T text (relays_written T.kind) more s.draft.colours s.relays s.links l l' s.draft
  relays_sofar more i s l l' b e = record {
    there = b.there ∙ ap (λ (xs : List ℕ). relays_written T.kind s.draft.colours s.relays s.links (plan_of s.draft l') ++ xs) e;
    allowed = b.allowed;
    colours = refl;
    enough = b.enough;
    sound = b.sound;
    kept = b.kept;
  }

  relays_stop : (i line : ℕ) (s : Progress) (l l' : Lists C) (e : Refused) → RelaysRead K T text i s l l' → i < s.relays → line ≡ 4 + i
      → RelayStopped s line l' e → Stopped K T text l l' e
  relays_stop i line s l l' e b h same (RelayStopped.not_two_numbers lacks says) =
      Stopped.no_relay s.draft.colours s.relays s.links s.rest.now s.draft (relays_sofar s.rest.now i s l l' b refl)
      (omega (arith, b.relays)) b.no_links lacks (says_at e _ _ _ _ _ (omega (arith, b.relays)) says)
  relays_stop i line s l l' e b h same (RelayStopped.not_added a c behind f sa sc there refused says) =
      Stopped.no_such_relay s.draft.colours s.relays s.links behind s.draft a c f (relays_sofar (row (a ∷ (c ∷ [])) ++ behind) i s l l' b there)
      (omega (arith, b.relays)) b.no_links sa sc refused (says_at e _ _ _ _ _ (omega (arith, b.relays)) says)

  pub relays_stop_in : (i line : ℕ) (s : Progress) (old : Lists C) (r r' : RelayEntries) (l : LinkEntries C) (e : Refused)
      → RelaysRead K T text i s old (lists r l) → i < s.relays → line ≡ 4 + i
      → RelayStopped s line (lists r l) e → r' ≡ r → Stopped K T text old (lists r' l) e
  relays_stop_in i line s old r r' l e b h same stopped kept =
      subst (λ (x : RelayEntries). Stopped K T text old (lists x l) e) (sym kept) (relays_stop i line s old (lists r l) e b h same stopped)

  -- what is told of the lists as they were viewed, told of the lists themselves, and of the relays as they are viewed next
  pub relays_viewed : (i : ℕ) (s : Progress) (r r' next : RelayEntries) (l view : LinkEntries C) → view ≡ l → next ≡ r'
      → RelaysRead K T text i s (lists r view) (lists r' view) → RelaysRead K T text i s (lists r l) (lists next l)
  relays_viewed i s r r' next l view e f b =
      subst (λ (x : RelayEntries). RelaysRead K T text i s (lists r l) (lists x l)) (sym f)
      (subst (λ (x : LinkEntries C). RelaysRead K T text i s (lists r x) (lists r' x)) e b)

  pub links_viewed : (j : ℕ) (s : Progress) (old : Lists C) (r view : RelayEntries) (l : LinkEntries C) → view ≡ r
      → LinksRead K T text j s old (lists view l) → LinksRead K T text j s old (lists r l)
  links_viewed j s old r view l e b = subst (λ (x : RelayEntries). LinksRead K T text j s old (lists x l)) e b

-- The last block.
module _ {C : Type 0} (K : CostKind C) (T : TextKind C) (told : TextLaws K T) (text : List ℕ) where
  pub no_heading : (line : ℕ) (s : Progress) (l l' : Lists C) (e : Refused) → RelaysRead K T text s.relays s l l'
      → Lacks s.rest.now (heading_of T.kind) → Says e NotInForm line by_text (Some s.draft) → line ≡ 4 + s.relays → Stopped K T text l l' e
  no_heading line s l l' e b lacks says same =
      Stopped.no_link_heading s.draft.colours s.relays s.links s.rest.now s.draft
      (record { there = b.there; allowed = b.allowed; colours = refl; enough = b.enough; sound = b.sound; kept = b.kept })
      b.relays b.no_links lacks (says_at e _ _ _ _ _ same says)

  pub links_begin : (s s' : Progress) (l l' : Lists C) → RelaysRead K T text s.relays s l l'
      → s.rest.now ≡ heading_of T.kind ++ s'.rest.now → s'.draft ≡ s.draft → SameSize s s'
      → (j : ℕ) → j ≡ 0 → LinksRead K T text j s' l l'
  links_begin s s' l l' b h same_draft size j first =
      let p = plan_of s.draft l' in
      let front = relays_written T.kind s.draft.colours s.relays s.links p in
      let none : p.links ≡ [] = ap (λ (k : ℕ). paired link_of (take k l'.links.ends) (take k l'.links.costs)) b.no_links in
      let whole : text ≡ links_written T s.draft.colours s.relays s.links p ++ s'.rest.now =
      b.there ∙ ap (λ (xs : List ℕ). front ++ xs) h ∙ sym (append_assoc front (heading_of T.kind) s'.rest.now)
      ∙ ap (λ (xs : List ℕ). xs ++ s'.rest.now) (sym (append-nil (front ++ heading_of T.kind)) ∙ ap (λ (ls : List (Link C)). (front ++ heading_of T.kind) ++ flat_map (link_line T p) ls) (sym none)) in
      record {
        there = whole
            ∙ ap (λ (xs : List ℕ). xs ++ s'.rest.now)
            (ap (λ (d : Counts). links_written T d.colours s.relays s.links (plan_of d l')) (sym same_draft)
            ∙ ap₂ (λ (n m : ℕ). links_written T s'.draft.colours n m (plan_of s'.draft l')) (sym size.relays) (sym size.links));
        allowed = (omega (arith, b.allowed.0, size.relays), omega (arith, b.allowed.1, size.relays), omega (arith, b.allowed.2, size.links));
        relays = ap (λ (d : Counts). d.relays) same_draft ∙ b.relays ∙ sym size.relays;
        links = ap (λ (d : Counts). d.links) same_draft ∙ b.no_links ∙ sym first;
        enough = subst (λ (d : Counts). IsLong d l') (sym same_draft) b.enough;
        sound = subst (λ (d : Counts). Sound K (plan_of d l')) (sym same_draft) b.sound;
        kept = subst (λ (d : Counts). Kept d l l') (sym same_draft) b.kept;
      }

  pub links_more : (j next : ℕ) (s s' : Progress) (l l' l'' : Lists C) → next ≡ j + 1
      → LinksRead K T text j s l l' → LinkRead K T s s' l' l'' → LinksRead K T text next s' l l''
  links_more j next s s' l l' l'' one_more b r =
      let grown = r.added.counts in
      let size = r.same_size in
      let p = plan_of s.draft l' in
      let new : Link C = link_of r.added.pair (T.read r.numbers) in
      let line : row (r.one ∷ (r.other ∷ r.numbers)) ≡ link_line T p new =
      ap row (ap₂ (λ (x : ℕ) (xs : List ℕ). x ∷ xs) (sym (r.added.plan.from_called.bears.1 (relay 0 0)))
      (ap₂ (λ (x : ℕ) (xs : List ℕ). x ∷ xs) (sym (r.added.plan.to_called.bears.1 (relay 0 0))) (sym (told.forth r.numbers r.count r.lawful)))) in
      record {
        there = line_more (link_line T p) text (relays_written T.kind s.draft.colours s.relays s.links p ++ heading_of T.kind) p.links new s.rest.now s'.rest.now b.there
            (r.line ∙ ap (λ (xs : List ℕ). xs ++ s'.rest.now) line)
            ∙ ap (λ (xs : List ℕ). xs ++ s'.rest.now)
            (ap₂ (λ (k : ℕ) (q : Plan C). links_written T k s.relays s.links q) (sym grown.same_colours) (sym r.added.plan.is)
            ∙ ap₂ (λ (n m : ℕ). links_written T s'.draft.colours n m (plan_of s'.draft l'')) (sym size.relays) (sym size.links));
        allowed = (omega (arith, b.allowed.0, size.relays), omega (arith, b.allowed.1, size.relays), omega (arith, b.allowed.2, size.links));
        relays = omega (arith, grown.more_relays, b.relays, size.relays);
        links = omega (arith, one_more, grown.more_links, b.links);
        enough = r.added.long;
        sound = r.sound b.sound;
        kept = record {
          kept_names = ap (λ (x : Lists C). drop s'.draft.relays x.relays.names) r.added.written ∙ drop_same l'.relays.names l.relays.names s.draft.relays s'.draft.relays grown.more_relays b.kept.kept_names;
          kept_colours = ap (λ (x : Lists C). drop s'.draft.relays x.relays.colours) r.added.written ∙ drop_same l'.relays.colours l.relays.colours s.draft.relays s'.draft.relays grown.more_relays b.kept.kept_colours;
          kept_ends = drop_one_more l'.links.ends l''.links.ends l.links.ends s.draft.links s'.draft.links r.added.pair grown.more_links (ap (λ (x : Lists C). x.links.ends) r.added.written) b.kept.kept_ends;
          kept_costs = drop_one_more l'.links.costs l''.links.costs l.links.costs s.draft.links s'.draft.links (T.read r.numbers) grown.more_links (ap (λ (x : Lists C). x.links.costs) r.added.written) b.kept.kept_costs;
        };
      }

  links_sofar : (more : List ℕ) (j : ℕ) (s : Progress) (l l' : Lists C) → LinksRead K T text j s l l' → s.rest.now ≡ more
      → Sofar K T text (links_written T) more s.draft.colours s.relays s.links l l' s.draft
  links_sofar more j s l l' b e = record {
    there = b.there ∙ ap (λ (xs : List ℕ). links_written T s.draft.colours s.relays s.links (plan_of s.draft l') ++ xs) e;
    allowed = b.allowed;
    colours = refl;
    enough = b.enough;
    sound = b.sound;
    kept = b.kept;
  }

  links_stop : (j line : ℕ) (s : Progress) (l l' : Lists C) (e : Refused) → LinksRead K T text j s l l' → j < s.links → line ≡ 5 + s.relays + j
      → LinkStopped K T s line l' e → Stopped K T text l l' e
  links_stop j line s l l' e b h same (LinkStopped.not_numbers lacks says) =
      Stopped.no_link s.draft.colours s.relays s.links s.rest.now s.draft (links_sofar s.rest.now j s l l' b refl)
      b.relays (omega (arith, b.links)) lacks (says_at e _ _ _ _ _ (omega (arith, b.links)) says)
  links_stop j line s l l' e b h same (LinkStopped.not_added x y ns behind f sx sy sns count there refused says) =
      Stopped.no_such_link s.draft.colours s.relays s.links behind s.draft x y ns f (links_sofar (row (x ∷ (y ∷ ns)) ++ behind) j s l l' b there)
      b.relays (omega (arith, b.links)) count sx sy sns refused (says_at e _ _ _ _ _ (omega (arith, b.links)) says)

  pub links_stop_in : (j line : ℕ) (s : Progress) (old : Lists C) (r : RelayEntries) (l l' : LinkEntries C) (e : Refused)
      → LinksRead K T text j s old (lists r l) → j < s.links → line ≡ 5 + s.relays + j
      → LinkStopped K T s line (lists r l) e → l' ≡ l → Stopped K T text old (lists r l') e
  links_stop_in j line s old r l l' e b h same stopped kept =
      subst (λ (x : LinkEntries C). Stopped K T text old (lists r x) e) (sym kept) (links_stop j line s old (lists r l) e b h same stopped)

  -- All links are read.
  module _ (s : Progress) (l l' : Lists C) (b : LinksRead K T text s.links s l l') where
    pub goes_on : (e : Refused) (line : ℕ) → 0 < length s.rest.now → line ≡ 5 + s.relays + s.links → Says e NotInForm line by_text (Some s.draft)
        → Stopped K T text l l' e
    goes_on e line h same says = Stopped.more_text s.draft.colours s.relays s.links s.rest.now s.draft (links_sofar s.rest.now s.links s l l' b refl)
        b.relays b.links h (says_at e _ _ _ _ _ same says)

    module _ (ended : length s.rest.now ≤ 0) where
      whole : text ≡ text_of T (plan_of s.draft l')
      whole =
          let p = plan_of s.draft l' in
          b.there ∙ ap (λ (xs : List ℕ). links_written T s.draft.colours s.relays s.links p ++ xs) (drop_all 0 s.rest.now ended)
          ∙ append-nil (links_written T s.draft.colours s.relays s.links p)
          ∙ ap₂ (λ (x y : ℕ). links_written T s.draft.colours x y p)
          (sym b.relays ∙ sym (relays_entered s.draft l' b.enough))
          (sym b.links ∙ sym (links_entered s.draft l' b.enough))

      pub cannot_close : (e : Refused) (f : Refusal) → FirstFails (close_checks s.draft l') f → Says e f 0 by_closing (Some s.draft)
          → Stopped K T text l l' e
      cannot_close e f refused says = Stopped.not_closed s.draft f whole (omega (arith, b.relays, b.allowed.0)) b.enough b.sound b.kept refused says

      pub is_read : (k : Counts) → k ≡ s.draft → Closable (plan_of s.draft l') → Read K T text l l' k
      is_read k same closable = subst (λ (x : Counts). Read K T text l l' x) (sym same)
          (record { written = whole; enough = b.enough; sound = b.sound; closable = closable; kept = b.kept })
