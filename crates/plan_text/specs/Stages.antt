-- The steps of the reader, for its inner functions: a block begun, a line read, a block read.
use Rattle.std.specs.Prelude.{◌≡◌, ℕ, ◌+◌, List, [], ◌∷◌, ◌++◌, length, Some}
use Rattle.std.specs.List.{AllByRecursion}
use Rattle.kind.specs.Laws.{CostKind, IsLink}
use Rattle.plan.specs.declared.refusal.Refusal.{Refusal}
use Rattle.plan.specs.declared.refusal.Refusal.TheVariants.{NotInForm}
use Rattle.plan.specs.Sound.{Sound}
use Rattle.plan.specs.Steps.{RelayAdded, LinkAdded}
use Rattle.plan.specs.Checks.{FirstFails}
use Rattle.plan.specs.Rules.{relay_checks, link_checks}
use Rattle.plan.specs.Plan.{Lists, plan_of, IsLong}
use Rattle.plan_text.specs.declared.plan_kind.PlanKind.{PlanKind}
use Rattle.plan_text.specs.declared.read.HeaderCounts.{HeaderCounts}
use Rattle.plan_text.specs.declared.read.Progress.{Progress}
use Rattle.plan_text.specs.declared.refused.Refused.{Refused}
use Rattle.plan_text.specs.declared.refused.Refuser.TheVariants.{Text as by_text, Draft as by_draft}
use Rattle.plan_text.specs.Kinds.{TextKind}
use Rattle.plan_text.specs.Rows.{row, TenDigits}
use Rattle.plan_text.specs.Text.{header, relay_heading, relays_written, links_written}
use Rattle.plan_text.specs.Reading.{Allowed, LacksRow, Says, Kept, Stopped}

-- the first block of the text is read, and its numbers are those of n
pub record HeaderRead (kind : PlanKind) (text : List ℕ) (n : HeaderCounts)
    (rest : List ℕ) : Type 0 where
  pub colours_short : TenDigits n.colours
  pub relays_short : TenDigits n.relays
  pub links_short : TenDigits n.links
  pub there : text ≡ header kind n.colours n.relays n.links ++ rest

-- the first block of the text and the heading of the second are read, and the draft is open
pub record Begun (kind : PlanKind) (text : List ℕ) (s : Progress) : Type 0 where
  pub there : text
      ≡ (header kind s.draft.colours s.relays s.links ++ relay_heading) ++ s.rest.now
  pub allowed : Allowed s.relays s.links
  pub no_relays : s.draft.relays ≡ 0
  pub no_links : s.draft.links ≡ 0

-- as many relays and links are to come in both
pub record SameSize (s s' : Progress) : Type 0 where
  pub relays : s'.relays ≡ s.relays
  pub links : s'.links ≡ s.links

-- the line of a relay is read and the relay is added
pub record RelayRead {C : Type 0} (K : CostKind C) (s s' : Progress) (l l' : Lists C) : Type 0 where
  pub name : ℕ
  pub colour : ℕ
  pub name_short : TenDigits name
  pub colour_short : TenDigits colour
  pub line : s.rest.now ≡ row (name ∷ (colour ∷ [])) ++ s'.rest.now
  pub added : RelayAdded s.draft l name colour s'.draft l'
  pub sound : Sound K (plan_of s.draft l) → Sound K (plan_of s'.draft l')
  pub same_size : SameSize s s'

-- the line is not one of two numbers, or the draft refuses the relay; the draft in hand is then
-- the one from before the line
pub data RelayStopped {C : Type 0} (s : Progress) (line : ℕ) (l : Lists C)
    (e : Refused) : Type 0 where
  not_two_numbers : LacksRow s.rest.now 2
      → Says e NotInForm line by_text (Some s.draft) → RelayStopped s line l e
  not_added : (a c : ℕ) (behind : List ℕ) (f : Refusal) → TenDigits a → TenDigits c
      → s.rest.now ≡ row (a ∷ (c ∷ [])) ++ behind → FirstFails (relay_checks s.draft l a c) f
      → Says e f line by_draft (Some s.draft) → RelayStopped s line l e

module _ {C : Type 0} (K : CostKind C) (T : TextKind C) where
  -- the first i relays of the text are read, into the lists l, which are then l'
  pub record RelaysRead (text : List ℕ) (i : ℕ) (s : Progress) (l l' : Lists C) : Type 0 where
    pub there : text
        ≡ relays_written T.kind s.draft.colours s.relays s.links (plan_of s.draft l') ++ s.rest.now
    pub allowed : Allowed s.relays s.links
    pub relays : s.draft.relays ≡ i
    pub no_links : s.draft.links ≡ 0
    pub enough : IsLong s.draft l'
    pub sound : Sound K (plan_of s.draft l')
    pub kept : Kept s.draft l l'

  -- the relays are read, the heading of the links too, and the first j links
  pub record LinksRead (text : List ℕ) (j : ℕ) (s : Progress) (l l' : Lists C) : Type 0 where
    pub there : text
        ≡ links_written T s.draft.colours s.relays s.links (plan_of s.draft l') ++ s.rest.now
    pub allowed : Allowed s.relays s.links
    pub relays : s.draft.relays ≡ s.relays
    pub links : s.draft.links ≡ j
    pub enough : IsLong s.draft l'
    pub sound : Sound K (plan_of s.draft l')
    pub kept : Kept s.draft l l'

  -- the line of a link is read and the link is added
  pub record LinkRead (s s' : Progress) (l l' : Lists C) : Type 0 where
    pub one : ℕ
    pub other : ℕ
    pub numbers : List ℕ
    pub one_short : TenDigits one
    pub other_short : TenDigits other
    pub all_short : AllByRecursion TenDigits numbers
    pub count : length numbers ≡ T.width
    pub lawful : IsLink K (T.read numbers)
    pub line : s.rest.now ≡ row (one ∷ (other ∷ numbers)) ++ s'.rest.now
    pub added : LinkAdded s.draft l one other (T.read numbers) s'.draft l'
    pub sound : Sound K (plan_of s.draft l) → Sound K (plan_of s'.draft l')
    pub same_size : SameSize s s'

  -- the line is not one of two numbers and those of a cost, or the draft refuses the link; the
  -- draft in hand is then the one from before the line
  pub data LinkStopped (s : Progress) (line : ℕ) (l : Lists C) (e : Refused) : Type 0 where
    not_numbers : LacksRow s.rest.now (2 + T.width)
        → Says e NotInForm line by_text (Some s.draft) → LinkStopped s line l e
    not_added : (a b : ℕ) (ns behind : List ℕ) (f : Refusal) → TenDigits a → TenDigits b
        → AllByRecursion TenDigits ns → length ns ≡ T.width
        → s.rest.now ≡ row (a ∷ (b ∷ ns)) ++ behind
        → FirstFails (link_checks K s.draft l a b (T.read ns)) f
        → Says e f line by_draft (Some s.draft) → LinkStopped s line l e

  -- Reading goes on from s to s', where all relays are read, of each text whose relays begin at s.
  -- The lists were l and are l'.
  abbrev pub ReadsRelays : Progress → Progress → Lists C → Lists C → Type 0
  ReadsRelays s s' l l' =
      (text : List ℕ) → Begun T.kind text s → RelaysRead text s'.relays s' l l'

  -- reading stops on the way there
  abbrev pub StopsInRelays : Progress → Refused → Lists C → Lists C → Type 0
  StopsInRelays s e l l' = (text : List ℕ) → Begun T.kind text s → Stopped K T text l l' e

  -- Reading goes on from s to s', where all links are read, of each text whose relays are read at
  -- s. The lists were `old` before the relays, l before the links, and are l'.
  abbrev pub ReadsLinks : Progress → Progress → Lists C → Lists C → Type 0
  ReadsLinks s s' l l' = (text : List ℕ) (old : Lists C)
      → RelaysRead text s.relays s old l → LinksRead text s'.links s' old l'

  -- reading stops on the way there
  abbrev pub StopsInLinks : Progress → Refused → Lists C → Lists C → Type 0
  StopsInLinks s e l l' = (text : List ℕ) (old : Lists C)
      → RelaysRead text s.relays s old l → Stopped K T text old l' e
