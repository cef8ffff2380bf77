-- What reading a plan's text comes to: a closed plan, or a refusal with its line.
use Rattle.std.specs.Prelude.{◌≡◌, ℕ, ◌+◌, ◌<◌, ◌≤◌, List, [], ◌∷◌, ◌++◌, length, drop, Some, None, Ok, Err, Option, Result, ◌≢◌}
use Rattle.std.specs.List.{AllByRecursion}
use Rattle.kind.specs.Laws.{CostKind}
use Rattle.plan.specs.declared.closed.Closed.{Closed}
use Rattle.plan.specs.declared.counts.Counts.{Counts}
use Rattle.plan.specs.declared.refusal.Refusal.{Refusal}
use Rattle.plan.specs.declared.refusal.Refusal.TheVariants.{NotInForm, BeyondLimit}
use Rattle.plan.specs.Plan.{Plan, Lists, lists, plan_of, IsLong}
use Rattle.plan.specs.declared.lists.RelayLists.{RelayLists}
use Rattle.plan.specs.declared.lists.LinkLists.{LinkLists}
use Rattle.plan.specs.Lent.{relays_in, links_in}
use Rattle.plan.specs.Sound.{Sound}
use Rattle.plan.specs.Checks.{FirstFails}
use Rattle.plan.specs.Rules.{Closable, open_checks, relay_checks, link_checks, close_checks}
use Rattle.plan_text.specs.declared.plan_kind.PlanKind.{PlanKind}
use Rattle.plan_text.specs.declared.refused.Refused.{Refused}
use Rattle.plan_text.specs.declared.refused.Refuser.{Refuser}
use Rattle.plan_text.specs.declared.refused.Refuser.TheVariants.{Text as by_text, Draft as by_draft, Closing as by_closing}
use Rattle.plan_text.specs.Rows.{row, TenDigits}
use Rattle.plan_text.specs.Text.{Lacks, plan_heading, relay_heading, counts_line, header, relays_written, links_written, text_of}
use Rattle.plan_text.specs.Kinds.{heading_of, TextKind}

-- what the lent lists hold
abbrev pub lists_in : {C : Type 0} → RelayLists → LinkLists C → Lists C
lists_in r l = lists (relays_in r) (links_in l)

-- behind the entries of the plan the lists are as they were
pub record Kept {C : Type 0} (n : Counts) (old new : Lists C) : Type 0 where
  pub kept_names : drop n.relays new.relays.names ≡ drop n.relays old.relays.names
  pub kept_colours : drop n.relays new.relays.colours ≡ drop n.relays old.relays.colours
  pub kept_ends : drop n.links new.links.ends ≡ drop n.links old.links.ends
  pub kept_costs : drop n.links new.links.costs ≡ drop n.links old.links.costs

-- the text does not begin with a line of so many numbers of at most ten digits
abbrev pub LacksRow : List ℕ → ℕ → Type 0
LacksRow text n =
    (ns rest : List ℕ) → length ns ≡ n → AllByRecursion TenDigits ns → text ≢ row ns ++ rest

-- the text does not begin with the letter of the kind and three numbers of at most ten digits
abbrev pub LacksCounts : PlanKind → List ℕ → Type 0
LacksCounts kind text = (k n m : ℕ) (more : List ℕ) → TenDigits k → TenDigits n → TenDigits m
    → text ≢ counts_line kind k n m ++ more

-- the numbers of relays and links that a plan may have
abbrev pub Allowed : ℕ → ℕ → Type 0
Allowed n m = (1 ≤ n) × (n ≤ 256) × (m ≤ 1024)

-- the refusal, its line and who refused, and the draft in hand
pub record Says (e : Refused) (f : Refusal) (line : ℕ) (who : Refuser)
    (draft : Option Counts) : Type 0 where
  pub refusal : e.refusal ≡ f
  pub at_line : e.line ≡ line
  pub by_whom : e.by ≡ who
  pub in_hand : e.draft ≡ draft

-- the lists have a place for each relay and each link of the plan
pub record Fits {C : Type 0} (p : Plan C) (l : Lists C) : Type 0 where
  pub name_places : length p.relays ≤ length l.relays.names
  pub colour_places : length p.relays ≤ length l.relays.colours
  pub end_places : length p.links ≤ length l.links.ends
  pub cost_places : length p.links ≤ length l.links.costs

module _ {C : Type 0} (K : CostKind C) (T : TextKind C) where
  -- Reading has come so far: the lists hold the draft d, and the text is what is written of it
  -- and then the rest.
  pub record Sofar (text : List ℕ) (written : ℕ → ℕ → ℕ → Plan C → List ℕ) (rest : List ℕ)
      (k n m : ℕ) (old new : Lists C) (d : Counts) : Type 0 where
    pub there : text ≡ written k n m (plan_of d new) ++ rest
    pub allowed : Allowed n m
    pub colours : d.colours ≡ k
    pub enough : IsLong d new
    pub sound : Sound K (plan_of d new)
    pub kept : Kept d old new

  -- Why and where reading stopped. The second line tells k colours, n relays and m links.
  pub data Stopped (text : List ℕ) (old new : Lists C) (e : Refused) : Type 0 where
    -- line 1 is not the heading
    no_heading : Lacks text plan_heading → new ≡ old → Says e NotInForm 1 by_text None
        → Stopped text old new e
    -- line 2 is not the letter of the kind and three numbers
    no_counts : (rest : List ℕ) → text ≡ plan_heading ++ rest
        → LacksCounts T.kind rest → new ≡ old → Says e NotInForm 2 by_text None
        → Stopped text old new e
    -- line 2 tells too many relays or links, or no relay
    counts_beyond : (k n m : ℕ) (rest : List ℕ) → TenDigits k → TenDigits n → TenDigits m
        → text ≡ header T.kind k n m ++ rest → (Allowed n m → ⊥) → new ≡ old
        → Says e BeyondLimit 2 by_text None → Stopped text old new e
    -- line 2 tells a number of colours with which no draft can be opened
    colours_beyond : (k n m : ℕ) (rest : List ℕ) (f : Refusal) → TenDigits k
        → text ≡ header T.kind k n m ++ rest → Allowed n m → FirstFails (open_checks k) f
        → new ≡ old → Says e f 2 by_draft None → Stopped text old new e
    -- line 3 is not the heading of the relays
    no_relay_heading : (k n m : ℕ) (rest : List ℕ) (d : Counts)
        → Sofar text (λ c r l p. header T.kind c r l) rest k n m old new d → d.relays ≡ 0
        → d.links ≡ 0 → Lacks rest relay_heading → Says e NotInForm 3 by_text (Some d)
        → Stopped text old new e
    -- the line of a relay is not two numbers
    no_relay : (k n m : ℕ) (rest : List ℕ) (d : Counts)
        → Sofar text (relays_written T.kind) rest k n m old new d → d.relays < n → d.links ≡ 0
        → LacksRow rest 2 → Says e NotInForm (4 + d.relays) by_text (Some d)
        → Stopped text old new e
    -- the draft refuses a relay
    no_such_relay : (k n m : ℕ) (rest : List ℕ) (d : Counts) (a c : ℕ) (f : Refusal)
        → Sofar text (relays_written T.kind) (row (a ∷ (c ∷ [])) ++ rest) k n m old new d
        → d.relays < n → d.links ≡ 0 → TenDigits a → TenDigits c
        → FirstFails (relay_checks d new a c) f → Says e f (4 + d.relays) by_draft (Some d)
        → Stopped text old new e
    -- the relays are not followed by the heading of the links
    no_link_heading : (k n m : ℕ) (rest : List ℕ) (d : Counts)
        → Sofar text (relays_written T.kind) rest k n m old new d → d.relays ≡ n → d.links ≡ 0
        → Lacks rest (heading_of T.kind) → Says e NotInForm (4 + n) by_text (Some d)
        → Stopped text old new e
    -- the line of a link is not two numbers and those of a cost
    no_link : (k n m : ℕ) (rest : List ℕ) (d : Counts)
        → Sofar text (links_written T) rest k n m old new d → d.relays ≡ n → d.links < m
        → LacksRow rest (2 + T.width) → Says e NotInForm (5 + n + d.links) by_text (Some d)
        → Stopped text old new e
    -- the draft refuses a link
    no_such_link : (k n m : ℕ) (rest : List ℕ) (d : Counts) (a b : ℕ) (ns : List ℕ) (f : Refusal)
        → Sofar text (links_written T) (row (a ∷ (b ∷ ns)) ++ rest) k n m old new d → d.relays ≡ n
        → d.links < m → length ns ≡ T.width → TenDigits a → TenDigits b
        → AllByRecursion TenDigits ns → FirstFails (link_checks K d new a b (T.read ns)) f
        → Says e f (5 + n + d.links) by_draft (Some d) → Stopped text old new e
    -- the text goes on behind the last link
    more_text : (k n m : ℕ) (rest : List ℕ) (d : Counts)
        → Sofar text (links_written T) rest k n m old new d → d.relays ≡ n → d.links ≡ m
        → 0 < length rest → Says e NotInForm (5 + n + m) by_text (Some d) → Stopped text old new e
    -- the text is that of a plan that cannot be closed
    not_closed : (d : Counts) (f : Refusal) → text ≡ text_of T (plan_of d new) → 1 ≤ d.relays
        → IsLong d new → Sound K (plan_of d new) → Kept d old new
        → FirstFails (close_checks d new) f → Says e f 0 by_closing (Some d)
        → Stopped text old new e

  -- the text is that of the plan that the lists then hold, and the plan is closed
  pub record Read (text : List ℕ) (old new : Lists C) (n : Counts) : Type 0 where
    pub written : text ≡ text_of T (plan_of n new)
    pub enough : IsLong n new
    pub sound : Sound K (plan_of n new)
    pub closable : Closable (plan_of n new)
    pub kept : Kept n old new

-- the reading is accepted, and the lists then hold the plan p
abbrev pub Gives : {C : Type 0} → Plan C → Lists C → Result Closed Refused → Type 0
Gives p l (Ok c) = plan_of c l ≡ p
Gives p l (Err e) = ⊥
