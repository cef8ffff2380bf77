-- The text of a plan: three blocks, each a heading and then lines of values.
use Rattle.std.specs.Prelude.{ℕ, List, [], ◌∷◌, ◌++◌, length, codes, ◌≢◌}
use Rattle.std.specs.List.{flat_map}
use Rattle.plan.specs.Plan.{Plan, Relay, Link, name_of}
use Rattle.plan_text.specs.Rows.{row}
use Rattle.plan_text.specs.Kinds.{letter_of, heading_of, TextKind}
use Rattle.plan_text.specs.declared.plan_kind.PlanKind.{PlanKind}

-- the text does not begin with this
abbrev pub Lacks : List ℕ → List ℕ → Type 0
Lacks text front = (rest : List ℕ) → text ≢ front ++ rest

abbrev pub plan_heading : List ℕ
plan_heading = codes "kind colours relays links" ++ 10 ∷ []

abbrev pub relay_heading : List ℕ
relay_heading = codes "name colour" ++ 10 ∷ []

-- the letter, and the numbers of colours, relays and links
abbrev pub counts_line : PlanKind → ℕ → ℕ → ℕ → List ℕ
counts_line kind k n m = letter_of kind ∷ (32 ∷ row (k ∷ (n ∷ (m ∷ []))))

abbrev pub relay_line : Relay → List ℕ
relay_line r = row (r.name ∷ (r.colour ∷ []))

-- the names of the two ends, and what is shown of the cost
abbrev pub link_line : {C : Type 0} → TextKind C → Plan C → Link C → List ℕ
link_line T p l = row (name_of p l.from ∷ (name_of p l.to ∷ T.shown l.cost))

-- the first block of a plan of k colours, n relays and m links
abbrev pub header : PlanKind → ℕ → ℕ → ℕ → List ℕ
header kind k n m = plan_heading ++ counts_line kind k n m

-- the header, and the second block as far as p has relays
abbrev pub relays_written : {C : Type 0} → PlanKind → ℕ → ℕ → ℕ → Plan C → List ℕ
relays_written kind k n m p =
    (header kind k n m ++ relay_heading) ++ flat_map relay_line p.relays

-- and the third block as far as p has links
abbrev pub links_written : {C : Type 0} → TextKind C → ℕ → ℕ → ℕ → Plan C → List ℕ
links_written T k n m p =
    (relays_written T.kind k n m p ++ heading_of T.kind) ++ flat_map (link_line T p) p.links

-- the text of a plan
abbrev pub text_of : {C : Type 0} → TextKind C → Plan C → List ℕ
text_of T p = links_written T p.colours (length p.relays) (length p.links) p
