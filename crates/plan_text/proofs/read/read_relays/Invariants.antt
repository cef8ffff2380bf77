use Rattle.std.proofs.Common.{List, ℕ, ◌-◌}
use Rattle.plan.specs.Plan.{lists}
use Rattle.plan.specs.Lent.{relays_in, SameRelays}
use Rattle.plan_text.specs.Stages.{Begun, SameSize, RelaysRead}
use Rattle.plan_text.proofs.read.read_relays.Given as goal

-- the relays of the lines before this one are read
abbrev pub invariant-loop-line : goal.invariant-loop-line
invariant-loop-line g l =
    SameSize l.initial.progress l.progress
    × SameRelays l.initial.relays l.relays
    × ((text : List ℕ) → Begun g.C.TextCost.text_kind.kind text l.initial.progress
    → RelaysRead g.C.Cost.kind g.C.TextCost.text_kind text (l.line - 4) l.progress
    (lists (relays_in l.initial.relays) l.links) (lists (relays_in l.relays) l.links))
