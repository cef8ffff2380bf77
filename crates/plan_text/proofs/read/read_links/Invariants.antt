use Rattle.std.proofs.Common.{List, ℕ, ◌+◌, ◌-◌}
use Rattle.plan.specs.Plan.{Lists, lists}
use Rattle.plan.specs.Lent.{links_in, SameLinks}
use Rattle.plan_text.specs.Stages.{SameSize, RelaysRead, LinksRead}
use Rattle.plan_text.proofs.read.read_links.Given as goal

-- the links of the lines before this one are read
abbrev pub invariant-loop-line : goal.invariant-loop-line
invariant-loop-line g l =
    SameSize l.fn.progress l.progress
    × SameLinks l.initial.links l.links
    × ((text : List ℕ) (old : Lists _) → RelaysRead g.C.Cost.kind g.C.TextCost.text_kind text l.fn.progress.relays l.fn.progress
    old (lists l.relays (links_in l.initial.links))
    → LinksRead g.C.Cost.kind g.C.TextCost.text_kind text (l.line - (5 + l.fn.progress.relays)) l.progress old (lists l.relays (links_in l.links)))
