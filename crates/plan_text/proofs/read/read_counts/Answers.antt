use Rattle.std.proofs.Common.{ap}
use Rattle.plan_text.specs.Kinds.{label_of}
use Rattle.plan_text.proofs.Blocks.{no_letter, no_numbers}
use Rattle.plan_text.proofs.read.read_counts.Goals as goal

pub returns-in_default-behind_letter-clause-stopped : goal.returns-in_default-behind_letter-clause-stopped
returns-in_default-behind_letter-clause-stopped g c =
    no_letter g.C.Cost.kind g.C.TextCost.text_kind c.args.text.now c.in-Some.first.now c.in-Some.ensures (label_of c.plan_kind.result) (ap label_of c.plan_kind.ensures)
    c.in_default-behind_letter.ensures _ c.new-in_default-behind_letter.ensures

pub returns-in_default-row-clause-stopped : goal.returns-in_default-row-clause-stopped
returns-in_default-row-clause-stopped g c =
    no_numbers g.C.Cost.kind g.C.TextCost.text_kind c.args.text.now c.in-Some.first.now c.in-Some.ensures (label_of c.plan_kind.result) (ap label_of c.plan_kind.ensures)
    c.in-Some-behind_letter.second.now c.in-Some-behind_letter.ensures c.in_default-row.ensures.none _ c.new-in_default-row.ensures
