use Rattle.std.proofs.Common.{length, take}
use Rattle.plan_text.proofs.Lines.{Sofar}
use Rattle.plan_text.proofs.scan.row.Given as goal

-- the first i numbers are read
abbrev pub invariant-loop-i : goal.invariant-loop-i
invariant-loop-i l = Sofar l.text (length l.initial.numbers) l.i (take l.i l.numbers) l.rest
