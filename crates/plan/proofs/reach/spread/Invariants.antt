use Rattle.std.proofs.Common.{not, length, count_by}
use Rattle.plan.specs.Reach.{Within, Marked}
use Rattle.plan.proofs.reach.spread.Given as goal

abbrev pub invariant-loop-v : goal.invariant-loop-v
invariant-loop-v l = Within l.ends (length l.marks) × Marked l.ends l.marks

abbrev pub decreases-loop-v : goal.decreases-loop-v
decreases-loop-v l = count_by not l.marks
