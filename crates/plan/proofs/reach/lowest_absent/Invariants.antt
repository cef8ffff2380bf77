use Rattle.std.proofs.Common.{ℕ, ◌<◌, ◌≤◌}
use Rattle.std.specs.List.{ContainsAt}
use Rattle.plan.proofs.reach.lowest_absent.Given as goal

abbrev pub invariant-loop-c : goal.invariant-loop-c
invariant-loop-c l = (b : ℕ) → 1 ≤ b → b < l.c-counter → ContainsAt l.colours b
