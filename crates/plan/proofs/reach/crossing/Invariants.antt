use Rattle.std.proofs.Common.{◌≡◌, ℕ, ◌<◌, false, get_or}
use Rattle.plan.specs.Walk.{nowhere}
use Rattle.plan.proofs.reach.crossing.Given as goal

abbrev pub invariant-loop-e : goal.invariant-loop-e
invariant-loop-e l = (k : ℕ) → k < l.e-index → get_or l.marks (get_or l.ends k nowhere).from false ≡ get_or l.marks (get_or l.ends k nowhere).to false
