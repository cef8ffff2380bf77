use Rattle.std.proofs.Common.{ℕ, ◌<◌, get_or}
use Rattle.measure.specs.Settling.{Toward}
use Rattle.measure.proofs.next.nexts_from.Given as goal

abbrev pub invariant-loop-x : goal.invariant-loop-x
invariant-loop-x g l = (y : ℕ) → y < l.x → Toward g.C.Cost.kind l.graph l.distances.cells.now l.from y (get_or l.row y 0)
