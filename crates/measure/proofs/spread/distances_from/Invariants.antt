use Rattle.std.proofs.Common.{◌≡◌, not, length, count_by}
use Rattle.plan.specs.Plan.{Plan}
use Rattle.plan.specs.Sound.{Sound}
use Rattle.measure.specs.Settling.{reaches_of, near_of, settled_of, Entered}
use Rattle.measure.proofs.Settled.{Spreading}
use Rattle.measure.proofs.spread.distances_from.Given as goal

abbrev pub invariant-loop-next : goal.invariant-loop-next
invariant-loop-next g l = record {
  marks : length l.marks ≡ 256;
  spreading : (p : Plan g.row.C.Denot) → Entered p l.graph → Sound g.C.Cost.kind p
      → Spreading g.C.Cost.kind l.source p (near_of (reaches_of l.marks l.row)) (settled_of (reaches_of l.marks l.row));
}

abbrev pub decreases-loop-next : goal.decreases-loop-next
decreases-loop-next g l = count_by not (settled_of (reaches_of l.marks l.row))
