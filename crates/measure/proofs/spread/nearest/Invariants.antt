use Rattle.measure.specs.Settling.{reaches_of, near_of, settled_of, BestOf}
use Rattle.measure.proofs.spread.nearest.Given as goal

abbrev pub invariant-loop-relay : goal.invariant-loop-relay
invariant-loop-relay g l = BestOf g.C.Cost.kind (near_of (reaches_of l.marks l.row)) (settled_of (reaches_of l.marks l.row)) l.relay l.best
