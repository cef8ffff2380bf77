use Rattle.std.proofs.Common.{◌≡◌}
use Rattle.measure.specs.Settling.{Rows, Behind}
use Rattle.measure.proofs.measured.fill_distances.Given as goal

abbrev pub invariant-loop-u : goal.invariant-loop-u
invariant-loop-u g l = record {
  size : l.relays ≡ l.graph.relays;
  rows : Rows g.C.Cost.kind l.graph l.distances l.u;
  behind : Behind l.graph.relays l.initial.distances l.distances;
}
