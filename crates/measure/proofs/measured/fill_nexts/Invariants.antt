use Rattle.std.proofs.Common.{◌≡◌}
use Rattle.measure.specs.Settling.{NextRows, Behind}
use Rattle.measure.proofs.measured.fill_nexts.Given as goal

abbrev pub invariant-loop-u : goal.invariant-loop-u
invariant-loop-u g l = record {
  size : l.relays ≡ l.graph.relays;
  rows : NextRows g.C.Cost.kind l.graph l.distances.cells.now l.nexts l.u;
  behind : Behind l.graph.relays l.initial.nexts l.nexts;
}
