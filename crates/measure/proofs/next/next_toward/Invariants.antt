use Rattle.std.proofs.Common.{◌≡◌, ◌++◌}
use Rattle.measure.specs.Links.{links_of}
use Rattle.measure.specs.Settling.{LowestStep}
use Rattle.measure.specs.Squares.{in_square}
use Rattle.measure.proofs.next.next_toward.Given as goal

abbrev pub invariant-loop-link : goal.invariant-loop-link
invariant-loop-link g l = record {
  all : l.yielded ++ l.link-iterator ≡ links_of l.graph l.from;
  lowest : LowestStep g.C.Cost.kind l.yielded (in_square g.C.Cost.kind.none l.graph.relays l.distances.cells.now) l.from l.to l.lowest;
}
