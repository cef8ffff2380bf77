use Rattle.std.proofs.Common.{◌≡◌, ◌++◌}
use Rattle.measure.specs.Links.{links_of}
use Rattle.measure.specs.Settling.{reaches_of, Followed}
use Rattle.measure.proofs.spread.relax.Given as goal

abbrev pub invariant-loop-link : goal.invariant-loop-link
invariant-loop-link g l = record {
  all : l.yielded ++ l.link-iterator ≡ links_of l.graph l.relay;
  followed : Followed g.C.Cost.kind l.cost l.yielded (reaches_of l.initial.marks l.initial.row) (reaches_of l.marks l.row);
}
