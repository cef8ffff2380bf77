use Rattle.std.proofs.Common.{◌≡◌, List, ◌++◌, length}
use Rattle.plan.specs.declared.ends.Ends.{Ends}
use Rattle.plan.specs.Plan.{ends_of}
use Rattle.measure.specs.Incidence.{Chained}
use Rattle.measure.proofs.incidence.Incidence.new.Given as goal

abbrev pub invariant-loop-k : goal.invariant-loop-k
invariant-loop-k g l = record {
  first : length l.first ≡ 256;
  from : length l.from ≡ 1024;
  to : length l.to ≡ 1024;
  count : l.k-iterator.iter.count ≡ 0;
  left : (after : List Ends) × (l.k-iterator.iter.iter.rest.now ++ after ≡ ends_of l.plan);
  chained : Chained (ends_of l.plan) l.first l.from l.to (length l.k-iterator.iter.iter.rest.now);
}
