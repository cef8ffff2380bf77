use Rattle.measure.proofs.Metric.{metric}
use Rattle.measure.proofs.hops.most_hops.Goals as goal

pub returns-clause-metric : goal.returns-clause-metric
returns-clause-metric g c = λ p sound. metric g.met.C.Cost.laws p sound
