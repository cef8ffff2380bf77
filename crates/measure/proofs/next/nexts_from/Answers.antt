use Rattle.std.proofs.Common.{arith}
use Rattle.measure.specs.Settling.{Toward}
use Rattle.measure.proofs.Cells.{cells_more}
use Rattle.measure.proofs.next.nexts_from.Goals as goal

pub loop-x-preserved : goal.loop-x-preserved
loop-x-preserved g c =
    cells_more c.loop-x.row c.loop-x.x c.next_toward.result 0
    (λ y r. Toward g.C.Cost.kind c.args.graph.now c.args.distances.now.cells.now c.args.from y r)
    (omega arith) c.loop-x.invariant c.next_toward.ensures.toward

pub returns : goal.returns
returns g c = λ x l. c.loop-x.invariant x (omega arith)
