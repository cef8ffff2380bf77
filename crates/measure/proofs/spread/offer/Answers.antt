use Rattle.measure.proofs.Relaxing.{offer_taken}
use Rattle.measure.proofs.spread.offer.Goals as goal

pub returns-then-takes : goal.returns-then-takes
returns-then-takes g c =
    offer_taken g.met.C.Cost.laws c.args.marks.now c.args.row.now c.args.x c.args.cost c.index-row-x.result c.requires.mark c.requires.cell c.index-row-x.is c.if-takes.ensures.taken
