use Rattle.std.proofs.Common.{◌≡◌, ◌+◌, ◌<◌, length, get_or, sym, ap, ◌∙◌, subst, arith}
use Rattle.measure.specs.declared.mark.Mark.TheVariants.{Unknown}
use Rattle.measure.specs.Settling.{Unreached, reach_of, reaches_of, near_of, settled_of, BestOf}
use Rattle.measure.proofs.Known.{reaches_at}
use Rattle.measure.proofs.Relaxing.{best_taken, best_kept}
use Rattle.measure.proofs.spread.nearest.Goals as goal
use Rattle.measure.proofs.spread.nearest.Goals.{then-is_nearer, else-is_nearer}

pub loop-relay-preserved : goal.loop-relay-preserved
loop-relay-preserved g c =
    let reaches = reaches_of c.args.marks.now c.args.row.now in
    let mark : c.loop-relay.relay < length c.args.marks.now = omega arith in
    let is : get_or reaches c.loop-relay.relay Unreached ≡ reach_of (get_or c.args.marks.now c.loop-relay.relay Unknown) c.index-row-relay.result =
    reaches_at c.args.marks.now c.args.row.now c.loop-relay.relay c.index-row-relay.result mark (omega arith)
    ∙ ap (reach_of (get_or c.args.marks.now c.loop-relay.relay Unknown)) (sym c.index-row-relay.is) in
    elim c.if-is_nearer.branch [
      | then-is_nearer w ↦
          subst (λ best. BestOf g.C.Cost.kind (near_of reaches) (settled_of reaches) (c.loop-relay.relay + 1) best) (sym w.best-is)
          (best_taken g.met.C.Cost.laws reaches c.loop-relay.relay c.loop-relay.best (get_or c.args.marks.now c.loop-relay.relay Unknown) c.index-row-relay.result is
          c.loop-relay.invariant w.if-is_nearer.ensures.nearer)
      | else-is_nearer w ↦
          subst (λ best. BestOf g.C.Cost.kind (near_of reaches) (settled_of reaches) (c.loop-relay.relay + 1) best) (sym w.best-is)
          (best_kept g.met.C.Cost.laws reaches c.loop-relay.relay c.loop-relay.best (get_or c.args.marks.now c.loop-relay.relay Unknown) c.index-row-relay.result is
          c.loop-relay.invariant w.if-is_nearer.ensures.other)
    ]
