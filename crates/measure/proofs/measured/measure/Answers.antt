use Rattle.std.proofs.Common.{sym, ◌∙◌, subst}
use Rattle.plan.specs.declared.counts.Counts.{Counts}
use Rattle.plan.specs.Plan.{Plan, lists, plan_of}
use Rattle.measure.specs.Settling.{Entered, NextRows}
use Rattle.measure.specs.Measuring.{Measures}
use Rattle.measure.proofs.Measures.{measures}
use Rattle.measure.proofs.measured.measure.Goals as goal

pub returns-clause-measured : goal.returns-clause-measured
returns-clause-measured g c =
    let l = lists c.args.relays.now c.args.links.now in
    subst (λ (n : Counts). Measures g.C.Cost.kind (plan_of n l) n.relays c.args.distances.now c.fill_distances.new.distances c.args.nexts.now c.fill_nexts.new.nexts) c.counts-counts.ensures
    (measures g.met.C.Cost.laws c.new-graph.result (plan_of c.counts-counts.result l) (subst (λ (p : Plan g.row.C.Denot). Entered p c.new-graph.result) c.in-Ok.ensures.plan c.new-graph.ensures)
    c.args.distances.now c.fill_distances.new.distances c.args.nexts.now c.fill_nexts.new.nexts c.fill_distances.ensures.rows
    (subst (λ ds. NextRows g.C.Cost.kind c.new-graph.result ds c.fill_nexts.new.nexts c.new-graph.result.relays) c.new.ensures.cells c.fill_nexts.ensures.rows)
    c.counts-counts.result.relays (sym c.new-graph.ensures.relays ∙ c.in-Ok.ensures.side) c.fill_distances.auto.distances c.fill_nexts.auto.nexts c.fill_distances.ensures.behind c.fill_nexts.ensures.behind)
