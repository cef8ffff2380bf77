use Rattle.std.proofs.Common.{◌≡◌, length, refl, arith, rules}
use Rattle.std.proofs.lemmas.List.{places}
use Rattle.plan.specs.Walk.{Walk}
use Rattle.measure.specs.Distance.{Distance}
use Rattle.measure.proofs.Cells.{rows_more, behind_more}
use Rattle.measure.proofs.measured.fill_distances.Goals as goal

pub loop-u-preserved : goal.loop-u-preserved
loop-u-preserved g c =
    let n = c.args.graph.now.relays in
    let size : length c.distances_from.new.row ≡ n = search (rules, places) in
    record {
      size = refl;
      rows = λ p entered sound. rows_more n c.loop-u.u _ c.loop-u.distances c.distances_from.new.row (omega arith) size (omega arith) c.loop-u-test.true
          g.C.Cost.kind.none (λ v x d. Walk p v x → Distance g.C.Cost.kind p v x d)
          (λ v x h l. c.loop-u.invariant.rows p entered sound v x h l) (λ x l. c.distances_from.ensures p entered sound x);
      behind = behind_more n c.loop-u.u _ c.loop-u.distances c.distances_from.new.row (omega arith) size (omega arith) c.loop-u-test.true
          c.args.distances.now c.loop-u.invariant.behind;
    }

pub returns-clause-rows : goal.returns-clause-rows
returns-clause-rows g c = λ p entered sound v x h l. c.loop-u.invariant.rows p entered sound v x (omega arith) l
