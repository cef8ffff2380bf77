use Rattle.std.proofs.Common.{◌≡◌, length, refl, arith, rules}
use Rattle.std.proofs.lemmas.List.{places}
use Rattle.measure.specs.Settling.{Toward}
use Rattle.measure.proofs.Cells.{rows_more, behind_more}
use Rattle.measure.proofs.measured.fill_nexts.Goals as goal

pub loop-u-preserved : goal.loop-u-preserved
loop-u-preserved g c =
    let n = c.args.graph.now.relays in
    let size : length c.nexts_from.new.row ≡ n = search (rules, places) in
    record {
      size = refl;
      rows = rows_more n c.loop-u.u _ c.loop-u.nexts c.nexts_from.new.row (omega arith) size (omega arith) c.loop-u-test.true
          0 (λ v x r. Toward g.C.Cost.kind c.args.graph.now c.args.distances.now.cells.now v x r) c.loop-u.invariant.rows c.nexts_from.ensures;
      behind = behind_more n c.loop-u.u _ c.loop-u.nexts c.nexts_from.new.row (omega arith) size (omega arith) c.loop-u-test.true
          c.args.nexts.now c.loop-u.invariant.behind;
    }

pub returns-clause-rows : goal.returns-clause-rows
returns-clause-rows g c = λ v x h l. c.loop-u.invariant.rows v x (omega arith) l
