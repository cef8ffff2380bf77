use Rattle.std.proofs.Common.{◌≡◌, ap, replicate, ◌∙◌, arith, rules}
use Rattle.std.proofs.lemmas.List.{length-set}
use Rattle.measure.specs.declared.mark.Mark.{Mark}
use Rattle.measure.specs.declared.mark.Mark.TheVariants.{Unknown, Open, Settled}
use Rattle.measure.specs.Links.{links_of}
use Rattle.measure.specs.Settling.{reaches_of}
use Rattle.measure.proofs.Cells.{filled}
use Rattle.measure.proofs.Settled.{first_marked, settled_mark, mark_falls, all_distances}
use Rattle.measure.proofs.spread.distances_from.Goals as goal

pub loop-next-init : goal.loop-next-init
loop-next-init g c =
    let zeros = filled _ g.C.Cost.kind.none _
    (λ x h r. let said = r.met.0 in let is : x ≡ c.zero-zero.result = search rules in (ap (λ zero. record { 0 = zero }) r.met.1, is ∙ c.zero-zero.ensures))
    _ _ c.fill_with.ensures.ran.1 in
    record {
      marks = length-set {A = Mark} (replicate 256 Unknown) c.args.source Open;
      spreading = λ p entered sound. first_marked g.met.C.Cost.laws c.args.graph.now c.args.source p c.fill_with.new.self
          (omega (arith, c.args.graph.now.few)) (omega arith) (zeros c.args.source (omega arith));
    }

pub loop-next-smaller : goal.loop-next-smaller
loop-next-smaller g c =
    mark_falls c.loop-next.marks c.loop-next.row (reaches_of c.relax.new.marks c.relax.new.row) c.args.graph.now.relays c.in-Some.next (links_of c.args.graph.now c.in-Some.next.relay)
    (omega (arith, c.args.graph.now.few, c.loop-next.invariant.marks)) (omega arith) c.in-Some.ensures c.relax.ensures

pub loop-next-preserved : goal.loop-next-preserved
loop-next-preserved g c = record {
  marks = c.relax.auto.marks ∙ length-set c.loop-next.marks c.in-Some.next.relay Settled ∙ c.loop-next.invariant.marks;
  spreading = λ p entered sound. settled_mark g.met.C.Cost.laws c.args.graph.now c.args.source p entered sound c.requires.inside
      c.loop-next.marks c.loop-next.row (reaches_of c.relax.new.marks c.relax.new.row) c.in-Some.next
      (omega (arith, c.args.graph.now.few, c.loop-next.invariant.marks)) (omega arith) (c.loop-next.invariant.spreading p entered sound) c.in-Some.ensures c.relax.ensures;
}

pub returns : goal.returns
returns g c = λ p entered sound.
    all_distances g.met.C.Cost.laws c.args.graph.now c.args.source p entered sound c.requires.inside c.loop-next.marks c.loop-next.row
    (omega (arith, c.args.graph.now.few, c.loop-next.invariant.marks)) (omega arith) (c.loop-next.invariant.spreading p entered sound) c.in_default.ensures
