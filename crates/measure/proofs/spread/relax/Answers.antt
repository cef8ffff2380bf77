use Rattle.std.proofs.Common.{[], ◌∷◌, ◌++◌, append-nil, append_assoc, sym, ap, ◌∙◌, subst, arith}
use Rattle.measure.specs.Settling.{reaches_of, Followed}
use Rattle.measure.proofs.Known.{reaches_within}
use Rattle.measure.proofs.Linking.{link_inside, all_of}
use Rattle.measure.proofs.Relaxing.{followed_none, followed_more}
use Rattle.measure.proofs.spread.relax.Goals as goal

pub loop-link-init : goal.loop-link-init
loop-link-init g c = record {
  all = c.into_iter-link-iterator.ensures.into_iter_gives ∙ c.links_at-link-items.ensures;
  followed = followed_none g.met.C.Cost.laws c.args.at.cost (reaches_of c.args.marks.now c.args.row.now);
}

pub offer-requires : goal.offer-requires
offer-requires g c =
    let inside = link_inside g.C.Cost.kind.none c.args.graph.now c.args.at.relay c.loop-link.yielded c.next.new.self c.in-Some.link (all_of _ _ _ _ _ c.loop-link.invariant.all c.in-Some.ensures.steps) in
    record {
      mark = omega (arith, inside, c.requires.marks, c.loop-link.auto.marks);
      cell = omega (arith, inside, c.requires.size, c.loop-link.auto.row);
    }

pub loop-link-preserved : goal.loop-link-preserved
loop-link-preserved g c =
    let inside = link_inside g.C.Cost.kind.none c.args.graph.now c.args.at.relay c.loop-link.yielded c.next.new.self c.in-Some.link (all_of _ _ _ _ _ c.loop-link.invariant.all c.in-Some.ensures.steps) in
    record {
      all = append_assoc c.loop-link.yielded (c.in-Some.link ∷ []) c.next.new.self ∙ all_of _ _ _ _ _ c.loop-link.invariant.all c.in-Some.ensures.steps;
      followed = followed_more g.met.C.Cost.laws c.args.at.cost c.loop-link.yielded c.in-Some.link c.add.result (reaches_of c.args.marks.now c.args.row.now) (reaches_of c.loop-link.marks c.loop-link.row) (reaches_of c.offer.new.marks c.offer.new.row)
          (reaches_within c.loop-link.marks c.loop-link.row c.in-Some.link.relay (omega (arith, inside, c.requires.marks, c.loop-link.auto.marks)) (omega (arith, inside, c.requires.size, c.loop-link.auto.row))) (g.met.C.Cost.adds _ _ _ c.add.ensures) c.offer.ensures c.loop-link.invariant.followed;
    }

pub returns : goal.returns
returns g c =
    subst (λ links. Followed g.C.Cost.kind c.args.at.cost links (reaches_of c.args.marks.now c.args.row.now) (reaches_of c.loop-link.marks c.loop-link.row))
    (sym (append-nil _) ∙ ap (λ rest. c.loop-link.yielded ++ rest) (sym c.in-None.ensures.steps.0) ∙ c.loop-link.invariant.all)
    c.loop-link.invariant.followed
