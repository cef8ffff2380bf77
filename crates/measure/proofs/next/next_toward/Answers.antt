use Rattle.std.proofs.Common.{◌≡◌, ℕ, min, ◌⊎◌, List, [], ◌∷◌, ◌++◌, Some, None, append-nil, append_assoc, sym, refl, ap, ◌∙◌, subst, arith}
use Rattle.std.proofs.lemmas.Bool.{false≢true}
use Rattle.measure.specs.Links.{links_of}
use Rattle.measure.specs.Settling.{LowestStep}
use Rattle.measure.specs.Squares.{in_square}
use Rattle.measure.proofs.Linking.{link_inside, all_of}
use Rattle.measure.proofs.Stepping.{lowest_left, lowest_taken, lowest_inside, lowest_toward}
use Rattle.measure.proofs.next.next_toward.Goals as goal

pub entry-requires-clause-row : goal.entry-requires-clause-row
entry-requires-clause-row g c =
    let inside = link_inside g.C.Cost.kind.none c.args.graph.now c.args.from c.loop-link.yielded c.next.new.self c.in-Some.link
    (all_of _ _ _ _ _ c.loop-link.invariant.all c.in-Some.ensures.steps) in
    omega (arith, inside, c.requires.square.side)

-- the same entry, by the side that the graph tells
by_side : {V : Type 0} (d e : V) (side n : ℕ) (cells : List V) (u v : ℕ) → side ≡ n → e ≡ in_square d side cells u v → e ≡ in_square d n cells u v
by_side d e side n cells u v same is = is ∙ ap (λ k. in_square d k cells u v) same

pub loop-link-preserved-then-adds_up : goal.loop-link-preserved-then-adds_up
loop-link-preserved-then-adds_up g c =
    let none = g.C.Cost.kind.none in
    let side = c.requires.square.side in
    let whole = by_side none c.entry-whole.result _ _ c.args.distances.now.cells.now c.args.from c.args.to side (c.entry-whole.ensures none) in
    let rest = by_side none c.entry.result _ _ c.args.distances.now.cells.now c.in-Some.link.relay c.args.to side (c.entry.ensures none) in
    record {
      all = append_assoc c.loop-link.yielded (c.in-Some.link ∷ []) c.next.new.self ∙ all_of _ _ _ _ _ c.loop-link.invariant.all c.in-Some.ensures.steps;
      lowest = lowest_taken g.C.Cost.kind (in_square g.C.Cost.kind.none c.args.graph.now.relays c.args.distances.now.cells.now) c.args.from c.args.to c.loop-link.yielded c.in-Some.link c.loop-link.lowest c.min.result
          (c.min.ensures ∙ ap (λ r. min c.in-Some.link.relay r) c.unwrap_or.ensures)
          (sym whole ∙ c.if-adds_up.ensures.0 refl ∙ ap (g.C.Cost.kind.adds c.in-Some.link.cost) rest) c.loop-link.invariant.lowest;
    }

pub loop-link-preserved : goal.loop-link-preserved
loop-link-preserved g c =
    let none = g.C.Cost.kind.none in
    let side = c.requires.square.side in
    let whole = by_side none c.entry-whole.result _ _ c.args.distances.now.cells.now c.args.from c.args.to side (c.entry-whole.ensures none) in
    let rest = by_side none c.entry.result _ _ c.args.distances.now.cells.now c.in-Some.link.relay c.args.to side (c.entry.ensures none) in
    record {
      all = append_assoc c.loop-link.yielded (c.in-Some.link ∷ []) c.next.new.self ∙ all_of _ _ _ _ _ c.loop-link.invariant.all c.in-Some.ensures.steps;
      lowest = lowest_left g.C.Cost.kind (in_square g.C.Cost.kind.none c.args.graph.now.relays c.args.distances.now.cells.now) c.args.from c.args.to c.loop-link.yielded c.in-Some.link c.loop-link.lowest
          (λ sums. false≢true (c.if-adds_up.ensures.1 (whole ∙ sums ∙ ap (g.C.Cost.kind.adds c.in-Some.link.cost) (sym rest)))) c.loop-link.invariant.lowest;
    }

pub returns-clause-relay : goal.returns-clause-relay
returns-clause-relay g c =
    let lowest = subst (λ links. LowestStep g.C.Cost.kind links (in_square g.C.Cost.kind.none c.args.graph.now.relays c.args.distances.now.cells.now) c.args.from c.args.to c.loop-link.lowest)
    (sym (append-nil _) ∙ ap (λ rest. c.loop-link.yielded ++ rest) (sym c.in-None.ensures.steps.0) ∙ c.loop-link.invariant.all) c.loop-link.invariant.lowest in
    let inside = lowest_inside g.C.Cost.kind (in_square g.C.Cost.kind.none c.args.graph.now.relays c.args.distances.now.cells.now) c.args.graph.now c.args.from c.args.to c.loop-link.lowest c.requires.inside lowest in
    omega (arith, inside, c.unwrap_or-2.ensures)

pub returns-clause-toward : goal.returns-clause-toward
returns-clause-toward g c =
    let lowest = subst (λ links. LowestStep g.C.Cost.kind links (in_square g.C.Cost.kind.none c.args.graph.now.relays c.args.distances.now.cells.now) c.args.from c.args.to c.loop-link.lowest)
    (sym (append-nil _) ∙ ap (λ rest. c.loop-link.yielded ++ rest) (sym c.in-None.ensures.steps.0) ∙ c.loop-link.invariant.all) c.loop-link.invariant.lowest in (
      λ e. absurd (c.if-from-to.false e),
      λ ne. subst (λ r. LowestStep g.C.Cost.kind (links_of c.args.graph.now c.args.from) (in_square g.C.Cost.kind.none c.args.graph.now.relays c.args.distances.now.cells.now) c.args.from c.args.to (Some r)
          ⊎ LowestStep g.C.Cost.kind (links_of c.args.graph.now c.args.from) (in_square g.C.Cost.kind.none c.args.graph.now.relays c.args.distances.now.cells.now) c.args.from c.args.to None) (sym c.unwrap_or-2.ensures)
          (lowest_toward g.C.Cost.kind (in_square g.C.Cost.kind.none c.args.graph.now.relays c.args.distances.now.cells.now) c.args.graph.now c.args.from c.args.to c.loop-link.lowest lowest),
    )
