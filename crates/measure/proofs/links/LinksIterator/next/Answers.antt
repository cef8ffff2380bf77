use Rattle.std.proofs.Common.{◌≡◌, ℕ, ◌+◌, ◌<◌, ◌∷◌, length, slice_index_or, sym, ap, ◌∙◌, subst, arith}
use Rattle.plan.specs.Walk.{nowhere}
use Rattle.measure.specs.Incidence.{Skips}
use Rattle.measure.specs.Links.{reached, links_from}
use Rattle.measure.proofs.Linking.{first_from, first_to}
use Rattle.measure.proofs.links.LinksIterator.next.Given as given
use Rattle.measure.proofs.links.LinksIterator.next.Goals as goal
use Rattle.measure.proofs.links.LinksIterator.next.Goals.{After-from-relay, then-from-self, else-from-self}

-- this link comes first, and then those from the next place on
step : (g : given.Over) (c : After-from-relay g)
    → c.args.self.now ≡ reached c.from-relay.result c.in_ok-cost.field-0.now ∷ links_from c.self.inside.graph.now c.self.inside.at c.from-self-inside.result
step g c =
    let graph = c.self.inside.graph.now in
    let place = c.self.inside.place in
    let here : place < length graph.ends.now = c.in_ok-ends.ensures.lookup.3.0 in
    let is_end = sym (c.in_ok-ends.ensures.lookup.4 (omega arith) nowhere) in
    let is_cost = sym (c.in_ok-cost.ensures.lookup.4 (omega arith) g.C.Cost.kind.none) in
    sym c.self.view_is ∙ elim c.if-from-self.branch [
      | then-from-self w ↦
          let next = c.from-self-inside.ensures ∙ ap (λ n. n.0) w.next-is in
          first_from c.self.inside.at graph.ends.now graph.costs.now graph.same c.in_ok-cost.field-0.now g.C.Cost.kind.none c.in_ok-ends.field-0.now
          place c.from-self-inside.result c.from-relay.result here is_end is_cost
          (sym c.from.ensures ∙ w.if-from-self.true) (c.from-relay.ensures ∙ ap (λ n. n.1) w.next-is)
          (subst (λ (j : ℕ). Skips graph.ends.now (slice_index_or graph.ends.now place nowhere).from (place + 1) j) (sym next) (graph.incident.froms place (omega arith) here))
      | else-from-self w ↦
          let next = c.from-self-inside.ensures ∙ ap (λ n. n.0) w.next-is in
          first_to c.self.inside.at graph.ends.now graph.costs.now graph.same c.in_ok-cost.field-0.now g.C.Cost.kind.none c.in_ok-ends.field-0.now
          place c.from-self-inside.result c.from-relay.result here is_end is_cost
          (λ e. w.if-from-self.false (c.from.ensures ∙ e)) (c.self.invariant.here here) (c.from-relay.ensures ∙ ap (λ n. n.1) w.next-is)
          (subst (λ (j : ℕ). Skips graph.ends.now (slice_index_or graph.ends.now place nowhere).to (place + 1) j) (sym next) (graph.incident.tos place (omega arith) here))
    ]

pub returns-clause-steps : goal.returns-clause-steps
returns-clause-steps g c = step g c

pub returns-clause-goes : goal.returns-clause-goes
returns-clause-goes g c =
    let fewer : length c.args.self.now ≡ length (reached c.from-relay.result c.in_ok-cost.field-0.now ∷ links_from c.self.inside.graph.now c.self.inside.at c.from-self-inside.result) =
    ap length (step g c) in
    record { on = λ f. (tt, tt, omega (arith, fewer)); keeps = tt; rests = λ f. tt }
