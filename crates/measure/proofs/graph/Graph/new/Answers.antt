use Rattle.std.proofs.Common.{length, sym, ap, ◌∙◌, subst, ap₂, arith}
use Rattle.plan.specs.Plan.{paired, link_of, ends_of}
use Rattle.plan.specs.Reach.{Within}
use Rattle.plan.proofs.Paired.{links_paired}
use Rattle.measure.specs.Incidence.{Incident}
use Rattle.measure.proofs.Chaining.{within_plan, ends_size, costs_size}
use Rattle.measure.proofs.graph.Graph.new.Goals as goal

pub invariant_of-result : goal.invariant_of-result
invariant_of-result g c = record {
  few = omega (arith, c.relay_count-relays.ensures.few);
  within = subst (λ es. Within es c.relay_count-relays.result) (sym c.ends.ensures)
      (subst (λ n. Within (ends_of c.args.plan.now) n) (sym c.relay_count-relays.ensures.count) (within_plan c.args.plan.now c.requires));
  same = ap length c.ends.ensures ∙ ends_size c.args.plan.now ∙ sym (ap length c.costs.ensures ∙ costs_size c.args.plan.now);
  sparse = omega (arith, ap length c.ends.ensures, ends_size c.args.plan.now, c.new.ensures.sparse);
  incident = subst (λ es. Incident es c.new.result) (sym c.ends.ensures) c.new.ensures.incident;
}

pub returns : goal.returns
returns g c = record {
  links = links_paired c.args.plan.now.links ∙ ap₂ (paired link_of) (sym c.ends.ensures) (sym c.costs.ensures);
  relays = sym c.relay_count-relays.ensures.count;
}
