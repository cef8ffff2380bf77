use Rattle.std.proofs.Common.{length, ap, ◌∙◌}
use Rattle.plan.specs.Plan.{Plan, lists}
use Rattle.plan.proofs.Held.{relays_entered}
use Rattle.measure.proofs.measured.check_measuring.Goals as goal

pub returns-clause-side : goal.returns-clause-side
returns-clause-side g c =
    ap (λ (p : Plan g.row.C.Denot). length p.relays) c.in_ok-plan.ensures.plan
    ∙ relays_entered c.args.counts (lists c.args.relays.now c.args.links.now) c.in_ok-plan.ensures.accepted
