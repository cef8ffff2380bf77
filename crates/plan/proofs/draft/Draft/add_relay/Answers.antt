use Rattle.std.proofs.Common.{ap, subst, arith}
use Rattle.plan.specs.Plan.{RelayEntries, lists}
use Rattle.plan.specs.Checks.{AllHold, FirstFails}
use Rattle.plan.specs.Rules.{relay_checks}
use Rattle.plan.proofs.Moved.{along}
use Rattle.plan.specs.Lent.{relays_in}
use Rattle.plan.specs.History.{AddRelay}
use Rattle.plan.proofs.Held.{relays_entered}
use Rattle.plan.proofs.Adding.{Done, relay_done}
use Rattle.plan.proofs.Histories.{sound_enters}
use Rattle.plan.proofs.draft.Draft.add_relay.Given as given
use Rattle.plan.proofs.draft.Draft.add_relay.Goals as goal

pub returns-in-Err-clause-refused : goal.returns-in-Err-clause-refused
returns-in-Err-clause-refused g c =
    along (λ n r. FirstFails (relay_checks n (lists r c.args.links.now) c.args.name c.args.colour) c.in-Err.refusal) c.self.view_is c.view.ensures c.in-Err.ensures

pub with_relay-requires : goal.with_relay-requires
with_relay-requires g c = omega (arith, c.in_default.ensures.1.1.1.0, relays_entered _ _ c.in_default.ensures.0)

pub returns-clause-accepted : goal.returns-clause-accepted
returns-clause-accepted g c =
    along (λ n r. AllHold (relay_checks n (lists r c.args.links.now) c.args.name c.args.colour)) c.self.view_is c.view.ensures c.in_default.ensures

done : (g : given.Over) (c : goal.After-with_relay g)
    → Done g.C.Cost.kind c.args.self (lists (relays_in c.args.relays.now) c.args.links.now) (AddRelay c.args.name c.args.colour)
    c.with_relay.result (lists (relays_in c.write.new.self) c.args.links.now)
done g c = rw (← c.self.view_is) (relay_done g.C.Cost.kind c.self.inside.counts _ (lists (relays_in c.args.relays.now) c.args.links.now) _ c.args.name c.args.colour
    (subst (λ (r : RelayEntries). AllHold (relay_checks c.self.inside.counts (lists r c.args.links.now) c.args.name c.args.colour)) c.view.ensures c.in_default.ensures)
    c.with_relay.ensures (ap (λ (r : RelayEntries). lists r c.args.links.now) c.write.ensures.written))

pub returns-clause-added : goal.returns-clause-added
returns-clause-added g c = let d = done g c in record { counts = rw (← c.self.view_is) c.with_relay.ensures; plan = d.enters.1; long = d.long; written = rw (← c.self.view_is) (ap (λ (r : RelayEntries). lists r c.args.links.now) c.write.ensures.written) }

pub returns-clause-sound : goal.returns-clause-sound
returns-clause-sound g c = sound_enters g.C.Cost.kind (AddRelay c.args.name c.args.colour) _ _ (done g c).enters

pub returns-clause-history : goal.returns-clause-history
returns-clause-history g c = λ k calls drafted. (_, drafted, (done g c).enters)
