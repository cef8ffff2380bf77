use Rattle.std.proofs.Common.{ap, subst, arith}
use Rattle.plan.specs.Plan.{LinkEntries, lists, plan_of}
use Rattle.plan.specs.Sound.{Called}
use Rattle.plan.specs.Steps.{LinkAdded}
use Rattle.plan.specs.Checks.{AllHold, FirstFails}
use Rattle.plan.specs.Rules.{link_checks}
use Rattle.plan.proofs.Moved.{along}
use Rattle.plan.specs.Lent.{links_in}
use Rattle.plan.specs.History.{AddLink}
use Rattle.plan.proofs.Held.{links_entered}
use Rattle.plan.proofs.Adding.{Done, link_done}
use Rattle.plan.proofs.Histories.{sound_enters}
use Rattle.plan.proofs.draft.Draft.add_link.Given as given
use Rattle.plan.proofs.draft.Draft.add_link.Goals as goal

pub returns-in-Err-clause-refused : goal.returns-in-Err-clause-refused
returns-in-Err-clause-refused g c =
    along (λ n r. FirstFails (link_checks g.C.Cost.kind n (lists c.args.relays.now r) c.args.from c.args.to c.args.cost) c.in-Err.refusal) c.self.view_is c.view.ensures c.in-Err.ensures.checked

pub with_link-requires : goal.with_link-requires
with_link-requires g c = omega (arith, c.in-Ok.ensures.checked.1.1.1.0, links_entered _ _ c.in-Ok.ensures.checked.0)

done : (g : given.Over) (c : goal.After-with_link g)
    → Done g.C.Cost.kind c.args.self (lists c.args.relays.now (links_in c.args.links.now)) (AddLink c.args.from c.args.to c.args.cost)
    c.with_link.result (lists c.args.relays.now (links_in c.write.new.self))
    × LinkAdded c.args.self (lists c.args.relays.now (links_in c.args.links.now)) c.args.from c.args.to c.args.cost
    c.with_link.result (lists c.args.relays.now (links_in c.write.new.self))
done g c = rw (← c.self.view_is) (link_done g.C.Cost.kind c.self.inside.counts _ (lists c.args.relays.now (links_in c.args.links.now)) _ c.args.from c.args.to c.args.cost c.in-Ok.pair
    (subst (λ (r : LinkEntries g.row.C.Denot). AllHold (link_checks g.C.Cost.kind c.self.inside.counts (lists c.args.relays.now r) c.args.from c.args.to c.args.cost)) c.view.ensures c.in-Ok.ensures.checked)
    (subst (λ (r : LinkEntries g.row.C.Denot). Called (plan_of c.self.inside.counts (lists c.args.relays.now r)) c.in-Ok.pair.from c.args.from) c.view.ensures c.in-Ok.ensures.from)
    (subst (λ (r : LinkEntries g.row.C.Denot). Called (plan_of c.self.inside.counts (lists c.args.relays.now r)) c.in-Ok.pair.to c.args.to) c.view.ensures c.in-Ok.ensures.to)
    c.with_link.ensures (ap (λ (r : LinkEntries g.row.C.Denot). lists c.args.relays.now r) c.write.ensures.written))

pub returns-clause-added : goal.returns-clause-added
returns-clause-added g c = (done g c).1

pub returns-clause-sound : goal.returns-clause-sound
returns-clause-sound g c = sound_enters g.C.Cost.kind (AddLink c.args.from c.args.to c.args.cost) _ _ (done g c).0.enters

pub returns-clause-history : goal.returns-clause-history
returns-clause-history g c = λ k calls drafted. (_, drafted, (done g c).0.enters)
