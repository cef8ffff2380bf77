use Rattle.std.proofs.Common.{◌≡◌, ◌<◌, ◌≤◌, length, get_or, Some, None, sym, subst, ap, arith, below_more, rules}
use Rattle.order.specs.Seen.{Covers}
use Rattle.balls.specs.Lists.{colour_at}
use Rattle.balls.specs.Told.{FindsSize}
use Rattle.balls.proofs.Meeting.{some_missing, missing_more, finds_some, finds_none}
use Rattle.balls.proofs.Nearby.{finds_ball}
use Rattle.balls.proofs.neighbourhoods.Neighbourhoods.ball_size.Goals as goal

pub loop-relays-preserved : goal.loop-relays-preserved
loop-relays-preserved g c =
    let m = c.args.self.now in
    let rs = c.entries-relays.result.now in
    let at = c.loop-relays in
    let inv = c.loop-relays.invariant in
    let inside : c.loop-relays.place < length c.entries-relays.result.now = search rules in
    let relay : c.in_ok-relay.relay.now ≡ get_or c.entries-relays.result.now c.loop-relays.place 0 = search rules in
    let colour : colour_at c.args.self.now.colours c.in_ok-relay.relay.now ≡ colour_at c.args.self.now.colours (get_or c.entries-relays.result.now c.loop-relays.place 0) = ap (colour_at c.args.self.now.colours) relay in (
      omega (arith, inside),
      missing_more rs m.colours m.palette at.missing.marks c.meet.new.missing.marks at.place (colour_at m.colours c.in_ok-relay.relay.now) inv.1 inside colour c.meet.ensures,
      below_more (λ a. Covers (colour_at m.colours) m.palette rs a → ⊥) at.place inv.2
          (some_missing rs m.colours m.palette at.missing.marks at.place inv.1 c.is_empty.result c.if-is_empty.false c.is_empty.ensures),
    )

pub returns-clause-size : goal.returns-clause-size
returns-clause-size g c =
    let inv = c.loop-relays.invariant in
    finds_some c.args.self.now c.args.order.now c.entries-relays.result.now c.entries-relays.ensures c.loop-relays.missing.marks c.loop-relays.place inv.1
    inv.0 (c.is_empty.ensures.0 c.if-is_empty.true) inv.2

pub returns-clause-ball : goal.returns-clause-ball
returns-clause-ball g c = finds_ball g.met.C.Cost.laws c.args.self.now c.args.order.now (Some c.loop-relays.place) (returns-clause-size g c)

pub returns-in_err-relay-clause-size : goal.returns-in_err-relay-clause-size
returns-in_err-relay-clause-size g c =
    let none : c.from_residual.result ≡ None = search rules in
    let all : length c.entries-relays.result.now ≤ c.loop-relays.place = search rules in
    subst (FindsSize c.args.self.now c.args.order.now) (sym none)
    (finds_none c.args.self.now c.args.order.now c.entries-relays.result.now c.entries-relays.ensures c.loop-relays.missing.marks c.loop-relays.place
    c.loop-relays.invariant.1 all c.is_empty.result c.if-is_empty.false c.is_empty.ensures)

pub returns-in_err-relay-clause-ball : goal.returns-in_err-relay-clause-ball
returns-in_err-relay-clause-ball g c =
    finds_ball g.met.C.Cost.laws c.args.self.now c.args.order.now c.from_residual.result (returns-in_err-relay-clause-size g c)
