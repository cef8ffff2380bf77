use Rattle.std.proofs.Common.{ℕ, ◌-◌, ◌<◌, ◌≤◌, length}
use Rattle.order.specs.Seen.{Covers}
use Rattle.balls.specs.Lists.{colour_at}
use Rattle.balls.proofs.Meeting.{Missing}
use Rattle.balls.proofs.neighbourhoods.Neighbourhoods.ball_size.Given as goal

abbrev pub invariant-loop-relays : goal.invariant-loop-relays
invariant-loop-relays g l =
    let cs = l.self.colours in
    let k = l.self.palette in
    (l.place ≤ length l.relays)
    × Missing l.relays cs k l.missing.marks l.place
    × ((a : ℕ) → a < l.place → Covers (colour_at cs) k l.relays a → ⊥)

abbrev pub decreases-loop-relays : goal.decreases-loop-relays
decreases-loop-relays g l = length l.relays - l.place
