-- What holds of orders, balls and managers, put together.
use Rattle.std.proofs.Common.{ℕ}
use Rattle.kind.specs.Laws.{Laws, CostKind}
use Rattle.plan.specs.Plan.{Plan}
use Rattle.plan.specs.Sound.{Sound}
use Rattle.measure.specs.Distance.{Distances}
use Rattle.order.specs.Balls.{Balls}
use Rattle.order.proofs.Order as o
use Rattle.order.proofs.Ordered as l

pub balls : {C : Type 0} {K : CostKind C}
    (laws : Laws K) (p : Plan C) (D : ℕ → ℕ → C) → Sound K p → Distances K p D → Balls K D p
balls laws p D sound distances = record {
  strict = o.strict laws p D;
  trans = o.order_trans laws p D;
  compared = o.order_compared laws p D;
  first = o.first laws p D sound distances;
  next_relay = o.next_relay laws p D sound distances;
  travels = o.travels laws p D sound distances;
  ordered = l.ordered laws p D;
  order_same = l.order_same laws p D;
  has_ball = l.has_ball laws p D;
  ball_same = l.ball_same laws p D;
  members = o.members laws p D;
  member_relay = λ u x h. h.is_relay;
  centre = o.centre laws p D sound distances;
  monotone = o.monotone laws p D sound distances;
  inside = o.inside laws p D;
  managed = o.managed laws p D;
  manager_same = o.manager_same laws p D;
  manager_relay = λ u c m h. (h.is_relay, h.coloured);
  nearest = o.nearest laws p D;
  manager_near = o.manager_near laws p D;
  persists = o.persists laws p D sound distances;
  own = o.own laws p D sound distances;
}
