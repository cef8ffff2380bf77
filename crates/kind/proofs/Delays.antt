-- What the order and the links of the two kinds say of their numbers.
use Rattle.std.proofs.Common.{◌≡◌, ◌<◌, ◌≤◌, ◌⊎◌, inl, inr, arith}
use Rattle.std.proofs.lemmas.Bool.{cases_order}
use Rattle.std.proofs.lemmas.Bool.Decides.{nat_tests}
use Rattle.kind.specs.declared.delay.Delay.{Delay}
use Rattle.kind.specs.declared.paid.Paid.{Paid}
use Rattle.kind.specs.Laws.{IsLess, IsLink}
use Rattle.kind.specs.Kinds.{delay_kind, paid_kind}

pub less_ticks : (a b : Delay) → IsLess delay_kind a b → a.ticks < b.ticks
less_ticks a b h = grind (arith, nat_tests)

pub ticks_less : (a b : Delay) → a.ticks < b.ticks → IsLess delay_kind a b
ticks_less a b h = grind (arith, nat_tests)

pub delay_link : (a : Delay) → IsLink delay_kind a → 1 ≤ a.ticks
delay_link a h = grind (arith, nat_tests)

pub delay_link_most : (a : Delay) → IsLink delay_kind a → a.ticks ≤ 1000000
delay_link_most a h = grind (arith, nat_tests)

pub link_delay : (a : Delay) → 1 ≤ a.ticks → a.ticks ≤ 1000000 → IsLink delay_kind a
link_delay a h k = grind (arith, nat_tests)

-- segments are compared first, then the delay
pub cheaper_segments : (a b : Paid) → a.segments < b.segments → IsLess paid_kind a b
cheaper_segments a b h = grind (arith, nat_tests)

pub cheaper_delay : (a b : Paid) → a.segments ≡ b.segments → a.delay < b.delay → IsLess paid_kind a b
cheaper_delay a b e h = grind (arith, nat_tests)

pub cheaper : (a b : Paid) → IsLess paid_kind a b → (a.segments < b.segments) ⊎ ((a.segments ≡ b.segments) × (a.delay < b.delay))
cheaper a b h = by (cases_order a.segments b.segments)
  where
    by : (a.segments ≡ b.segments) ⊎ ((a.segments < b.segments) ⊎ (b.segments < a.segments))
        → (a.segments < b.segments) ⊎ ((a.segments ≡ b.segments) × (a.delay < b.delay))
    by (inl e) = inr (e, grind (arith, nat_tests))
    by (inr (inl l)) = inl l
    by (inr (inr l)) = absurd (grind (arith, nat_tests))

pub paid_link : (a : Paid) → IsLink paid_kind a → (a.segments ≤ 1000) × ((1 ≤ a.delay) × (a.delay ≤ 1000000))
paid_link a h = (grind (arith, nat_tests), (grind (arith, nat_tests), grind (arith, nat_tests)))

pub link_paid : (a : Paid) → a.segments ≤ 1000 → 1 ≤ a.delay → a.delay ≤ 1000000 → IsLink paid_kind a
link_paid a h k l = grind (arith, nat_tests)
