-- The two kinds of this crate.
use Rattle.std.specs.Prelude.{ℕ, ◌+◌, ◌-◌, ◌^◌, ◌&&◌, nat_le, min}
use Rattle.std.specs.Ordering.{nat_cmp, ordering_then}
use Rattle.kind.specs.declared.delay.Delay.{Delay}
use Rattle.kind.specs.declared.paid.Paid.{Paid}
use Rattle.kind.specs.Laws.{CostKind}

-- the sum of two numbers of 32 bits, or the largest such number
abbrev pub capped : ℕ → ℕ → ℕ
capped m n = min (m + n) (2 ^ 32 - 1)

-- a delay of n
abbrev pub delay : ℕ → Delay
delay n = record { ticks = n }

-- delays; a link has 1 to 1,000,000
abbrev pub delay_kind : CostKind Delay
delay_kind = record {
  none = delay 0;
  plus = λ a b. delay (a.ticks + b.ticks);
  adds = λ a b. delay (capped a.ticks b.ticks);
  cmp = λ a b. nat_cmp a.ticks b.ticks;
  is_link = λ a. nat_le 1 a.ticks && nat_le a.ticks 1000000;
}

-- s paid segments and a delay of n
abbrev pub paid : ℕ → ℕ → Paid
paid s n = record { segments = s; delay = n }

-- paid segments and delays, summed part by part; segments are compared first, then the delay; a link has at most 1,000 segments and a delay of 1 to 1,000,000
abbrev pub paid_kind : CostKind Paid
paid_kind = record {
  none = paid 0 0;
  plus = λ a b. paid (a.segments + b.segments) (a.delay + b.delay);
  adds = λ a b. paid (capped a.segments b.segments) (capped a.delay b.delay);
  cmp = λ a b. ordering_then (nat_cmp a.segments b.segments) (nat_cmp a.delay b.delay);
  is_link = λ a. nat_le a.segments 1000 && nat_le 1 a.delay && nat_le a.delay 1000000;
}
