-- How a plan's text shows the kind of its costs, and the cost of a link.
use Rattle.std.specs.Prelude.{◌≡◌, ℕ, ◌-◌, ◌^◌, ◌≤◌, min, List, [], ◌∷◌, ◌++◌, length, codes}
use Rattle.std.specs.List.{AllByRecursion}
use Rattle.kind.specs.Laws.{CostKind, IsLink}
use Rattle.kind.specs.declared.delay.Delay.{Delay}
use Rattle.kind.specs.declared.paid.Paid.{Paid}
use Rattle.kind.specs.Kinds.{delay, paid}
use Rattle.plan_text.specs.Rows.{TenDigits}
use Rattle.plan_text.specs.declared.plan_kind.PlanKind.{PlanKind}
use Rattle.plan_text.specs.declared.plan_kind.PlanKind.TheVariants.{Delay as by_delay, Paid as by_paid}

-- the letter of a kind: D for delay, P for paid
abbrev pub letter_of : PlanKind → ℕ
letter_of by_delay = 68
letter_of by_paid = 80

-- the letter and the space that follows it
abbrev pub label_of : PlanKind → List ℕ
label_of k = letter_of k ∷ (32 ∷ [])

-- the heading of the last block, with its line's end
abbrev pub heading_of : PlanKind → List ℕ
heading_of by_delay = codes "from to delay" ++ 10 ∷ []
heading_of by_paid = codes "from to paid delay" ++ 10 ∷ []

-- How a text shows costs: the kind that it names, how many numbers stand for a cost, the numbers
-- that are written of a cost, and the cost that is read of numbers.
pub record TextKind (C : Type 0) : Type 0 where
  pub kind : PlanKind
  pub width : ℕ
  pub shown : C → List ℕ
  pub read : List ℕ → C

-- The laws of it: each cost is shown in `width` numbers; those of a link's cost have at most ten
-- digits, and that cost is read of them; and where a link's cost is read of numbers, they are the
-- numbers that are written of it.
pub record TextLaws {C : Type 0} (K : CostKind C) (T : TextKind C) : Type 0 where
  -- the reader has places for the names of the ends and three numbers
  pub narrow : T.width ≤ 3
  pub wide : (c : C) → length (T.shown c) ≡ T.width
  pub short : (c : C) → IsLink K c → AllByRecursion TenDigits (T.shown c)
  pub back : (c : C) → IsLink K c → T.read (T.shown c) ≡ c
  pub forth : (ns : List ℕ) → length ns ≡ T.width
      → IsLink K (T.read ns) → T.shown (T.read ns) ≡ ns

-- a number as 32 bits hold it, the largest where it is more
abbrev pub held_in_32 : ℕ → ℕ
held_in_32 n = min n (2 ^ 32 - 1)

abbrev pub delay_shown : Delay → List ℕ
delay_shown d = d.ticks ∷ []

abbrev pub delay_read : List ℕ → Delay
delay_read [] = delay 0
delay_read (n ∷ []) = delay (held_in_32 n)
delay_read (n ∷ (m ∷ ns)) = delay 0

-- a delay is one number
abbrev pub delay_text : TextKind Delay
delay_text = record { kind = by_delay; width = 1; shown = delay_shown; read = delay_read }

abbrev pub paid_shown : Paid → List ℕ
paid_shown p = p.segments ∷ (p.delay ∷ [])

abbrev pub paid_read : List ℕ → Paid
paid_read [] = paid 0 0
paid_read (s ∷ []) = paid 0 0
paid_read (s ∷ (n ∷ [])) = paid (held_in_32 s) (held_in_32 n)
paid_read (s ∷ (n ∷ (m ∷ ns))) = paid 0 0

-- paid segments and a delay are two numbers, in this order
abbrev pub paid_text : TextKind Paid
paid_text = record { kind = by_paid; width = 2; shown = paid_shown; read = paid_read }
