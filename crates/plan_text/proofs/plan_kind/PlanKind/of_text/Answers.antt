use Rattle.std.proofs.Common.{◌∷◌, arith}
use Rattle.plan_text.specs.Kinds.{letter_of}
use Rattle.plan_text.proofs.plan_kind.PlanKind.of_text.Goals as goal

pub returns-in_err-second_line : goal.returns-in_err-second_line
returns-in_err-second_line c = rw c.from_residual.ensures (λ k rest e. c.in_err-second_line.ensures (letter_of k ∷ rest) e)

pub returns : goal.returns
returns c = (c.in_ok-kind.field-0-1.now, grind arith)
