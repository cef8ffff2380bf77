-- A plan in which the cheapest walk takes more links than the shortest.
use Rattle.std.specs.Prelude.{ℕ, [], ◌∷◌}
use Rattle.kind.specs.declared.paid.Paid.{Paid}
use Rattle.kind.specs.Kinds.{paid, paid_kind}
use Rattle.plan.specs.Plan.{Plan, relay, link}
use Rattle.measure.specs.Distance.{Distance, Next}

-- relays 30, 31 and 32, all of colour 1, and the links 30–31 (0, 9), 30–32 (1, 1) and 31–32 (0, 1)
abbrev pub three : Plan Paid
three = record {
  colours = 1;
  relays = relay 30 1 ∷ relay 31 1 ∷ relay 32 1 ∷ [];
  links = link 0 1 (paid 0 9) ∷ link 0 2 (paid 1 1) ∷ link 1 2 (paid 0 1) ∷ [];
}

-- from relay 30 to relay 32 it costs c, by way of relay r
pub record FromFirstToLast (c : Paid) (r : ℕ) : Type 0 where
  pub distance : Distance paid_kind three 0 2 c
  pub next : Next paid_kind three 0 2 r
