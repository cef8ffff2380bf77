-- Two worked examples, of kind delay.
use Rattle.std.specs.Prelude.{ℕ, List, [], ◌∷◌}
use Rattle.kind.specs.declared.delay.Delay.{Delay}
use Rattle.kind.specs.Kinds.{delay}
use Rattle.plan.specs.Plan.{Plan, relay, link}
use Rattle.order.specs.Views.{from_table, WithDistances, BallNamed, HomeNamed}

-- six relays on a line, at 0, 2, 5, 9, 10 and 15
abbrev pub line : Plan Delay
line = record {
  colours = 2;
  relays = relay 10 1 ∷ relay 11 2 ∷ relay 12 2 ∷ relay 13 1 ∷ relay 14 2 ∷ relay 15 2 ∷ [];
  links = link 0 1 (delay 2) ∷ link 1 2 (delay 3) ∷ link 2 3 (delay 4) ∷ link 3 4 (delay 1)
      ∷ link 4 5 (delay 5) ∷ [];
}

abbrev pub line_delays : ℕ → ℕ → Delay
line_delays = from_table (
    (0 ∷ 2 ∷ 5 ∷ 9 ∷ 10 ∷ 15 ∷ [])
    ∷ (2 ∷ 0 ∷ 3 ∷ 7 ∷ 8 ∷ 13 ∷ [])
    ∷ (5 ∷ 3 ∷ 0 ∷ 4 ∷ 5 ∷ 10 ∷ [])
    ∷ (9 ∷ 7 ∷ 4 ∷ 0 ∷ 1 ∷ 6 ∷ [])
    ∷ (10 ∷ 8 ∷ 5 ∷ 1 ∷ 0 ∷ 5 ∷ [])
    ∷ (15 ∷ 13 ∷ 10 ∷ 6 ∷ 5 ∷ 0 ∷ [])
    ∷ [])

-- the ball and the home landmark of relay 12, by name
pub record SeenFromTwelve (ball : List ℕ) (home : ℕ) : Type 0 where
  pub distances : WithDistances line line_delays
  pub balls : BallNamed line line_delays 12 ball
  pub homes : HomeNamed line line_delays 12 home

-- a relay with two neighbours, equally far
abbrev pub fork : Plan Delay
fork = record {
  colours = 2;
  relays = relay 20 1 ∷ relay 21 2 ∷ relay 22 2 ∷ [];
  links = link 0 1 (delay 1) ∷ link 0 2 (delay 1) ∷ [];
}

abbrev pub fork_delays : ℕ → ℕ → Delay
fork_delays = from_table ((0 ∷ 1 ∷ 1 ∷ []) ∷ (1 ∷ 0 ∷ 2 ∷ []) ∷ (1 ∷ 2 ∷ 0 ∷ []) ∷ [])

-- the ball of relay 20, by name: of the two neighbours it has the one of the lower number
pub record SeenFromTwenty (ball : List ℕ) : Type 0 where
  pub distances : WithDistances fork fork_delays
  pub balls : BallNamed fork fork_delays 20 ball
