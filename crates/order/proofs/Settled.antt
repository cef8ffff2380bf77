-- The two worked examples.
use Rattle.std.proofs.Common.{[], ◌∷◌, refl, arith}
use Rattle.order.specs.Examples.{line, line_delays, SeenFromTwelve, fork, fork_delays, SeenFromTwenty}
use Rattle.order.proofs.Settle.{ticks_of, with_distances, ball_is, manager_at}

pub seen_from_twelve : SeenFromTwelve (12 ∷ 11 ∷ 13 ∷ []) 13
seen_from_twelve = record {
  distances = with_distances line (ticks_of line_delays) refl refl;
  balls = record {
    centre = 2;
    called = (omega arith, λ d. refl);
    members = 2 ∷ 1 ∷ 3 ∷ [];
    ball = ball_is line (ticks_of line_delays) 2 (2 ∷ 1 ∷ 3 ∷ 0 ∷ 4 ∷ 5 ∷ []) 3 refl (2 ∷ 1 ∷ 3 ∷ []) refl refl;
    named = refl;
  };
  homes = record {
    centre = 2;
    called = (omega arith, λ d. refl);
    landmark = 3;
    home = manager_at line (ticks_of line_delays) 2 (2 ∷ 1 ∷ 3 ∷ 0 ∷ 4 ∷ 5 ∷ []) 1 2 refl;
    named = (omega arith, λ d. refl);
  };
}

pub seen_from_twenty : SeenFromTwenty (20 ∷ 21 ∷ [])
seen_from_twenty = record {
  distances = with_distances fork (ticks_of fork_delays) refl refl;
  balls = record {
    centre = 0;
    called = (omega arith, λ d. refl);
    members = 0 ∷ 1 ∷ [];
    ball = ball_is fork (ticks_of fork_delays) 0 (0 ∷ 1 ∷ 2 ∷ []) 2 refl (0 ∷ 1 ∷ []) refl refl;
    named = refl;
  };
}
