-- What is told of the neighbourhoods of a measured plan.
use Rattle.std.specs.Prelude.{◌≡◌, ℕ, List, length, take, Option, MatchOption}
use Rattle.kind.specs.Laws.{CostKind}
use Rattle.plan.specs.declared.counts.Counts.{Counts}
use Rattle.plan.specs.Plan.{Plan, Lists, plan_of, IsLong}
use Rattle.plan.specs.Sound.{Sound, ColourUsed}
use Rattle.measure.specs.Distance.{Distances}
use Rattle.measure.specs.Squares.{in_square}
use Rattle.order.specs.Seen.{Order, BallSize, Covers, Ball, Manager, Home}
use Rattle.order.specs.Balls.{Balls}
use Rattle.balls.specs.Lists.{MeasuredLists, colour_at, Shows, NoneOf, FirstOf, SomeAbsent, first_relays, distance_in}

module _ {C : Type 0} (K : CostKind C) where
  -- m is the part of these lists that belongs to the plan, whatever names and links stand beside
  -- them: it has the plan's colours, and where the distances are the plan's, so are those of m
  abbrev pub IsOfPlan : Counts → List ℕ → List C → MeasuredLists C → Type 0
  IsOfPlan n colours distances m =
      (l : Lists C) → l.relays.colours ≡ colours → IsLong n l
      → let p = plan_of n l in
      Shows m p
      × (Distances K p (in_square K.none (length p.relays) distances)
      → Distances K p (distance_in m K))

  module _ (m : MeasuredLists C) where
    -- for every sound plan whose distances these are: the theory of balls and managers
    abbrev pub HasTheory : Type 0
    HasTheory =
        (p : Plan C) → Sound K p → Distances K p (distance_in m K) → Balls K (distance_in m K) p

    -- for every plan of so many relays:
    -- the order lists the relays as u sees them, by these distances
    abbrev pub IsSeenFrom : ℕ → List ℕ → Type 0
    IsSeenFrom u order =
        (p : Plan C) → length p.relays ≡ length m.colours
        → Order K (distance_in m K) p u (first_relays m order)

module _ {C : Type 0} (m : MeasuredLists C) (order : List ℕ) where
  -- Whatever the lists hold: how many relays of the order it takes to meet all the colours,
  -- and none where they lack one.
  abbrev pub FindsSize : Option ℕ → Type 0
  FindsSize r =
      let zs = first_relays m order in
      MatchOption r
      (Covers (colour_at m.colours) m.palette zs (length zs) → ⊥)
      (λ b. BallSize (colour_at m.colours) m.palette zs b)

  -- Whatever the lists hold: the first relay of the order that has the colour c,
  -- and none where no relay has it.
  abbrev pub FindsFirst : ℕ → Option ℕ → Type 0
  FindsFirst c r =
      let zs = first_relays m order in
      MatchOption r (NoneOf zs m.colours c) (λ x. FirstOf zs m.colours c x)

module _ {C : Type 0} (K : CostKind C) (m : MeasuredLists C) (order : List ℕ) where
  -- for every plan of these colours whose relay u sees this order, by any distances D
  abbrev pub WhereSeen : (Plan C → (ℕ → ℕ → C) → ℕ → Type 0) → Type 0
  WhereSeen P =
      (p : Plan C) (D : ℕ → ℕ → C) (u : ℕ)
      → Shows m p → Order K D p u (first_relays m order) → P p D u

  -- so many of the relays are its ball, and there is none only if a colour is absent
  abbrev pub FindsBall : Option ℕ → Type 0
  FindsBall r = WhereSeen (λ p D u.
      MatchOption r (SomeAbsent p) (λ b. Ball K D p u (take b (first_relays m order))))

  -- its manager for c, and none only if no relay has the colour
  abbrev pub FindsManager : ℕ → Option ℕ → Type 0
  FindsManager c r = WhereSeen (λ p D u.
      MatchOption r (ColourUsed p c → ⊥) (λ x. Manager K D p u c x))

  -- its home landmark, and none only if there is no landmark
  abbrev pub FindsHome : Option ℕ → Type 0
  FindsHome r = WhereSeen (λ p D u.
      MatchOption r (ColourUsed p 1 → ⊥) (λ x. Home K D p u x))
