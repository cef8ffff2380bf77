-- The three classic mistakes fail.
use Rattle.std.proofs.Common.{◌≡◌, ℕ, zero, suc, ◌+◌, ◌<◌, Bool, true, not, ◌&&◌, ◌||◌, eqb, ltb, ◌⊎◌, List, [], ◌∷◌, length, get_or, refl, ap, subst, inl, inr, arith}
use Rattle.std.proofs.ByRecursion.{has_get_or}
use Rattle.std.proofs.lemmas.Bool.{and_parts, and_from, or_cases, or_left, or_right, ltb-true, lt-ltb, eqb-true, eq-eqb, cases_order}
use Rattle.kind.specs.declared.delay.Delay.{Delay}
use Rattle.kind.specs.Kinds.{delay, delay_kind}
use Rattle.kind.specs.Kept.{delay_laws}
use Rattle.kind.proofs.Delays.{less_ticks, ticks_less}
use Rattle.plan.specs.Plan.{Plan, link, colour_of}
use Rattle.order.specs.Views.{WithDistances}
use Rattle.order.specs.Seen.{Ball, InBall}
use Rattle.order.specs.Examples.{line, line_delays}
use Rattle.order.specs.Mistakes.{row, row_delays, AnyMemberFails, FixedSizeFails, ring, ring_delays, EntryOrderFails, Begins, FirstEntered, EntryBefore, EntryBall}
use Rattle.order.proofs.Tests.{not_both, all_below, all_below_is}
use Rattle.order.proofs.Theory.{balls}
use Rattle.order.proofs.Settle.{ticks_of, D, with_distances, ball_is, order_is, lacks_is, next_is}

row_distances : WithDistances row row_delays
row_distances = with_distances row (ticks_of row_delays) refl refl

-- the ball of relay 1, and that of relay 2: all five
row_one : Ball delay_kind row_delays row 1 (1 ∷ 0 ∷ 2 ∷ 3 ∷ 4 ∷ [])
row_one = ball_is row (ticks_of row_delays) 1 (1 ∷ 0 ∷ 2 ∷ 3 ∷ 4 ∷ []) 5 refl (1 ∷ 0 ∷ 2 ∷ 3 ∷ 4 ∷ []) refl refl

row_two : Ball delay_kind row_delays row 2 (2 ∷ 1 ∷ 3 ∷ 0 ∷ 4 ∷ [])
row_two = ball_is row (ticks_of row_delays) 2 (2 ∷ 1 ∷ 3 ∷ 0 ∷ 4 ∷ []) 5 refl (2 ∷ 1 ∷ 3 ∷ 0 ∷ 4 ∷ []) refl refl

-- the relay at place i of a ball is in it
in_ball : (p : Plan Delay) (T : ℕ → ℕ → ℕ) → WithDistances p (D p T) → (u : ℕ) (xs : List ℕ) → Ball delay_kind (D p T) p u xs → (i : ℕ) → i < length xs
    → InBall delay_kind (D p T) p u (get_or xs i 0)
in_ball p T m u xs ball i l = ((balls delay_laws p (D p T) m.sound m.distances).members u xs ball (get_or xs i 0)).1 (has_get_or xs i 0 l)

pub any_member_fails : AnyMemberFails
any_member_fails = record {
  distances = row_distances;
  not_there = λ e. omega (arith, e);
  nor_there = λ e. omega (arith, e);
  one = in_ball row (ticks_of row_delays) row_distances 1 (1 ∷ 0 ∷ 2 ∷ 3 ∷ 4 ∷ []) row_one 3 (omega arith);
  one_coloured = refl;
  out = next_is row (ticks_of row_delays) row_distances 1 3 2 refl;
  other = in_ball row (ticks_of row_delays) row_distances 2 (2 ∷ 1 ∷ 3 ∷ 0 ∷ 4 ∷ []) row_two 3 (omega arith);
  other_coloured = refl;
  back = next_is row (ticks_of row_delays) row_distances 2 0 1 refl;
}

pub fixed_size_fails : FixedSizeFails
fixed_size_fails = record {
  distances = with_distances line (ticks_of line_delays) refl refl;
  one = ball_is line (ticks_of line_delays) 0 (0 ∷ 1 ∷ 2 ∷ 3 ∷ 4 ∷ 5 ∷ []) 2 refl (0 ∷ 1 ∷ []) refl refl;
  other = order_is line (ticks_of line_delays) 2 (2 ∷ 1 ∷ 3 ∷ 0 ∷ 4 ∷ 5 ∷ []) refl;
  is_colour = (omega arith, omega arith);
  lacks = lacks_is line (ticks_of line_delays) 2 (2 ∷ 1 ∷ 3 ∷ 0 ∷ 4 ∷ 5 ∷ []) 2 1 refl;
}

-- the link that a cheapest way begins with, by a test that computes
module _ (p : Plan Delay) (T : ℕ → ℕ → ℕ) where
  abbrev one_way : ℕ → ℕ → ℕ → Bool
  one_way u x k = let l = get_or p.links k (link 0 0 (delay 0)) in eqb l.from u && eqb (T u x) (l.cost.ticks + T l.to x)

  abbrev other_way : ℕ → ℕ → ℕ → Bool
  other_way u x k = let l = get_or p.links k (link 0 0 (delay 0)) in eqb l.to u && eqb (T u x) (l.cost.ticks + T l.from x)

  abbrev begins_test : ℕ → ℕ → ℕ → Bool
  begins_test u x k = ltb k (length p.links) && (one_way u x k || other_way u x k)

  begins_is : (u x k : ℕ) → begins_test u x k ≡ true → Begins p (D p T) u x k
  begins_is u x k e =
      let h = and_parts (ltb k (length p.links)) (one_way u x k || other_way u x k) e in
      (ltb-true _ _ h.0, by (or_cases (one_way u x k) (other_way u x k) h.1))
    where
      by : (one_way u x k ≡ true) ⊎ (other_way u x k ≡ true)
          → let l = get_or p.links k (link 0 0 (delay 0)) in
          ((l.from ≡ u) × (D p T u x ≡ delay_kind.plus l.cost (D p T l.to x))) ⊎ ((l.to ≡ u) × (D p T u x ≡ delay_kind.plus l.cost (D p T l.from x)))
      by (inl f) = let g = and_parts _ _ f in inl (eqb-true _ _ g.0, ap delay (eqb-true _ _ g.1))
      by (inr f) = let g = and_parts _ _ f in inr (eqb-true _ _ g.0, ap delay (eqb-true _ _ g.1))

  begins_so : (u x k : ℕ) → Begins p (D p T) u x k → begins_test u x k ≡ true
  begins_so u x k (l, inl h) = and_from _ _ (lt-ltb _ _ l) (or_left (one_way u x k) (other_way u x k) (and_from _ _ (eq-eqb _ _ h.0) (eq-eqb _ _ (ap (λ (d : Delay). d.ticks) h.1))))
  begins_so u x k (l, inr h) = and_from _ _ (lt-ltb _ _ l) (or_right (one_way u x k) (other_way u x k) (and_from _ _ (eq-eqb _ _ h.0) (eq-eqb _ _ (ap (λ (d : Delay). d.ticks) h.1))))

  abbrev first_test : ℕ → ℕ → ℕ → Bool
  first_test u x k = begins_test u x k && all_below (λ j. not (begins_test u x j)) k

  first_is : (u x k : ℕ) → first_test u x k ≡ true → FirstEntered p (D p T) u x k
  first_is u x k e =
      let h = and_parts (begins_test u x k) (all_below (λ j. not (begins_test u x j)) k) e in
      (begins_is u x k h.0, λ j l b. not_both (begins_test u x j) (all_below_is (λ i. not (begins_test u x i)) k h.1 j l) (begins_so u x j b))

  first_one : (u x j k : ℕ) → FirstEntered p (D p T) u x j → FirstEntered p (D p T) u x k → j ≡ k
  first_one u x j k f g = by (cases_order j k)
    where
      by : (j ≡ k) ⊎ ((j < k) ⊎ (k < j)) → j ≡ k
      by (inl e) = e
      by (inr (inl l)) = absurd (g.1 j l f.0)
      by (inr (inr l)) = absurd (f.1 k l g.0)

ring_distances : WithDistances ring ring_delays
ring_distances = with_distances ring (ticks_of ring_delays) refl refl

-- only relay 4 has colour 2
ring_colours : (y : ℕ) → y < 5 → colour_of ring y ≡ 2 → y ≡ 4
ring_colours zero l e = absurd (omega (arith, e))
ring_colours (suc zero) l e = absurd (omega (arith, e))
ring_colours (suc (suc zero)) l e = absurd (omega (arith, e))
ring_colours (suc (suc (suc zero))) l e = absurd (omega (arith, e))
ring_colours (suc (suc (suc (suc zero)))) l e = refl
ring_colours (suc (suc (suc (suc (suc y))))) l e = absurd (omega arith)

-- at relay 0, 3 stands before 4
not_before : EntryBefore ring ring_delays 0 4 3 → ⊥
not_before (inl l) = omega (arith, less_ticks (ring_delays 0 4) (ring_delays 0 3) l)
not_before (inr (e, (i, j, fi, fj, inl l))) = omega (arith, l, first_one ring (ticks_of ring_delays) 0 3 j 0 fj (first_is ring (ticks_of ring_delays) 0 3 0 refl))
not_before (inr (e, (i, j, fi, fj, inr l))) = omega (arith, l.1)

-- at relay 1, 4 stands before 3
is_before : EntryBefore ring ring_delays 1 4 3
is_before = inr (refl, (2, 3, first_is ring (ticks_of ring_delays) 1 4 2 refl, first_is ring (ticks_of ring_delays) 1 3 3 refl, inl (omega arith)))

no_more : EntryBall ring ring_delays 1 3 → ⊥
no_more (zero, is, none) = omega (arith, is.0)
no_more (suc zero, is, none) = none 1 (omega arith) refl (inl (ticks_less (ring_delays 1 1) (ring_delays 1 3) (omega arith)))
no_more (suc (suc zero), is, none) = none 4 (omega arith) refl is_before
no_more (suc (suc (suc c)), is, none) = omega (arith, is.1)

ring_ball : Ball delay_kind ring_delays ring 1 (1 ∷ 0 ∷ 3 ∷ 4 ∷ [])
ring_ball = ball_is ring (ticks_of ring_delays) 1 (1 ∷ 0 ∷ 3 ∷ 4 ∷ 2 ∷ []) 4 refl (1 ∷ 0 ∷ 3 ∷ 4 ∷ []) refl refl

pub entry_order_fails : EntryOrderFails
entry_order_fails = record {
  distances = ring_distances;
  member = (2, (omega arith, omega arith), λ y l e b. not_before (subst (λ (x : ℕ). EntryBefore ring ring_delays 0 x 3) (ring_colours y l e) b));
  next = next_is ring (ticks_of ring_delays) ring_distances 0 3 1 refl;
  member_no_more = no_more;
  by_number = in_ball ring (ticks_of ring_delays) ring_distances 1 (1 ∷ 0 ∷ 3 ∷ 4 ∷ []) ring_ball 2 (omega arith);
}
