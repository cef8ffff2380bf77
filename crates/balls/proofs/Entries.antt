-- The part of the lists that belongs to a plan, and the row of a relay in it.
use Rattle.std.proofs.Common.{◌≡◌, ℕ, ◌*◌, ◌<◌, List, length, get_or, take, drop, sym, refl, ap, ◌∙◌, subst, inl, inr, arith, length-take-le, get_or-take}
use Rattle.std.proofs.lemmas.List.{get_or-drop, length-drop}
use Rattle.std.proofs.ByRecursion.{All-from_get_or}
use Rattle.kind.specs.Laws.{CostKind, IsLess}
use Rattle.plan.specs.declared.counts.Counts.{Counts}
use Rattle.plan.specs.Plan.{Plan, Relay, Lists, IsLong, relay, plan_of}
use Rattle.plan.proofs.Held.{relays_entered}
use Rattle.plan.proofs.Paired.{get_or-paired}
use Rattle.measure.specs.Distance.{Distance, Distances}
use Rattle.measure.specs.Squares.{cell_of, in_square, HasRow, row_of}
use Rattle.measure.proofs.Cells.{row_end, cell_inside}
use Rattle.order.specs.Seen.{Before, Order}
use Rattle.balls.specs.Lists.{MeasuredLists, entries_of, Shows, distance_in, first_relays}
use Rattle.balls.specs.Rows.{along, RowBefore, Sorted}
use Rattle.balls.specs.Told.{IsOfPlan, IsSeenFrom}

-- every relay has a row in the whole square
pub has_row : {C : Type 0} (n u : ℕ) (cells : List C) → length cells ≡ n * n → u < n → HasRow n cells u
has_row n u cells square l = (l, omega (arith, row_end n u n l, square))

module _ {C : Type 0} (K : CostKind C) (m : MeasuredLists C) (u : ℕ) (has : HasRow (length m.colours) m.distances u) where
  abbrev n : ℕ
  n = length m.colours

  abbrev row : List C
  row = row_of n m.distances u

  pub row_long : length row ≡ n
  row_long = length-take-le n (drop (u * n) m.distances) (omega (arith, has.1, length-drop (u * n) m.distances))

  row_each : (x : ℕ) → x < n → distance_in m K u x ≡ along K row x
  row_each x l = sym (get_or-take n (drop (u * n) m.distances) x K.none l ∙ get_or-drop (u * n) m.distances x K.none)

  -- what stands before by the row stands before as u sees it
  seen : (x y : ℕ) → x < n → y < n → RowBefore K row x y → Before K (distance_in m K) u x y
  seen x y lx ly (inl less) =
      inl (subst (λ (c : C). IsLess K c (distance_in m K u y)) (sym (row_each x lx)) (subst (λ (c : C). IsLess K (along K row x) c) (sym (row_each y ly)) less))
  seen x y lx ly (inr (same, lower)) = inr (row_each x lx ∙ same ∙ sym (row_each y ly), lower)

  -- relays that are sorted by the row are in the order that u sees
  pub seen_from : (order zs : List ℕ) → first_relays m order ≡ zs → length zs ≡ n → Sorted K row n zs → IsSeenFrom K m u order
  seen_from order zs is long by_row p count = subst (λ (ys : List ℕ). Order K (distance_in m K) p u ys) (sym is) (record {
    count = long ∙ sym count;
    relays = All-from_get_or (λ z. z < length p.relays) zs 0 (λ i l. omega (arith, count, below i l));
    sorted = λ i j l k. seen (get_or zs i 0) (get_or zs j 0) (below i (omega arith)) (below j k) (by_row.sorted i j l (omega (arith, long)));
  })
    where
      below : (i : ℕ) → i < length zs → get_or zs i 0 < n
      below i l = by_row.relays i (omega (arith, long))

module _ {C : Type 0} (K : CostKind C) (n : Counts) (colours : List ℕ) (distances : List C) where
  abbrev m : MeasuredLists C
  m = entries_of n colours distances

  -- the first entries are those of every plan that lists with these colours hold
  entries_of_plan : (l : Lists C) → l.relays.colours ≡ colours → IsLong n l
      → let p = plan_of n l in
      Shows m p × (Distances K p (in_square K.none (length p.relays) distances) → Distances K p (distance_in m K))
  entries_of_plan l same long = (shown, measured)
    where
      p : Plan C
      p = plan_of n l

      first : length m.colours ≡ n.relays
      first = length-take-le n.relays colours (omega (arith, long.colours, ap length same))

      count : length p.relays ≡ length m.colours
      count = relays_entered n l long ∙ sym first

      shown : Shows m p
      shown = record {
        palette = refl;
        count = count;
        each = λ x less.
            let named : x < length (take n.relays l.relays.names) = omega (arith, first, less, length-take-le n.relays l.relays.names long.names) in
            let borne : x < length (take n.relays l.relays.colours) = omega (arith, first, less, length-take-le n.relays l.relays.colours long.colours) in
            ap (λ (r : Relay). r.colour) (get_or-paired relay (take n.relays l.relays.names) (take n.relays l.relays.colours) x 0 0 (relay 0 0) named borne)
            ∙ ap (λ (cs : List ℕ). get_or (take n.relays cs) x 0) same;
      }

      measured : Distances K p (in_square K.none (length p.relays) distances) → Distances K p (distance_in m K)
      measured d u v hu hv = subst (λ (c : C). Distance K p u v c) (sym same_cell) (d u v hu hv)
        where
          side : length p.relays ≡ n.relays
          side = relays_entered n l long

          same_cell : distance_in m K u v ≡ in_square K.none (length p.relays) distances u v
          same_cell = ap (λ (s : ℕ). in_square K.none s m.distances u v) (sym count)
              ∙ get_or-take (n.relays * n.relays) distances (cell_of (length p.relays) u v) K.none
              (subst (λ (s : ℕ). cell_of (length p.relays) u v < s * s) side (cell_inside (length p.relays) u v hu hv))

  pub is_of_plan : (lists : MeasuredLists C) → lists ≡ entries_of n colours distances → IsOfPlan K n colours distances lists
  is_of_plan lists e = subst (λ (x : MeasuredLists C). IsOfPlan K n colours distances x) (sym e) entries_of_plan
