-- The same of a square of any side, and of any list of relays that is the order that one of them sees.
use Rattle.std.proofs.Common.{◌≡◌, ℕ, List, length, take, Option, sym, refl, subst, arith, MatchOption}
use Rattle.std.proofs.lemmas.List.{take_all}
use Rattle.kind.specs.Laws.{CostKind, Laws}
use Rattle.plan.specs.Plan.{Plan}
use Rattle.plan.specs.Sound.{ColourUsed}
use Rattle.measure.specs.Squares.{in_square, HasRow, row_of}
use Rattle.order.specs.Seen.{Order, Manager, BallSize, Covers, Ball}
use Rattle.balls.specs.Lists.{MeasuredLists, Shows, colour_at, NoneOf, FirstOf, SomeAbsent, first_relays}
use Rattle.balls.specs.Rows.{Sorted}
use Rattle.balls.proofs.Entries.{seen_from}
use Rattle.balls.proofs.Nearby.{finds_manager, finds_ball}

-- relays that are sorted by a row of a square are in the order that the row's relay sees
pub order_told : {C : Type 0} (K : CostKind C) (n u : ℕ) (cells : List C) (zs : List ℕ) → length zs ≡ n → HasRow n cells u
    → Sorted K (row_of n cells u) n zs → (p : Plan C) → length p.relays ≡ n → Order K (in_square K.none n cells) p u zs
order_told {C} K n u cells zs long = subst Told long told
  where
    Told : ℕ → Type 0
    Told side = HasRow side cells u → Sorted K (row_of side cells u) side zs → (p : Plan C) → length p.relays ≡ side
        → Order K (in_square K.none side cells) p u zs

    m : MeasuredLists C
    m = record { palette = 0; colours = zs; distances = cells }

    told : Told (length zs)
    told has by_row p count =
        let whole : first_relays m zs ≡ zs = take_all (length zs) zs (omega arith) in
        subst (λ (ys : List ℕ). Order K (in_square K.none (length zs) cells) p u ys) whole
        (seen_from K m u has zs zs whole refl by_row p count)

module _ {C : Type 0} {K : CostKind C} (laws : Laws K) (m : MeasuredLists C) (zs : List ℕ) (p : Plan C) (D : ℕ → ℕ → C) (u : ℕ)
    (shows : Shows m p) (o : Order K D p u zs) where
  whole : first_relays m zs ≡ zs
  whole = take_all (length m.colours) zs (omega (arith, o.count, shows.count))

  seen : Order K D p u (first_relays m zs)
  seen = subst (λ (ys : List ℕ). Order K D p u ys) (sym whole) o

  -- the first relay of a colour is u's manager for it
  pub managing : (c : ℕ) (r : Option ℕ) → MatchOption r (NoneOf zs m.colours c) (λ x. FirstOf zs m.colours c x)
      → MatchOption r (ColourUsed p c → ⊥) (λ x. Manager K D p u c x)
  managing c r first = finds_manager laws m zs c r
      (subst (λ (ys : List ℕ). MatchOption r (NoneOf ys m.colours c) (λ x. FirstOf ys m.colours c x)) (sym whole) first) p D u shows seen

  -- as many relays as it takes to meet every colour are u's ball
  pub sizing : (r : Option ℕ)
      → MatchOption r (Covers (colour_at m.colours) m.palette zs (length zs) → ⊥) (λ b. BallSize (colour_at m.colours) m.palette zs b)
      → MatchOption r (SomeAbsent p) (λ b. Ball K D p u (take b zs))
  sizing r size = subst (λ (ys : List ℕ). MatchOption r (SomeAbsent p) (λ b. Ball K D p u (take b ys))) whole
      (finds_ball laws m zs r
      (subst (λ (ys : List ℕ). MatchOption r (Covers (colour_at m.colours) m.palette ys (length ys) → ⊥) (λ b. BallSize (colour_at m.colours) m.palette ys b))
      (sym whole) size) p D u shows seen)
