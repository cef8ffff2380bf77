-- What an order of relays and their colours tell of a plan.
use Rattle.std.proofs.Common.{◌≡◌, ℕ, ◌<◌, ◌⊎◌, List, length, get_or, Some, None, Option, sym, ap, ◌∙◌, subst, inl, inr, arith}
use Rattle.std.proofs.ByRecursion.{All-get_or}
use Rattle.kind.specs.Laws.{Laws, CostKind}
use Rattle.plan.specs.Plan.{Plan, relay, colour_of}
use Rattle.plan.specs.Sound.{IsColour, ColourUsed}
use Rattle.order.specs.Seen.{Order, Manager, BallSize, Met, Covers}
use Rattle.order.proofs.Places.{lacks}
use Rattle.order.proofs.Order.{place, ball_from, manager_is}
use Rattle.balls.specs.Lists.{MeasuredLists, colour_at, HasColour, Shows, SomeAbsent, first_relays}
use Rattle.balls.specs.Told.{FindsSize, FindsFirst, FindsBall, FindsManager}

-- the colours that two ways of telling agree on at every place
covers_same : (one other : ℕ → ℕ) (k : ℕ) (zs : List ℕ) → ((i : ℕ) → i < length zs → one (get_or zs i 0) ≡ other (get_or zs i 0))
    → (a : ℕ) → Covers one k zs a → Covers other k zs a
covers_same one other k zs same a all c h = let (i, l, m, e) = all c h in (i, l, m, sym (same i m) ∙ e)

module _ {C : Type 0} {K : CostKind C} (laws : Laws K) (m : MeasuredLists C) (order : List ℕ) where
  abbrev zs : List ℕ
  zs = first_relays m order

  abbrev cs : List ℕ
  cs = m.colours

  module _ (p : Plan C) (D : ℕ → ℕ → C) (u : ℕ) (shows : Shows m p) (o : Order K D p u zs) where
    relay_at : (i : ℕ) → i < length zs → get_or zs i 0 < length cs
    relay_at i l = omega (arith, shows.count, All-get_or (λ z. z < length p.relays) zs i 0 l o.relays)

    -- the colour that the plan gives to the relay at place i
    coloured : (i : ℕ) → i < length zs → colour_of p (get_or zs i 0) ≡ colour_at cs (get_or zs i 0)
    coloured i l = shows.each (get_or zs i 0) (relay_at i l)

    -- a relay of the colour c has a place in the order
    placed : (c : ℕ) → ColourUsed p c → (i : ℕ) × (i < length zs) × HasColour cs (get_or zs i 0) c
    placed c (x, l, at) = by (place laws p D u zs o x l)
      where
        by : (i : ℕ) × (i < length zs) × (get_or zs i 0 ≡ x) → (i : ℕ) × (i < length zs) × HasColour cs (get_or zs i 0) c
        by (i, m, e) = (i, m, (relay_at i m, sym (coloured i m) ∙ ap (colour_of p) e ∙ at (relay 0 0)))

    -- the size as the plan's colours tell it
    sized : (b : ℕ) → BallSize (colour_at cs) m.palette zs b → BallSize (colour_of p) p.colours zs b
    sized b size = subst (λ (n : ℕ). BallSize (colour_of p) n zs b) (sym shows.palette) (record {
      within = size.within;
      covers = covers_same (colour_at cs) (colour_of p) m.palette zs (λ i l. sym (coloured i l)) b size.covers;
      least = λ a l all. size.least a l (covers_same (colour_of p) (colour_at cs) m.palette zs coloured a all);
    })

  pub finds_manager : (c : ℕ) (r : Option ℕ) → FindsFirst m order c r → FindsManager K m order c r
  finds_manager c (Some x) f p D u shows o =
      subst (λ (y : ℕ). Manager K D p u c y) f.relay
      (manager_is laws p D u c f.place zs o f.within
      (coloured p D u shows o f.place f.within ∙ ap (colour_at cs) f.relay ∙ f.coloured.1)
      (λ i l e.
      let within : i < length zs = omega (arith, l, f.within) in
      f.earlier i l (relay_at p D u shows o i within, sym (coloured p D u shows o i within) ∙ e)))
  finds_manager c None none_has p D u shows o = λ used. let (i, l, e) = placed p D u shows o c used in none_has i l e

  pub finds_ball : (r : Option ℕ) → FindsSize m order r → FindsBall K m order r
  finds_ball (Some b) size p D u shows o = ball_from laws p D u b zs o (sized p D u shows o b size)
  finds_ball None never p D u shows o = by (lacks (colour_at cs) zs (length zs) m.palette)
    where
      by : Covers (colour_at cs) m.palette zs (length zs) ⊎ ((c : ℕ) × IsColour m.palette c × (Met (colour_at cs) zs (length zs) c → ⊥)) → SomeAbsent p
      by (inl all) = absurd (never all)
      by (inr (c, is, unmet)) = (
        c,
        subst (λ (n : ℕ). IsColour n c) (sym shows.palette) is,
        λ used. let (i, l, e) = placed p D u shows o c used in unmet (i, l, l, e.1),
      )
