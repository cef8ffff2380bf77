-- Relay by relay: which colours are still missing, and that no fewer relays have them all.
use Rattle.std.proofs.Common.{◌≡◌, ℕ, ◌+◌, ◌<◌, ◌≤◌, Bool, false, ◌⊎◌, ◌↔◌, List, length, get_or, IsTrue, Some, None, subst, sym, ap, ◌∙◌, inl, inr, arith}
use Rattle.std.proofs.lemmas.Bool.{cases_lt, both_ways}
use Rattle.plan.specs.Sound.{IsColour}
use Rattle.order.specs.Seen.{Met, Covers, BallSize}
use Rattle.order.proofs.Places.{lacks}
use Rattle.balls.specs.Lists.{MeasuredLists, colour_at, first_relays}
use Rattle.balls.specs.Told.{FindsSize}
use Rattle.plan.specs.Reach.{IsMarked}

module _ (zs cs : List ℕ) (k : ℕ) where
  -- the marked colours are those that the first a relays lack
  abbrev pub Missing : List Bool → ℕ → Type 0
  Missing ms a = (c : ℕ) → IsMarked ms c ↔ (IsColour k c × (Met (colour_at cs) zs a c → ⊥))

  abbrev AllMet : ℕ → Type 0
  AllMet a = Covers (colour_at cs) k zs a

  pub none_missing : (ms : List Bool) (a : ℕ) → Missing ms a → ((c : ℕ) → IsMarked ms c → ⊥) → AllMet a
  none_missing ms a missing none = by (lacks (colour_at cs) zs a k)
    where
      by : AllMet a ⊎ ((c : ℕ) × IsColour k c × (Met (colour_at cs) zs a c → ⊥)) → AllMet a
      by (inl all) = all
      by (inr (c, is, unmet)) = absurd (none c ((missing c).1 (is, unmet)))

  pub some_missing : (ms : List Bool) (a : ℕ) → Missing ms a → (r : Bool) → r ≡ false → (IsTrue r ↔ ((c : ℕ) → IsMarked ms c → ⊥)) → AllMet a → ⊥
  some_missing ms a missing r e told all =
      both_ways r e (told.1 (λ c h. let (is, unmet) = (missing c).0 h in unmet (all c is)))

  -- one relay more
  pub missing_more : (ms ms' : List Bool) (a colour : ℕ) → Missing ms a → a < length zs → colour ≡ colour_at cs (get_or zs a 0)
      → ((c : ℕ) → IsMarked ms' c ↔ (IsMarked ms c × (c ≡ colour → ⊥))) → Missing ms' (a + 1)
  missing_more ms ms' a colour missing l is_its removed c = (there, back)
    where
      there : IsMarked ms' c → IsColour k c × (Met (colour_at cs) zs (a + 1) c → ⊥)
      there h = let (was, ne) = (removed c).0 h in let (is, unmet) = (missing c).0 was in (is, not_met unmet ne)
        where
          not_met : (Met (colour_at cs) zs a c → ⊥) → (c ≡ colour → ⊥) → Met (colour_at cs) zs (a + 1) c → ⊥
          not_met unmet ne (i, low, m, e) = by (cases_lt i a)
            where
              by : (i < a) ⊎ (a ≤ i) → ⊥
              by (inl lower) = unmet (i, lower, m, e)
              by (inr higher) =
                  let same : i ≡ a = omega arith in
                  ne (sym e ∙ ap (λ (j : ℕ). colour_at cs (get_or zs j 0)) same ∙ sym is_its)

      back : IsColour k c × (Met (colour_at cs) zs (a + 1) c → ⊥) → IsMarked ms' c
      back (is, unmet) = (removed c).1 (
        (missing c).1 (is, λ (i, low, m, e). unmet (i, omega (arith, low), m, e)),
        λ e. unmet (a, omega arith, l, sym is_its ∙ sym e),
      )

module _ {C : Type 0} (m : MeasuredLists C) (order rs : List ℕ) (is : rs ≡ first_relays m order) (ms : List Bool) (a : ℕ) (missing : Missing rs m.colours m.palette ms a) where
  -- no colour is missing: so many relays are the ball
  pub finds_some : a ≤ length rs → ((c : ℕ) → IsMarked ms c → ⊥) → ((b : ℕ) → b < a → Covers (colour_at m.colours) m.palette rs b → ⊥) → FindsSize m order (Some a)
  finds_some within none least =
      subst (λ (zs : List ℕ). BallSize (colour_at m.colours) m.palette zs a) is
      (record { within = within; covers = none_missing rs m.colours m.palette ms a missing none; least = least })

  -- a colour is missing still, and no relay is left
  pub finds_none : length rs ≤ a → (r : Bool) → r ≡ false → (IsTrue r ↔ ((c : ℕ) → IsMarked ms c → ⊥)) → FindsSize m order None
  finds_none all r e told =
      subst (λ (zs : List ℕ). Covers (colour_at m.colours) m.palette zs (length zs) → ⊥) is
      (λ covers. some_missing rs m.colours m.palette ms a missing r e told (λ c h. let (i, l, k, f) = covers c h in (i, omega (arith, l, all), k, f)))
