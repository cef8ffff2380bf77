-- What `map_err` makes of a result, read back: m is r, with an error made of its error.
use Rattle.std.proofs.Common.{◌≡◌, Ok, Err, Result, MatchResult, sym, refl, subst}
use Rattle.std.specs.Result.{IsErrAnd}

module _ {T E D : Type 0} (P : E → D → Type 0) where
  -- an error was made of an error
  pub err_mapped : (r : Result T E) (m : Result T D) → MatchResult r (λ x. m ≡ Ok x) (λ e. IsErrAnd m (P e))
      → (d : D) → m ≡ Err d → (e : E) × (r ≡ Err e) × P e d
  err_mapped (Ok x) m h d e = cc
  err_mapped (Err y) m h d e = (y, refl, subst (λ (z : Result T D). IsErrAnd z (P y)) e h)

  -- a value stays
  pub ok_mapped : (r : Result T E) (m : Result T D) → MatchResult r (λ x. m ≡ Ok x) (λ e. IsErrAnd m (P e))
      → (x : T) → m ≡ Ok x → r ≡ Ok x
  ok_mapped (Ok y) m h x e = cc
  ok_mapped (Err y) m h x e = absurd (subst (λ (z : Result T D). IsErrAnd z (P y)) e h)

  -- what holds of each value and of each error that is made
  pub mapped_both : (A : T → Type 0) (B : D → Type 0) (r : Result T E) (m : Result T D) → MatchResult r (λ x. m ≡ Ok x) (λ e. IsErrAnd m (P e))
      → ((x : T) → r ≡ Ok x → A x) → ((e : E) (d : D) → r ≡ Err e → P e d → B d) → MatchResult m A B
  mapped_both A B (Ok x) m h f g = subst (λ (z : Result T D). MatchResult z A B) (sym h) (f x refl)
  mapped_both A B (Err y) (Ok x) h f g = absurd h
  mapped_both A B (Err y) (Err d) h f g = g y d refl h
