-- What is known of each relay, as a list of costs and a list of marks.
use Rattle.std.proofs.Common.{◌≡◌, ℕ, zero, suc, ◌<◌, ◌≤◌, false, List, [], ◌∷◌, length, get_or, set, replicate, Some, None, sym, refl, ap, ◌∙◌, arith}
use Rattle.std.proofs.Math.ListN.{get_or-map}
use Rattle.std.proofs.Math.Seq.{map-set_same}
use Rattle.std.proofs.lemmas.List.{map-set, set-get_or, length-map}
use Rattle.std.proofs.lemmas.Option.{none-some, same_Some}
use Rattle.plan.proofs.Paired.{get_or-paired}
use Rattle.measure.specs.declared.mark.Mark.{Mark}
use Rattle.measure.specs.declared.mark.Mark.TheVariants.{Unknown, Open, Settled}
use Rattle.measure.specs.Settling.{Reach, Unreached, reach_of, reaches_of, known_cost, is_settled, near_of, settled_of}

module _ {C : Type 0} where
  module _ (reaches : List (Reach C)) where
    pub near_size : length (near_of reaches) ≡ length reaches
    near_size = length-map reaches known_cost

    pub settled_size : length (settled_of reaches) ≡ length reaches
    settled_size = length-map reaches is_settled

    pub near_at : (x : ℕ) → get_or (near_of reaches) x None ≡ known_cost (get_or reaches x Unreached)
    near_at x = get_or-map known_cost reaches x Unreached

    pub settled_at : (x : ℕ) → get_or (settled_of reaches) x false ≡ is_settled (get_or reaches x Unreached)
    settled_at x = get_or-map is_settled reaches x Unreached

    module _ (x : ℕ) (r : Reach C) where
      pub near_set : near_of (set reaches x r) ≡ set (near_of reaches) x (known_cost r)
      near_set = map-set known_cost reaches x r

      pub settled_set : settled_of (set reaches x r) ≡ set (settled_of reaches) x (is_settled r)
      settled_set = map-set is_settled reaches x r

      -- what is known is not changed, or the mark
      pub near_same : known_cost r ≡ known_cost (get_or reaches x Unreached) → near_of (set reaches x r) ≡ near_of reaches
      near_same = map-set_same known_cost reaches x r Unreached

      pub settled_same : is_settled r ≡ is_settled (get_or reaches x Unreached) → settled_of (set reaches x r) ≡ settled_of reaches
      settled_same = map-set_same is_settled reaches x r Unreached

  -- marks and a row, side by side
  pub reaches_size : (marks : List Mark) (row : List C) → length row ≤ length marks → length (reaches_of marks row) ≡ length row
  reaches_size [] [] h = refl
  reaches_size [] (c ∷ row) h = absurd (omega arith)
  reaches_size (m ∷ marks) [] h = refl
  reaches_size (m ∷ marks) (c ∷ row) h = let fewer : length row ≤ length marks = omega arith in ap suc (reaches_size marks row fewer)

  pub reaches_within : (marks : List Mark) (row : List C) (x : ℕ) → x < length marks → x < length row → x < length (reaches_of marks row)
  reaches_within [] row x h l = absurd (omega arith)
  reaches_within (m ∷ marks) [] x h l = absurd (omega arith)
  reaches_within (m ∷ marks) (c ∷ row) zero h l = omega arith
  reaches_within (m ∷ marks) (c ∷ row) (suc x) h l = let more : x < length (reaches_of marks row) = reaches_within marks row x (omega arith) (omega arith) in omega arith

  pub reaches_at : (marks : List Mark) (row : List C) (x : ℕ) (d : C) → x < length marks → x < length row
      → get_or (reaches_of marks row) x Unreached ≡ reach_of (get_or marks x Unknown) (get_or row x d)
  reaches_at marks row x d h l = get_or-paired reach_of marks row x Unknown d Unreached h l

  pub reaches_set : (marks : List Mark) (row : List C) (x : ℕ) (m : Mark) (c : C)
      → reaches_of (set marks x m) (set row x c) ≡ set (reaches_of marks row) x (reach_of m c)
  reaches_set [] [] x m c = refl
  reaches_set [] (d ∷ row) x m c = refl
  reaches_set (k ∷ marks) [] zero m c = refl
  reaches_set (k ∷ marks) [] (suc x) m c = refl
  reaches_set (k ∷ marks) (d ∷ row) zero m c = refl
  reaches_set (k ∷ marks) (d ∷ row) (suc x) m c = ap (λ (rest : List (Reach C)). reach_of k d ∷ rest) (reaches_set marks row x m c)

  -- only a mark is set
  pub mark_set : (marks : List Mark) (row : List C) (x : ℕ) (m : Mark) (d : C) → reaches_of (set marks x m) row ≡ set (reaches_of marks row) x (reach_of m (get_or row x d))
  mark_set marks row x m d = ap (λ (cs : List C). reaches_of (set marks x m) cs) (sym (set-get_or row x d)) ∙ reaches_set marks row x m (get_or row x d)

  -- where no mark is set nothing is known
  pub reaches_none : (n : ℕ) (row : List C) (x : ℕ) → get_or (reaches_of (replicate n Unknown) row) x Unreached ≡ Unreached
  reaches_none zero row x = refl
  reaches_none (suc n) [] x = refl
  reaches_none (suc n) (c ∷ row) zero = refl
  reaches_none (suc n) (c ∷ row) (suc x) = reaches_none n row x

  pub known_read : (marks : List Mark) (row : List C) (x : ℕ) (c d : C) → known_cost (get_or (reaches_of marks row) x Unreached) ≡ Some c → get_or row x d ≡ c
  known_read [] row x c d e = absurd (none-some c e)
  known_read (m ∷ marks) [] x c d e = absurd (none-some c e)
  known_read (Unknown ∷ marks) (b ∷ row) zero c d e = absurd (none-some c e)
  known_read (Open ∷ marks) (b ∷ row) zero c d e = same_Some b c e
  known_read (Settled ∷ marks) (b ∷ row) zero c d e = same_Some b c e
  known_read (m ∷ marks) (b ∷ row) (suc x) c d e = known_read marks row x c d e
