-- Where the cells of a square lie, and what a write of one row leaves.
use Rattle.std.proofs.Common.{◌≡◌, ℕ, zero, suc, ◌+◌, ◌-◌, ◌*◌, ◌<◌, ◌≤◌, ◌⊎◌, List, [], ◌∷◌, length, get_or, drop, set, sym, ap, ◌∙◌, subst, inl, inr, mul-le-mul_right, add-mul, one-mul, arith, rules}
use Rattle.std.specs.List.{FoldsTo}
use borrow.Rule.Slice.PartMut.{put_mid}
use Rattle.std.proofs.lemmas.List.{places, get_or-set_same, get_or-set_other, get_or-drop, length-drop, same_lists}
use Rattle.std.proofs.lemmas.Bool.{cases_lt}
use Rattle.measure.specs.Settling.{Behind}

-- a row ends before the next begins
pub row_end : (n u v : ℕ) → u < v → u * n + n ≤ v * n
row_end n u v h =
    let step : (u + 1) * n ≤ v * n = mul-le-mul_right n (omega arith) in
    let one : (u + 1) * n ≡ u * n + n = add-mul u 1 n ∙ ap (λ (k : ℕ). u * n + k) (one-mul n) in
    omega (arith, step, one)

pub cell_inside : (n u x : ℕ) → u < n → x < n → u * n + x < n * n
cell_inside n u x h k = omega (arith, row_end n u n h)

-- what a part that was written holds, and what lies before and behind it
module _ {V : Type 0} (a k : ℕ) (xs ys : List V) (size : length ys ≡ k) (fits : a + k ≤ length xs) where
  pub put_inside : (i : ℕ) (d : V) → i < k → get_or (put_mid a k xs ys) (a + i) d ≡ get_or ys i d
  put_inside i d h = search (rules, places)

  pub put_before : (i : ℕ) (d : V) → i < a → get_or (put_mid a k xs ys) i d ≡ get_or xs i d
  put_before i d h = search (rules, places)

  pub put_behind : (i : ℕ) (d : V) → a + k ≤ i → get_or (put_mid a k xs ys) i d ≡ get_or xs i d
  put_behind i d h = search (rules, places)

-- one cell more of a row
pub cells_more : {V : Type 0} (row : List V) (i : ℕ) (v d : V) (P : ℕ → V → Type 0) → i < length row → ((x : ℕ) → x < i → P x (get_or row x d)) → P i v
    → (x : ℕ) → x < i + 1 → P x (get_or (set row i v) x d)
cells_more {V} row i v d P h before here x l = by (cases_lt x i)
  where
    by : (x < i) ⊎ (i ≤ x) → P x (get_or (set row i v) x d)
    by (inl low) = subst (λ (c : V). P x c) (sym (get_or-set_other row i x v d (λ e. omega arith))) (before x low)
    by (inr high) =
        let same : x ≡ i = omega arith in
        subst (λ (y : ℕ). P y (get_or (set row i v) y d)) (sym same) (subst (λ (c : V). P i c) (sym (get_or-set_same row i v d h)) here)

-- one row more of a square
module _ {V : Type 0} (n u k : ℕ) (cells row : List V) (all : k ≡ n) (size : length row ≡ n) (fits : n * n ≤ length cells) (inside : u < n) where
  width : length row ≡ k
  width = size ∙ sym all

  room : u * n + k ≤ length cells
  room = omega (arith, row_end n u n inside)

  pub rows_more : (d : V) (P : ℕ → ℕ → V → Type 0) → ((v x : ℕ) → v < u → x < n → P v x (get_or cells (v * n + x) d)) → ((x : ℕ) → x < n → P u x (get_or row x d))
      → (v x : ℕ) → v < u + 1 → x < n → P v x (get_or (put_mid (u * n) k cells row) (v * n + x) d)
  rows_more d P before here v x h l = by (cases_lt v u)
    where
      by : (v < u) ⊎ (u ≤ v) → P v x (get_or (put_mid (u * n) k cells row) (v * n + x) d)
      by (inl low) =
          subst (λ (c : V). P v x c) (sym (put_before (u * n) k cells row width room (v * n + x) d (omega (arith, row_end n v u low)))) (before v x low l)
      by (inr high) =
          let same : v ≡ u = omega arith in
          subst (λ (w : ℕ). P w x (get_or (put_mid (u * n) k cells row) (w * n + x) d)) (sym same)
          (subst (λ (c : V). P u x c) (sym (put_inside (u * n) k cells row width room x d (omega arith))) (here x l))

  pub behind_more : (old : List V) → Behind n old cells → Behind n old (put_mid (u * n) k cells row)
  behind_more old h i d l = put_behind (u * n) k cells row width room i d (omega (arith, row_end n u n inside)) ∙ h i d l

-- lists that agree from a place on
pub same_drop : {V : Type 0} (n : ℕ) (xs ys : List V) → length xs ≡ length ys → ((k : ℕ) (d : V) → n ≤ k → get_or xs k d ≡ get_or ys k d) → drop n xs ≡ drop n ys
same_drop n xs ys e h =
    same_lists (drop n xs) (drop n ys) (length-drop n xs ∙ ap (λ (m : ℕ). m - n) e ∙ sym (length-drop n ys))
    (λ k d l. get_or-drop n xs k d ∙ h (n + k) d (omega arith) ∙ sym (get_or-drop n ys k d))

-- a list that calls fill, all of which return v
pub filled : {F V : Type 0} (step : F → V → F → Type 0) (v : V) (f : F) → ((x : V) (g : F) → step f x g → (g ≡ f) × (x ≡ v))
    → (xs : List V) (g : F) → FoldsTo step f xs g → (k : ℕ) → k < length xs → get_or xs k v ≡ v
filled step v f gives [] g runs k l = absurd (omega arith)
filled step v f gives (x ∷ xs) g (h, r, runs) zero l = (gives x h r).1
filled {F} step v f gives (x ∷ xs) g (h, r, runs) (suc k) l =
    filled step v f gives xs g (subst (λ (e : F). FoldsTo step e xs g) (gives x h r).0 runs) k (omega arith)
