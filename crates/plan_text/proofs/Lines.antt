-- A word or a line of numbers at the front of a list. Assumes nothing.
use Rattle.std.proofs.Common.{◌≡◌, ℕ, ◌+◌, ◌<◌, List, [], ◌∷◌, ◌++◌, length, get_or, drop, decimal, sym, refl, ap, ◌∙◌, ap₂, arith}
use Rattle.std.specs.List.{AllByRecursion}
use Rattle.std.proofs.ByRecursion.{All-get_or, All-push}
use Rattle.std.proofs.lemmas.List.{append_assoc, append_cancel_left, drop_more, length_push}
use Rattle.plan_text.specs.Rows.{fields, row, TenDigits, NoDigit, Begins}
use Rattle.plan_text.specs.Reading.{LacksRow}
use Rattle.plan_text.proofs.Runs.{same_number}

-- what a line has left behind a number
abbrev pub left : List ℕ → List ℕ
left [] = 10 ∷ []
left (n ∷ ns) = 32 ∷ row (n ∷ ns)

row_first : (n : ℕ) (ns : List ℕ) → row (n ∷ ns) ≡ decimal n ++ left ns
row_first n [] = refl
row_first n (m ∷ ns) = append_assoc (decimal n) (32 ∷ fields (m ∷ ns)) (10 ∷ [])

row_at : (ns : List ℕ) (i : ℕ) → i < length ns → row (drop i ns) ≡ decimal (get_or ns i 0) ++ left (drop (i + 1) ns)
row_at ns i l = ap row (drop_more ns i 0 l) ∙ row_first (get_or ns i 0) (drop (i + 1) ns)

left_at : (ns : List ℕ) (i : ℕ) → i < length ns → left (drop i ns) ≡ 32 ∷ row (drop i ns)
left_at ns i l = ap left (drop_more ns i 0 l) ∙ ap (λ r. 32 ∷ row r) (sym (drop_more ns i 0 l))

stops_left : (ns rest : List ℕ) → NoDigit (left ns ++ rest)
stops_left [] rest = λ d. omega arith
stops_left (n ∷ ns) rest = λ d. omega arith

-- lines of as many numbers, and what stands behind them, are the same where they are written the same
left-row : (ns ms r s : List ℕ) → length ns ≡ length ms → left ns ++ r ≡ left ms ++ s → row ns ++ r ≡ row ms ++ s
left-row [] [] r s l e = e
left-row [] (m ∷ ms) r s l e = absurd (omega arith)
left-row (n ∷ ns) [] r s l e = absurd (omega arith)
left-row (n ∷ ns) (m ∷ ms) r s l e = append_cancel_left (32 ∷ []) (row (n ∷ ns) ++ r) (row (m ∷ ms) ++ s) e

row_number : (n : ℕ) (ns r : List ℕ) → row (n ∷ ns) ++ r ≡ decimal n ++ (left ns ++ r)
row_number n ns r = ap (λ l. l ++ r) (row_first n ns) ∙ append_assoc (decimal n) (left ns) r

pub rows_same : (ns ms r s : List ℕ) → length ns ≡ length ms → AllByRecursion TenDigits ns → AllByRecursion TenDigits ms → row ns ++ r ≡ row ms ++ s → (ns ≡ ms) × (r ≡ s)
rows_same [] [] r s l a b e = (refl, append_cancel_left (10 ∷ []) r s e)
rows_same [] (m ∷ ms) r s l a b e = absurd (omega arith)
rows_same (n ∷ ns) [] r s l a b e = absurd (omega arith)
rows_same (n ∷ ns) (m ∷ ms) r s l a b e =
    let size : length ns ≡ length ms = omega arith in
    let first = same_number (row (n ∷ ns) ++ r) (left ns ++ r) (left ms ++ s) n m a.0 b.0
    (row_number n ns r) (stops_left ns r) (e ∙ row_number m ms s) (stops_left ms s) in
    let rest = rows_same ns ms r s size a.1 b.1 (left-row ns ms r s size first.1) in
    (ap₂ (λ (x : ℕ) (xs : List ℕ). x ∷ xs) first.0 rest.0, rest.1)

fields_push : (ns : List ℕ) (n : ℕ) → 0 < length ns → fields (ns ++ n ∷ []) ≡ fields ns ++ (32 ∷ decimal n)
fields_push [] n h = absurd (omega arith)
fields_push (m ∷ []) n h = refl
fields_push (m ∷ (k ∷ ns)) n h =
    ap (λ l. decimal m ++ (32 ∷ l)) (fields_push (k ∷ ns) n (omega arith)) ∙ sym (append_assoc (decimal m) (32 ∷ fields (k ∷ ns)) (32 ∷ decimal n))

-- the first i of n numbers of a line at the front of xs are read, and ys is what comes behind them
pub record Sofar (xs : List ℕ) (n i : ℕ) (read ys : List ℕ) : Type 0 where
  pub short : AllByRecursion TenDigits read
  pub count : length read ≡ i
  pub front : xs ≡ fields read ++ ys
  pub rest : 0 < i → (ns rest : List ℕ) → length ns ≡ n → AllByRecursion TenDigits ns → xs ≡ row ns ++ rest → ys ≡ left (drop i ns) ++ rest

-- the same, and ys begins with the next number
pub record Ready (xs : List ℕ) (n i : ℕ) (read ys : List ℕ) : Type 0 where
  pub short : AllByRecursion TenDigits read
  pub count : length read ≡ i
  pub front : (v : ℕ) (zs : List ℕ) → ys ≡ decimal v ++ zs → xs ≡ fields (read ++ v ∷ []) ++ zs
  pub rest : (ns rest : List ℕ) → length ns ≡ n → AllByRecursion TenDigits ns → xs ≡ row ns ++ rest → ys ≡ row (drop i ns) ++ rest

pub begin : (xs : List ℕ) (n : ℕ) → Sofar xs n 0 [] xs
begin xs n = record { short = tt; count = refl; front = refl; rest = λ h. absurd (omega arith) }

pub ready_first : (xs : List ℕ) (n i : ℕ) (read ys : List ℕ) → Sofar xs n i read ys → i ≡ 0 → Ready xs n i read ys
ready_first xs n i [] ys h z = record {
  short = h.short;
  count = h.count;
  front = λ v zs e. h.front ∙ e;
  rest = λ ns rest e s q. sym h.front ∙ q ∙ ap (λ j. row (drop j ns) ++ rest) (sym z);
}
ready_first xs n i (m ∷ read) ys h z = absurd (omega (arith, h.count))

module _ {xs : List ℕ} {n i : ℕ} {read ys : List ℕ} (more : i < n) where
  pub ready_more : (zs : List ℕ) → Sofar xs n i read ys → 0 < i → ys ≡ 32 ∷ zs → Ready xs n i read zs
  ready_more zs h some e = record {
    short = h.short;
    count = h.count;
    front = λ v ws f. h.front ∙ ap (λ l. fields read ++ l) (e ∙ ap (λ l. 32 ∷ l) f) ∙ sym (append_assoc (fields read) (32 ∷ decimal v) ws) ∙ ap (λ l. l ++ ws) (sym (fields_push read v (omega (arith, h.count))));
    rest = λ ns rest f s q. append_cancel_left (32 ∷ []) _ _ (sym e ∙ h.rest some ns rest f s q ∙ ap (λ l. l ++ rest) (left_at ns i (omega arith)));
  }

  pub refuse_space : Sofar xs n i read ys → 0 < i → ((zs : List ℕ) → ys ≡ 32 ∷ zs → ⊥) → LacksRow xs n
  refuse_space h some none ns rest f s q = none _ (h.rest some ns rest f s q ∙ ap (λ l. l ++ rest) (left_at ns i (omega arith)))

  -- the next number of a line that stands there
  due : Ready xs n i read ys → (ns rest : List ℕ) → length ns ≡ n → AllByRecursion TenDigits ns → xs ≡ row ns ++ rest → ys ≡ decimal (get_or ns i 0) ++ (left (drop (i + 1) ns) ++ rest)
  due h ns rest f s q =
      h.rest ns rest f s q ∙ ap (λ l. l ++ rest) (row_at ns i (omega arith)) ∙ append_assoc (decimal (get_or ns i 0)) (left (drop (i + 1) ns)) rest

  pub refuse_number : Ready xs n i read ys → ((v : ℕ) (zs : List ℕ) → Begins ys v zs → ⊥) → LacksRow xs n
  refuse_number h none ns rest f s q =
      none (get_or ns i 0) _ (record { short = All-get_or TenDigits ns i 0 (omega arith) s; there = due h ns rest f s q; ends = stops_left (drop (i + 1) ns) rest })

  pub one_more : (v : ℕ) (zs : List ℕ) → Ready xs n i read ys → Begins ys v zs → Sofar xs n (i + 1) (read ++ v ∷ []) zs
  one_more v zs h b = record {
    short = All-push TenDigits read v h.short b.short;
    count = length_push read v ∙ ap (λ j. j + 1) h.count;
    front = h.front v zs b.there;
    rest = λ some ns rest f s q. (same_number ys zs (left (drop (i + 1) ns) ++ rest) v (get_or ns i 0) b.short (All-get_or TenDigits ns i 0 (omega arith) s) b.there b.ends (due h ns rest f s q) (stops_left (drop (i + 1) ns) rest)).1;
  }
