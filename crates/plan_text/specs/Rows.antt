-- Lines of numbers.
use Rattle.std.specs.Prelude.{◌≡◌, ℕ, ◌^◌, ◌<◌, List, [], ◌∷◌, ◌++◌, length, decimal, slice_index_or}
use Rattle.std.specs.Int.{IsInRange}

-- the numbers in decimal digits, one space between two of them
abbrev pub fields : List ℕ → List ℕ
fields [] = []
fields (n ∷ []) = decimal n
fields (n ∷ (m ∷ ns)) = decimal n ++ (32 ∷ fields (m ∷ ns))

-- a line of numbers: the fields and the line's end, byte 10
abbrev pub row : List ℕ → List ℕ
row ns = fields ns ++ 10 ∷ []

-- a number of at most ten digits
abbrev pub TenDigits : ℕ → Type 0
TenDigits n = n < 10 ^ 10

-- every byte is a digit
abbrev pub AreDigits : List ℕ → Type 0
AreDigits ds = (i : ℕ) → i < length ds → IsInRange 48 57 (slice_index_or ds i 0)

-- the list does not begin with a digit
abbrev pub NoDigit : List ℕ → Type 0
NoDigit xs = IsInRange 48 57 (slice_index_or xs 0 0) → ⊥

-- the text is a number of at most ten digits, and then `rest`, which begins with no other digit
pub record Begins (text : List ℕ) (n : ℕ) (rest : List ℕ) : Type 0 where
  pub short : TenDigits n
  pub there : text ≡ decimal n ++ rest
  pub ends : NoDigit rest
