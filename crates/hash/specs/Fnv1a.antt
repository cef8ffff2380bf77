-- The 32-bit FNV-1a hash.
use Rattle.std.specs.Prelude.{ℕ, ◌*◌, ◌/◌, ◌%◌, ◌^◌, List, [], ◌∷◌, fold, bit_xor}

-- the hash h after one more byte b: xor the byte,
-- multiply by the prime, and keep the lowest 32 bits
abbrev pub step : ℕ → ℕ → ℕ
step h b = (bit_xor h b * 16777619) % 2 ^ 32

-- the hash of a list of bytes, from the offset basis
abbrev pub fnv_hash : List ℕ → ℕ
fnv_hash bytes = fold step 2166136261 bytes

-- the four bytes of a name, lowest first
abbrev pub bytes_of : ℕ → List ℕ
bytes_of n = n % 256 ∷ n / 256 % 256 ∷ n / 65536 % 256 ∷ n / 16777216 % 256 ∷ []
