-- The colours that the two hashes give: `k` is the number of colours, and the colours are 1 to k.
use Rattle.std.specs.Prelude.{ℕ, zero, suc, ◌+◌, ◌≤◌, ◌%◌}
use Rattle.hash.specs.Fnv1a.{fnv_hash, bytes_of}

-- where there are colours, every name has one of them
abbrev pub GivesColours : (ℕ → ℕ → ℕ) → Type 0
GivesColours colour = (k name : ℕ) → 1 ≤ k → (1 ≤ colour k name) × (colour k name ≤ k)

-- the remainder of the name by k, plus 1, and 0 if there are no colours
abbrev pub remainder : ℕ → ℕ → ℕ
remainder zero name = 0
remainder (suc k) name = name % suc k + 1

-- the same of the FNV-1a hash of the name's bytes
abbrev pub fnv : ℕ → ℕ → ℕ
fnv k name = remainder k (fnv_hash (bytes_of name))
