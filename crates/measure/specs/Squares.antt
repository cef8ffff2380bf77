-- A square of values in a list: one for every ordered pair (row, column) of numbers below the side.
use Rattle.std.specs.Prelude.{ℕ, ◌+◌, ◌*◌, ◌<◌, ◌≤◌, List, length, take, drop, slice_index_or}

-- the cell of a pair: the rows lie one behind the other
abbrev pub cell_of : ℕ → ℕ → ℕ → ℕ
cell_of side row column = row * side + column

-- the pair has a cell, and a list of so many cells is long enough to hold it
abbrev pub HasCell : ℕ → ℕ → ℕ → ℕ → Type 0
HasCell side cells row column = (row < side) × (column < side) × (cell_of side row column < cells)

-- the value of a pair of numbers below the side, and d where the list is too short for it
abbrev pub in_square : {V : Type 0} → V → ℕ → List V → ℕ → ℕ → V
in_square d side cells row column = slice_index_or cells (cell_of side row column) d

-- there is such a row, and the list is long enough to hold the whole of it
abbrev pub HasRow : {V : Type 0} → ℕ → List V → ℕ → Type 0
HasRow side cells row = (row < side) × (row * side + side ≤ length cells)

-- the values of a row
abbrev pub row_of : {V : Type 0} → ℕ → List V → ℕ → List V
row_of side cells row = take side (drop (row * side) cells)
