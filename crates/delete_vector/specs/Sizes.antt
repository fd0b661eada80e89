-- The sizes of a varint and of a record, by formula. Assumes nothing.
use Rattle.std.specs.Prelude.{ℕ, zero, suc, ◌+◌, ◌/◌, cond, ◌==◌}
use Rattle.std.specs.Int.{div_ceil}

-- f bounds the count of halvings
unfoldable pub bits_by : ℕ → ℕ → ℕ
bits_by zero n = 0
bits_by (suc f) zero = 0
bits_by (suc f) (suc n) = 1 + bits_by f (suc n / 2)

-- the count of n's significant bits: none for zero, else one more than half of n has
unfoldable pub significant_bits : ℕ → ℕ
significant_bits n = bits_by n n

-- the size of n's varint: one byte for zero, else the significant bits divided by seven, rounded up
unfoldable pub varint_size : ℕ → ℕ
varint_size n = cond (n == 0) 1 (div_ceil (significant_bits n) 7)

-- the size of a row's record: one byte for row 0, else two more than its varint's
unfoldable pub record_size : ℕ → ℕ
record_size row = cond (row == 0) 1 (2 + varint_size row)
