-- `u64` and `u32` as a release build counts with them. Assumes nothing.
use Rattle.std.specs.Prelude.{ℕ, ◌%◌}

-- a sum that passes 64 bits begins anew
abbrev pub wrapping : ℕ → ℕ
wrapping n = n % 18446744073709551616

-- and one that passes 32
abbrev pub wrapping32 : ℕ → ℕ
wrapping32 n = n % 4294967296
