-- A mask, one byte a bit, and what a set of deleted rows clears of it. Assumes nothing.
use Rattle.std.specs.Prelude.{ℕ, ◌+◌, Bool, cond, List, [], ◌∷◌}

-- bit i stands for row offset + i, a whole number: one past 32 bits is in no set of rows. Clearing writes 0
abbrev pub masked : (ℕ → Bool) → ℕ → List ℕ → List ℕ
masked deleted offset [] = []
masked deleted offset (bit ∷ bits) = cond (deleted offset) 0 bit ∷ masked deleted (offset + 1) bits
