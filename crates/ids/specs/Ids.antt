-- Ids: each is below its width's largest value. Assumes nothing.
use Rattle.std.specs.Prelude.{ℕ, Bool, ltb}

abbrev pub largest32 : ℕ
largest32 = 4294967295

abbrev pub largest64 : ℕ
largest64 = 18446744073709551615

-- a table or rowset id
abbrev pub is_id32 : ℕ → Bool
is_id32 n = ltb n largest32

-- a vector id
abbrev pub is_id64 : ℕ → Bool
is_id64 n = ltb n largest64

-- the next ids of tables, rowsets and vectors
pub record Next : Type 0 where
  pub table : ℕ
  pub rowset : ℕ
  pub vector : ℕ

abbrev pub next : ℕ → ℕ → ℕ → Next
next t r v = record { table = t; rowset = r; vector = v }
