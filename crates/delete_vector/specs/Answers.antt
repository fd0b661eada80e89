-- The specification's number (0 where accepted), place and values of each answer. Assumes nothing.
use Rattle.std.specs.Prelude.{ℕ, ◌+◌, [], ◌∷◌, length, Result, Ok, Err}
use Rattle.ids.specs.declared.refusal.Refusal.{Refusal}
use Rattle.ids.specs.Answers.{Told, told}
use Rattle.delete_vector.specs.Records.{Records, Rows, Bad}

-- what looking through a file finds, after n records: how many there are, or the place of the first bad one
abbrev pub scanned_of : ℕ → Records → Result ℕ ℕ
scanned_of n (Rows rows) = Ok (n + length rows)
scanned_of n (Bad place) = Err place

-- a count, or the refusal
abbrev pub count_told : Result ℕ Refusal → Told
count_told (Ok n) = told (Ok tt) (n ∷ [])
count_told (Err r) = told (Err r) []

-- of bytes
abbrev pub written_told : Result ℕ Refusal → Told
written_told r = count_told r

-- of rows
abbrev pub loaded_told : Result ℕ Refusal → Told
loaded_told r = count_told r

abbrev pub held_told : Result ℕ Refusal → Told
held_told r = count_told r

abbrev pub masked_told : Result (Unit {0}) Refusal → Told
masked_told (Ok u) = told (Ok tt) []
masked_told (Err r) = told (Err r) []
