-- What each entry point promises: its answer and its lent buffer afterwards, for all arguments. Assumes nothing.
use Rattle.std.specs.Prelude.{◌≡◌, ℕ, List, [], ◌∷◌, length, nat_lt, Result}
use Rattle.lists.specs.Written.{over}
use Rattle.ids.specs.declared.refusal.Refusal.{Refusal}
use Rattle.ids.specs.declared.refusal.Refusal.TheVariants.{BadRecord, WrongCount, OutputTooShort}
use Rattle.ids.specs.Verdicts.{Rule, ◌⇒◌, judged}
use Rattle.ids.specs.Answers.{told, after}
use Rattle.delete_vector.specs.Records.{records_of, records_in, is_bad, bad_place, rows_in}
use Rattle.delete_vector.specs.Memory.{is_in, in_memory}
use Rattle.delete_vector.specs.Mask.{masked}
use Rattle.delete_vector.specs.Answers.{written_told, loaded_told, held_told, masked_told}

-- the most records of a vector
abbrev pub most_records : ℕ
most_records = 4096

-- 8: over 4,096 records
abbrev pub too_many : List ℕ → Rule
too_many rows = nat_lt most_records (length rows) ⇒ WrongCount

-- 9: the lent output is shorter than what it is to hold
abbrev pub too_short : List ℕ → List ℕ → Rule
too_short out run = nat_lt (length out) (length run) ⇒ OutputTooShort

-- 7: a bad record
abbrev pub bad_record : List ℕ → Rule
bad_record file = is_bad (records_in file) ⇒ BadRecord (bad_place (records_in file))

abbrev pub write_rules : List ℕ → List ℕ → List Rule
write_rules rows out = too_many rows ∷ (too_short out (records_of rows) ∷ [])

pub record WriteSays (rows out : List ℕ) (r : Result ℕ Refusal) (out' : List ℕ) : Type 0 where
  pub answer : written_told r ≡ told (judged (write_rules rows out)) (length (records_of rows) ∷ [])
  pub bytes : out' ≡ after (judged (write_rules rows out)) (over (records_of rows) out) out

abbrev pub read_rules : List ℕ → List ℕ → List Rule
read_rules file rows = bad_record file ∷ (too_many (rows_in (records_in file)) ∷ (too_short rows (rows_in (records_in file)) ∷ []))

pub record ReadSays (file rows : List ℕ) (r : Result ℕ Refusal) (rows' : List ℕ) : Type 0 where
  pub answer : loaded_told r ≡ told (judged (read_rules file rows)) (length (rows_in (records_in file)) ∷ [])
  pub numbers : rows' ≡ after (judged (read_rules file rows)) (over (rows_in (records_in file)) rows) rows

abbrev pub memory_rules : List ℕ → List ℕ → List Rule
memory_rules rows out = too_many rows ∷ (too_short out (in_memory rows) ∷ [])

pub record MemorySays (rows out : List ℕ) (r : Result ℕ Refusal) (out' : List ℕ) : Type 0 where
  pub answer : held_told r ≡ told (judged (memory_rules rows out)) (length (in_memory rows) ∷ [])
  pub numbers : out' ≡ after (judged (memory_rules rows out)) (over (in_memory rows) out) out

abbrev pub mask_rules : List ℕ → List Rule
mask_rules rows = too_many rows ∷ []

pub record MaskSays (rows bits : List ℕ) (offset : ℕ) (r : Result (Unit {0}) Refusal) (bits' : List ℕ) : Type 0 where
  pub answer : masked_told r ≡ told (judged (mask_rules rows)) []
  pub mask : bits' ≡ after (judged (mask_rules rows)) (masked (is_in rows) offset bits) bits
