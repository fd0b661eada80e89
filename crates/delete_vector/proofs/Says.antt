-- How each entry point's promise is met. Assumes nothing.
use Rattle.std.proofs.Common.{◌≡◌, ℕ, ◌<◌, ◌≤◌, true, List, length, le-ltb, lt-ltb, Ok, Err}
use Rattle.lists.specs.Written.{over}
use Rattle.ids.specs.declared.refusal.Refusal.TheVariants.{BadRecord, OutputTooShort}
use Rattle.delete_vector.specs.Records.{records_of, records_in, is_bad, bad_place}
use Rattle.delete_vector.specs.Memory.{in_memory}
use Rattle.delete_vector.specs.Says.{most_records, WriteSays, ReadSays, MemorySays}

module _ (rows out : List ℕ) where
  pub write_done : (out' : List ℕ) (n : ℕ) → length rows ≤ most_records → length (records_of rows) ≤ length out → n ≡ length (records_of rows) → out' ≡ over (records_of rows) out → WriteSays rows out (Ok n) out'
  write_done out' n h g e w =
      let t = le-ltb most_records (length rows) h in
      let u = le-ltb (length out) (length (records_of rows)) g in
      record { answer = rw (t, u, e); bytes = rw (t, u) w }

  pub memory-short : length rows ≤ most_records → length out < length (in_memory rows) → MemorySays rows out (Err OutputTooShort) out
  memory-short h g =
      let t = le-ltb most_records (length rows) h in
      let u = lt-ltb (length out) (length (in_memory rows)) g in
      record { answer = rw (t, u); numbers = rw (t, u) }

  pub memory_done : (out' : List ℕ) (n : ℕ) → length rows ≤ most_records → length (in_memory rows) ≤ length out → n ≡ length (in_memory rows) → out' ≡ over (in_memory rows) out → MemorySays rows out (Ok n) out'
  memory_done out' n h g e w =
      let t = le-ltb most_records (length rows) h in
      let u = le-ltb (length out) (length (in_memory rows)) g in
      record { answer = rw (t, u, e); numbers = rw (t, u) w }

module _ (file rows : List ℕ) where
  pub read-bad : (p : ℕ) → is_bad (records_in file) ≡ true → bad_place (records_in file) ≡ p → ReadSays file rows (Err (BadRecord p)) rows
  read-bad p b e = record { answer = rw (b, e); numbers = rw b }
