-- The laws of delete vectors hold. Assumes nothing.
use mathlib.Core.Path.{◌≡◌, refl, sym, ap, ◌∙◌}
use mathlib.Core.Bool.{Bool, true}
use mathlib.Core.List.{List, [], ◌∷◌, map}
use Prim.Native.Nat.{ℕ, ◌+◌, ◌<◌}
use native.Mathlib.Omega.{arith}
use lib.Dec.{ltb}
use lib.ListN.{length}
use borrow.Author.Tests.{lt-ltb}
use Rattle.std.specs.Prelude.{Err}
use Rattle.lists.proofs.Keyed.{all_of-all, all-all_of}
use Rattle.ids.specs.declared.refusal.Refusal.TheVariants.{WrongCount}
use Rattle.ids.specs.Verdicts.{judged}
use Rattle.delete_vector.specs.Encoding.{varint_by, varint, uint_field, delimited}
use Rattle.delete_vector.specs.Records.{row_limit, record_of, records_of, is_record, size_in, Records, Rows, Bad, records_by, records_at, records_in, is_bad}
use Rattle.delete_vector.specs.Memory.{is_in, in_memory}
use Rattle.delete_vector.specs.Mask.{masked}
use Rattle.delete_vector.specs.Laws.{are_rows}
use Rattle.delete_vector.specs.Says.{most_records, read_rules}
use Rattle.delete_vector.proofs.InMemory.{memory-all}
use Rattle.delete_vector.proofs.Together.{laws-hold, rows_all}
use Rattle.risinglight.specs.Maps.{Outcome, fails, ok, and_then}
use Rattle.risinglight.specs.DeleteVector.{new, «open», apply_to}
use Rattle.risinglight.specs.DeleteVectors.{ReaderDiffers, Examples, is_set, DeleteVectorLaws}
use Rattle.risinglight.proofs.DeleteVectorLoops.{never, loops}
use Rattle.risinglight.proofs.DeleteVectorBytes.{all-encoded, all-decoded}
use Rattle.risinglight.proofs.DeleteVectorRows.{new-memory, mask-applied}

opened : (rows : List ℕ) → are_rows rows ≡ true → «open» (records_of rows) ≡ ok (in_memory rows)
opened rows h =
    ap (λ (o : Outcome (List ℕ)). and_then o (λ l. ok (new l))) (all-decoded (length (records_of rows)) rows (omega arith) (rows_all rows h))
    ∙ ap (λ (l : List ℕ). ok l) (new-memory rows)

opens : (file rows : List ℕ) → records_in file ≡ Rows rows → «open» file ≡ ok (in_memory rows)
opens file rows e =
    let w = laws-hold.only_written file rows e in
    ap (λ (f : List ℕ). «open» f) w.0 ∙ opened rows w.1

refused : (file : List ℕ) → «open» file ≡ fails → (r : Records) → records_in file ≡ r → is_bad r ≡ true
refused file f (Rows rows) e = absurd (never (sym f ∙ opens file rows e))
refused file f (Bad place) e = refl

not-bad : {rows : List ℕ} {place : ℕ} → Rows rows ≡ Bad place → ⊥
not-bad e = let z : ◌≡◌ {A = ℕ} 0 1 = cc in omega arith

never_written : (file rows : List ℕ) → ReaderDiffers file → are_rows rows ≡ true → file ≡ records_of rows → ⊥
never_written file rows d h e = not-bad (sym (laws-hold.reads_back rows h) ∙ ap (λ (f : List ℕ). records_in f) (sym e) ∙ d.refuses)

differs : (file deletes : List ℕ) → «open» file ≡ ok deletes → ((rows : List ℕ) → are_rows rows ≡ true → file ≡ records_of rows → ⊥)
    → (r : Records) → records_in file ≡ r → ReaderDiffers file
differs file deletes o n (Rows rows) e = let w = laws-hold.only_written file rows e in absurd (n rows w.1 w.0)
differs file deletes o n (Bad place) e = record { deletes = deletes; opens = o; place = place; refuses = e }

masked_same : (p q : ℕ → Bool) (offset : ℕ) (bytes : List ℕ) → ((row : ℕ) → p row ≡ q row) → masked p offset bytes ≡ masked q offset bytes
masked_same p q offset [] h = refl
masked_same p q offset (b ∷ bytes) h = rw (h offset, masked_same p q (offset + 1) bytes h)

mask_new : (rows bytes : List ℕ) (offset : ℕ) → are_rows rows ≡ true → apply_to (new rows) (map is_set bytes) offset ≡ map is_set (masked (is_in rows) offset bytes)
mask_new rows bytes offset h =
    let r : are_rows (in_memory rows) ≡ true =
    all-all_of (λ row. ltb row row_limit) (in_memory rows) (memory-all (λ row. ltb row row_limit ≡ true) rows (all_of-all (λ row. ltb row row_limit) rows h)) in
    ap (λ (l : List ℕ). apply_to l (map is_set bytes) offset) (new-memory rows)
    ∙ mask-applied (in_memory rows) bytes offset r (laws-hold.ascends rows)
    ∙ ap (map is_set) (masked_same (is_in (in_memory rows)) (is_in rows) offset bytes (laws-hold.same_set rows))

examples : Examples
unfolding records_at records_by is_record size_in record_of delimited uint_field varint varint_by
examples = record {
  zero_row = record { opens = refl; refuses = refl };
  long_varint = record { opens = refl; refuses = refl };
  long_widest = record { opens = refl; refuses = refl };
  wide = record { opens = refl; refuses = refl };
  wide_zero = record { opens = refl; refuses = refl };
  unknown_after = record { opens = refl; refuses = refl };
  unknown_alone = record { opens = refl; refuses = refl };
  twice = record { opens = refl; refuses = refl };
  long_key = record { opens = refl; refuses = refl };
  long_length = record { opens = refl; refuses = refl };
  long_empty = record { opens = refl; refuses = refl };
  unfinished = record { fails_too = refl; refuses = refl };
  past_end = record { fails_too = refl; refuses = refl };
  other_wire = record { fails_too = refl; refuses = refl };
  field_zero = record { fails_too = refl; refuses = refl };
}

over : (rows out : List ℕ) → are_rows rows ≡ true → most_records < length rows
    → (judged (read_rules (records_of rows) out) ≡ Err WrongCount) × («open» (records_of rows) ≡ ok (in_memory rows))
over rows out h n = (rw (laws-hold.reads_back rows h, lt-ltb most_records (length rows) n), opened rows h)

pub delete-vectors : DeleteVectorLaws
delete-vectors = record {
  loops = loops;
  writes = λ rows h. all-encoded rows (rows_all rows h);
  opens = opens;
  refuses = λ file f. refused file f (records_in file) refl;
  examples = examples;
  over = over;
  never_written = never_written;
  differs = λ file deletes o n. differs file deletes o n (records_in file) refl;
  memory = new-memory;
  mask = mask-applied;
  mask_new = mask_new;
}
