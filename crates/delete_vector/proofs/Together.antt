-- The laws of the definitions hold. Assumes nothing.
use Rattle.std.proofs.Common.{◌≡◌, ℕ, ◌<◌, Bool, true, false, ◌&&◌, ◌||◌, eqb, ltb, List, [], ◌∷◌, sym, refl, ◌∙◌, subst, zero-add, ltb-true, lt-ltb}
use Rattle.lists.specs.Keyed.{has}
use Rattle.lists.proofs.Keyed.{All, all_map, all_of-all, all-all_of}
use Rattle.delete_vector.specs.Records.{row_limit, records_of, Records, Rows, Bad, records_in}
use Rattle.delete_vector.specs.Memory.{row_key, is_in}
use Rattle.delete_vector.specs.Laws.{are_rows, BadFrom, Laws}
use Rattle.delete_vector.proofs.Sizes.{bits-counted, varint-size, record-size}
use Rattle.delete_vector.proofs.Records.{reads-back, Holds, holds}
use Rattle.delete_vector.proofs.InMemory.{memory-ascending, memory-same-set, memory-ext, memory-own}

pub rows_all : (rows : List ℕ) → are_rows rows ≡ true → All (λ row. row < row_limit) rows
rows_all rows h = all_map rows (λ row. ltb-true row row_limit) (all_of-all (λ row. ltb row row_limit) rows h)

all-rows : (rows : List ℕ) → All (λ row. row < row_limit) rows → are_rows rows ≡ true
all-rows rows h = all-all_of (λ row. ltb row row_limit) rows (all_map rows (λ row. lt-ltb row row_limit) h)

only-written : (file rows : List ℕ) → records_in file ≡ Rows rows → (file ≡ records_of rows) × (are_rows rows ≡ true)
only-written file rows e =
    let h = subst (λ (r : Records). Holds file 0 r) e (holds file) in
    (h.0, all-rows rows h.1)

first-bad : (file : List ℕ) (place : ℕ) → records_in file ≡ Bad place → BadFrom file place
first-bad file place e =
    let h = subst (λ (r : Records). Holds file 0 r) e (holds file) in
    record { rows = h.0; rest = h.1; split = h.2; before = all-rows h.0 h.3; here = h.4 ∙ zero-add _; more = h.5; none = h.6 }

-- a key of another length is no row's
has_key : (l m : List ℕ) → ((row : ℕ) → is_in l row ≡ is_in m row) → (k : List ℕ) → has row_key k l ≡ has row_key k m
has_key l m h [] = none l ∙ sym (none m)
  where
    none : (l : List ℕ) → has row_key [] l ≡ false
    none [] = refl
    none (x ∷ l) = none l
has_key l m h (row ∷ []) = h row
has_key l m h (a ∷ (b ∷ k)) = none l ∙ sym (none m)
  where
    none : (l : List ℕ) → has row_key (a ∷ (b ∷ k)) l ≡ false
    none [] = refl
    none (x ∷ l) = miss (eqb x a) ∙ none l
      where
        miss : (t : Bool) → (t && false) || has row_key (a ∷ (b ∷ k)) l ≡ has row_key (a ∷ (b ∷ k)) l
        miss true = refl
        miss false = refl

pub laws-hold : Laws
laws-hold = record {
  bits_counted = bits-counted;
  varint_sized = varint-size;
  record_sized = record-size;
  reads_back = λ rows h. reads-back rows 0 (rows_all rows h);
  only_written = only-written;
  first_bad = first-bad;
  ascends = memory-ascending;
  same_set = memory-same-set;
  own_form = memory-own;
  one_form = λ l m h. memory-ext l m (has_key l m h);
}
