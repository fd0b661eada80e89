-- Laws of a vector's file: what is written reads back, and what is read was written. Assumes nothing.
use Rattle.std.proofs.Common.{◌≡◌, ℕ, zero, suc, ◌+◌, ◌<◌, ◌≤◌, true, false, eqb, ltb, List, [], ◌∷◌, ◌++◌, length, take, drop, sym, refl, ap, ◌∙◌, append_assoc, arith, length-append, length-drop, take_at, ltb-false, ltb-true, lt-ltb, eq-eqb, eqb-true}
use lib.Seq.{drop-append_seam}
use borrow.Author.Tests.{eqb-false}
use Rattle.lists.proofs.Tests.{by_cases, clash, both}
use Rattle.lists.proofs.Keyed.{All}
use Rattle.delete_vector.specs.Encoding.{varint, value_of}
use Rattle.delete_vector.specs.Records.{row_limit, record_of, records_of, starts_with, row_in, is_record, size_in, Records, Rows, Bad, and_row, no_bytes, records_by, records_at, records_in}
use Rattle.delete_vector.proofs.Encoding.{value-varint}
use Rattle.delete_vector.proofs.Sizes.{record-zero, record-more, record-short}

pub starts-append : (p s : List ℕ) → starts_with p (p ++ s) ≡ true
starts-append [] s = refl
starts-append (x ∷ p) s = rw (eq-eqb x x refl) (starts-append p s)

pub starts-split : (p s : List ℕ) → starts_with p s ≡ true → s ≡ p ++ drop (length p) s
starts-split [] s h = refl
starts-split (x ∷ p) [] h = clash h refl
starts-split (x ∷ p) (y ∷ s) h =
    let d = both (eqb y x) (starts_with p s) h in
    rw (eqb-true y x d.0) (ap (λ (l : List ℕ). x ∷ l) (starts-split p s d.1))

-- a row's record reads as the row
pub row-record : (row : ℕ) (s : List ℕ) → row < row_limit → row_in (record_of row ++ s) ≡ row
row-record row s h =
    by_cases (eqb row 0)
    (λ e. rw (eqb-true row 0 e, record-zero))
    (λ e. let z = eqb-false row 0 e in
    let p : 0 < row = by_cases (ltb 0 row) (ltb-true 0 row) (λ u. absurd (z (omega (arith, ltb-false 0 row u)))) in
    rw (record-more row p h) (body row s))
  where
    body : (row : ℕ) (s : List ℕ) → value_of (drop 1 (take (1 + length (varint row)) (8 ∷ (varint row ++ s)))) ≡ row
    body row s = rw (take_at (8 ∷ varint row) s (1 + length (varint row)) (omega arith)) (value-varint row)

pub record-reads : (row : ℕ) (s : List ℕ) → row < row_limit → is_record (record_of row ++ s) ≡ true
unfolding is_record
record-reads row s h = rw (row-record row s h, lt-ltb row row_limit h) (starts-append (record_of row) s)

pub record-room : (row : ℕ) (s : List ℕ) → row < row_limit → size_in (record_of row ++ s) ≡ length (record_of row)
unfolding size_in
record-room row s h = rw (row-record row s h)

-- what a good record says
pub record Good (s : List ℕ) : Type 0 where
  pub small : row_in s < row_limit
  pub bytes : s ≡ record_of (row_in s) ++ drop (size_in s) s
  pub positive : 1 ≤ size_in s
  pub fits : size_in s ≤ length s

pub good : (s : List ℕ) → is_record s ≡ true → Good s
unfolding is_record size_in
good s h =
    let d = both (ltb (row_in s) row_limit) (starts_with (record_of (row_in s)) s) h in
    let l = ltb-true (row_in s) row_limit d.0 in
    let b = starts-split (record_of (row_in s)) s d.1 in
    let n : length s ≡ length (record_of (row_in s)) + length (drop (length (record_of (row_in s))) s) = ap length b ∙ length-append (record_of (row_in s)) (drop (length (record_of (row_in s))) s) in
    record { small = l; bytes = b; positive = (record-short (row_in s) l).0; fits = omega arith }

-- reading does not depend on the bound
bound : (f g : ℕ) (s : List ℕ) (at : ℕ) → length s ≤ f → length s ≤ g → records_by f (no_bytes s) s at ≡ records_by g (no_bytes s) s at
unfolding records_by
bound zero zero s at p q = refl
bound zero (suc g) [] at p q = refl
bound zero (suc g) (b ∷ s) at p q = absurd (omega arith)
bound (suc f) zero [] at p q = refl
bound (suc f) zero (b ∷ s) at p q = absurd (omega arith)
bound (suc f) (suc g) [] at p q = refl
bound (suc f) (suc g) (b ∷ s) at p q =
    by_cases (is_record (b ∷ s))
    (λ e. let o = good (b ∷ s) e in
    let n = length-drop (size_in (b ∷ s)) (b ∷ s) in
    let w = o.positive in
    rw e (ap (and_row (row_in (b ∷ s))) (bound f g (drop (size_in (b ∷ s)) (b ∷ s)) (at + size_in (b ∷ s)) (omega arith) (omega arith))))
    (λ e. rw e)

pub read-end : (at : ℕ) → records_at [] at ≡ Rows []
unfolding records_at records_by
read-end at = refl

pub read_more : (s : List ℕ) (at : ℕ) → 0 < length s → is_record s ≡ true → records_at s at ≡ and_row (row_in s) (records_at (drop (size_in s) s) (at + size_in s))
unfolding records_at records_by
read_more [] at l e = absurd (omega arith)
read_more (b ∷ s) at l e =
    let o = good (b ∷ s) e in
    let n = length-drop (size_in (b ∷ s)) (b ∷ s) in
    let w = o.positive in
    rw e (ap (and_row (row_in (b ∷ s))) (bound (length s) (length (drop (size_in (b ∷ s)) (b ∷ s))) (drop (size_in (b ∷ s)) (b ∷ s)) (at + size_in (b ∷ s)) (omega arith) (omega arith)))

pub read-bad : (s : List ℕ) (at : ℕ) → 0 < length s → is_record s ≡ false → records_at s at ≡ Bad at
unfolding records_at records_by
read-bad [] at l e = absurd (omega arith)
read-bad (b ∷ s) at l e = rw e

-- what the writer writes reads back to the same rows in the same order
pub reads-back : (rows : List ℕ) (at : ℕ) → All (λ row. row < row_limit) rows → records_at (records_of rows) at ≡ Rows rows
reads-back [] at h = read-end at
reads-back (row ∷ rows) at h =
    let p = record-short row h.0 in
    let n = length-append (record_of row) (records_of rows) in
    let e : drop (size_in (record_of row ++ records_of rows)) (record_of row ++ records_of rows) ≡ records_of rows =
    rw (record-room row (records_of rows) h.0) (drop-append_seam (record_of row) (records_of rows)) in
    read_more (record_of row ++ records_of rows) at (omega arith) (record-reads row (records_of rows) h.0)
    ∙ rw (e, row-record row (records_of rows) h.0, reads-back rows (at + size_in (record_of row ++ records_of rows)) h.1)

-- what a file holds: rows whose records make it up, or rows whose records come before the bad one, where no row's record stands
abbrev pub Holds : List ℕ → ℕ → Records → Type 0
Holds s at (Rows rows) = (s ≡ records_of rows) × All (λ row. row < row_limit) rows
Holds s at (Bad place) =
    (rows : List ℕ) × (rest : List ℕ) × (s ≡ records_of rows ++ rest) × All (λ row. row < row_limit) rows × (place ≡ at + length (records_of rows)) × (0 < length rest)
    × ((row : ℕ) (t : List ℕ) → row < row_limit → rest ≡ record_of row ++ t → ⊥)

no_record : (s : List ℕ) → is_record s ≡ false → (row : ℕ) (t : List ℕ) → row < row_limit → s ≡ record_of row ++ t → ⊥
no_record s e row t h q = clash (record-reads row t h) (rw q at e)

and-row : (s : List ℕ) (at : ℕ) (r : Records) → Good s → Holds (drop (size_in s) s) (at + size_in s) r → Holds s at (and_row (row_in s) r)
unfolding size_in
and-row s at (Rows rows) o h = (o.bytes ∙ ap (λ (l : List ℕ). record_of (row_in s) ++ l) h.0, (o.small, h.1))
and-row s at (Bad place) o h =
    let n = length-append (record_of (row_in s)) (records_of h.0) in (
      row_in s ∷ h.0,
      h.1,
      o.bytes ∙ ap (λ (l : List ℕ). record_of (row_in s) ++ l) h.2 ∙ sym (append_assoc (record_of (row_in s)) (records_of h.0) h.1),
      (o.small, h.3),
      h.4 ∙ omega arith,
      h.5,
      h.6,
    )

holds_by : (f : ℕ) (s : List ℕ) (at : ℕ) → length s ≤ f → Holds s at (records_at s at)
holds_by zero [] at h = rw read-end (refl, tt)
holds_by zero (b ∷ s) at h = absurd (omega arith)
holds_by (suc f) [] at h = rw read-end (refl, tt)
holds_by (suc f) (b ∷ s) at h =
    by_cases (is_record (b ∷ s))
    (λ e. let o = good (b ∷ s) e in
    let n = length-drop (size_in (b ∷ s)) (b ∷ s) in
    let w = o.positive in
    rw (read_more (b ∷ s) at (omega arith) e) (and-row (b ∷ s) at (records_at (drop (size_in (b ∷ s)) (b ∷ s)) (at + size_in (b ∷ s))) o (holds_by f (drop (size_in (b ∷ s)) (b ∷ s)) (at + size_in (b ∷ s)) (omega arith))))
    (λ e. rw (read-bad (b ∷ s) at (omega arith) e) ([], b ∷ s, refl, tt, omega arith, omega arith, no_record (b ∷ s) e))

-- what the reader finds in a file is what the file holds
pub holds : (file : List ℕ) → Holds file 0 (records_in file)
holds file = holds_by (length file) file 0 (omega arith)
