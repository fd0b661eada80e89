-- What the loops over bytes need: a record written, compared and read byte by byte. Assumes nothing.
use mathlib.Core.Bool.{and-true}
use Rattle.std.proofs.Common.{◌≡◌, ℕ, zero, suc, ◌+◌, ◌-◌, ◌/◌, ◌%◌, ◌<◌, ◌≤◌, true, false, ◌&&◌, eqb, ltb, List, [], ◌∷◌, length, get_or, take, drop, set, sym, ap, ◌++◌, ◌∙◌, add-one, arith, length-set, drop_of_length-le, drop-cons, ltb-false, ltb-true, eq-eqb, ne_eqb}
use Rattle.std.proofs.lemmas.List.{nil_from_length}
use Rattle.std.proofs.lemmas.Slice.{between_to_end}
use Rattle.lists.specs.Written.{written, Wrote}
use Rattle.lists.proofs.Tests.{by_cases}
use Rattle.lists.proofs.Written.{written_one, written_on}
use Rattle.delete_vector.specs.Encoding.{varint}
use Rattle.delete_vector.specs.Records.{row_limit, record_of, starts_with, row_in, is_record, size_in}
use Rattle.delete_vector.proofs.Encoding.{varint-small, varint-big}
use Rattle.delete_vector.specs.Sizes.{varint_size}
use Rattle.delete_vector.proofs.Sizes.{varint-size, record-zero, record-more, record-short}
use Rattle.delete_vector.proofs.Records.{good}

-- to write a run is to write its first element, and then the rest after it
pub written_step : {A : Type 0} (s : List A) (at : ℕ) (x : A) (l : List A) → at + 1 + length l ≤ length s → written (set s at x) (at + 1) l ≡ written s at (x ∷ l)
written_step {A} s at x l h =
    ap (λ (t : List A). written t (at + 1) l) (written_one s at x (omega arith)) ∙ written_on s at (x ∷ []) l h

pub big-length : (n : ℕ) → 128 ≤ n → length (varint n) ≡ length (varint (n / 128)) + 1
big-length n h = ap length (varint-big n h) ∙ omega arith

pub small-length : (n : ℕ) → n < 128 → length (varint n) ≡ 1
small-length n h = ap length (varint-small n h)

pub varint-put : (s : List ℕ) (i n : ℕ) → 128 ≤ n → i + length (varint n) ≤ length s
    → written (set s i (128 + n % 128)) (i + 1) (varint (n / 128)) ≡ written s i (varint n)
varint-put s i n h l =
    let b = big-length n h in
    rw (varint-big n h) (written_step s i (128 + n % 128) (varint (n / 128)) (omega arith))

pub varint-last : (s : List ℕ) (i n : ℕ) → n < 128 → i < length s → set s i n ≡ written s i (varint n)
varint-last s i n h l = rw (varint-small n h) (written_one s i n l)

-- the file is compared with a varint from i on
pub starts-end : (s : List ℕ) (i n : ℕ) → length s ≤ i → starts_with (varint n) (drop i s) ≡ false
starts-end s i n h =
    rw (drop_of_length-le s {i = i} h)
    (by_cases (ltb n 128) (λ e. rw (varint-small n (ltb-true n 128 e))) (λ e. rw (varint-big n (ltb-false n 128 e))))

pub starts-big : (s : List ℕ) (i n : ℕ) → 128 ≤ n → i < length s
    → starts_with (varint n) (drop i s) ≡ eqb (get_or s i 0) (128 + n % 128) && starts_with (varint (n / 128)) (drop (i + 1) s)
starts-big s i n h l = rw (varint-big n h, drop-cons s i 0 l, add-one)

pub starts-small : (s : List ℕ) (i n : ℕ) → n < 128 → i < length s → starts_with (varint n) (drop i s) ≡ eqb (get_or s i 0) n
starts-small s i n h l = rw (varint-small n h, drop-cons s i 0 l) (and-true (eqb (get_or s i 0) n))

-- a record's first byte
record-head : (row : ℕ) → row < row_limit → record_of row ≡ (length (record_of row) - 1) ∷ drop 1 (record_of row)
record-head zero h = rw record-zero
record-head (suc row) h = rw (record-more (suc row) (omega arith) h) (ap (λ (k : ℕ). k ∷ (8 ∷ varint (suc row))) (omega arith))

pub size-first : (s : List ℕ) → is_record s ≡ true → size_in s ≡ 1 + get_or s 0 0
unfolding size_in
size-first s h =
    let g = good s h in
    let e : get_or s 0 0 ≡ length (record_of (row_in s)) - 1 = ap (λ (t : List ℕ). get_or t 0 0) (g.bytes ∙ ap (λ (p : List ℕ). p ++ drop (size_in s) s) (record-head (row_in s) g.small)) in
    let b = record-short (row_in s) g.small in
    omega arith

-- the record of a row that is not 0
module _ (row : ℕ) (h : row < row_limit) (z : row ≡ 0 → ⊥) where
  pub more-bytes : record_of row ≡ (1 + varint_size row) ∷ (8 ∷ varint row)
  more-bytes = record-more row (omega arith) h ∙ ap (λ (k : ℕ). (1 + k) ∷ (8 ∷ varint row)) (varint-size row)

  pub more-length : length (record_of row) ≡ 2 + length (varint row)
  more-length = ap length more-bytes ∙ omega arith

-- what is left after a file's first byte
abbrev pub rest_of : List ℕ → List ℕ
rest_of s = take (length s - 1) (drop 1 s)

rest-is : (s : List ℕ) → rest_of s ≡ drop 1 s
rest-is s = between_to_end s 1 (length s) (omega arith)

rest-cons : (s : List ℕ) → 1 ≤ length s → s ≡ get_or s 0 0 ∷ rest_of s
rest-cons s l = drop-cons s 0 0 l ∙ ap (λ (t : List ℕ). get_or s 0 0 ∷ t) (sym (rest-is s))

-- the file is compared with a record
pub starts-none : (s : List ℕ) (row : ℕ) → row < row_limit → length s < 1 → starts_with (record_of row) s ≡ false
starts-none [] row h l = ap (λ (p : List ℕ). starts_with p []) (record-head row h)
starts-none (b ∷ s) row h l = absurd (omega arith)

module _ (s : List ℕ) (row : ℕ) (h : row < row_limit) (l : 1 ≤ length s) where
  pub starts-zero : row ≡ 0 → starts_with (record_of row) s ≡ eqb (get_or s 0 0) 0
  starts-zero z =
      ap (λ (k : ℕ). starts_with (record_of k) s) z
      ∙ ap (λ (p : List ℕ). starts_with p s) record-zero
      ∙ ap (starts_with (0 ∷ [])) (rest-cons s l)
      ∙ and-true (eqb (get_or s 0 0) 0)

  module _ (z : row ≡ 0 → ⊥) where
    first : starts_with (record_of row) s ≡ eqb (get_or s 0 0) (1 + varint_size row) && starts_with (8 ∷ varint row) (rest_of s)
    first = ap (λ (p : List ℕ). starts_with p s) (more-bytes row h z) ∙ ap (starts_with ((1 + varint_size row) ∷ (8 ∷ varint row))) (rest-cons s l)

    pub starts-differ : (get_or s 0 0 ≡ 1 + varint_size row → ⊥) → starts_with (record_of row) s ≡ false
    starts-differ n = first ∙ rw (ne_eqb _ _ n)

    module _ (e : get_or s 0 0 ≡ 1 + varint_size row) where
      second : starts_with (record_of row) s ≡ starts_with (8 ∷ varint row) (rest_of s)
      second = first ∙ rw (eq-eqb _ _ e)

      pub starts-short : length (rest_of s) < 1 → starts_with (record_of row) s ≡ false
      starts-short n = second ∙ ap (starts_with (8 ∷ varint row)) (nil_from_length (rest_of s) (omega arith))

      module _ (n : 1 ≤ length (rest_of s)) where
        pub starts-key : (get_or (rest_of s) 0 0 ≡ 8 → ⊥) → starts_with (record_of row) s ≡ false
        starts-key k = second ∙ ap (starts_with (8 ∷ varint row)) (rest-cons (rest_of s) n) ∙ rw (ne_eqb _ _ k)

        pub starts-rest : get_or (rest_of s) 0 0 ≡ 8 → starts_with (record_of row) s ≡ starts_with (varint row) (rest_of (rest_of s))
        starts-rest k = second ∙ ap (starts_with (8 ∷ varint row)) (rest-cons (rest_of s) n) ∙ rw (eq-eqb _ _ k)

-- a record is written at a place
module _ (s : List ℕ) (at row : ℕ) (l : at + length (record_of row) ≤ length s) where
  pub wrote-zero : row ≡ 0 → Wrote s at (record_of row) (set s at 0) (at + 1)
  wrote-zero z =
      let e : record_of row ≡ 0 ∷ [] = ap record_of z ∙ record-zero in
      let n = ap length e in
      record {
        content = written_one s at 0 (omega arith) ∙ ap (λ (p : List ℕ). written s at p) (sym e);
        next = omega arith;
      }

  pub wrote-more : (t : List ℕ) (i : ℕ) → row < row_limit → (row ≡ 0 → ⊥)
      → Wrote (set (set s at (1 + varint_size row)) (at + 1) 8) (at + 2) (varint row) t i → Wrote s at (record_of row) t i
  wrote-more t i h z w =
      let x = 1 + varint_size row in
      let n = more-length row h z in
      let k : at + 2 ≡ at + 1 + 1 = omega arith in
      let ls = length-set s at x in
      record {
        content =
            w.content
            ∙ ap (λ (j : ℕ). written (set (set s at x) (at + 1) 8) j (varint row)) k
            ∙ written_step (set s at x) (at + 1) 8 (varint row) (omega arith)
            ∙ written_step s at x (8 ∷ varint row) (omega arith)
            ∙ ap (λ (p : List ℕ). written s at p) (sym (more-bytes row h z));
        next = let q = w.next in omega arith;
      }
