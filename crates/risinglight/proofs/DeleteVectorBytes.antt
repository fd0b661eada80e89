-- Delete vectors: the bytes of the two writers, and the Rust's reader on them. Assumes nothing.
use mathlib.Core.Path.{◌≡◌, refl, sym, ap, ◌∙◌}
use mathlib.Core.Bool.{true, false}
use mathlib.Core.List.{List, [], ◌∷◌, ◌++◌}
use Prim.Native.Nat.{ℕ, zero, suc, ◌+◌, ◌-◌, ◌*◌, ◌/◌, ◌%◌, ◌^◌, ◌<◌, ◌≤◌}
use native.Mathlib.Omega.{arith}
use lib.Count.{count_leading_zeros}
use lib.Dec.{ltb, eqb}
use lib.ListN.{length, length-append}
use borrow.Author.Tests.{lt-ltb, le-ltb, ltb-true, ltb-false, eqb-true, eqb-false, eq-eqb, ne_eqb}
use Rattle.lists.proofs.Tests.{by_cases}
use Rattle.lists.proofs.Keyed.{All}
use Rattle.delete_vector.specs.Encoding.{varint}
use Rattle.delete_vector.specs.Records.{row_limit, record_of, records_of}
use Rattle.delete_vector.specs.Sizes.{significant_bits}
use Rattle.delete_vector.proofs.Encoding.{varint-small, varint-big}
use Rattle.delete_vector.proofs.Bytes.{big-length}
use Rattle.delete_vector.proofs.Sizes.{bits-zero, bits-half, zeros-bits, bits-within, varint-groups, varint-short, record-zero, record-more, record-short}
use Rattle.risinglight.specs.Maps.{Outcome, ok, and_then}
use Rattle.risinglight.specs.DeleteVector.{Read, read, varint_within, merge_next, fields_within, merge_delimited, decode_length_delimited, records_within, encoded_len_varint, encoded_len, varint_bytes, encode_varint, encode_raw, encode_length_delimited, write_all}

-- Writing.

bytes_of : (n value : ℕ) → length (varint value) ≤ n → varint_bytes n value ≡ varint value
bytes_of zero value h =
    by_cases (ltb value 128)
    (λ e. let l : length (varint value) ≡ 1 = ap length (varint-small value (ltb-true value 128 e)) in absurd (omega arith))
    (λ e. absurd (omega (arith, big-length value (ltb-false value 128 e))))
bytes_of (suc n) value h =
    by_cases (ltb value 128)
    (λ e. rw (e, varint-small value (ltb-true value 128 e)))
    (λ e.
    let b = ltb-false value 128 e in
    let l = big-length value b in
    let q : value % 128 + 128 ≡ 128 + value % 128 = omega arith in
    rw (e, varint-big value b, q) (ap (λ (t : List ℕ). (128 + value % 128) ∷ t) (bytes_of n (value / 128) (omega arith))))

positive : (row : ℕ) → eqb row 0 ≡ false → 0 < row
positive zero e = absurd (eqb-false 0 0 e refl)
positive (suc row) e = omega arith

-- prost counts a varint's bytes by the bits of its number, of which it takes the lowest as set
counted : (value : ℕ) → value < row_limit → encoded_len_varint value ≡ length (varint value)
counted value h =
    let a = value / 2 * 2 + 1 in
    let w : row_limit ≤ 2 ^ 64 = omega arith in
    let z = zeros-bits 64 a (omega arith) in
    let b : significant_bits a ≡ 1 + significant_bits (value / 2) = bits-half a (omega arith) ∙ ap (λ (n : ℕ). 1 + significant_bits n) (omega arith) in
    let l = bits-within 31 (value / 2) (omega arith) in
    let q : 63 - count_leading_zeros 64 a ≡ significant_bits (value / 2) = omega arith in
    ap (λ (k : ℕ). (k * 9 + 73) / 64) q ∙ by_bits value l
  where
    by_bits : (value : ℕ) → significant_bits (value / 2) ≤ 31 → (significant_bits (value / 2) * 9 + 73) / 64 ≡ length (varint value)
    by_bits zero l = rw (bits-zero, varint-small 0 (omega arith))
    by_bits (suc n) l = let b = bits-half (suc n) (omega arith) in let g = varint-groups (suc n) (omega arith) in omega arith

encoded : (row : ℕ) → row < row_limit → encode_length_delimited row ≡ record_of row
encoded row h =
    by_cases (eqb row 0)
    (λ e. rw (eqb-true row 0 e, record-zero))
    (λ e.
    let b = varint-short row h in
    let n = 1 + length (varint row) in
    let q : encode_varint row ≡ varint row = bytes_of 10 row (omega arith) in
    let r : encode_raw row ≡ 8 ∷ varint row = rw e (ap (λ (t : List ℕ). 8 ∷ t) q) in
    let k : encoded_len row ≡ n = rw e (ap (λ (m : ℕ). encoded_len_varint 8 + m) (counted row h) ∙ ap (λ (m : ℕ). m + length (varint row)) (counted 8 (omega arith) ∙ ap length (varint-small 8 (omega arith)))) in
    let l : encode_varint n ≡ n ∷ [] = rw (lt-ltb n 128 (omega arith)) in
    ap (λ (t : List ℕ). encode_varint (encoded_len row) ++ t) r
    ∙ ap (λ (m : ℕ). encode_varint m ++ (8 ∷ varint row)) k
    ∙ ap (λ (t : List ℕ). t ++ (8 ∷ varint row)) l
    ∙ sym (record-more row (positive row e) h))

pub all-encoded : (rows : List ℕ) → All (λ row. row < row_limit) rows → write_all rows ≡ records_of rows
all-encoded [] h = refl
all-encoded (row ∷ rows) h =
    ap (λ (s : List ℕ). s ++ write_all rows) (encoded row h.0)
    ∙ ap (λ (s : List ℕ). record_of row ++ s) (all-encoded rows h.1)

-- Reading.

within : (n value : ℕ) (s : List ℕ) → length (varint value) < n → varint_within n (varint value ++ s) ≡ ok (read value s)
within zero value s h = absurd (omega arith)
within (suc n) value s h =
    by_cases (ltb value 128)
    (λ e.
    let m = varint-small value (ltb-true value 128 e) in
    let l : length (varint value) ≡ 1 = ap length m in
    rw (m, e, ne_eqb n 0 (λ z. omega arith)))
    (λ e.
    let b = ltb-false value 128 e in
    let l = big-length value b in
    let q : (128 + value % 128) % 128 + 128 * (value / 128) ≡ value = omega arith in
    rw (varint-big value b, le-ltb (128 + value % 128) 128 (omega arith), within n (value / 128) s (omega arith))
    (ap (λ (v : ℕ). ok (read v s)) q))

-- no field is left to read
loop-done : (n row : ℕ) (s : List ℕ) → fields_within n (length s) row s ≡ ok (read row s)
loop-done zero row s = rw (eq-eqb (length s) (length s) refl)
loop-done (suc n) row s = rw (le-ltb (length s) (length s) (omega arith), eq-eqb (length s) (length s) refl)

field-read : (old row : ℕ) (s : List ℕ) → row < row_limit → merge_next old (8 ∷ (varint row ++ s)) ≡ ok (read row s)
field-read old row s h =
    let b = varint-short row h in
    let m : row % 4294967296 ≡ row = omega arith in
    rw (within 10 row s (omega arith)) (ap (λ (v : ℕ). ok (read v s)) m)

decoded-zero : (s : List ℕ) → decode_length_delimited (0 ∷ s) ≡ ok (read 0 s)
decoded-zero s =
    let q : length s - 0 ≡ length s = omega arith in
    rw (le-ltb (length s) 0 (omega arith), q) (loop-done (length s) 0 s)

-- one field, which takes up the bytes that there are
one_field : (n row x : ℕ) (t s : List ℕ) → 1 ≤ n → length t + 1 ≡ n + length s → merge_next 0 (x ∷ t) ≡ ok (read row s) → merge_delimited n (x ∷ t) ≡ ok (read row s)
one_field n row x t s p l f =
    let q : length (x ∷ t) - n ≡ length s = omega arith in
    let fits : ltb (length (x ∷ t)) n ≡ false = le-ltb (length (x ∷ t)) n (omega arith) in
    let more : ltb (length s) (length (x ∷ t)) ≡ true = lt-ltb (length s) (length (x ∷ t)) (omega arith) in
    rw (fits, q, more, f) (loop-done (length t) row s)

decoded-more : (row : ℕ) (s : List ℕ) → row < row_limit → decode_length_delimited ((1 + length (varint row)) ∷ (8 ∷ (varint row ++ s))) ≡ ok (read row s)
decoded-more row s h =
    let b = varint-short row h in
    rw (lt-ltb (1 + length (varint row)) 128 (omega arith))
    (one_field (1 + length (varint row)) row 8 (varint row ++ s) s (omega arith) (omega (arith, length-append (varint row) s)) (field-read 0 row s h))

decoded : (row : ℕ) (s : List ℕ) → row < row_limit → decode_length_delimited (record_of row ++ s) ≡ ok (read row s)
decoded row s h =
    by_cases (eqb row 0)
    (λ e. let z = eqb-true row 0 e in rw (z, record-zero) (decoded-zero s))
    (λ e. ap (λ (r : List ℕ). decode_length_delimited (r ++ s)) (record-more row (positive row e) h) ∙ decoded-more row s h)

-- a file that has a byte
all-step : (n : ℕ) (s : List ℕ) → 0 < length s
    → records_within (suc n) s ≡ and_then (decode_length_delimited s) (λ r. and_then (records_within n r.left) (λ rows. ok (r.value ∷ rows)))
all-step n [] h = absurd (omega arith)
all-step n (b ∷ s) h = refl

pub all-decoded : (n : ℕ) (rows : List ℕ) → length (records_of rows) ≤ n → All (λ row. row < row_limit) rows → records_within n (records_of rows) ≡ ok rows
all-decoded zero [] l h = refl
all-decoded (suc n) [] l h = refl
all-decoded zero (row ∷ rows) l h = let b = record-short row h.0 in absurd (omega (arith, length-append (record_of row) (records_of rows)))
all-decoded (suc n) (row ∷ rows) l h =
    let b = record-short row h.0 in
    let a = length-append (record_of row) (records_of rows) in
    all-step n (record_of row ++ records_of rows) (omega arith)
    ∙ ap (λ (o : Outcome Read). and_then o (λ r. and_then (records_within n r.left) (λ l. ok (r.value ∷ l)))) (decoded row (records_of rows) h.0)
    ∙ ap (λ (o : Outcome (List ℕ)). and_then o (λ l. ok (row ∷ l))) (all-decoded n rows (omega arith) h.1)
