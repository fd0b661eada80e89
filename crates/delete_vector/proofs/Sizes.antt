-- The sizes of a varint and of a record are those of the formulas. Assumes nothing.
use Rattle.std.proofs.Common.{◌≡◌, ℕ, zero, suc, ◌+◌, ◌*◌, ◌/◌, ◌^◌, ◌<◌, ◌≤◌, ltb, [], ◌∷◌, length, refl, ap, arith, ltb-false, ltb-true, ne_eqb}
use native.Mathlib.Nat.{pow-suc}
use lib.Count.{count_leading_zeros, leading_length}
use Rattle.std.specs.Int.{div_ceil}
use Rattle.lists.proofs.Tests.{by_cases}
use Rattle.delete_vector.specs.Encoding.{varint, uint_field, delimited}
use Rattle.delete_vector.specs.Records.{row_limit, record_of}
use Rattle.delete_vector.specs.Sizes.{bits_by, significant_bits, varint_size, record_size}
use Rattle.delete_vector.proofs.Encoding.{varint-small, varint-big}

-- a count of bits does not depend on the bound
none : (f : ℕ) → bits_by f 0 ≡ 0
unfolding bits_by
none zero = refl
none (suc f) = refl

bound : (f g n : ℕ) → n ≤ f → n ≤ g → bits_by f n ≡ bits_by g n
unfolding bits_by
bound zero zero n p q = refl
bound zero (suc g) zero p q = refl
bound zero (suc g) (suc n) p q = absurd (omega arith)
bound (suc f) zero zero p q = refl
bound (suc f) zero (suc n) p q = absurd (omega arith)
bound (suc f) (suc g) zero p q = refl
bound (suc f) (suc g) (suc n) p q = ap (λ (b : ℕ). 1 + b) (bound f g (suc n / 2) (omega arith) (omega arith))

-- zero has no bits, and halving takes one off
pub bits-zero : significant_bits 0 ≡ 0
unfolding significant_bits
bits-zero = none 0

pub bits-half : (n : ℕ) → 0 < n → significant_bits n ≡ 1 + significant_bits (n / 2)
unfolding significant_bits bits_by
bits-half zero p = absurd (omega arith)
bits-half (suc n) p = ap (λ (b : ℕ). 1 + b) (bound n (suc n / 2) (suc n / 2) (omega arith) (omega arith))

-- the zeros before the significant bits of a number of k bits are the rest
pub zeros-bits : (k n : ℕ) → n < 2 ^ k → count_leading_zeros k n + significant_bits n ≡ k
unfolding count_leading_zeros
zeros-bits zero zero h = rw bits-zero
zeros-bits zero (suc n) h = absurd (omega arith)
zeros-bits (suc k) zero h = rw bits-zero (omega arith)
zeros-bits (suc k) (suc n) h =
    let p = pow-suc 2 k in
    let e = zeros-bits k (suc n / 2) (omega arith) in
    let b = bits-half (suc n) (omega arith) in
    omega arith

-- the bits of a number are those that it needs
below : (n : ℕ) → n < 2 ^ n
below zero = omega arith
below (suc n) = let p = pow-suc 2 n in let h = below n in omega arith

pub bits-counted : (n : ℕ) → (n < 2 ^ significant_bits n) × (2 ^ significant_bits n ≤ 2 * n + 1)
bits-counted n =
    let l = leading_length n n (below n) in
    let z = zeros-bits n n (below n) in
    let e : significant_bits n ≡ l.0 = let q = l.1 in omega arith in
    rw e (l.2, l.3)

pub bits-within : (k n : ℕ) → n < 2 ^ k → significant_bits n ≤ k
bits-within k n h = let e = zeros-bits k n h in omega arith

-- each group of a varint takes seven bits off
seven : (n : ℕ) → 128 ≤ n → significant_bits n ≡ 7 + significant_bits (n / 128)
seven n h =
    let a = bits-half n (omega arith) in
    let b = bits-half (n / 2) (omega arith) in
    let c = bits-half (n / 2 / 2) (omega arith) in
    let d = bits-half (n / 2 / 2 / 2) (omega arith) in
    let e = bits-half (n / 2 / 2 / 2 / 2) (omega arith) in
    let f = bits-half (n / 2 / 2 / 2 / 2 / 2) (omega arith) in
    let g = bits-half (n / 2 / 2 / 2 / 2 / 2 / 2) (omega arith) in
    let r : n / 2 / 2 / 2 / 2 / 2 / 2 / 2 ≡ n / 128 = omega arith in
    let q = ap significant_bits r in
    omega arith

groups-by : (f n : ℕ) → n ≤ f → 0 < n → length (varint n) ≡ div_ceil (significant_bits n) 7
groups-by zero n l p = absurd (omega arith)
groups-by (suc f) n l p =
    by_cases (ltb n 128)
    (λ e. let h = ltb-true n 128 e in
    let b = bits-half n p in
    let w = bits-within 7 n h in
    rw (varint-small n h) (omega arith))
    (λ e. let h = ltb-false n 128 e in
    let s = seven n h in
    let r = groups-by f (n / 128) (omega arith) (omega arith) in
    rw (varint-big n h) (omega arith))

pub varint-groups : (n : ℕ) → 0 < n → length (varint n) ≡ div_ceil (significant_bits n) 7
varint-groups n p = groups-by n n (omega arith) p

pub varint-size : (n : ℕ) → length (varint n) ≡ varint_size n
unfolding varint_size
varint-size zero = ap length (varint-small 0 (omega arith))
varint-size (suc n) = rw (ne_eqb (suc n) 0 (λ e. omega arith)) (varint-groups (suc n) (omega arith))

pub varint-short : (n : ℕ) → n < row_limit → (1 ≤ length (varint n)) × (length (varint n) ≤ 5)
varint-short zero h = rw (varint-small 0 (omega arith)) (omega arith, omega arith)
varint-short (suc n) h =
    let l = varint-groups (suc n) (omega arith) in
    let b = bits-half (suc n) (omega arith) in
    let w = bits-within 32 (suc n) h in
    (omega arith, omega arith)

-- a record's bytes
pub record-zero : record_of 0 ≡ 0 ∷ []
unfolding record_of delimited uint_field
record-zero = rw (varint-small 0 (omega arith))

pub record-more : (row : ℕ) → 0 < row → row < row_limit → record_of row ≡ (1 + length (varint row)) ∷ (8 ∷ varint row)
unfolding record_of delimited uint_field
record-more row p h =
    let b = varint-short row h in
    rw (ne_eqb row 0 (λ e. omega arith), varint-small 8 (omega arith), varint-small (length (8 ∷ varint row)) (omega arith)) (ap (λ (x : ℕ). x ∷ (8 ∷ varint row)) (omega arith))

-- their number is what the formula says
pub record-size : (row : ℕ) → row < row_limit → length (record_of row) ≡ record_size row
unfolding record_size
record-size zero h = ap length record-zero
record-size (suc row) h = let v = varint-size (suc row) in rw (record-more (suc row) (omega arith) h, ne_eqb (suc row) 0 (λ e. omega arith)) (omega arith)

pub record-short : (row : ℕ) → row < row_limit → (1 ≤ length (record_of row)) × (length (record_of row) ≤ 7)
record-short zero h = rw record-zero (omega arith, omega arith)
record-short (suc row) h = let b = varint-short (suc row) h in rw (record-more (suc row) (omega arith) h) (omega arith, omega arith)
