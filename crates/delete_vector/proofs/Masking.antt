-- Laws of masks. Assumes nothing.
use Rattle.std.proofs.Common.{◌≡◌, ℕ, zero, suc, ◌+◌, ◌<◌, ◌≤◌, Bool, true, false, cond, ◌&&◌, ◌||◌, eqb, List, [], ◌∷◌, length, get_or, drop, set, sym, refl, ap, ◌∙◌, ap₂, le_of_suc-le-suc, not-suc-le-zero, add-one, arith, drop_of_length-le, drop-cons, eq-eqb, ne_eqb}
use Rattle.std.specs.Prelude.{ltb}
use Rattle.std.specs.Ordering.{nat_cmp, is_lt}
use Rattle.lists.proofs.Tests.{by_cases}
use Rattle.delete_vector.specs.Memory.{is_in}
use Rattle.delete_vector.specs.Mask.{masked}

-- the order of row numbers, as a derived comparison has it
pub is-below : (m n : ℕ) → is_lt (nat_cmp m n) ≡ ltb m n
is-below m n = by_cases (ltb m n) (λ t. rw t) (λ t. by_cases (eqb m n) (λ u. rw (t, u)) (λ u. rw (t, u)))

pub masked-none : (offset : ℕ) (bits : List ℕ) → masked (is_in []) offset bits ≡ bits
masked-none offset [] = refl
masked-none offset (b ∷ bits) = ap (λ (l : List ℕ). b ∷ l) (masked-none (offset + 1) bits)

-- the rows are masked one after another
pub masked-more : (row : ℕ) (rows : List ℕ) (offset : ℕ) (bits : List ℕ) → masked (is_in (row ∷ rows)) offset bits ≡ masked (is_in rows) offset (masked (is_in (row ∷ [])) offset bits)
masked-more row rows offset [] = refl
masked-more row rows offset (b ∷ bits) =
    ap₂ ◌∷◌ (bit (eqb row offset) (is_in rows offset)) (masked-more row rows (offset + 1) bits)
  where
    bit : (p q : Bool) → cond ((p && true) || q) 0 b ≡ cond q 0 (cond ((p && true) || false) 0 b)
    bit true true = refl
    bit true false = refl
    bit false true = refl
    bit false false = refl

-- a row below the offset, and one past the mask
pub masked_below : (row offset : ℕ) (bits : List ℕ) → row < offset → masked (is_in (row ∷ [])) offset bits ≡ bits
masked_below row offset [] h = refl
masked_below row offset (b ∷ bits) h =
    rw (ne_eqb row offset (λ e. omega arith)) (ap (λ (l : List ℕ). b ∷ l) (masked_below row (offset + 1) bits (omega arith)))

pub masked-past : (row offset : ℕ) (bits : List ℕ) → offset + length bits ≤ row → masked (is_in (row ∷ [])) offset bits ≡ bits
masked-past row offset [] h = refl
masked-past row offset (b ∷ bits) h =
    rw (ne_eqb row offset (λ e. omega arith)) (ap (λ (l : List ℕ). b ∷ l) (masked-past row (offset + 1) bits (omega arith)))

-- and one that a bit stands for
pub masked-at : (row offset i : ℕ) (bits : List ℕ) → row ≡ offset + i → i < length bits → masked (is_in (row ∷ [])) offset bits ≡ set bits i 0
masked-at row offset i [] e h = absurd (not-suc-le-zero h)
masked-at row offset zero (b ∷ bits) e h =
    rw (eq-eqb row offset (omega arith)) (ap (λ (l : List ℕ). 0 ∷ l) (masked_below row (offset + 1) bits (omega arith)))
masked-at row offset (suc i) (b ∷ bits) e h =
    rw (ne_eqb row offset (λ q. omega arith)) (ap (λ (l : List ℕ). b ∷ l) (masked-at row (offset + 1) i bits (omega arith) (le_of_suc-le-suc h)))

-- one turn of a loop over the rows
pub masked-turn : (rows : List ℕ) (i offset : ℕ) (bits : List ℕ) → i < length rows
    → masked (is_in (drop i rows)) offset bits ≡ masked (is_in (drop (i + 1) rows)) offset (masked (is_in (get_or rows i 0 ∷ [])) offset bits)
masked-turn rows i offset bits h =
    ap (λ (l : List ℕ). masked (is_in l) offset bits) (drop-cons rows i 0 h)
    ∙ masked-more (get_or rows i 0) (drop (suc i) rows) offset bits
    ∙ ap (λ (k : ℕ). masked (is_in (drop k rows)) offset (masked (is_in (get_or rows i 0 ∷ [])) offset bits)) (sym (add-one i))

pub masked-end : (rows : List ℕ) (i offset : ℕ) (bits : List ℕ) → length rows ≤ i → bits ≡ masked (is_in (drop i rows)) offset bits
masked-end rows i offset bits h =
    sym (ap (λ (l : List ℕ). masked (is_in l) offset bits) (drop_of_length-le rows {i = i} h) ∙ masked-none offset bits)
