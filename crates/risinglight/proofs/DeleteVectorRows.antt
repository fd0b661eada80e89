-- Delete vectors: rows in memory, and the masks that they clear. Assumes nothing.
use mathlib.Core.Path.{◌≡◌, refl, sym, ap, ◌∙◌}
use mathlib.Core.Bool.{Bool, true, false, ◌&&◌, ◌||◌, true≢false, or_self_left}
use mathlib.Core.List.{List, [], ◌∷◌, map}
use Prim.Native.Nat.{ℕ, ◌+◌, ◌%◌, ◌<◌, ◌≤◌}
use native.Mathlib.Omega.{arith}
use lib.Dec.{ltb, leb, eqb}
use borrow.Author.Tests.{lt-ltb, ltb-true, ltb-false, leb-true, leb-false, eqb-true, eqb-false, ne_eqb}
use Rattle.lists.specs.Keyed.{above, ascending}
use Rattle.lists.proofs.Tests.{by_cases, or_swap, both}
use Rattle.delete_vector.specs.Records.{row_limit}
use Rattle.delete_vector.specs.Memory.{row_key, is_in, in_memory}
use Rattle.delete_vector.specs.Mask.{masked}
use Rattle.delete_vector.specs.Laws.{are_rows}
use Rattle.delete_vector.proofs.Masking.{masked-more, masked_below}
use Rattle.delete_vector.proofs.Together.{laws-hold}
use Rattle.risinglight.specs.DeleteVector.{sorted_in, sort_unstable, dedup_after, dedup, new, cleared, apply_to}
use Rattle.risinglight.specs.DeleteVectors.{is_set}

-- In memory.

-- no row is below the one before it, from x on
abbrev From : ℕ → List ℕ → Type 0
From x [] = Unit {0}
From x (y ∷ l) = (x ≤ y) × From y l

in-from : (z x : ℕ) (l : List ℕ) → z ≤ x → From z l → From z (sorted_in x l)
in-from z x [] h s = (h, tt)
in-from z x (y ∷ l) h s =
    by_cases (leb x y)
    (λ e. rw e (h, (leb-true x y e, s.1)))
    (λ e. rw e (s.0, in-from y x l (let g = leb-false x y e in omega arith) s.1))

sort-from : (l : List ℕ) → From 0 (sort_unstable l)
sort-from [] = tt
sort-from (x ∷ l) = in-from 0 x (sort_unstable l) (omega arith) (sort-from l)

after-above : (x : ℕ) (l : List ℕ) → From x l → above row_key (row_key x) (dedup_after x l) ≡ true
after-above x [] s = refl
after-above x (y ∷ l) s =
    by_cases (eqb y x)
    (λ e. rw e (after-above x l (rw (eqb-true y x e) at s.1)))
    (λ e.
    let n = eqb-false y x e in
    let h = s.0 in
    let g : x < y = by_cases (ltb x y) (ltb-true x y) (λ t. absurd (n (omega (arith, ltb-false x y t)))) in
    rw (e, lt-ltb x y g) (after-above y l s.1))

dedup-ascends : (l : List ℕ) → From 0 l → ascending row_key (dedup l) ≡ true
dedup-ascends [] s = refl
dedup-ascends (x ∷ l) s = after-above x l s.1

in-same : (x row : ℕ) (l : List ℕ) → is_in (sorted_in x l) row ≡ is_in (x ∷ l) row
in-same x row [] = refl
in-same x row (y ∷ l) =
    by_cases (leb x y)
    (λ e. rw e)
    (λ e. rw (e, in-same x row l) (or_swap (eqb y row && true) (eqb x row && true) (is_in l row)))

sort-same : (row : ℕ) (l : List ℕ) → is_in (sort_unstable l) row ≡ is_in l row
sort-same row [] = refl
sort-same row (x ∷ l) = in-same x row (sort_unstable l) ∙ ap (λ (b : Bool). (eqb x row && true) || b) (sort-same row l)

after_same : (x row : ℕ) (l : List ℕ) → is_in (x ∷ dedup_after x l) row ≡ is_in (x ∷ l) row
after_same x row [] = refl
after_same x row (y ∷ l) =
    by_cases (eqb y x)
    (λ e. rw (e, eqb-true y x e) (after_same x row l ∙ sym (or_self_left (eqb x row && true) (is_in l row))))
    (λ e. rw e (ap (λ (b : Bool). (eqb x row && true) || b) (after_same y row l)))

dedup_same : (row : ℕ) (l : List ℕ) → is_in (dedup l) row ≡ is_in l row
dedup_same row [] = refl
dedup_same row (x ∷ l) = after_same x row l

pub new-memory : (rows : List ℕ) → new rows ≡ in_memory rows
new-memory rows =
    sym (laws-hold.own_form (new rows) (dedup-ascends (sort_unstable rows) (sort-from rows)))
    ∙ laws-hold.one_form (new rows) rows (λ row. dedup_same row (sort_unstable rows) ∙ sort-same row rows)

-- Masks.

-- row numbers that rise, none below n
abbrev Up : ℕ → List ℕ → Type 0
Up n [] = Unit {0}
Up n (x ∷ l) = (n ≤ x) × (x < row_limit) × Up (x + 1) l

above-up : (x : ℕ) (l : List ℕ) → are_rows l ≡ true → above row_key (row_key x) l ≡ true → Up (x + 1) l
above-up x [] r a = tt
above-up x (y ∷ l) r a =
    let p = both (ltb y row_limit) (are_rows l) r in
    let q = both (ltb x y || (eqb x y && false)) (above row_key (row_key y) l) a in
    let h : x < y = by_cases (ltb x y) (ltb-true x y) (λ e. absurd (not-less (eqb x y) (rw e at q.0))) in
    (omega arith, ltb-true y row_limit p.0, above-up y l p.1 q.1)
  where
    not-less : (b : Bool) → b && false ≡ true → ⊥
    not-less true h = true≢false (sym h)
    not-less false h = true≢false (sym h)

ascending-up : (rows : List ℕ) → are_rows rows ≡ true → ascending row_key rows ≡ true → Up 0 rows
ascending-up [] r a = tt
ascending-up (x ∷ l) r a =
    let p = both (ltb x row_limit) (are_rows l) r in
    (omega arith, ltb-true x row_limit p.0, above-up x l p.1 a)

up-absent : (n row : ℕ) (l : List ℕ) → row < n → Up n l → is_in l row ≡ false
up-absent n row [] h u = refl
up-absent n row (x ∷ l) h u =
    let g = u.0 in
    rw (ne_eqb x row (λ e. omega arith)) (up-absent (x + 1) row l (omega arith) u.2)

-- rows below the offset clear nothing
skipped : (row offset : ℕ) (l bytes : List ℕ) → row < offset → masked (is_in (row ∷ l)) offset bytes ≡ masked (is_in l) offset bytes
skipped row offset l bytes h = masked-more row l offset bytes ∙ ap (masked (is_in l) offset) (masked_below row offset bytes h)

walk : (iter : List ℕ) (row : ℕ) (bytes : List ℕ) → Up row iter → cleared iter row (map is_set bytes) ≡ map is_set (masked (is_in iter) row bytes)
walk [] row [] u = refl
walk (x ∷ iter) row [] u = refl
walk [] row (b ∷ bytes) u = ap (λ (l : List Bool). is_set b ∷ l) (walk [] (row + 1) bytes tt)
walk (x ∷ iter) row (b ∷ bytes) u =
    let g = u.0 in
    let k = u.1 in
    let m : row % 4294967296 ≡ row = omega arith in
    by_cases (eqb x row)
    (λ e.
    let z = eqb-true x row e in
    let v : Up (row + 1) iter = rw (← z) u.2 in
    rw (m, e) (ap (λ (l : List Bool). false ∷ l) (walk iter (row + 1) bytes v ∙ ap (map is_set) (sym (skipped x (row + 1) iter bytes (omega arith))))))
    (λ e.
    let n = eqb-false x row e in
    let h : row + 1 ≤ x = by_cases (ltb row x) (λ t. let w = ltb-true row x t in omega arith) (λ t. absurd (n (omega (arith, ltb-false row x t)))) in
    rw (m, e, up-absent (x + 1) row iter (omega arith) u.2)
    (ap (λ (l : List Bool). is_set b ∷ l) (walk (x ∷ iter) (row + 1) bytes (h, k, u.2))))

applied : (n : ℕ) (rows bytes : List ℕ) (offset : ℕ) → Up n rows → apply_to rows (map is_set bytes) offset ≡ map is_set (masked (is_in rows) offset bytes)
applied n [] bytes offset u = walk [] offset bytes tt
applied n (x ∷ l) bytes offset u =
    by_cases (ltb x offset)
    (λ e. rw e (applied (x + 1) l bytes offset u.2 ∙ ap (map is_set) (sym (skipped x offset l bytes (ltb-true x offset e)))))
    (λ e. rw e (walk (x ∷ l) offset bytes (ltb-false x offset e, u.1, u.2)))

pub mask-applied : (rows bytes : List ℕ) (offset : ℕ) → are_rows rows ≡ true → ascending row_key rows ≡ true
    → apply_to rows (map is_set bytes) offset ≡ map is_set (masked (is_in rows) offset bytes)
mask-applied rows bytes offset r a = applied 0 rows bytes offset (ascending-up rows r a)
