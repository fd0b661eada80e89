-- Delete vectors: each turn of the Rust's reader takes a byte, so that the bounds on its loops are none. Assumes nothing.
use mathlib.Core.Path.{◌≡◌, refl, ap, ◌∙◌}
use mathlib.Core.Bool.{Bool, true, false, cond, ◌&&◌, ◌||◌}
use mathlib.Core.List.{List, [], ◌∷◌}
use Prim.Native.Nat.{ℕ, zero, suc, ◌+◌, ◌-◌, ◌*◌, ◌%◌, ◌<◌, ◌≤◌}
use native.Mathlib.Omega.{arith}
use lib.Dec.{ltb, eqb}
use lib.ListN.{length, drop, length-drop}
use borrow.Author.Tests.{le-ltb}
use Rattle.lists.proofs.Tests.{by_cases}
use Rattle.risinglight.specs.Maps.{Outcome, fails, ok, and_then}
use Rattle.risinglight.specs.DeleteVector.{Read, read, varint_within, decode_varint, wire_of, tag_of, decode_key, advance, group_within, skip_group, skip_field, merge_field, merge_next, merged, fields_within, merge_loop, merge_delimited, decode_length_delimited, records_within, decode_all}
use Rattle.risinglight.specs.DeleteVectors.{Loops}

-- Calls that may fail.

pub never : {A : Type 0} {a : A} → fails ≡ ok a → ⊥
never e = let z : ◌≡◌ {A = ℕ} 0 1 = cc in omega arith

the_same : {A : Type 0} {a b : A} → ok a ≡ ok b → a ≡ b
the_same e = cc

module _ {A B : Type 0} where
  first : (o : Outcome A) (f : A → Outcome B) (b : B) → and_then o f ≡ ok b → (a : A) × (o ≡ ok a) × (f a ≡ ok b)
  first fails f b e = absurd (never e)
  first (ok a) f b e = (a, refl, e)

  and_same : (o : Outcome A) (f g : A → Outcome B) → ((a : A) → o ≡ ok a → f a ≡ g a) → and_then o f ≡ and_then o g
  and_same fails f g h = refl
  and_same (ok a) f g h = h a refl

-- a test that did not fail
passed : {A : Type 0} (t : Bool) (o : Outcome A) (a : A) → cond t fails o ≡ ok a → o ≡ ok a
passed true o a e = absurd (never e)
passed false o a e = e

-- What is taken.

varint-takes : (n : ℕ) (buf : List ℕ) (r : Read) → varint_within n buf ≡ ok r → length r.left < length buf
varint-takes zero buf r e = absurd (never e)
varint-takes (suc n) [] r e = absurd (never e)
varint-takes (suc n) (b ∷ buf) r e =
    by_cases (ltb b 128)
    (λ t.
    let s = the_same (passed (eqb n 0 && ltb 1 b) (ok (read b buf)) r (rw t at e)) in
    let l : length buf ≡ length r.left = ap (λ (x : Read). length x.left) s in
    omega arith)
    (λ t.
    let s = first (varint_within n buf) (λ x. ok (read (b % 128 + 128 * x.value) x.left)) r (rw t at e) in
    let l : length s.0.left ≡ length r.left = ap (λ (x : Read). length x.left) (the_same s.2) in
    let g = varint-takes n buf s.0 s.1 in
    omega arith)

key-takes : (buf : List ℕ) (k : Read) → decode_key buf ≡ ok k → length k.left < length buf
key-takes buf k e =
    let s = first (decode_varint buf) (λ x. cond (ltb 4294967295 x.value || (ltb 5 (wire_of x) || eqb (tag_of x) 0)) fails (ok x)) k e in
    let x = s.0 in
    let l : length x.left ≡ length k.left = ap (λ (x : Read). length x.left) (the_same (passed (ltb 4294967295 x.value || (ltb 5 (wire_of x) || eqb (tag_of x) 0)) (ok x) k s.2)) in
    let g = varint-takes 10 buf x s.1 in
    omega arith

advance-takes : (n : ℕ) (buf rest : List ℕ) → advance n buf ≡ ok rest → length rest ≤ length buf
advance-takes n buf rest e =
    let l : length (drop n buf) ≡ length rest = ap length (the_same (passed (ltb (length buf) n) (ok (drop n buf)) rest e)) in
    omega (arith, length-drop n buf)

abbrev Skips : (ℕ → ℕ → List ℕ → Outcome (List ℕ)) → Type 0
Skips skip = (wire tag : ℕ) (buf rest : List ℕ) → skip wire tag buf ≡ ok rest → length rest ≤ length buf

module _ (skip : ℕ → ℕ → List ℕ → Outcome (List ℕ)) (s : Skips skip) where
  abbrev inside : ℕ → (List ℕ → Outcome (List ℕ)) → Read → Outcome (List ℕ)
  inside tag more k = cond (eqb (wire_of k) 4) (cond (eqb (tag_of k) tag) (ok k.left) fails) (and_then (skip (wire_of k) (tag_of k) k.left) more)

  group-takes : (n tag : ℕ) (buf rest : List ℕ) → group_within skip n tag buf ≡ ok rest → length rest ≤ length buf
  group-takes zero tag buf rest e = absurd (never e)
  group-takes (suc n) tag buf rest e =
      let f = first (decode_key buf) (inside tag (λ l. group_within skip n tag l)) rest e in
      let k = f.0 in
      let g = key-takes buf k f.1 in
      by_cases (eqb (wire_of k) 4)
      (λ t. by_cases (eqb (tag_of k) tag)
      (λ u. let l : length k.left ≡ length rest = ap length (the_same (rw (t, u) at f.2)) in omega arith)
      (λ u. absurd (never (rw (t, u) at f.2))))
      (λ t.
      let h = first (skip (wire_of k) (tag_of k) k.left) (λ l. group_within skip n tag l) rest (rw t at f.2) in
      let a = s (wire_of k) (tag_of k) k.left h.0 h.1 in
      let b = group-takes n tag h.0 rest h.2 in
      omega arith)

  group-bound : (n m tag : ℕ) (buf : List ℕ) → length buf ≤ n → length buf ≤ m → group_within skip n tag buf ≡ group_within skip m tag buf
  group-bound zero zero tag buf p q = refl
  group-bound zero (suc m) tag [] p q = refl
  group-bound zero (suc m) tag (b ∷ buf) p q = absurd (omega arith)
  group-bound (suc n) zero tag [] p q = refl
  group-bound (suc n) zero tag (b ∷ buf) p q = absurd (omega arith)
  group-bound (suc n) (suc m) tag buf p q =
      and_same (decode_key buf) (inside tag (λ l. group_within skip n tag l)) (inside tag (λ l. group_within skip m tag l)) (λ k e.
      let g = key-takes buf k e in
      ap (λ (o : Outcome (List ℕ)). cond (eqb (wire_of k) 4) (cond (eqb (tag_of k) tag) (ok k.left) fails) o)
      (and_same (skip (wire_of k) (tag_of k) k.left) (λ l. group_within skip n tag l) (λ l. group_within skip m tag l) (λ l h.
      let a = s (wire_of k) (tag_of k) k.left l h in
      group-bound n m tag l (omega arith) (omega arith))))

  group-loop : (tag : ℕ) (buf : List ℕ) → skip_group skip tag buf ≡ and_then (decode_key buf) (inside tag (λ l. skip_group skip tag l))
  group-loop tag buf =
      group-bound (length buf) (suc (length buf)) tag buf (omega arith) (omega arith)
      ∙ and_same (decode_key buf) (inside tag (λ l. group_within skip (length buf) tag l)) (inside tag (λ l. skip_group skip tag l)) (λ k e.
      let g = key-takes buf k e in
      ap (λ (o : Outcome (List ℕ)). cond (eqb (wire_of k) 4) (cond (eqb (tag_of k) tag) (ok k.left) fails) o)
      (and_same (skip (wire_of k) (tag_of k) k.left) (λ l. group_within skip (length buf) tag l) (λ l. skip_group skip tag l) (λ l h.
      let a = s (wire_of k) (tag_of k) k.left l h in
      group-bound (length buf) (length l) tag l (omega arith) (omega arith))))

field-skips : (depth : ℕ) → Skips (skip_field depth)
field-skips zero wire tag buf rest e = absurd (never e)
field-skips (suc depth) wire tag buf rest e =
    by_cases (eqb wire 0)
    (λ t.
    let f = first (decode_varint buf) (λ r. ok r.left) rest (rw t at e) in
    let g = varint-takes 10 buf f.0 f.1 in
    let l : length f.0.left ≡ length rest = ap length (the_same f.2) in
    omega arith)
    (λ t0. by_cases (eqb wire 1)
    (λ t. advance-takes 8 buf rest (rw (t0, t) at e))
    (λ t1. by_cases (eqb wire 2)
    (λ t.
    let f = first (decode_varint buf) (λ r. advance r.value r.left) rest (rw (t0, t1, t) at e) in
    let g = varint-takes 10 buf f.0 f.1 in
    let a = advance-takes f.0.value f.0.left rest f.2 in
    omega arith)
    (λ t2. by_cases (eqb wire 3)
    (λ t. group-takes (skip_field depth) (field-skips depth) (length buf) tag buf rest (rw (t0, t1, t2, t) at e))
    (λ t3. by_cases (eqb wire 5)
    (λ t. advance-takes 4 buf rest (rw (t0, t1, t2, t3, t) at e))
    (λ t5. absurd (never (rw (t0, t1, t2, t3, t5) at e)))))))

field-takes : (row : ℕ) (k r : Read) → merge_field row k ≡ ok r → length r.left ≤ length k.left
field-takes row k r e =
    by_cases (eqb (tag_of k) 1)
    (λ t. by_cases (eqb (wire_of k) 0)
    (λ u.
    let h = first (decode_varint k.left) (λ x. ok (read (x.value % 4294967296) x.left)) r (rw (t, u) at e) in
    let g = varint-takes 10 k.left h.0 h.1 in
    let l : length h.0.left ≡ length r.left = ap (λ (x : Read). length x.left) (the_same h.2) in
    omega arith)
    (λ u. absurd (never (rw (t, u) at e))))
    (λ t.
    let h = first (skip_field 99 (wire_of k) (tag_of k) k.left) (λ rest. ok (read row rest)) r (rw t at e) in
    let g = field-skips 99 (wire_of k) (tag_of k) k.left h.0 h.1 in
    let l : length h.0 ≡ length r.left = ap (λ (x : Read). length x.left) (the_same h.2) in
    omega arith)

next-takes : (row : ℕ) (buf : List ℕ) (r : Read) → merge_next row buf ≡ ok r → length r.left < length buf
next-takes row buf r e =
    let f = first (decode_key buf) (λ k. merge_field row k) r e in
    let g = key-takes buf f.0 f.1 in
    let h = field-takes row f.0 r f.2 in
    omega arith

merged-takes : (limit row : ℕ) (buf : List ℕ) (r : Read) → merged limit row buf ≡ ok r → length r.left ≤ length buf
merged-takes limit row buf r e =
    by_cases (eqb (length buf) limit)
    (λ t. let l : length buf ≡ length r.left = ap (λ (x : Read). length x.left) (the_same (rw t at e)) in omega arith)
    (λ t. absurd (never (rw t at e)))

fields-take : (n limit row : ℕ) (buf : List ℕ) (r : Read) → fields_within n limit row buf ≡ ok r → length r.left ≤ length buf
fields-take zero limit row buf r e = merged-takes limit row buf r e
fields-take (suc n) limit row buf r e =
    by_cases (ltb limit (length buf))
    (λ t.
    let f = first (merge_next row buf) (λ x. fields_within n limit x.value x.left) r (rw t at e) in
    let g = next-takes row buf f.0 f.1 in
    let h = fields-take n limit f.0.value f.0.left r f.2 in
    omega arith)
    (λ t. merged-takes limit row buf r (rw t at e))

fields-bound : (n m limit row : ℕ) (buf : List ℕ) → length buf ≤ n → length buf ≤ m → fields_within n limit row buf ≡ fields_within m limit row buf
fields-bound zero zero limit row buf p q = refl
fields-bound zero (suc m) limit row [] p q = rw (le-ltb limit 0 (omega arith))
fields-bound zero (suc m) limit row (b ∷ buf) p q = absurd (omega arith)
fields-bound (suc n) zero limit row [] p q = rw (le-ltb limit 0 (omega arith))
fields-bound (suc n) zero limit row (b ∷ buf) p q = absurd (omega arith)
fields-bound (suc n) (suc m) limit row buf p q =
    ap (λ (o : Outcome Read). cond (ltb limit (length buf)) o (merged limit row buf))
    (and_same (merge_next row buf) (λ x. fields_within n limit x.value x.left) (λ x. fields_within m limit x.value x.left) (λ x e.
    let g = next-takes row buf x e in
    fields-bound n m limit x.value x.left (omega arith) (omega arith)))

fields-loop : (limit row : ℕ) (buf : List ℕ)
    → merge_loop limit row buf ≡ cond (ltb limit (length buf)) (and_then (merge_next row buf) (λ r. merge_loop limit r.value r.left)) (merged limit row buf)
fields-loop limit row buf =
    fields-bound (length buf) (suc (length buf)) limit row buf (omega arith) (omega arith)
    ∙ ap (λ (o : Outcome Read). cond (ltb limit (length buf)) o (merged limit row buf))
    (and_same (merge_next row buf) (λ x. fields_within (length buf) limit x.value x.left) (λ x. merge_loop limit x.value x.left) (λ x e.
    let g = next-takes row buf x e in
    fields-bound (length buf) (length x.left) limit x.value x.left (omega arith) (omega arith)))

record-takes : (buf : List ℕ) (r : Read) → decode_length_delimited buf ≡ ok r → length r.left < length buf
record-takes buf r e =
    let f = first (decode_varint buf) (λ x. merge_delimited x.value x.left) r e in
    let x = f.0 in
    let g = varint-takes 10 buf x f.1 in
    let n = length x.left in
    let h = fields-take n (n - x.value) 0 x.left r (passed (ltb n x.value) (merge_loop (n - x.value) 0 x.left) r f.2) in
    omega arith

records-bound : (n m : ℕ) (buf : List ℕ) → length buf ≤ n → length buf ≤ m → records_within n buf ≡ records_within m buf
records-bound zero zero buf p q = refl
records-bound zero (suc m) [] p q = refl
records-bound zero (suc m) (b ∷ buf) p q = absurd (omega arith)
records-bound (suc n) zero [] p q = refl
records-bound (suc n) zero (b ∷ buf) p q = absurd (omega arith)
records-bound (suc n) (suc m) [] p q = refl
records-bound (suc n) (suc m) (b ∷ buf) p q =
    and_same (decode_length_delimited (b ∷ buf))
    (λ r. and_then (records_within n r.left) (λ rows. ok (r.value ∷ rows)))
    (λ r. and_then (records_within m r.left) (λ rows. ok (r.value ∷ rows)))
    (λ r e.
    let g = record-takes (b ∷ buf) r e in
    ap (λ (o : Outcome (List ℕ)). and_then o (λ rows. ok (r.value ∷ rows))) (records-bound n m r.left (omega arith) (omega arith)))

records-loop : (b : ℕ) (buf : List ℕ)
    → decode_all (b ∷ buf) ≡ and_then (decode_length_delimited (b ∷ buf)) (λ r. and_then (decode_all r.left) (λ rows. ok (r.value ∷ rows)))
records-loop b buf =
    and_same (decode_length_delimited (b ∷ buf))
    (λ r. and_then (records_within (length buf) r.left) (λ rows. ok (r.value ∷ rows)))
    (λ r. and_then (decode_all r.left) (λ rows. ok (r.value ∷ rows)))
    (λ r e.
    let g = record-takes (b ∷ buf) r e in
    ap (λ (o : Outcome (List ℕ)). and_then o (λ rows. ok (r.value ∷ rows))) (records-bound (length buf) (length r.left) r.left (omega arith) (omega arith)))

pub loops : Loops
loops = record {
  groups = λ depth tag buf. group-loop (skip_field depth) (field-skips depth) tag buf;
  fields = fields-loop;
  records = records-loop;
}
