-- Laws of a line's text: its length, and which bytes it has not. Assumes nothing.
use mathlib.Core.Path.{◌≡◌, refl, ap, ◌∙◌}
use mathlib.Core.Bool.{true, false, ◌&&◌}
use mathlib.Core.List.{List, [], ◌∷◌, ◌++◌, append_assoc, append-nil}
use Prim.Native.Nat.{ℕ, suc, ◌+◌, ◌<◌, ◌≤◌}
use native.Mathlib.Omega.{arith}
use lib.Dec.{leb, eqb}
use lib.ListN.{get_or, take, drop, take-append-drop, length, length-append}
use lib.Seq.{take-suc, take_all}
use native.Mathlib.Numerals.{add-one}
use borrow.Author.Tests.{leb-true, ltb-true}
use Rattle.lists.specs.Keyed.{any_of}
use Rattle.lists.proofs.Keyed.{any_of-append}
use Rattle.lists.proofs.Tests.{both}
use Rattle.ids.specs.Ids.{is_id32, is_id64}
use Rattle.ids.proofs.Names.{name-room}
use Rattle.text.specs.Class.{is_digit, is_lower, is_newline, is_mark}
use Rattle.text.specs.Decimal.{digits}
use Rattle.text.specs.Name.{is_name_byte, is_name}
use Rattle.text.proofs.Round.{digits-32, digits-64, digits-without}
use Rattle.text.proofs.Names.{name-length, name-without}
use Rattle.manifest.specs.Operations.{Operation, create_table, drop_table, add_rowset, delete_rowset, add_vector, delete_vector, next_ids, well_formed}
use Rattle.manifest.specs.Lines.{fields_text, text_of}

pub text-one : (n : ℕ) → fields_text (n ∷ []) ≡ (44 ∷ []) ++ digits n
unfolding fields_text
text-one n = rw append-nil

pub fields-append : (ns ms : List ℕ) → fields_text (ns ++ ms) ≡ fields_text ns ++ fields_text ms
unfolding fields_text
fields-append [] ms = refl
fields-append (n ∷ ns) ms = rw (fields-append ns ms, append_assoc)

pub length-one : (n : ℕ) → length (fields_text (n ∷ [])) ≡ 1 + length (digits n)
length-one n = rw text-one (omega arith)

pub length_fields : (ns ms : List ℕ) → length (fields_text (ns ++ ms)) ≡ length (fields_text ns) + length (fields_text ms)
length_fields ns ms = rw fields-append (length-append (fields_text ns) (fields_text ms))

pub length_two : (x y : ℕ) → length (fields_text (x ∷ y ∷ [])) ≡ 2 + length (digits x) + length (digits y)
length_two x y = omega (arith, length_fields (x ∷ []) (y ∷ []), length-one x, length-one y)

pub length_three : (x y z : ℕ) → length (fields_text (x ∷ y ∷ z ∷ [])) ≡ 3 + length (digits x) + length (digits y) + length (digits z)
length_three x y z = omega (arith, length_fields (x ∷ y ∷ []) (z ∷ []), length_two x y, length-one z)

-- one field more
pub fields_none : fields_text [] ≡ []
unfolding fields_text
fields_none = refl

pub fields_more : (ns : List ℕ) (i : ℕ) → i < length ns → fields_text (take (i + 1) ns) ≡ fields_text (take i ns) ++ (44 ∷ digits (get_or ns i 0))
fields_more ns i h = rw (add-one, take-suc ns i 0 h, fields-append (take i ns) (get_or ns i 0 ∷ []), text-one)

pub fields_all : (ns : List ℕ) (i : ℕ) → length ns ≤ i → fields_text (take i ns) ≡ fields_text ns
fields_all ns i h = rw (take_all i ns h)

-- the fields up to a place are no longer than all
pub fields-room : (ns : List ℕ) (i : ℕ) → length (fields_text (take i ns)) + length (fields_text (drop i ns)) ≡ length (fields_text ns)
fields-room ns i = rw (← length_fields (take i ns) (drop i ns), take-append-drop)

pub lengths : (a b : List ℕ) → length (a ++ b) ≡ length a + length b
lengths a b = length-append a b

pub ruleset fields_steps = (fields_none, fields_more, fields_all, fields-room, lengths, digits-64)

-- a field within all
pub fields-text-room : (ns : List ℕ) (i : ℕ) → i < length ns
    → length (fields_text (take i ns)) + suc (length (digits (get_or ns i 0))) ≤ length (fields_text ns)
fields-text-room ns i h =
    let m = ap length (fields_more ns i h) ∙ lengths (fields_text (take i ns)) (44 ∷ digits (get_or ns i 0)) in
    omega (arith, fields-room ns (i + 1), m)

-- how long each text is
pub ruleset text_lengths = (length-one, length_two, length_three, digits-32, digits-64, name-room, lengths)

-- Lengths: T is at most 56 bytes, X 12, A and D 23, V, W and N 44.
module _ (x y : ℕ) (p : x ≤ 4294967295) (q : y ≤ 4294967295) where
  two-room : length (fields_text (x ∷ y ∷ [])) ≤ 22
  two-room = omega (arith, length_two x y, digits-32 x p, digits-32 y q)

  three-room : (z : ℕ) → z ≤ 18446744073709551615 → length (fields_text (x ∷ y ∷ z ∷ [])) ≤ 43
  three-room z r = omega (arith, length_three x y z, digits-32 x p, digits-32 y q, digits-64 z r)

  pub create-room : (n : List ℕ) → length n ≤ 32 → length (text_of (create_table x y n)) ≤ 56
  unfolding text_of
  create-room n h = omega (arith, two-room, length-append (fields_text (x ∷ y ∷ [])) (44 ∷ n))

  pub add-room : length (text_of (add_rowset x y)) ≤ 23
  unfolding text_of
  add-room = omega (arith, two-room)

  pub delete-room : length (text_of (delete_rowset x y)) ≤ 23
  unfolding text_of
  delete-room = omega (arith, two-room)

  pub add-vector-room : (z : ℕ) → z ≤ 18446744073709551615 → length (text_of (add_vector x y z)) ≤ 44
  unfolding text_of
  add-vector-room z r = omega (arith, three-room z r)

  pub delete-vector-room : (z : ℕ) → z ≤ 18446744073709551615 → length (text_of (delete_vector x y z)) ≤ 44
  unfolding text_of
  delete-vector-room z r = omega (arith, three-room z r)

  pub next-room : (z : ℕ) → z ≤ 18446744073709551615 → length (text_of (next_ids x y z)) ≤ 44
  unfolding text_of
  next-room z r = omega (arith, three-room z r)

pub drop-room : (x : ℕ) → x ≤ 4294967295 → length (text_of (drop_table x)) ≤ 12
unfolding text_of
drop-room x p = omega (arith, length-one x, digits-32 x p)

-- what well-formed numbers are
pub id-32 : (n : ℕ) → is_id32 n ≡ true → n ≤ 4294967294
id-32 n h = omega (arith, ltb-true n 4294967295 h)

pub id-64 : (n : ℕ) → is_id64 n ≡ true → n ≤ 18446744073709551614
id-64 n h = omega (arith, ltb-true n 18446744073709551615 h)

module _ (t r : ℕ) (h : is_id32 t && is_id32 r ≡ true) where
  pub pair-ids : (t ≤ 4294967294) × (r ≤ 4294967294)
  pair-ids = let w = both (is_id32 t) (is_id32 r) h in (id-32 t w.0, id-32 r w.1)

module _ (t r v : ℕ) (h : is_id32 t && (is_id32 r && is_id64 v) ≡ true) where
  pub vector-ids : (t ≤ 4294967294) × (r ≤ 4294967294) × (v ≤ 18446744073709551614)
  vector-ids =
      let w = both (is_id32 t) (is_id32 r && is_id64 v) h in
      let u = both (is_id32 r) (is_id64 v) w.1 in
      (id-32 t w.0, id-32 r u.0, id-64 v u.1)

module _ (t r v : ℕ) (h : leb t 4294967295 && (leb r 4294967295 && leb v 18446744073709551615) ≡ true) where
  pub next-values : (t ≤ 4294967295) × (r ≤ 4294967295) × (v ≤ 18446744073709551615)
  next-values =
      let w = both (leb t 4294967295) (leb r 4294967295 && leb v 18446744073709551615) h in
      let u = both (leb r 4294967295) (leb v 18446744073709551615) w.1 in
      (leb-true t 4294967295 w.0, leb-true r 4294967295 u.0, leb-true v 18446744073709551615 u.1)

module _ (t h : ℕ) (n : List ℕ) (e : is_id32 t && (leb h 4294967295 && is_name n) ≡ true) where
  pub table-values : (t ≤ 4294967294) × (h ≤ 4294967295) × (is_name n ≡ true)
  table-values =
      let w = both (is_id32 t) (leb h 4294967295 && is_name n) e in
      let u = both (leb h 4294967295) (is_name n) w.1 in
      (id-32 t w.0, leb-true h 4294967295 u.0, u.1)

-- a well-formed operation's text has at most 56 bytes
pub text-room : (o : Operation) → well_formed o ≡ true → length (text_of o) ≤ 56
text-room (create_table t h n) e = let w = table-values t h n e in create-room t h (omega arith) w.1 n (name-length n w.2).1
text-room (drop_table t) e = omega (arith, drop-room t (omega (arith, id-32 t e)))
text-room (add_rowset t r) e = let w = pair-ids t r e in omega (arith, add-room t r (omega arith) (omega arith))
text-room (delete_rowset t r) e = let w = pair-ids t r e in omega (arith, delete-room t r (omega arith) (omega arith))
text-room (add_vector t r v) e = let w = vector-ids t r v e in omega (arith, add-vector-room t r (omega arith) (omega arith) v (omega arith))
text-room (delete_vector t r v) e = let w = vector-ids t r v e in omega (arith, delete-vector-room t r (omega arith) (omega arith) v (omega arith))
text-room (next_ids t r v) e = let w = next-values t r v e in omega (arith, next-room t r w.0 w.1 v w.2)

-- and no byte that is neither a letter, a comma nor in a name
module _ (c : ℕ) (n : is_name_byte c ≡ false) (k : eqb 44 c ≡ false) where
  fields-without : (ns : List ℕ) → any_of (λ b. eqb b c) (fields_text ns) ≡ false
  unfolding fields_text
  fields-without [] = refl
  fields-without (x ∷ ns) = rw (k, any_of-append (λ b. eqb b c) (digits x) (fields_text ns), digits-without c x n) (fields-without ns)

  module _ (t : eqb 84 c ≡ false) (x : eqb 88 c ≡ false) (a : eqb 65 c ≡ false) (d : eqb 68 c ≡ false) (v : eqb 86 c ≡ false) (w : eqb 87 c ≡ false) (m : eqb 78 c ≡ false) where
    text-without : (o : Operation) → well_formed o ≡ true → any_of (λ b. eqb b c) (text_of o) ≡ false
    unfolding text_of
    text-without (create_table i h s) e =
        let u = table-values i h s e in
        rw (t, any_of-append (λ b. eqb b c) (fields_text (i ∷ h ∷ [])) (44 ∷ s), fields-without (i ∷ h ∷ []), k) (name-without s c n u.2)
    text-without (drop_table i) e = rw x (fields-without (i ∷ []))
    text-without (add_rowset i r) e = rw a (fields-without (i ∷ r ∷ []))
    text-without (delete_rowset i r) e = rw d (fields-without (i ∷ r ∷ []))
    text-without (add_vector i r z) e = rw v (fields-without (i ∷ r ∷ z ∷ []))
    text-without (delete_vector i r z) e = rw w (fields-without (i ∷ r ∷ z ∷ []))
    text-without (next_ids i r z) e = rw m (fields-without (i ∷ r ∷ z ∷ []))

pub text-newline : (o : Operation) → well_formed o ≡ true → any_of is_newline (text_of o) ≡ false
unfolding is_name_byte is_digit is_lower
text-newline o e = text-without 10 refl refl refl refl refl refl refl refl refl o e

pub text-mark : (o : Operation) → well_formed o ≡ true → any_of is_mark (text_of o) ≡ false
unfolding is_name_byte is_digit is_lower
text-mark o e = text-without 33 refl refl refl refl refl refl refl refl refl o e
