-- A line that is written is read back, and a line that is read is what would be written. Assumes nothing.
use Rattle.std.specs.Prelude.{Option, Some, None}
use mathlib.Core.Path.{◌≡◌, refl, sym, ap, ◌∙◌}
use mathlib.Core.Bool.{Bool, true, false, cond, ◌&&◌}
use mathlib.Core.List.{List, [], ◌∷◌, ◌++◌, append_assoc, append-nil, map}
use Prim.Native.Nat.{ℕ, zero, suc, ◌+◌, ◌-◌, ◌<◌, ◌≤◌}
use native.Mathlib.Omega.{arith}
use lib.Dec.{eqb, leb}
use lib.ListN.{length, get_or, drop, drop_of_length-le, length-append}
use borrow.Author.Tests.{eq-eqb, eqb-true, lt-ltb, le-leb}
use Rattle.lists.specs.Keyed.{all_of, any_of}
use Rattle.lists.proofs.Keyed.{All}
use Rattle.lists.proofs.Tests.{clash, both, join, neither}
use Rattle.ids.specs.Ids.{is_id32, is_id64}
use Rattle.text.specs.Class.{is_digit, is_comma, is_mark}
use Rattle.text.specs.Decimal.{digits, Stops}
use Rattle.text.specs.Name.{is_name}
use Rattle.manifest.specs.Operations.{Operation, create_table, drop_table, add_rowset, delete_rowset, add_vector, delete_vector, next_ids, Line, begin, end, torn, operation, bad, well_formed, well_line}
use Rattle.manifest.specs.Lines.{field_at, and_then, field, at_end, named, one_field, two_fields, three_fields, table_fields, line_by, is_torn, line_of, fields_text, text_of, line_text}
use Rattle.manifest.proofs.Fields.{byte_at, drop_head, drop_past, field-round, FieldRead, field-converse}
use Rattle.manifest.specs.Split.{lines, joined}
use Rattle.manifest.proofs.Split.{OneLine, lines-joined}
use Rattle.manifest.proofs.Texts.{text-newline, text-mark, length-one, length_two, length_three, id-32, pair-ids, vector-ids, next-values, table-values}

-- What is written is read back.

stops-fields : (ns rest : List ℕ) → Stops rest → Stops (fields_text ns ++ rest)
unfolding fields_text is_digit
stops-fields [] rest h = h
stops-fields (n ∷ ns) rest h = refl

-- a field is read where the text of fields stands, and the text of the others stands after it
module _ (l : ℕ) (s : List ℕ) (i n : ℕ) (ns rest : List ℕ) (e : drop i s ≡ fields_text (n ∷ ns) ++ rest) where
  first-text : drop i s ≡ 44 ∷ (digits n ++ (fields_text ns ++ rest))
  unfolding fields_text
  first-text = e ∙ rw append_assoc

  first_read : n ≤ l → Stops rest → field_at l s i ≡ Some (n, i + suc (length (digits n)))
  first_read q h = field-round l s i n (fields_text ns ++ rest) first-text q (stops-fields ns rest h)

  first_rest : drop (i + suc (length (digits n))) s ≡ fields_text ns ++ rest
  first_rest = drop_past s i (44 ∷ digits n) (fields_text ns ++ rest) first-text

one-round : (a b : ℕ) (f : ℕ → Operation) (x : ℕ) → x ≤ a → one_field a f (b ∷ fields_text (x ∷ [])) ≡ operation (f x)
unfolding one_field
one-round a b f x p =
    let s : List ℕ = b ∷ fields_text (x ∷ []) in
    let e : drop 1 s ≡ fields_text (x ∷ []) ++ [] = sym (append-nil (fields_text (x ∷ []))) in
    rw (first_read a s 1 x [] [] e p tt, eq-eqb (length s) (1 + suc (length (digits x))) (omega (arith, length-one x)))

two-round : (a b c : ℕ) (f : ℕ → ℕ → Operation) (x y : ℕ) → x ≤ a → y ≤ b → two_fields a b f (c ∷ fields_text (x ∷ y ∷ [])) ≡ operation (f x y)
unfolding two_fields
two-round a b c f x y p q =
    let s : List ℕ = c ∷ fields_text (x ∷ y ∷ []) in
    let i : ℕ = 1 + suc (length (digits x)) in
    let e : drop 1 s ≡ fields_text (x ∷ y ∷ []) ++ [] = sym (append-nil (fields_text (x ∷ y ∷ []))) in
    let e2 : drop i s ≡ fields_text (y ∷ []) ++ [] = first_rest a s 1 x (y ∷ []) [] e in
    rw (first_read a s 1 x (y ∷ []) [] e p tt, first_read b s i y [] [] e2 q tt, eq-eqb (length s) (i + suc (length (digits y))) (omega (arith, length_two x y)))

three-round : (a b c d : ℕ) (f : ℕ → ℕ → ℕ → Operation) (x y z : ℕ) → x ≤ a → y ≤ b → z ≤ c
    → three_fields a b c f (d ∷ fields_text (x ∷ y ∷ z ∷ [])) ≡ operation (f x y z)
unfolding three_fields
three-round a b c d f x y z p q r =
    let s : List ℕ = d ∷ fields_text (x ∷ y ∷ z ∷ []) in
    let i : ℕ = 1 + suc (length (digits x)) in
    let j : ℕ = i + suc (length (digits y)) in
    let e : drop 1 s ≡ fields_text (x ∷ y ∷ z ∷ []) ++ [] = sym (append-nil (fields_text (x ∷ y ∷ z ∷ []))) in
    let e2 : drop i s ≡ fields_text (y ∷ z ∷ []) ++ [] = first_rest a s 1 x (y ∷ z ∷ []) [] e in
    let e3 : drop j s ≡ fields_text (z ∷ []) ++ [] = first_rest b s i y (z ∷ []) [] e2 in
    rw (first_read a s 1 x (y ∷ z ∷ []) [] e p tt, first_read b s i y (z ∷ []) [] e2 q tt, first_read c s j z [] [] e3 r tt, eq-eqb (length s) (j + suc (length (digits z))) (omega (arith, length_three x y z)))

no_fields : (t : List ℕ) → fields_text [] ++ t ≡ t
unfolding fields_text
no_fields t = refl

table-round : (a b : ℕ) (f : ℕ → ℕ → List ℕ → Operation) (x y : ℕ) (n : List ℕ) → x ≤ a → y ≤ b → is_name n ≡ true
    → table_fields a b f (84 ∷ (fields_text (x ∷ y ∷ []) ++ (44 ∷ n))) ≡ operation (f x y n)
unfolding table_fields named is_digit
table-round a b f x y n p q r =
    let s : List ℕ = 84 ∷ (fields_text (x ∷ y ∷ []) ++ (44 ∷ n)) in
    let i : ℕ = 1 + suc (length (digits x)) in
    let j : ℕ = i + suc (length (digits y)) in
    let e2 : drop i s ≡ fields_text (y ∷ []) ++ (44 ∷ n) = first_rest a s 1 x (y ∷ []) (44 ∷ n) refl in
    let e3 : drop j s ≡ fields_text [] ++ (44 ∷ n) = first_rest b s i y [] (44 ∷ n) e2 in
    let e4 : drop j s ≡ 44 ∷ n = e3 ∙ no_fields (44 ∷ n) in
    let e5 : drop (j + 1) s ≡ n = drop_past s j (44 ∷ []) n e4 in
    rw (first_read a s 1 x (y ∷ []) (44 ∷ n) refl p refl, first_read b s i y [] (44 ∷ n) e2 q refl, drop_head s j 44 n e4, e5, r)

by-letter : (o : Operation) → well_formed o ≡ true → line_by (get_or (text_of o) 0 0) (text_of o) ≡ operation o
unfolding line_by text_of
by-letter (create_table t h n) e = let w = table-values t h n e in table-round 4294967294 4294967295 create_table t h n w.0 w.1 w.2
by-letter (drop_table t) e = one-round 4294967294 88 drop_table t (id-32 t e)
by-letter (add_rowset t r) e = let w = pair-ids t r e in two-round 4294967294 4294967294 65 add_rowset t r w.0 w.1
by-letter (delete_rowset t r) e = let w = pair-ids t r e in two-round 4294967294 4294967294 68 delete_rowset t r w.0 w.1
by-letter (add_vector t r v) e = let w = vector-ids t r v e in three-round 4294967294 4294967294 18446744073709551614 86 add_vector t r v w.0 w.1 w.2
by-letter (delete_vector t r v) e = let w = vector-ids t r v e in three-round 4294967294 4294967294 18446744073709551614 87 delete_vector t r v w.0 w.1 w.2
by-letter (next_ids t r v) e = let w = next-values t r v e in three-round 4294967295 4294967295 18446744073709551615 78 next_ids t r v w.0 w.1 w.2

-- no byte of s passes the test, hence none at a place
at-without : (p : ℕ → Bool) (s : List ℕ) (i : ℕ) → p 0 ≡ false → any_of p s ≡ false → p (get_or s i 0) ≡ false
at-without p [] i z h = z
at-without p (b ∷ s) zero z h = (neither (p b) (any_of p s) h).0
at-without p (b ∷ s) (suc i) z h = at-without p s i z (neither (p b) (any_of p s) h).1

pub parse-text : (o : Operation) → well_formed o ≡ true → line_of (text_of o) ≡ operation o
unfolding line_of
parse-text o e = rw (at-without is_mark (text_of o) (length (text_of o) - 1) refl (text-mark o e)) (by-letter o e)

last_byte : (s : List ℕ) (c : ℕ) → get_or (s ++ (c ∷ [])) (length s) 0 ≡ c
last_byte [] c = refl
last_byte (b ∷ s) c = last_byte s c

-- whatever stands before a `!`
pub parse-torn : (s : List ℕ) → line_of (s ++ (33 ∷ [])) ≡ torn
unfolding line_of
parse-torn s =
    let n : length (s ++ (33 ∷ [])) - 1 ≡ length s = omega (arith, length-append s (33 ∷ [])) in
    rw (n, last_byte s 33)

pub parse-begin : line_of (line_text begin) ≡ begin
unfolding line_of line_by
parse-begin = refl

pub parse-end : line_of (line_text end) ≡ end
unfolding line_of line_by
parse-end = refl

-- What is read is what would be written.

-- the text s says the line
abbrev pub Says : Line → List ℕ → Type 0
Says begin s = s ≡ line_text begin
Says end s = s ≡ line_text end
Says torn s = Unit {0}
Says (operation o) s = (well_formed o ≡ true) × (s ≡ text_of o)
Says bad s = Unit {0}

module _ (s : List ℕ) where
  says_if : (t : Bool) (x y : Line) → (t ≡ true → Says x s) → (t ≡ false → Says y s) → Says (cond t x y) s
  says_if true x y p q = p refl
  says_if false x y p q = q refl

  says-end : (i : ℕ) (l : Line) → (length s ≡ i → Says l s) → Says (at_end s i l) s
  says-end i l p = says_if (eqb (length s) i) l bad (λ e. p (eqb-true (length s) i e)) (λ e. tt)

  says-field : (l i : ℕ) (f : ℕ → ℕ → Line) → ((n j : ℕ) → FieldRead l s i n j → Says (f n j) s) → Says (field l s i f) s
  says-field l i f p = go (field_at l s i) refl
    where
      go : (m : Option (ℕ × ℕ)) → field_at l s i ≡ m → Says (and_then m f) s
      go (Some q) e = p q.0 q.1 (field-converse l s i q.0 q.1 e)
      go None e = tt

  says-letter : (b : ℕ) (t : List ℕ) → 0 < b → get_or s 0 0 ≡ b → drop 1 s ≡ t → s ≡ b ∷ t
  says-letter b t p h e = byte_at s 0 b p h ∙ ap (λ (u : List ℕ). b ∷ u) e

  -- nothing stands after the end
  past_end : (i : ℕ) → length s ≡ i → drop i s ≡ []
  past_end i e = drop_of_length-le s {i = i} (omega arith)

  says-alone : (b : ℕ) (l : Line) → 0 < b → get_or s 0 0 ≡ b → (s ≡ b ∷ [] → Says l s) → Says (at_end s 1 l) s
  says-alone b l p h k = says-end 1 l (λ e. k (says-letter b [] p h (past_end 1 e)))

  says-one : (b a : ℕ) (f : ℕ → Operation) → 0 < b → get_or s 0 0 ≡ b
      → ((x : ℕ) → x ≤ a → well_formed (f x) ≡ true) → ((x : ℕ) → text_of (f x) ≡ b ∷ fields_text (x ∷ []))
      → Says (one_field a f s) s
  unfolding one_field fields_text
  says-one b a f p h good text =
      says-field a 1 _ (λ x i u. says-end i (operation (f x)) (λ e.
      (good x u.small, says-letter b (fields_text (x ∷ [])) p h (u.text ∙ rw (past_end i e)) ∙ sym (text x))))

  says_two : (c a b : ℕ) (f : ℕ → ℕ → Operation) → 0 < c → get_or s 0 0 ≡ c
      → ((x y : ℕ) → x ≤ a → y ≤ b → well_formed (f x y) ≡ true) → ((x y : ℕ) → text_of (f x y) ≡ c ∷ fields_text (x ∷ y ∷ []))
      → Says (two_fields a b f s) s
  unfolding two_fields fields_text
  says_two c a b f p h good text =
      says-field a 1 _ (λ x i u. says-field b i _ (λ y j v. says-end j (operation (f x y)) (λ e.
      (good x y u.small v.small, says-letter c (fields_text (x ∷ y ∷ [])) p h (u.text ∙ rw (v.text, past_end j e)) ∙ sym (text x y)))))

  says_three : (d a b c : ℕ) (f : ℕ → ℕ → ℕ → Operation) → 0 < d → get_or s 0 0 ≡ d
      → ((x y z : ℕ) → x ≤ a → y ≤ b → z ≤ c → well_formed (f x y z) ≡ true)
      → ((x y z : ℕ) → text_of (f x y z) ≡ d ∷ fields_text (x ∷ y ∷ z ∷ []))
      → Says (three_fields a b c f s) s
  unfolding three_fields fields_text
  says_three d a b c f p h good text =
      says-field a 1 _ (λ x i u. says-field b i _ (λ y j v. says-field c j _ (λ z k w. says-end k (operation (f x y z)) (λ e.
      (good x y z u.small v.small w.small, says-letter d (fields_text (x ∷ y ∷ z ∷ [])) p h (u.text ∙ rw (v.text, w.text, past_end k e)) ∙ sym (text x y z))))))

  id-test : (n : ℕ) → n ≤ 4294967294 → is_id32 n ≡ true
  id-test n h = lt-ltb n 4294967295 (omega arith)

  vector-test : (n : ℕ) → n ≤ 18446744073709551614 → is_id64 n ≡ true
  vector-test n h = lt-ltb n 18446744073709551615 (omega arith)

  says-table : get_or s 0 0 ≡ 84 → Says (table_fields 4294967294 4294967295 create_table s) s
  unfolding table_fields named fields_text text_of
  says-table h =
      says-field 4294967294 1 _ (λ x i u. says-field 4294967295 i _ (λ y j v.
      says_if (is_comma (get_or s j 0) && is_name (drop (j + 1) s)) (operation (create_table x y (drop (j + 1) s))) bad
      (λ e. let w = both (is_comma (get_or s j 0)) (is_name (drop (j + 1) s)) e in (
        join (id-test x u.small) (join (le-leb y 4294967295 v.small) w.1),
        says-letter 84 _ (omega arith) h (u.text ∙ rw (v.text, byte_at s j 44 (omega arith) (eqb-true (get_or s j 0) 44 w.0)) (simp append_assoc)),
      ))
      (λ e. tt)))

  two_good : (x y : ℕ) → x ≤ 4294967294 → y ≤ 4294967294 → is_id32 x && is_id32 y ≡ true
  two_good x y p q = join (id-test x p) (id-test y q)

  three-good : (x y z : ℕ) → x ≤ 4294967294 → y ≤ 4294967294 → z ≤ 18446744073709551614 → is_id32 x && (is_id32 y && is_id64 z) ≡ true
  three-good x y z p q r = join (id-test x p) (join (id-test y q) (vector-test z r))

  next-good : (x y z : ℕ) → x ≤ 4294967295 → y ≤ 4294967295 → z ≤ 18446744073709551615
      → leb x 4294967295 && (leb y 4294967295 && leb z 18446744073709551615) ≡ true
  next-good x y z p q r = join (le-leb x 4294967295 p) (join (le-leb y 4294967295 q) (le-leb z 18446744073709551615 r))

  -- one test of `line_by`
  arm : (b : ℕ) (x y : Line) → (get_or s 0 0 ≡ b → Says x s) → Says y s → Says (cond (eqb (get_or s 0 0) b) x y) s
  arm b x y p q = says_if (eqb (get_or s 0 0) b) x y (λ e. p (eqb-true (get_or s 0 0) b e)) (λ e. q)

  pub says : Says (line_of s) s
  unfolding line_of line_by text_of
  says =
      says_if (is_torn s) torn (line_by (get_or s 0 0) s) (λ e. tt) (λ e.
      arm 66 _ _ (λ h. says-alone 66 begin (omega arith) h (λ e. e))
      (arm 69 _ _ (λ h. says-alone 69 end (omega arith) h (λ e. e))
      (arm 84 _ _ says-table
      (arm 88 _ _ (λ h. says-one 88 4294967294 drop_table (omega arith) h id-test (λ x. refl))
      (arm 65 _ _ (λ h. says_two 65 4294967294 4294967294 add_rowset (omega arith) h two_good (λ x y. refl))
      (arm 68 _ _ (λ h. says_two 68 4294967294 4294967294 delete_rowset (omega arith) h two_good (λ x y. refl))
      (arm 86 _ _ (λ h. says_three 86 4294967294 4294967294 18446744073709551614 add_vector (omega arith) h three-good (λ x y z. refl))
      (arm 87 _ _ (λ h. says_three 87 4294967294 4294967294 18446744073709551614 delete_vector (omega arith) h three-good (λ x y z. refl))
      (arm 78 _ _ (λ h. says_three 78 4294967295 4294967295 18446744073709551615 next_ids (omega arith) h next-good (λ x y z. refl))
      tt)))))))))

  pub text-parse : (o : Operation) → line_of s ≡ operation o → (well_formed o ≡ true) × (s ≡ text_of o)
  text-parse o e = rw e at says

  pub begin-parse : line_of s ≡ begin → s ≡ line_text begin
  begin-parse e = rw e at says

  pub end-parse : line_of s ≡ end → s ≡ line_text end
  end-parse e = rw e at says

-- Lines of each kind.
pub parse-line : (l : Line) → well_line l ≡ true → line_of (line_text l) ≡ l
parse-line begin w = parse-begin
parse-line end w = parse-end
parse-line torn w = parse-torn []
parse-line (operation o) w = parse-text o w
parse-line bad w = clash w refl

pub line-newline : (l : Line) → well_line l ≡ true → OneLine (line_text l)
line-newline begin w = refl
line-newline end w = refl
line-newline torn w = refl
line-newline (operation o) w = text-newline o w
line-newline bad w = clash w refl

pub all-one-line : (ls : List Line) → all_of well_line ls ≡ true → All OneLine (map line_text ls)
all-one-line [] w = tt
all-one-line (l ∷ ls) w = let u = both (well_line l) (all_of well_line ls) w in (line-newline l u.0, all-one-line ls u.1)

pub parse-all : (ls : List Line) → all_of well_line ls ≡ true → map line_of (map line_text ls) ≡ ls
parse-all [] w = refl
parse-all (l ∷ ls) w = let u = both (well_line l) (all_of well_line ls) w in rw (parse-line l u.0, parse-all ls u.1)

-- a written manifest is read back
pub read_back : (ls : List Line) → all_of well_line ls ≡ true → map line_of (lines (joined (map line_text ls))) ≡ ls
read_back ls w = rw (lines-joined (map line_text ls) (all-one-line ls w)) (parse-all ls w)
