-- Fields read at a place of a line. Assumes nothing.
use Rattle.std.specs.Prelude.{Option, Some, None}
use mathlib.Core.Path.{◌≡◌, refl, sym, ap, ◌∙◌}
use mathlib.Core.List.{append_assoc, append-nil, List, [], ◌∷◌, ◌++◌}
use mathlib.Core.Bool.{Bool, true, false, cond}
use lib.Dec.{eqb}
use Prim.Native.Nat.{ℕ, zero, suc, ◌+◌, ◌-◌, ◌<◌, ◌≤◌}
use native.Mathlib.Numerals.{add-one}
use native.Mathlib.Omega.{arith}
use lib.ListN.{get_or-eq_default, set, drop_of_length-le, length, get_or, take, drop, length-drop}
use lib.Seq.{drop-cons, take-suc-set, take_all, drop-drop, drop-append_seam, take-length}
use borrow.Author.Tests.{eqb-true, eq-eqb, ne_eqb}
use Rattle.lists.proofs.Tests.{by_cases}
use Rattle.ids.specs.Ids.{largest32, largest64}
use Rattle.ids.specs.declared.TableNo.{TableNo}
use Rattle.ids.specs.declared.RowsetNo.{RowsetNo}
use Rattle.ids.specs.declared.VectorNo.{VectorNo}
use Rattle.text.specs.Class.{is_comma}
use Rattle.text.specs.Decimal.{digits, read_at, Stops}
use Rattle.text.specs.Name.{is_name}
use Rattle.text.proofs.Names.{name-length}
use Rattle.text.proofs.Round.{read-digits, read-converse}
use Rattle.manifest.specs.Operations.{Operation, Line, operation, bad, create_table, add_rowset, delete_rowset, add_vector, delete_vector, next_ids}
use Rattle.manifest.specs.Lines.{last_id32, last_id64, add_letter, delete_letter, add_vector_letter, delete_vector_letter, next_letter, is_torn, line_of, line_by, field_at, and_then, at_end, one_field, two_fields, three_fields, named, table_fields}
use Rattle.manifest.specs.Fields.{read_after, then_read, fields_at, of_two, of_three, two_numbers, three_numbers}

-- where a byte other than 0 stands at i, it is the first of the rest
pub byte_at : (s : List ℕ) (i b : ℕ) → 0 < b → get_or s i 0 ≡ b → drop i s ≡ b ∷ drop (i + 1) s
byte_at s i b p e = rw add-one (go s i e)
  where
    go : (s : List ℕ) (i : ℕ) → get_or s i 0 ≡ b → drop i s ≡ b ∷ drop (suc i) s
    go [] i e = absurd (omega arith)
    go (x ∷ s) zero e = ap (λ (y : ℕ). y ∷ s) e
    go (x ∷ s) (suc i) e = go s i e

pub drop_head : (s : List ℕ) (i b : ℕ) (t : List ℕ) → drop i s ≡ b ∷ t → get_or s i 0 ≡ b
drop_head [] zero b t e = let z : ◌≡◌ {A = ℕ} 0 1 = cc in absurd (omega arith)
drop_head [] (suc i) b t e = let z : ◌≡◌ {A = ℕ} 0 1 = cc in absurd (omega arith)
drop_head (x ∷ s) zero b t e = cc
drop_head (x ∷ s) (suc i) b t e = drop_head s i b t e

pub drop_past : (s : List ℕ) (i : ℕ) (x t : List ℕ) → drop i s ≡ x ++ t → drop (i + length x) s ≡ t
drop_past s i x t e = rw (← drop-drop (length x) i s, e) (drop-append_seam x t)

pub rest_all : (s : List ℕ) (i : ℕ) → take (length s - i) (drop i s) ≡ drop i s
rest_all s i = rw (← length-drop i s) (take-length (drop i s))

-- a field is read where its text stands
pub field-round : (l : ℕ) (s : List ℕ) (i n : ℕ) (rest : List ℕ) → drop i s ≡ 44 ∷ (digits n ++ rest) → n ≤ l → Stops rest
    → field_at l s i ≡ Some (n, i + suc (length (digits n)))
unfolding field_at read_at
field-round l s i n rest e q h =
    let k : i + suc (length (digits n)) ≡ (i + 1) + length (digits n) = omega arith in
    rw (drop_head s i 44 (digits n ++ rest) e, k, drop_past s i (44 ∷ []) (digits n ++ rest) e) (read-digits l (i + 1) n rest q h)

-- the number n was read as a field at i, up to j
pub record FieldRead (limit : ℕ) (s : List ℕ) (i n j : ℕ) : Type 0 where
  pub text : drop i s ≡ 44 ∷ (digits n ++ drop j s)
  pub small : n ≤ limit

never : {n j : ℕ} → ◌≡◌ {A = Option (ℕ × ℕ)} None (Some (n, j)) → ⊥
never e = let z : ◌≡◌ {A = ℕ} 0 1 = cc in omega arith

at-converse : (limit : ℕ) (s : List ℕ) (i n j : ℕ) → read_at limit s i ≡ Some (n, j) → (drop i s ≡ digits n ++ drop j s) × (n ≤ limit)
unfolding read_at
at-converse limit s i n j e =
    let r = read-converse limit (drop i s) i n j e in
    let d : drop j s ≡ r.rest = ap (λ (k : ℕ). drop k s) r.next ∙ drop_past s i (digits n) r.rest r.text in
    (rw d r.text, r.small)

pub field-converse : (limit : ℕ) (s : List ℕ) (i n j : ℕ) → field_at limit s i ≡ Some (n, j) → FieldRead limit s i n j
unfolding field_at
field-converse limit s i n j e =
    by_cases (is_comma (get_or s i 0))
    (λ h. let r = at-converse limit s (i + 1) n j (rw h at e) in
    record { text = byte_at s i 44 (omega arith) (eqb-true (get_or s i 0) 44 h) ∙ ap (λ (l : List ℕ). 44 ∷ l) r.0; small = r.1 })
    (λ h. absurd (never (rw h at e)))

pub field-small : (limit : ℕ) (s : List ℕ) (i n j : ℕ) → field_at limit s i ≡ Some (n, j) → n ≤ limit
field-small limit s i n j e = (field-converse limit s i n j e).small

-- One field.
pub field-none : (l : ℕ) (s : List ℕ) (i : ℕ) → length s ≤ i → field_at l s i ≡ None
unfolding field_at
field-none l s i h = rw (get_or-eq_default {A = ℕ} s 0 h)

pub field-other : (l : ℕ) (s : List ℕ) (i : ℕ) → is_comma (get_or s i 0) ≡ false → field_at l s i ≡ None
unfolding field_at
field-other l s i e = rw e

pub field-comma : (l : ℕ) (s : List ℕ) (i : ℕ) → is_comma (get_or s i 0) ≡ true → field_at l s i ≡ read_at l s (i + 1)
unfolding field_at
field-comma l s i e = rw e

pub ruleset one_field_steps = (field-none, field-other, field-comma)

-- The fields of a table, and its name.
abbrev table_line : List ℕ → Line
table_line s = table_fields last_id32 largest32 create_table s

module _ (s : List ℕ) where
  pub table-none : field_at last_id32 s 1 ≡ None → table_line s ≡ bad
  unfolding table_fields
  table-none e = rw e

  module _ (x i : ℕ) (e : field_at last_id32 s 1 ≡ Some (x, i)) where
    pub table-one : field_at largest32 s i ≡ None → table_line s ≡ bad
    unfolding table_fields
    table-one d = rw (e, d)

    module _ (y j : ℕ) (d : field_at largest32 s i ≡ Some (y, j)) where
      pub table-unnamed : length s ≤ j → table_line s ≡ bad
      unfolding table_fields named
      table-unnamed h = rw (e, d, get_or-eq_default {A = ℕ} s 0 h)

      pub table-other : is_comma (get_or s j 0) ≡ false → table_line s ≡ bad
      unfolding table_fields named
      table-other c = rw (e, d, c)

      pub table-no : is_name (drop (j + 1) s) ≡ false → table_line s ≡ bad
      unfolding table_fields named
      table-no n = rw (e, d) (by_cases (is_comma (get_or s j 0)) (λ c. rw (c, n)) (λ c. rw c))

      pub table-name : is_comma (get_or s j 0) ≡ true → is_name (drop (j + 1) s) ≡ true → table_line s ≡ operation (create_table x y (drop (j + 1) s))
      unfolding table_fields named
      table-name c n = rw (e, d, c, n)

pub ruleset table_steps = (table-none, table-one, table-unnamed, table-other, table-no, table-name, rest_all, field-small, name-length)

-- Fields up to the line's end.

module _ (s : List ℕ) (ls vs : List ℕ) (i n at j : ℕ) (h : i < length ls) where
  -- one more is read, and stands in its place of vs
  pub fields-more : i < length vs → field_at (get_or ls i 0) s at ≡ Some (n, j)
      → read_after (take i vs) (fields_at (drop i ls) s at) ≡ read_after (take (i + 1) (set vs i n)) (fields_at (drop (i + 1) ls) s j)
  unfolding fields_at
  fields-more k e =
      rw (drop-cons ls i 0 h, add-one, e, take-suc-set vs i n k) (go (fields_at (drop (suc i) ls) s j))
    where
      go : (o : Option (List ℕ)) → read_after (take i vs) (read_after (n ∷ []) o) ≡ read_after (take i vs ++ (n ∷ [])) o
      go (Some ms) = rw append_assoc
      go None = refl

  -- one is none
  pub fields-stop : field_at (get_or ls i 0) s at ≡ None → read_after (take i vs) (fields_at (drop i ls) s at) ≡ None
  unfolding fields_at
  fields-stop e = rw (drop-cons ls i 0 h, e)

-- all are read
pub fields-end : (s ls vs : List ℕ) (i at : ℕ) → length ls ≤ i → length vs ≤ i → at ≡ length s
    → read_after (take i vs) (fields_at (drop i ls) s at) ≡ Some vs
unfolding fields_at
fields-end s ls vs i at h k e = rw (drop_of_length-le ls h, eq-eqb (length s) at (sym e), take_all i vs k, append-nil)

pub fields-long : (s ls vs : List ℕ) (i at : ℕ) → length ls ≤ i → (at ≡ length s → ⊥) → read_after (take i vs) (fields_at (drop i ls) s at) ≡ None
unfolding fields_at
fields-long s ls vs i at h e = rw (drop_of_length-le ls h, ne_eqb (length s) at (λ q. e (sym q)))

pub fields-first : (s ls vs : List ℕ) → fields_at ls s 1 ≡ read_after (take 0 vs) (fields_at (drop 0 ls) s 1)
fields-first s ls vs = go (fields_at ls s 1)
  where
    go : (o : Option (List ℕ)) → o ≡ read_after [] o
    go (Some ms) = refl
    go None = refl

-- what a loop's turn shows
pub ruleset field_steps = (fields-first, fields-more, fields-stop, fields-end, fields-long)

-- the line, by what is made of the numbers that are read
abbrev pub said : (List ℕ → Operation) → Option (List ℕ) → Line
said g (Some ns) = operation (g ns)
said g None = bad

said-more : (g : List ℕ → Operation) (l : ℕ) (ls s : List ℕ) (i : ℕ)
    → said g (fields_at (l ∷ ls) s i) ≡ and_then (field_at l s i) (λ n j. said (λ ns. g (n ∷ ns)) (fields_at ls s j))
unfolding fields_at
said-more g l ls s i = go (field_at l s i)
  where
    after : (n : ℕ) (o : Option (List ℕ)) → said g (read_after (n ∷ []) o) ≡ said (λ ns. g (n ∷ ns)) o
    after n (Some ns) = refl
    after n None = refl

    go : (o : Option (ℕ × ℕ))
        → said g (then_read o (λ n j. read_after (n ∷ []) (fields_at ls s j))) ≡ and_then o (λ n j. said (λ ns. g (n ∷ ns)) (fields_at ls s j))
    go (Some p) = after p.0 (fields_at ls s p.1)
    go None = refl

said-end : (g : List ℕ → Operation) (s : List ℕ) (i : ℕ) → said g (fields_at [] s i) ≡ at_end s i (operation (g []))
unfolding fields_at
said-end g s i = go (eqb (length s) i)
  where
    go : (b : Bool) → said g (cond b (Some []) None) ≡ cond b (operation (g [])) bad
    go true = refl
    go false = refl

-- what follows a field decides
then-same : (o : Option (ℕ × ℕ)) (f g : ℕ → ℕ → Line) → ((n j : ℕ) → f n j ≡ g n j) → and_then o f ≡ and_then o g
then-same (Some p) f g h = h p.0 p.1
then-same None f g h = refl

pub said-one : (f : ℕ → Operation) (a : ℕ) (s : List ℕ) → said (λ ns. f (get_or ns 0 0)) (fields_at (a ∷ []) s 1) ≡ one_field a f s
unfolding one_field
said-one f a s = said-more _ a [] s 1 ∙ then-same (field_at a s 1) _ _ (λ x i. said-end _ s i)

pub said-two : (f : ℕ → ℕ → Operation) (a b : ℕ) (s : List ℕ)
    → said (λ ns. f (get_or ns 0 0) (get_or ns 1 0)) (fields_at (a ∷ b ∷ []) s 1) ≡ two_fields a b f s
unfolding two_fields
said-two f a b s =
    said-more _ a (b ∷ []) s 1 ∙ then-same (field_at a s 1) _ _ (λ x i.
    said-more _ b [] s i ∙ then-same (field_at b s i) _ _ (λ y j. said-end _ s j))

pub said-three : (f : ℕ → ℕ → ℕ → Operation) (a b c : ℕ) (s : List ℕ)
    → said (λ ns. f (get_or ns 0 0) (get_or ns 1 0) (get_or ns 2 0)) (fields_at (a ∷ b ∷ c ∷ []) s 1) ≡ three_fields a b c f s
unfolding three_fields
said-three f a b c s =
    said-more _ a (b ∷ c ∷ []) s 1 ∙ then-same (field_at a s 1) _ _ (λ x i.
    said-more _ b (c ∷ []) s i ∙ then-same (field_at b s i) _ _ (λ y j.
    said-more _ c [] s j ∙ then-same (field_at c s j) _ _ (λ z k. said-end _ s k)))

-- what is read is at most its limit
pub fields_small : (ls s : List ℕ) (i : ℕ) (ns : List ℕ) (k : ℕ) → fields_at ls s i ≡ Some ns → k < length ls → get_or ns k 0 ≤ get_or ls k 0
unfolding fields_at
fields_small [] s i ns k e h = absurd (omega arith)
fields_small (l ∷ ls) s i ns k e h = go (λ j ms m d. fields_small ls s j ms m d) (field_at l s i) refl e
  where
    gone : ◌≡◌ {A = Option (List ℕ)} None (Some ns) → ⊥
    gone q = let z : ◌≡◌ {A = ℕ} 0 1 = cc in omega arith

    rest : (x : ℕ) (o : Option (List ℕ)) → x ≤ l → ((ms : List ℕ) (m : ℕ) → o ≡ Some ms → m < length ls → get_or ms m 0 ≤ get_or ls m 0)
        → read_after (x ∷ []) o ≡ Some ns → get_or ns k 0 ≤ get_or (l ∷ ls) k 0
    rest x None p u r = absurd (gone r)
    rest x (Some ms) p u r = let w : x ∷ ms ≡ ns = cc in rw (← w) (at k h)
      where
        at : (m : ℕ) → m < length (l ∷ ls) → get_or (x ∷ ms) m 0 ≤ get_or (l ∷ ls) m 0
        at zero d = p
        at (suc m) d = u ms m refl (omega arith)

    go : ((j : ℕ) (ms : List ℕ) (m : ℕ) → fields_at ls s j ≡ Some ms → m < length ls → get_or ms m 0 ≤ get_or ls m 0)
        → (o : Option (ℕ × ℕ)) → field_at l s i ≡ o → then_read o (λ n j. read_after (n ∷ []) (fields_at ls s j)) ≡ Some ns
        → get_or ns k 0 ≤ get_or (l ∷ ls) k 0
    go u (Some p) q r = rest p.0 (fields_at ls s p.1) (field-small l s i p.0 p.1 q) (u p.1) r
    go u None q r = absurd (gone r)

-- What the numbers that are read say.
pub one-none : (f : ℕ → Operation) (a : ℕ) (s : List ℕ) → fields_at (a ∷ []) s 1 ≡ None → one_field a f s ≡ bad
one-none f a s e = sym (said-one f a s) ∙ rw e

pub one-some : (f : ℕ → Operation) (a : ℕ) (s ns : List ℕ) → fields_at (a ∷ []) s 1 ≡ Some ns → one_field a f s ≡ operation (f (get_or ns 0 0))
one-some f a s ns e = sym (said-one f a s) ∙ rw e

pub ruleset one_steps = (one-none, one-some)

module _ (f : ℕ → ℕ → Operation) (a : ℕ) (s : List ℕ) where
  pub two_numbers-say : (r : Option (TableNo × RowsetNo)) → two_numbers r ≡ fields_at (a ∷ a ∷ []) s 1 → of_two f r ≡ two_fields a a f s
  two_numbers-say (Some p) e = ap (said (λ ns. f (get_or ns 0 0) (get_or ns 1 0))) e ∙ said-two f a a s
  two_numbers-say None e = ap (said (λ ns. f (get_or ns 0 0) (get_or ns 1 0))) e ∙ said-two f a a s

module _ (f : ℕ → ℕ → ℕ → Operation) (a b : ℕ) (s : List ℕ) where
  pub three_numbers-say : (r : Option (TableNo × RowsetNo × VectorNo)) → three_numbers r ≡ fields_at (a ∷ a ∷ b ∷ []) s 1 → of_three f r ≡ three_fields a a b f s
  three_numbers-say (Some p) e = ap (said (λ ns. f (get_or ns 0 0) (get_or ns 1 0) (get_or ns 2 0))) e ∙ said-three f a a b s
  three_numbers-say None e = ap (said (λ ns. f (get_or ns 0 0) (get_or ns 1 0) (get_or ns 2 0))) e ∙ said-three f a a b s

-- The lines of a letter, by the numbers after it.
module _ (s : List ℕ) (t : is_torn s ≡ false) where
  module _ (r : Option (TableNo × RowsetNo)) (e : two_numbers r ≡ fields_at (last_id32 ∷ last_id32 ∷ []) s 1) where
    pub line-add : get_or s 0 0 ≡ add_letter → of_two add_rowset r ≡ line_of s
    unfolding line_of line_by
    line-add b = two_numbers-say add_rowset last_id32 s r e ∙ rw (t, b)

    pub line-delete : get_or s 0 0 ≡ delete_letter → of_two delete_rowset r ≡ line_of s
    unfolding line_of line_by
    line-delete b = two_numbers-say delete_rowset last_id32 s r e ∙ rw (t, b)

  module _ (r : Option (TableNo × RowsetNo × VectorNo)) where
    pub line-add-vector : three_numbers r ≡ fields_at (last_id32 ∷ last_id32 ∷ last_id64 ∷ []) s 1 → get_or s 0 0 ≡ add_vector_letter
        → of_three add_vector r ≡ line_of s
    unfolding line_of line_by
    line-add-vector e b = three_numbers-say add_vector last_id32 last_id64 s r e ∙ rw (t, b)

    pub line-delete-vector : three_numbers r ≡ fields_at (last_id32 ∷ last_id32 ∷ last_id64 ∷ []) s 1 → get_or s 0 0 ≡ delete_vector_letter
        → of_three delete_vector r ≡ line_of s
    unfolding line_of line_by
    line-delete-vector e b = three_numbers-say delete_vector last_id32 last_id64 s r e ∙ rw (t, b)

    pub line-next : three_numbers r ≡ fields_at (largest32 ∷ largest32 ∷ largest64 ∷ []) s 1 → get_or s 0 0 ≡ next_letter
        → of_three next_ids r ≡ line_of s
    unfolding line_of line_by
    line-next e b = three_numbers-say next_ids largest32 largest64 s r e ∙ rw (t, b)
