-- One line of a manifest, without its newline: what reading it finds, and how it is written. Assumes nothing.
use Rattle.std.specs.Prelude.{Option, Some, None, ℕ, ◌+◌, ◌-◌, Bool, cond, ◌&&◌, List, [], ◌∷◌, ◌++◌, eqb, length, get_or, drop}
use Rattle.ids.specs.Ids.{largest32, largest64}
use Rattle.text.specs.Class.{comma, mark, is_comma, is_mark}
use Rattle.text.specs.Decimal.{digits, read_at}
use Rattle.text.specs.Name.{is_name}
use Rattle.manifest.specs.Operations.{Operation, create_table, drop_table, add_rowset, delete_rowset, add_vector, delete_vector, next_ids, Line, begin, end, torn, operation, bad}

-- The letters: B, E, T, X, A, D, V, W, N.
abbrev pub begin_letter : ℕ
begin_letter = 66

abbrev pub end_letter : ℕ
end_letter = 69

abbrev pub create_letter : ℕ
create_letter = 84

abbrev pub drop_letter : ℕ
drop_letter = 88

abbrev pub add_letter : ℕ
add_letter = 65

abbrev pub delete_letter : ℕ
delete_letter = 68

abbrev pub add_vector_letter : ℕ
add_vector_letter = 86

abbrev pub delete_vector_letter : ℕ
delete_vector_letter = 87

abbrev pub next_letter : ℕ
next_letter = 78

-- The largest value of a field that holds an id; any other number goes up to its width's largest value.
abbrev pub last_id32 : ℕ
last_id32 = 4294967294

abbrev pub last_id64 : ℕ
last_id64 = 18446744073709551614

-- Reading.

-- a field: a comma at i, and a number after it
unfoldable pub field_at : ℕ → List ℕ → ℕ → Option (ℕ × ℕ)
field_at limit s i = cond (is_comma (get_or s i 0)) (read_at limit s (i + 1)) None

abbrev pub and_then : Option (ℕ × ℕ) → (ℕ → ℕ → Line) → Line
and_then (Some p) f = f p.0 p.1
and_then None f = bad

-- f of the field's value and the place after it
abbrev pub field : ℕ → List ℕ → ℕ → (ℕ → ℕ → Line) → Line
field limit s i f = and_then (field_at limit s i) f

-- the line ends at i
abbrev pub at_end : List ℕ → ℕ → Line → Line
at_end s i l = cond (eqb (length s) i) l bad

-- a comma at i, and a name from there to the line's end
unfoldable pub named : List ℕ → ℕ → (List ℕ → Operation) → Line
named s i f = cond (is_comma (get_or s i 0) && is_name (drop (i + 1) s)) (operation (f (drop (i + 1) s))) bad

-- the fields that follow a letter
unfoldable pub one_field : ℕ → (ℕ → Operation) → List ℕ → Line
one_field a f s = field a s 1 (λ x i. at_end s i (operation (f x)))

unfoldable pub two_fields : ℕ → ℕ → (ℕ → ℕ → Operation) → List ℕ → Line
two_fields a b f s = field a s 1 (λ x i. field b s i (λ y j. at_end s j (operation (f x y))))

unfoldable pub three_fields : ℕ → ℕ → ℕ → (ℕ → ℕ → ℕ → Operation) → List ℕ → Line
three_fields a b c f s = field a s 1 (λ x i. field b s i (λ y j. field c s j (λ z k. at_end s k (operation (f x y z)))))

unfoldable pub table_fields : ℕ → ℕ → (ℕ → ℕ → List ℕ → Operation) → List ℕ → Line
table_fields a b f s = field a s 1 (λ x i. field b s i (λ y j. named s j (f x y)))

-- the letter b decides which fields follow
unfoldable pub line_by : ℕ → List ℕ → Line
line_by b s =
    cond (eqb b begin_letter) (at_end s 1 begin)
    (cond (eqb b end_letter) (at_end s 1 end)
    (cond (eqb b create_letter) (table_fields last_id32 largest32 create_table s)
    (cond (eqb b drop_letter) (one_field last_id32 drop_table s)
    (cond (eqb b add_letter) (two_fields last_id32 last_id32 add_rowset s)
    (cond (eqb b delete_letter) (two_fields last_id32 last_id32 delete_rowset s)
    (cond (eqb b add_vector_letter) (three_fields last_id32 last_id32 last_id64 add_vector s)
    (cond (eqb b delete_vector_letter) (three_fields last_id32 last_id32 last_id64 delete_vector s)
    (cond (eqb b next_letter) (three_fields largest32 largest32 largest64 next_ids s)
    bad))))))))

-- whatever stands before it, a `!` at the end says that the line was torn off
abbrev pub is_torn : List ℕ → Bool
is_torn s = is_mark (get_or s (length s - 1) 0)

-- what the line s says
unfoldable pub line_of : List ℕ → Line
line_of s = cond (is_torn s) torn (line_by (get_or s 0 0) s)

-- Writing.

-- fields, each with its comma
unfoldable pub fields_text : List ℕ → List ℕ
fields_text [] = []
fields_text (n ∷ ns) = comma ∷ (digits n ++ fields_text ns)

unfoldable pub text_of : Operation → List ℕ
text_of (create_table t h n) = create_letter ∷ (fields_text (t ∷ h ∷ []) ++ (comma ∷ n))
text_of (drop_table t) = drop_letter ∷ fields_text (t ∷ [])
text_of (add_rowset t r) = add_letter ∷ fields_text (t ∷ r ∷ [])
text_of (delete_rowset t r) = delete_letter ∷ fields_text (t ∷ r ∷ [])
text_of (add_vector t r v) = add_vector_letter ∷ fields_text (t ∷ r ∷ v ∷ [])
text_of (delete_vector t r v) = delete_vector_letter ∷ fields_text (t ∷ r ∷ v ∷ [])
text_of (next_ids t r v) = next_letter ∷ fields_text (t ∷ r ∷ v ∷ [])

-- the text of a line; a bad one has none
abbrev pub line_text : Line → List ℕ
line_text begin = begin_letter ∷ []
line_text end = end_letter ∷ []
line_text torn = mark ∷ []
line_text (operation o) = text_of o
line_text bad = []

-- the most bytes that the text of a well-formed operation has: T, two numbers of 10 digits, a name of 32 bytes, three commas
abbrev pub longest_text : ℕ
longest_text = 56
