-- The class of a byte: digit 1, a-z or _ 2, capital 3, comma 4, newline 5, `!` 6, else 0. Assumes nothing.
use Rattle.std.specs.Prelude.{ℕ, ◌<◌, ◌≡◌, Bool, cond, ◌&&◌, ◌||◌, List, leb, ltb, eqb, get_or}

-- The classes.
abbrev pub other_class : ℕ
other_class = 0

abbrev pub digit_class : ℕ
digit_class = 1

abbrev pub lower_class : ℕ
lower_class = 2

abbrev pub capital_class : ℕ
capital_class = 3

abbrev pub comma_class : ℕ
comma_class = 4

abbrev pub newline_class : ℕ
newline_class = 5

abbrev pub mark_class : ℕ
mark_class = 6

-- The bytes that part fields and lines, and the one that ends a torn line.
abbrev pub comma : ℕ
comma = 44

abbrev pub newline : ℕ
newline = 10

abbrev pub mark : ℕ
mark = 33

unfoldable pub is_digit : ℕ → Bool
is_digit b = leb 48 b && ltb b 58

unfoldable pub is_lower : ℕ → Bool
is_lower b = (leb 97 b && ltb b 123) || eqb b 95

unfoldable pub is_capital : ℕ → Bool
is_capital b = leb 65 b && ltb b 91

abbrev pub is_comma : ℕ → Bool
is_comma b = eqb b comma

abbrev pub is_newline : ℕ → Bool
is_newline b = eqb b newline

abbrev pub is_mark : ℕ → Bool
is_mark b = eqb b mark

unfoldable pub class_of : ℕ → ℕ
class_of b =
    cond (is_digit b) digit_class
    (cond (is_lower b) lower_class
    (cond (is_capital b) capital_class
    (cond (is_comma b) comma_class
    (cond (is_newline b) newline_class
    (cond (is_mark b) mark_class other_class)))))

-- a table of classes, with an entry for each byte
pub record Classes (table : List ℕ) : Type 0 where
  pub rule : (b : ℕ) → b < 256 → get_or table b 0 ≡ class_of b
