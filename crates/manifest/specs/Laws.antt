-- What reading, writing and splitting lines have to do with each other. Assumes nothing.
use Rattle.std.specs.Prelude.{ℕ, ◌<◌, ◌≤◌, ◌≡◌, true, false, List, [], ◌∷◌, ◌++◌, map, length, take}
use Rattle.lists.specs.Keyed.{all_of, any_of}
use Rattle.text.specs.Class.{newline, mark, is_newline}
use Rattle.manifest.specs.Operations.{Operation, Line, begin, end, torn, operation, well_formed, well_line}
use Rattle.manifest.specs.Lines.{line_of, text_of, line_text, longest_text}
use Rattle.manifest.specs.Split.{lines_on, rest_on, lines, joined}

pub record LinesAgree : Type 0 where
  -- what is written reads back
  pub written : (l : Line) → well_line l ≡ true → line_of (line_text l) ≡ l
  -- what is read is well formed, and is what would be written
  pub read : (s : List ℕ) (o : Operation) → line_of s ≡ operation o → (well_formed o ≡ true) × (s ≡ text_of o)
  pub begun : (s : List ℕ) → line_of s ≡ begin → s ≡ line_text begin
  pub ended : (s : List ℕ) → line_of s ≡ end → s ≡ line_text end
  -- whatever an append was cut off at, the line that the next one's `!` ends is torn
  pub marked : (s : List ℕ) → line_of (s ++ (mark ∷ [])) ≡ torn
  -- the length of an operation's text
  pub room : (o : Operation) → well_formed o ≡ true → length (text_of o) ≤ longest_text
  -- a text after another, which leaves the start of a line
  pub split : (so a b : List ℕ) → lines_on so (a ++ b) ≡ lines_on so a ++ lines_on (rest_on so a) b
  -- a text that ends in a newline leaves none
  pub whole : (so a : List ℕ) → rest_on so (a ++ (newline ∷ [])) ≡ []
  -- a proper first part of one line with its newline has no line
  pub cut : (l : List ℕ) (k : ℕ) → any_of is_newline l ≡ false → k < length (l ++ (newline ∷ [])) → lines (take k (l ++ (newline ∷ []))) ≡ []
  -- a written manifest is read back
  pub back : (ls : List Line) → all_of well_line ls ≡ true → map line_of (lines (joined (map line_text ls))) ≡ ls
