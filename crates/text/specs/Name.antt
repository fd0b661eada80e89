-- Names: 1 to 32 bytes of a-z, 0-9 and _. Assumes nothing.
use Rattle.std.specs.Prelude.{ℕ, Bool, ◌&&◌, ◌||◌, List, leb, ltb, length}
use Rattle.lists.specs.Keyed.{all_of}
use Rattle.ids.specs.Names.{longest_name}
use Rattle.text.specs.Class.{is_digit, is_lower}

unfoldable pub is_name_byte : ℕ → Bool
is_name_byte b = is_digit b || is_lower b

unfoldable pub is_name : List ℕ → Bool
is_name s = (ltb 0 (length s) && leb (length s) longest_name) && all_of is_name_byte s
