-- The bytes of a name. Assumes nothing.
use Rattle.std.specs.Prelude.{ℕ, cond, List, [], leb, take}
use Rattle.ids.specs.declared.name.Name.{Name}

-- the most bytes that a name may have
abbrev pub longest_name : ℕ
longest_name = 32

-- the first n of the bytes; a length that no name has stands for no bytes at all
abbrev pub name_in : ℕ → List ℕ → List ℕ
name_in n b = cond (leb n longest_name) (take n b) []

unfoldable pub name_of : Name → List ℕ
name_of n = name_in n.len n.bytes
