-- The Protocol Buffers encoding, as far as a delete record uses it. Assumes nothing.
use Rattle.std.specs.Prelude.{ℕ, zero, suc, ◌+◌, ◌*◌, ◌/◌, ◌%◌, Bool, true, false, cond, List, [], ◌∷◌, ◌++◌, length, ◌==◌, nat_lt}

-- f bounds the count of groups, and the Bool says whether n is below 128
unfoldable pub varint_by : ℕ → Bool → ℕ → List ℕ
varint_by zero small n = n ∷ []
varint_by (suc f) true n = n ∷ []
varint_by (suc f) false n = (128 + n % 128) ∷ varint_by f (nat_lt (n / 128) 128) (n / 128)

-- a varint: n in groups of seven bits, least significant first, the top bit set on all but the last
unfoldable pub varint : ℕ → List ℕ
varint n = varint_by n (nat_lt n 128) n

-- the number that groups of seven bits stand for, whatever their top bits
abbrev pub value_of : List ℕ → ℕ
value_of [] = 0
value_of (b ∷ s) = b % 128 + 128 * value_of s

-- the key of a field: its number and its wire type
abbrev pub key_of : ℕ → ℕ → ℕ
key_of field wire = field * 8 + wire

-- a field of wire type 0, left out where it has its default, 0
unfoldable pub uint_field : ℕ → ℕ → List ℕ
uint_field field n = cond (n == 0) [] (varint (key_of field 0) ++ varint n)

-- a length-delimited message
unfoldable pub delimited : List ℕ → List ℕ
delimited message = varint (length message) ++ message
