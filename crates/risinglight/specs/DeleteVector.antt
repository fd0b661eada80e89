-- `DeleteVector` of delete_vector.rs, and what prost reads and writes of a `DeleteRecord`. Assumes nothing.
use Rattle.std.specs.Prelude.{Bool, false, cond, ◌&&◌, ◌||◌, List, [], ◌∷◌, ◌++◌, ℕ, zero, suc, ◌+◌, ◌-◌, ◌*◌, ◌/◌, ◌%◌, ltb, leb, eqb, length, drop}
use Rattle.std.specs.Int.Count.{count_leading_zeros}
use Rattle.risinglight.specs.Maps.{Outcome, fails, ok, and_then}

-- Reading. Groups, fields and records are bounded by the bytes left, for recursion to end: the law `Loops` says that this bounds
-- nothing. The bounds of a varint and of the depth are prost's own.

-- a number that was read, and the bytes after it
pub record Read : Type 0 where
  pub value : ℕ
  pub left : List ℕ

abbrev pub read : ℕ → List ℕ → Read
read n buf = record { value = n; left = buf }

-- of at most n bytes, and an n-th is at most 1
abbrev pub varint_within : ℕ → List ℕ → Outcome Read
varint_within zero buf = fails
varint_within (suc n) [] = fails
varint_within (suc n) (b ∷ buf) =
    cond (ltb b 128)
    (cond (eqb n 0 && ltb 1 b) fails (ok (read b buf)))
    (and_then (varint_within n buf) (λ r. ok (read (b % 128 + 128 * r.value) r.left)))

-- 64 bits
abbrev pub decode_varint : List ℕ → Outcome Read
decode_varint buf = varint_within 10 buf

-- a key is a field's number, by prost's name its tag, times 8, and a wire type
abbrev pub tag_of : Read → ℕ
tag_of k = k.value / 8

abbrev pub wire_of : Read → ℕ
wire_of k = k.value % 8

-- 32 bits, no wire type above 5, and no field 0
abbrev pub decode_key : List ℕ → Outcome Read
decode_key buf = and_then (decode_varint buf) (λ k. cond (ltb 4294967295 k.value || (ltb 5 (wire_of k) || eqb (tag_of k) 0)) fails (ok k))

abbrev pub advance : ℕ → List ℕ → Outcome (List ℕ)
advance n buf = cond (ltb (length buf) n) fails (ok (drop n buf))

-- fields up to the end of the group, at most n of them
abbrev pub group_within : (ℕ → ℕ → List ℕ → Outcome (List ℕ)) → ℕ → ℕ → List ℕ → Outcome (List ℕ)
group_within skip zero tag buf = fails
group_within skip (suc n) tag buf =
    and_then (decode_key buf) (λ k.
    cond (eqb (wire_of k) 4)
    (cond (eqb (tag_of k) tag) (ok k.left) fails)
    (and_then (skip (wire_of k) (tag_of k) k.left) (λ rest. group_within skip n tag rest)))

abbrev pub skip_group : (ℕ → ℕ → List ℕ → Outcome (List ℕ)) → ℕ → List ℕ → Outcome (List ℕ)
skip_group skip tag buf = group_within skip (length buf) tag buf

-- wire types: 0 a varint, 1 eight bytes, 2 bytes behind their count, 3 the start of a group, 4 its end, 5 four bytes. Fields in
-- groups are nested at most `depth` deep
abbrev pub skip_field : ℕ → ℕ → ℕ → List ℕ → Outcome (List ℕ)
skip_field zero wire tag buf = fails
skip_field (suc depth) wire tag buf =
    cond (eqb wire 0) (and_then (decode_varint buf) (λ r. ok r.left))
    (cond (eqb wire 1) (advance 8 buf)
    (cond (eqb wire 2) (and_then (decode_varint buf) (λ r. advance r.value r.left))
    (cond (eqb wire 3) (skip_group (skip_field depth) tag buf)
    (cond (eqb wire 5) (advance 4 buf) fails))))

-- a field of the record, behind its key: number 1 is `row_id`, its low 32 bits. 99 is the recursion limit of 100 less the record
abbrev pub merge_field : ℕ → Read → Outcome Read
merge_field row k =
    cond (eqb (tag_of k) 1)
    (cond (eqb (wire_of k) 0) (and_then (decode_varint k.left) (λ r. ok (read (r.value % 4294967296) r.left))) fails)
    (and_then (skip_field 99 (wire_of k) (tag_of k) k.left) (λ rest. ok (read row rest)))

abbrev pub merge_next : ℕ → List ℕ → Outcome Read
merge_next row buf = and_then (decode_key buf) (λ k. merge_field row k)

-- no fields more: the record must end where its length says
abbrev pub merged : ℕ → ℕ → List ℕ → Outcome Read
merged limit row buf = cond (eqb (length buf) limit) (ok (read row buf)) fails

-- fields while more than `limit` bytes are left, at most n of them
abbrev pub fields_within : ℕ → ℕ → ℕ → List ℕ → Outcome Read
fields_within zero limit row buf = merged limit row buf
fields_within (suc n) limit row buf =
    cond (ltb limit (length buf))
    (and_then (merge_next row buf) (λ r. fields_within n limit r.value r.left))
    (merged limit row buf)

abbrev pub merge_loop : ℕ → ℕ → List ℕ → Outcome Read
merge_loop limit row buf = fields_within (length buf) limit row buf

-- the fields, whose count of bytes is n
abbrev pub merge_delimited : ℕ → List ℕ → Outcome Read
merge_delimited n buf = cond (ltb (length buf) n) fails (merge_loop (length buf - n) 0 buf)

abbrev pub decode_length_delimited : List ℕ → Outcome Read
decode_length_delimited buf = and_then (decode_varint buf) (λ r. merge_delimited r.value r.left)

-- records until the bytes are used up, at most n of them
abbrev pub records_within : ℕ → List ℕ → Outcome (List ℕ)
records_within zero [] = ok []
records_within zero (b ∷ buf) = fails
records_within (suc n) [] = ok []
records_within (suc n) (b ∷ buf) =
    and_then (decode_length_delimited (b ∷ buf)) (λ r.
    and_then (records_within n r.left) (λ rows. ok (r.value ∷ rows)))

abbrev pub decode_all : List ℕ → Outcome (List ℕ)
decode_all buf = records_within (length buf) buf

-- Writing.

-- at most n bytes
abbrev pub varint_bytes : ℕ → ℕ → List ℕ
varint_bytes zero value = []
varint_bytes (suc n) value = cond (ltb value 128) (value ∷ []) ((value % 128 + 128) ∷ varint_bytes n (value / 128))

abbrev pub encode_varint : ℕ → List ℕ
encode_varint value = varint_bytes 10 value

-- of 64 bits. n / 2 * 2 + 1 is `n | 1`
abbrev pub encoded_len_varint : ℕ → ℕ
encoded_len_varint n = ((63 - count_leading_zeros 64 (n / 2 * 2 + 1)) * 9 + 73) / 64

-- the default is left out
abbrev pub encode_raw : ℕ → List ℕ
encode_raw row = cond (eqb row 0) [] (encode_varint 8 ++ encode_varint row)

abbrev pub encoded_len : ℕ → ℕ
encoded_len row = cond (eqb row 0) 0 (encoded_len_varint 8 + encoded_len_varint row)

abbrev pub encode_length_delimited : ℕ → List ℕ
encode_length_delimited row = encode_varint (encoded_len row) ++ encode_raw row

abbrev pub write_all : List ℕ → List ℕ
write_all [] = []
write_all (row ∷ deletes) = encode_length_delimited row ++ write_all deletes

-- In memory.

abbrev pub sorted_in : ℕ → List ℕ → List ℕ
sorted_in x [] = x ∷ []
sorted_in x (y ∷ l) = cond (leb x y) (x ∷ y ∷ l) (y ∷ sorted_in x l)

-- equal numbers cannot be told apart, so every sort is this one
abbrev pub sort_unstable : List ℕ → List ℕ
sort_unstable [] = []
sort_unstable (x ∷ l) = sorted_in x (sort_unstable l)

-- without those that repeat the one before them
abbrev pub dedup_after : ℕ → List ℕ → List ℕ
dedup_after x [] = []
dedup_after x (y ∷ l) = cond (eqb y x) (dedup_after x l) (y ∷ dedup_after y l)

abbrev pub dedup : List ℕ → List ℕ
dedup [] = []
dedup (x ∷ l) = x ∷ dedup_after x l

abbrev pub new : List ℕ → List ℕ
new deletes = dedup (sort_unstable deletes)

abbrev pub «open» : List ℕ → Outcome (List ℕ)
«open» file = and_then (decode_all file) (λ deletes. ok (new deletes))

-- Masks.

-- of sorted rows: how many are below the offset
abbrev pub partition_point : ℕ → List ℕ → ℕ
partition_point offset [] = 0
partition_point offset (x ∷ l) = cond (ltb x offset) (suc (partition_point offset l)) 0

-- the row is a `usize`, and compared as a `u32`
abbrev pub cleared : List ℕ → ℕ → List Bool → List Bool
cleared iter row [] = []
cleared [] row (bit ∷ mask) = bit ∷ cleared [] (row + 1) mask
cleared (x ∷ iter) row (bit ∷ mask) =
    cond (eqb x (row % 4294967296))
    (false ∷ cleared iter (row + 1) mask)
    (bit ∷ cleared (x ∷ iter) (row + 1) mask)

abbrev pub apply_to : List ℕ → List Bool → ℕ → List Bool
apply_to deletes mask offset = cleared (drop (partition_point offset deletes) deletes) offset mask
