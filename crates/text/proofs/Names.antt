-- Laws of names. Assumes nothing.
use mathlib.Core.Path.{◌≡◌, refl}
use mathlib.Core.Bool.{true, false, ◌&&◌}
use mathlib.Core.List.{List}
use Prim.Native.Nat.{ℕ, ◌<◌, ◌≤◌}
use native.Mathlib.Omega.{arith}
use lib.Dec.{leb, ltb, eqb}
use lib.ListN.{length}
use borrow.Author.Tests.{lt-ltb, le-leb, lt-leb, ltb-true, leb-true}
use Rattle.lists.specs.Keyed.{all_of, any_of}
use Rattle.lists.proofs.Tests.{both}
use Rattle.ids.specs.Names.{longest_name}
use Rattle.text.specs.Name.{is_name_byte, is_name}
use Rattle.std.specs.List.{list_all}
use Rattle.std.proofs.lemmas.List.Recursion.{same_from_clauses}
use Rattle.text.proofs.Bytes.{name-bytes-without}

-- what `all` answers of a slice
pub name-bytes : (s : List ℕ) → list_all is_name_byte s ≡ all_of is_name_byte s
name-bytes s = same_from_clauses (list_all is_name_byte) (all_of is_name_byte) (λ b r. is_name_byte b && r) refl (λ _ _. refl) (λ _ _. refl) s

module _ (s : List ℕ) where
  pub name-empty : length s ≡ 0 → is_name s ≡ false
  unfolding is_name
  name-empty h = rw h

  pub name-long : longest_name < length s → is_name s ≡ false
  unfolding is_name
  name-long h = rw (lt-ltb 0 (length s) (omega arith), lt-leb (length s) longest_name h)

  pub name-all : (length s ≡ 0 → ⊥) → length s ≤ longest_name → is_name s ≡ list_all is_name_byte s
  unfolding is_name
  name-all p h = rw (lt-ltb 0 (length s) (omega arith), le-leb (length s) longest_name h, name-bytes s)

  -- a name's length, and its bytes
  pub name-length : is_name s ≡ true → (0 < length s) × (length s ≤ longest_name)
  unfolding is_name
  name-length h =
      let a = both (ltb 0 (length s) && leb (length s) longest_name) (all_of is_name_byte s) h in
      let b = both (ltb 0 (length s)) (leb (length s) longest_name) a.0 in
      (ltb-true 0 (length s) b.0, leb-true (length s) longest_name b.1)

  pub name-without : (c : ℕ) → is_name_byte c ≡ false → is_name s ≡ true → any_of (λ b. eqb b c) s ≡ false
  unfolding is_name
  name-without c n h = name-bytes-without c s n (both (ltb 0 (length s) && leb (length s) longest_name) (all_of is_name_byte s) h).1
