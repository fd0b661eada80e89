-- Laws of names. Assumes nothing.
use mathlib.Core.Path.{◌≡◌, refl, ap, ◌∙◌}
use mathlib.Core.List.{List, [], ◌∷◌}
use Prim.Native.Nat.{ℕ, ◌≤◌, ◌<◌}
use native.Mathlib.Omega.{arith}
use lib.Dec.{leb, eqb}
use lib.ListN.{length, get_or, take, length-take}
use lib.Seq.{length-take-le, get_or-take}
use borrow.Author.Tests.{leb-true, le-leb, lt-leb}
use Rattle.std.specs.Cmp.Lexicographic.{pointwise}
use Rattle.std.proofs.Common.{nat_eq}
use Rattle.lists.specs.Order.{same}
use Rattle.lists.proofs.Tests.{by_cases}
use Rattle.ids.specs.declared.name.Name.{Name}
use Rattle.ids.specs.Names.{longest_name, name_of}

pub name-short : (n : Name) → n.len ≤ longest_name → name_of n ≡ take n.len n.bytes
unfolding name_of
name-short n h = rw (le-leb n.len longest_name h)

pub name-over : (n : Name) → longest_name < n.len → name_of n ≡ []
unfolding name_of
name-over n h = rw (lt-leb n.len longest_name h)

pub name-length : (n : Name) → length n.bytes ≡ longest_name → n.len ≤ longest_name → length (name_of n) ≡ n.len
name-length n f h = ap length (name-short n h) ∙ length-take-le n.len n.bytes (omega arith)

pub name-room : (n : Name) → length (name_of n) ≤ longest_name
unfolding name_of
name-room n =
    by_cases (leb n.len longest_name)
    (λ e. rw (e, length-take) (omega (arith, leb-true n.len longest_name e)))
    (λ e. rw e (omega arith))

pub name-at : (n : Name) (i d : ℕ) → i < length (name_of n) → get_or (name_of n) i d ≡ get_or n.bytes i d
unfolding name_of
name-at n i d h =
    by_cases (leb n.len longest_name)
    (λ e. let l : i < length (take n.len n.bytes) = rw e at h in
    rw e (get_or-take n.len n.bytes i d (omega (arith, length-take n.len n.bytes))))
    (λ e. let l : i < 0 = rw e at h in absurd (omega arith))

-- what `==` says of two slices of numbers
pub bytes-same : (a b : List ℕ) → pointwise nat_eq a b ≡ same a b
bytes-same [] [] = refl
bytes-same [] (y ∷ b) = refl
bytes-same (x ∷ a) [] = refl
bytes-same (x ∷ a) (y ∷ b) = rw (bytes-same a b)
