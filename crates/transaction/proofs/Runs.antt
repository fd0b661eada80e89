-- The rows by rowset are those of the handles, each once. Assumes nothing.
use mathlib.Core.Path.{◌≡◌, refl, sym, ap, ◌∙◌}
use mathlib.Core.Bool.{Bool, true, false, ◌&&◌, or-true}
use mathlib.Core.List.{List, [], ◌∷◌, map}
use Prim.Native.Nat.{ℕ, suc}
use native.Mathlib.Omega.{arith}
use lib.Dec.{eqb}
use lib.ListN.{length, length-append}
use borrow.Author.Tests.{eqb-true, eqb-false, ne_eqb}
use Rattle.lists.specs.Order.{same}
use Rattle.lists.proofs.Tests.{by_cases, clash}
use Rattle.lists.proofs.Order.{less-same, same_refl}
use Rattle.lists.proofs.Keyed.{All, all_map, After, Ascending}
use Rattle.delete_vector.specs.Memory.{row_key, is_in, in_memory}
use Rattle.delete_vector.proofs.InMemory.{memory-ascends, memory-same-set}
use Rattle.transaction.specs.Groups.{Handle, rows_of, rowsets_of, runs_of}

-- The rows of different rowsets are different handles'.
absent : (r : ℕ) (rs : List ℕ) (h : Handle) (hs : List Handle) → After row_key (row_key r) rs → h.rowset ≡ r → runs_of rs (h ∷ hs) ≡ runs_of rs hs
absent r [] h hs a e = refl
absent r (x ∷ rs) h hs a e =
    let t : eqb h.rowset x ≡ false = rw e (first (eqb r x) (less-same (row_key r) (row_key x) a.0)) in
    rw (t, absent r rs h hs a.1 e)
  where
    first : (b : Bool) → b && true ≡ false → b ≡ false
    first true h = h
    first false h = refl

-- one handle more is one row more, where its rowset is among them
grows : (rs : List ℕ) (h : Handle) (hs : List Handle) → Ascending row_key rs → is_in rs h.rowset ≡ true → length (runs_of rs (h ∷ hs)) ≡ suc (length (runs_of rs hs))
grows [] h hs s i = clash i refl
grows (r ∷ rs) h hs s i =
    by_cases (eqb h.rowset r)
    (λ e. rw (e, absent r rs h hs s.0 (eqb-true h.rowset r e)))
    (λ e. rw (e, length-append (rows_of r hs) (runs_of rs (h ∷ hs)), length-append (rows_of r hs) (runs_of rs hs), grows rs h hs s.1 (other (eqb-false h.rowset r e))) (omega arith))
  where
    other : (h.rowset ≡ r → ⊥) → is_in rs h.rowset ≡ true
    other n = rw (ne_eqb r h.rowset (λ q. n (sym q))) at i

none : (rs : List ℕ) → runs_of rs [] ≡ []
none [] = refl
none (r ∷ rs) = none rs

runs_by : (rs : List ℕ) (hs : List Handle) → Ascending row_key rs → All (λ (h : Handle). is_in rs h.rowset ≡ true) hs → length (runs_of rs hs) ≡ length hs
runs_by rs [] s i = ap length (none rs)
runs_by rs (h ∷ hs) s i = grows rs h hs s i.0 ∙ ap suc (runs_by rs hs s i.1)

-- the rows by rowset are as many as the handles
pub runs-length : (hs : List Handle) → length (runs_of (rowsets_of hs) hs) ≡ length hs
runs-length hs =
    let rs = map (λ (h : Handle). h.rowset) hs in
    runs_by (in_memory rs) hs (memory-ascends rs) (all_map hs (λ h e. memory-same-set rs h.rowset ∙ e) (among hs))
  where
    later : (x : ℕ) (l : List ℕ) (h : Handle) → is_in l h.rowset ≡ true → is_in (x ∷ l) h.rowset ≡ true
    later x l h e = rw e (or-true (same (row_key x) (row_key h.rowset)))

    among : (hs : List Handle) → All (λ (h : Handle). is_in (map (λ (k : Handle). k.rowset) hs) h.rowset ≡ true) hs
    among [] = tt
    among (h ∷ hs) = (rw (same_refl (row_key h.rowset)), all_map hs (later h.rowset (map (λ (k : Handle). k.rowset) hs)) (among hs))
