-- The laws of grouping hold. Assumes nothing.
use mathlib.Core.Path.{◌≡◌, refl, sym, ap, ◌∙◌}
use mathlib.Core.Bool.{true, ◌&&◌, and-true}
use mathlib.Core.List.{List, [], ◌∷◌, map}
use Prim.Native.Nat.{ℕ}
use lib.Dec.{ltb, eqb}
use Rattle.lists.specs.Keyed.{any_of, ascending}
use Rattle.lists.proofs.Tests.{by_cases, both, join}
use Rattle.delete_vector.specs.Records.{row_limit}
use Rattle.delete_vector.specs.Memory.{row_key, is_in}
use Rattle.delete_vector.specs.Laws.{are_rows}
use Rattle.delete_vector.proofs.InMemory.{memory-ascending, memory-same-set}
use Rattle.delete_vector.proofs.Together.{laws-hold}
use Rattle.transaction.specs.Groups.{Handle, rows_of, rowsets_of}
use Rattle.transaction.specs.Laws.{GroupLaws}
use Rattle.transaction.proofs.Runs.{runs-length}
use Rattle.transaction.proofs.Outputs.{named-rowsets}

rows-kept : (r : ℕ) (hs : List Handle) → are_rows (map (λ (h : Handle). h.row) hs) ≡ true → are_rows (rows_of r hs) ≡ true
rows-kept r [] e = refl
rows-kept r (h ∷ hs) e =
    let d = both (ltb h.row row_limit) (are_rows (map (λ (k : Handle). k.row) hs)) e in
    by_cases (eqb h.rowset r) (λ t. rw t (join d.0 (rows-kept r hs d.1))) (λ t. rw t (rows-kept r hs d.1))

rows-held : (r row : ℕ) (hs : List Handle) → is_in (rows_of r hs) row ≡ any_of (λ (h : Handle). eqb h.rowset r && eqb h.row row) hs
rows-held r row [] = refl
rows-held r row (h ∷ hs) =
    by_cases (eqb h.rowset r)
    (λ t. rw (t, rows-held r row hs, and-true (eqb h.row row)))
    (λ t. rw (t, rows-held r row hs))

pub groups-hold : GroupLaws
groups-hold = record {
  rises = λ hs. ap (ascending row_key) (sym (named-rowsets (rowsets_of hs) hs)) ∙ memory-ascending (map (λ (h : Handle). h.rowset) hs);
  named = λ hs r. ap (λ (l : List ℕ). is_in l r) (sym (named-rowsets (rowsets_of hs) hs)) ∙ memory-same-set (map (λ (h : Handle). h.rowset) hs) r;
  file = λ hs r e. laws-hold.reads_back (rows_of r hs) (rows-kept r hs e);
  memory = λ hs r. memory-ascending (rows_of r hs);
  held = λ hs r row. memory-same-set (rows_of r hs) row ∙ rows-held r row hs;
  once = runs-length;
}
