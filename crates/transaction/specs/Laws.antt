-- What grouping keeps of the handles: each is in the one vector of its rowset. Assumes nothing.
use Rattle.std.specs.Prelude.{◌≡◌, true, ◌&&◌, List, map, ℕ, eqb, length}
use Rattle.lists.specs.Keyed.{any_of, ascending}
use Rattle.delete_vector.specs.Records.{Rows, records_in}
use Rattle.delete_vector.specs.Memory.{row_key, is_in}
use Rattle.delete_vector.specs.Laws.{are_rows}
use Rattle.transaction.specs.Groups.{Handle, rows_of, rowsets_of, vector_of, vectors_of, rowsets_in, runs_of}

pub record GroupLaws : Type 0 where
  -- the vectors' rowsets rise strictly
  pub rises : (hs : List Handle) → ascending row_key (rowsets_in (vectors_of hs)) ≡ true
  -- and are those that the handles name
  pub named : (hs : List Handle) (r : ℕ) → is_in (rowsets_in (vectors_of hs)) r ≡ is_in (map (λ (h : Handle). h.rowset) hs) r
  -- a vector's file reads back to the rows of its rowset, in handle order, with repeats
  pub file : (hs : List Handle) (r : ℕ) → are_rows (map (λ (h : Handle). h.row) hs) ≡ true → records_in (vector_of hs r).file ≡ Rows (rows_of r hs)
  -- its rows in memory rise strictly
  pub memory : (hs : List Handle) (r : ℕ) → ascending row_key (vector_of hs r).memory ≡ true
  -- and are those of the rowset's handles
  pub held : (hs : List Handle) (r row : ℕ) → is_in (vector_of hs r).memory row ≡ any_of (λ (h : Handle). eqb h.rowset r && eqb h.row row) hs
  -- all vectors' rows, before repeats go, are as many as the handles: none is left out, and none is in two vectors
  pub once : (hs : List Handle) → length (runs_of (rowsets_of hs) hs) ≡ length hs
