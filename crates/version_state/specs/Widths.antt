-- Numbers within their widths, as those of a manager are. Assumes nothing.
use Rattle.std.specs.Prelude.{◌≡◌, true, ◌≤◌, leb}
use Rattle.lists.specs.Keyed.{all_of}
use Rattle.ids.specs.Ids.{largest32, largest64}
use Rattle.version_state.specs.State.{State}

-- the next ids
pub record Narrow (s : State) : Type 0 where
  pub table : s.next_table ≤ largest32
  pub rowset : s.next_rowset ≤ largest32
  pub vector : s.next_vector ≤ largest64

-- the next ids, and the shapes of tables
pub record Widths (s : State) : Type 0 where
  pub next : Narrow s
  pub shapes : all_of (λ t. leb t.shape largest32) s.tables ≡ true
