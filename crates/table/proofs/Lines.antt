-- The lines of a drop: how many bytes one has at most, and how many they are. Assumes nothing.
use mathlib.Core.Path.{◌≡◌}
use mathlib.Core.Bool.{Bool, true}
use mathlib.Core.List.{[], ◌∷◌}
use Prim.Native.Nat.{ℕ, ◌≤◌}
use native.Mathlib.Omega.{arith}
use borrow.Author.Tests.{ltb-true}
use lib.ListN.{length}
use Rattle.lists.specs.Keyed.{keep}
use Rattle.lists.proofs.Keyed.{length-keep}
use Rattle.columns.specs.Rows.{rows}
use Rattle.rewrite.proofs.Lines.{kept-few}
use Rattle.ids.specs.Ids.{largest32, largest64, is_id32}
use Rattle.ids.specs.Limits.{longest_line}
use Rattle.manifest.specs.Operations.{drop_table, delete_rowset, delete_vector}
use Rattle.manifest.proofs.Texts.{drop-room, delete-room, delete-vector-room}
use Rattle.frames.specs.Frames.{texts_of}
use Rattle.frames.proofs.Texts.{texts-cons}

-- of an id, with its newline
pub drop-line : (t : ℕ) → is_id32 t ≡ true → length (texts_of (drop_table t ∷ [])) ≤ longest_line
drop-line t h = let n = ltb-true t largest32 h in omega (arith, drop-room t (omega (arith, n)), texts-cons (drop_table t) [])

-- of numbers of their widths, with its newline
module _ (t r : ℕ) (p : t ≤ largest32) (q : r ≤ largest32) where
  pub delete-line : length (texts_of (delete_rowset t r ∷ [])) ≤ longest_line
  delete-line = omega (arith, delete-room t r p q, texts-cons (delete_rowset t r) [])

  pub delete-vector-line : (v : ℕ) → v ≤ largest64 → length (texts_of (delete_vector t r v ∷ [])) ≤ longest_line
  delete-vector-line v h = omega (arith, delete-vector-room t r p q v h, texts-cons (delete_vector t r v) [])

-- of n rows no more than n pass two tests
pub part-few : {A : Type 0} (q p : A → Bool) (f : ℕ → A) (n k : ℕ) → n ≤ k → length (keep q (keep p (rows f n))) ≤ k
part-few q p f n k h = omega (arith, length-keep q (keep p (rows f n)), kept-few p f n k h)
