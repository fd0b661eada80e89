-- A loop over rows that writes a run to the front of a slice. Assumes nothing.
use mathlib.Core.Path.{◌≡◌, refl, ap, ◌∙◌}
use mathlib.Core.List.{List}
use Prim.Native.Nat.{ℕ, ◌+◌, ◌≤◌, ◌<◌}
use native.Mathlib.Omega.{arith}
use lib.ListN.{length, take, set, length-set}
use Rattle.lists.specs.Written.{over}
use Rattle.lists.proofs.Written.{over-turn, over_done}
use Rattle.columns.specs.Rows.{rows}
use Rattle.columns.proofs.Rows.{rows-length, rows_at}

-- Writing rows to the front of s, which is t after i of them.
pub record Filling (f : ℕ → ℕ) (n : ℕ) (s : List ℕ) (i : ℕ) (t : List ℕ) : Type 0 where
  pub within : i ≤ n
  pub room : n ≤ length s
  pub size : length t ≡ length s
  pub same : t ≡ over (take i (rows f n)) s

module _ (f : ℕ → ℕ) (n : ℕ) (s : List ℕ) where
  pub fill_start : n ≤ length s → Filling f n s 0 s
  fill_start h = record { within = omega arith; room = h; size = refl; same = refl }

  pub fill_more : (i : ℕ) (t : List ℕ) → i < n → Filling f n s i t → Filling f n s (i + 1) (set t i (f i))
  fill_more i t h w =
      let z = rows-length f n in
      let r = w.room in
      let x = rows_at f n i 0 h in
      record {
        within = omega arith;
        room = r;
        size = length-set t i (f i) ∙ w.size;
        same = ap (λ (l : List ℕ). set l i (f i)) w.same ∙ rw x at (over-turn s (rows f n) i 0 (omega arith) (omega arith));
      }

  pub fill_done : (i : ℕ) (t : List ℕ) → n ≤ i → Filling f n s i t → t ≡ over (rows f n) s
  fill_done i t h w = let z = rows-length f n in w.same ∙ over_done s (rows f n) i (omega arith)
