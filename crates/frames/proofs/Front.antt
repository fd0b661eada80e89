-- What stands at the front of an array after a run was written behind it. Assumes nothing.
use mathlib.Core.Path.{◌≡◌, sym, ap, ◌∙◌}
use mathlib.Core.List.{List, ◌++◌, append_assoc}
use Prim.Native.Nat.{ℕ, ◌+◌, ◌≤◌}
use native.Mathlib.Omega.{arith}
use lib.ListN.{length, take, drop, length-append, length-take}
use lib.Seq.{take_at}
use Rattle.lists.specs.Written.{written, Wrote}

pub wrote-front : {A : Type 0} (s : List A) (at : ℕ) (run t : List A) (i : ℕ) → at ≤ length s → Wrote s at run t i → take i t ≡ take at s ++ run
unfolding written
wrote-front s at run t i h w =
    let long : length (take at s ++ run) ≡ i = simp (length-append, length-take) (omega (arith, w.next, h)) in
    ap (take i) (w.content ∙ sym (append_assoc (take at s) run (drop (at + length run) s))) ∙ take_at (take at s ++ run) (drop (at + length run) s) i long
