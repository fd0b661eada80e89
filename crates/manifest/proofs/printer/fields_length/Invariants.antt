-- `manifest::printer::fields_length` meets its contract.
use mathlib.Core.Path.{◌≡◌}
use Prim.Native.Nat.{◌*◌, ◌≤◌}
use lib.ListN.{length, take}
use Rattle.manifest.specs.Lines.{fields_text}
use Rattle.manifest.proofs.printer.fields_length.Given as goal

abbrev pub invariant-loop-n : goal.invariant-loop-n
invariant-loop-n l = (length l.fields ≤ 3) × (l.k ≡ length (fields_text (take l.n-index l.fields))) × (l.k ≤ l.n-index * 21)
