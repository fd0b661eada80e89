-- `manifest::printer::put_fields` meets its contract.
use Prim.Native.Nat.{◌+◌, ◌≤◌}
use mathlib.Core.List.{◌∷◌}
use lib.ListN.{length, take}
use Rattle.lists.specs.Written.{Wrote}
use Rattle.manifest.specs.Lines.{fields_text}
use Rattle.manifest.proofs.printer.put_fields.Given as goal

abbrev pub invariant-loop-n : goal.invariant-loop-n
invariant-loop-n l = (l.fn.at + length (l.letter ∷ fields_text l.fields) ≤ length l.out) × Wrote l.fn.out l.at (l.letter ∷ fields_text (take l.n-index l.fields)) l.out l.i
