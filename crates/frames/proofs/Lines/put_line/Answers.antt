-- `frames::Lines::put_line` meets its contract.
use mathlib.Core.List.{[], ◌∷◌, ◌++◌}
use Prim.Native.Nat.{◌+◌, ◌≤◌}
use native.Mathlib.Omega.{arith}
use Rattle.std.proofs.Common.{length, rules}
use Rattle.lists.proofs.Written.{wrote_on}
use Rattle.manifest.specs.Operations.{operation_of}
use Rattle.manifest.specs.Lines.{text_of}
use Rattle.manifest.proofs.Texts.{lengths}
use Rattle.frames.proofs.Front.{wrote-front}
use Rattle.frames.proofs.Lines.put_line.Goals as goal

pub returns : goal.returns
returns g c =
    let line = text_of (operation_of c.args.change) in
    let room : c.self.inside.used + length (line ++ (10 ∷ [])) ≤ length c.self.inside.bytes = search rules in
    rw (← c.self.view_is) (wrote-front _ _ _ _ _ (search rules) (wrote_on _ _ _ _ _ _ _ _ (omega (arith, room, lengths line (10 ∷ []))) c.print-i.ensures c.put_byte-self-inside.ensures))
