-- `commit::typed::put_lines` meets its contract.
use Rattle.std.proofs.Common.{◌≡◌, map, take}
use Rattle.manifest.specs.Operations.{batch_of}
use Rattle.frames.specs.Frames.{texts_of}
use Rattle.commit.specs.Lent.{as_line}
use Rattle.commit.proofs.typed.put_lines.Given as goal

abbrev pub invariant-loop-change : goal.invariant-loop-change
invariant-loop-change l = l.lines ≡ texts_of (take l.change-index (map as_line (batch_of l.fn.batch)))
