-- `manifest::parser::fields` meets its contract.
use mathlib.Core.Path.{◌≡◌}
use lib.ListN.{length, take, drop}
use Rattle.manifest.specs.Fields.{read_after, fields_at}
use Rattle.manifest.proofs.parser.fields.Given as goal

abbrev pub invariant-loop-i : goal.invariant-loop-i
invariant-loop-i g l = (length l.values ≡ length l.limits) × (fields_at l.limits l.s 1 ≡ read_after (take l.i l.values) (fields_at (drop l.i l.limits) l.s l.at))
