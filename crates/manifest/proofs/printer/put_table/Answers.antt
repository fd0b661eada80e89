-- `manifest::printer::put_table` meets its contract.
use native.Mathlib.Omega.{arith}
use mathlib.Core.List.{[], ◌∷◌}
use Rattle.lists.proofs.Written.{wrote_on}
use Rattle.ids.specs.Names.{name_of}
use Rattle.manifest.specs.Lines.{fields_text}
use Rattle.manifest.proofs.Texts.{lengths}
use Rattle.manifest.proofs.printer.put_table.Goals as goal

pub returns : goal.returns
returns c =
    let n = lengths (fields_text (c.args.x ∷ c.args.y ∷ [])) (44 ∷ name_of c.args.name) in
    let b = rw c.as_slice.ensures at c.put_bytes.ensures in
    wrote_on _ _ _ _ _ _ _ _ (omega (arith, c.requires)) c.put_fields-i.ensures
    (wrote_on _ _ (44 ∷ []) _ _ _ _ _ (omega (arith, c.requires, c.put_fields-i.auto.out, c.put_fields-i.ensures.next)) c.put_byte-j.ensures b)
