-- `compaction::Compaction::put_new` meets its contract.
use mathlib.Core.Path.{ap, ◌∙◌}
use mathlib.Core.List.{[], ◌∷◌, ◌++◌}
use native.Mathlib.Omega.{arith}
use Rattle.std.proofs.Common.{lit<}
use lib.ListN.{length, length-append}
use Rattle.manifest.specs.Operations.{add_rowset}
use Rattle.manifest.specs.Lines.{text_of}
use Rattle.compaction.specs.New.{new_of}
use Rattle.compaction.proofs.Lines.{add-line, id-at}
use Rattle.compaction.proofs.Compaction.put_new.Goals as goal

pub put_line-requires : goal.put_line-requires
put_line-requires c =
    let a = c.args.self.now in
    let i = rw c.in-Some.is at (id-at (new_of a.new) 0 a.new_id) in
    let r = rw c.in-Some.is at c.requires in
    (lit< tt, omega (arith, add-line a.table.0 c.in-Some.r.0 a.id i, r, length-append (text_of (add_rowset a.table.0 c.in-Some.r.0)) (10 ∷ [])))

pub returns-in-Some-clause-short : goal.returns-in-Some-clause-short
returns-in-Some-clause-short c =
    let a = c.args.self.now in
    let i = rw c.in-Some.is at (id-at (new_of a.new) 0 a.new_id) in
    let line = text_of (add_rowset a.table.0 c.in-Some.r.0) in
    rw c.in-Some.is (omega (arith, add-line a.table.0 c.in-Some.r.0 a.id i, ap length c.put_line.ensures ∙ length-append c.args.lines.now (line ++ (10 ∷ [])), length-append line (10 ∷ [])))
