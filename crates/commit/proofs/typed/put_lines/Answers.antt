-- `commit::typed::put_lines` meets its contract.
use Rattle.std.proofs.Common.{◌≡◌, [], ◌∷◌, ◌++◌, ◌+◌, ◌≤◌, length, take, drop, sym, map, arith, ap, ◌∙◌}
use Rattle.lists.proofs.Places.{known}
use Rattle.lists.proofs.Views.{view-length}
use Rattle.ids.specs.Limits.{most_operations}
use Rattle.manifest.specs.Operations.{operation_of, batch_of}
use Rattle.manifest.specs.Lines.{text_of}
use Rattle.frames.specs.Frames.{texts_of}
use Rattle.frames.proofs.Texts.{texts-turn, texts-room}
use Rattle.commit.specs.Lent.{as_line}
use Rattle.commit.proofs.AsLines.{lines-room, line-turn}
use Rattle.commit.proofs.typed.put_lines.Goals as goal

pub put_line-requires : goal.put_line-requires
put_line-requires c =
    let b = c.args.batch in
    let full : length b.changes ≡ most_operations = search known in
    let few = lines-room (batch_of b) (omega (arith, c.requires, view-length operation_of b.changes b.count (omega (arith, c.requires, full)))) in
    let i = c.loop-change.change-index in
    let os = map as_line (batch_of b) in
    let r : length (texts_of (take i os)) + length (text_of (operation_of c.as_line.result) ++ (10 ∷ [])) ≤ length (texts_of os) =
    rw c.as_line.ensures (texts-room os i _ (drop (i + 1) os) (line-turn (take b.count b.changes) i _ c.loop-change-test.true)) in
    omega (arith, r, few, ap length c.loop-change.invariant)

pub loop-change-preserved : goal.loop-change-preserved
loop-change-preserved c =
    let b = c.args.batch in
    let t = line-turn (take b.count b.changes) c.loop-change.change-index _ c.loop-change-test.true in
    let i = c.loop-change.change-index in
    let os = map as_line (batch_of b) in
    c.put_line.ensures ∙ rw (c.loop-change.invariant, c.as_line.ensures) (sym (texts-turn os i _ (drop (i + 1) os) t))
