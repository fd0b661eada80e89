-- `rewrite::put_tables` meets its contract.
use mathlib.Core.Path.{◌≡◌, sym, ◌∙◌}
use Prim.Native.Nat.{◌<◌}
use native.Mathlib.Omega.{arith}
use lib.ListN.{length}
use Rattle.std.proofs.lemmas.List.{get_or_default}
use Rattle.columns.proofs.Rows.{rows-length}
use Rattle.snapshot.specs.Tables.{no_table}
use Rattle.snapshot.specs.Views.{table_of}
use Rattle.version_state.specs.declared.VersionManagerInner.{VersionManagerInner}
use Rattle.version_state.specs.State.{state_of}
use Rattle.rewrite.proofs.Lines.{write-start, write-more, write_done}
use Rattle.rewrite.proofs.put_tables.Goals as goal

-- as many as the count says
counted : (m : VersionManagerInner) → length (state_of m).tables ≡ m.tables.count
counted m = rows-length _ m.tables.count

pub loop-i-init : goal.loop-i-init
loop-i-init c = let f = c.requires.fits.tables in write-start (omega (arith, counted c.args.inner.now)) c.requires.room

pub loop-i-preserved : goal.loop-i-preserved
loop-i-preserved c =
    let l = (state_of c.args.inner.now).tables in
    let h : c.loop-i.i < length l = omega (arith, c.loop-i-test.true, counted c.args.inner.now) in
    let x = table_of c.get-table.result in
    write-more c.loop-i.invariant h x (c.get-table.ensures ∙ sym (get_or_default l c.loop-i.i x no_table h))
    (rw c.create_change.ensures.0 at c.create_change.ensures.1) _ (rw c.create_change.ensures.0 at c.put_line.ensures)

pub returns : goal.returns
returns c = write_done c.loop-i.invariant (omega (arith, c.loop-i-test.false, counted c.args.inner.now))
