-- `compaction::Compaction::is_long` meets its contract.
use mathlib.Core.Path.{◌≡◌}
use native.Mathlib.Omega.{arith}
use lib.ListN.{length}
use Rattle.std.proofs.Common.{rules}
use Rattle.version_state.proofs.Facts.{sound-of}
use Rattle.compaction.specs.New.{new_of}
use Rattle.compaction.proofs.Filtered.{few-over}
use Rattle.compaction.proofs.Whole.{few-new, counted, left-long}
use Rattle.compaction.proofs.Compaction.is_long.Goals as goal

pub overflow_sub-left-2 : goal.overflow_sub-left-2
overflow_sub-left-2 c =
    let a = c.args.self.now in
    let n : c.from.result ≡ length (new_of a.new) = search rules in
    omega (arith, n, few-new a.new, c.count_over.ensures, few-over a.state.inner.now a.table.0 a.taken.now, (sound-of a.state.inner.now a.state.sound).fits.vectors)

pub returns : goal.returns
returns c =
    let a = c.args.self.now in
    let n : c.from.result ≡ length (new_of a.new) = search rules in
    left-long c.from.result c.count_over.result (length a.taken.now) _
    (omega (arith, n, few-new a.new, c.count_over.ensures, few-over a.state.inner.now a.table.0 a.taken.now, (sound-of a.state.inner.now a.state.sound).fits.vectors))
    (omega (arith, n, c.count_over.ensures, counted a.state.inner.now a.table.0 (new_of a.new) a.taken.now))
