-- `compaction::Compaction::count_over` meets its contract.
use mathlib.Core.Path.{◌∙◌, ap}
use mathlib.Core.Logic.{inl}
use native.Mathlib.Omega.{arith}
use lib.ListN.{length}
use Rattle.std.proofs.Common.{rules}
use Rattle.std.proofs.lemmas.Iterator.Consumers.{count_from_yields_List}
use Rattle.snapshot.specs.Views.{vector_of}
use Rattle.snapshot.specs.Passing.{to_come}
use Rattle.version_state.proofs.Facts.{sound-of}
use Rattle.compaction.proofs.Filtered.{over-count, over-road, few-shown}
use Rattle.compaction.proofs.Compaction.count_over.Goals as goal

pub count-requires-clause-fits : goal.count-requires-clause-fits
count-requires-clause-fits c =
    let a = c.args.self.now in
    let f = (sound-of a.state.inner.now a.state.sound).fits.vectors in
    let h = few-shown a.state.inner.now a.table.0 a.taken.now in
    inl (omega (arith, ap length c.shown_of.ensures, ap (λ s. length (to_come s)) c.filter.ensures.source))

pub returns : goal.returns
returns c =
    let a = c.args.self.now in
    let m = a.state.inner.now in
    count_from_yields_List _ c.count.result c.count.ensures.ran
    (over-road m a.table.0 a.taken.now vector_of to_come _ (ap to_come c.filter.ensures.source ∙ c.shown_of.ensures) c.filter.ensures.closure (λ x b q k. search rules))
    ∙ over-count m a.table.0 a.taken.now
