-- `compactor::rowsets_now` meets its contract.
use Rattle.std.proofs.Common.{[], ◌∷◌, ◌++◌, length, map, sym, ap, ◌∙◌, arith}
use mathlib.Core.List.{map-map}
use lib.ListN.{length-map}
use Rattle.std.proofs.lemmas.Iterator.Consumers.{YieldsList-from_first, YieldsList-turn, YieldsList-end}
use Rattle.lists.specs.Keyed.{keep}
use Rattle.lists.proofs.Views.{map-append}
use Rattle.snapshot.specs.Entries.{shown_by, of_table}
use Rattle.snapshot.specs.Views.{rowset_of}
use Rattle.snapshot.specs.Passing.{to_come}
use Rattle.version_state.specs.State.{state_of}
use Rattle.version_state.proofs.Facts.{sound-of}
use Rattle.compactor.proofs.Taking.{rowset_at}
use Rattle.compactor.proofs.Selecting.{rowset_held, shown-few, rowsets-shown}
use Rattle.compactor.proofs.rowsets_now.Goals as goal

-- there is room for one more
pub push-requires : goal.push-requires
push-requires c =
    let m = c.args.state.inner.now in
    let l = keep (of_table c.args.table.0) (keep (shown_by m.epoch) (state_of m).pairs) in
    let road = YieldsList-from_first rowset_of to_come {s = c.into_iter-rowset-iterator.result} l (ap to_come c.into_iter-rowset-iterator.ensures.into_iter_gives ∙ c.shown_of-shown.ensures) in
    let t = YieldsList-turn road c.loop-rowset.yielded c.loop-rowset.rowset-iterator c.loop-rowset.yielded_by _ c.next.new.self c.in-Some.rowset c.in-Some.is c.next.ensures.steps in
    let f = (sound-of m c.args.state.sound).fits.rowsets in
    omega (arith, t.0, shown-few c.args.table.0 m.epoch m.rowsets, f, ap length c.loop-rowset.invariant, length-map c.loop-rowset.yielded rowset_held)

pub loop-rowset-preserved : goal.loop-rowset-preserved
loop-rowset-preserved c =
    c.push.ensures.items ∙ ap (λ l. l ++ rowset_held c.in-Some.rowset ∷ []) c.loop-rowset.invariant ∙ sym (map-append rowset_held c.loop-rowset.yielded (c.in-Some.rowset ∷ []))

pub returns : goal.returns
returns c =
    let m = c.args.state.inner.now in
    let l = keep (of_table c.args.table.0) (keep (shown_by m.epoch) (state_of m).pairs) in
    let road = YieldsList-from_first rowset_of to_come {s = c.into_iter-rowset-iterator.result} l (ap to_come c.into_iter-rowset-iterator.ensures.into_iter_gives ∙ c.shown_of-shown.ensures) in
    let e = YieldsList-end road c.loop-rowset.yielded c.loop-rowset.rowset-iterator c.loop-rowset.yielded_by _ c.next.new.self c.in-None.is c.next.ensures.steps in
    c.loop-rowset.invariant
    ∙ sym (map-map rowset_at rowset_of c.loop-rowset.yielded)
    ∙ ap (map rowset_at) e.0
    ∙ rowsets-shown c.args.table.0 (state_of m)
