-- `show::gathered` meets its contract.
use mathlib.Core.Path.{sym, ap, ◌∙◌}
use mathlib.Core.List.{◌∷◌, [], ◌++◌, map, map-map}
use native.Mathlib.Omega.{arith}
use lib.ListN.{length, length-map}
use Rattle.std.proofs.lemmas.Iterator.Consumers.{YieldsList-from_first, YieldsList-turn, YieldsList-end}
use Rattle.lists.specs.Keyed.{keep}
use Rattle.lists.proofs.Keyed.{length-keep}
use Rattle.lists.proofs.Views.{map-append}
use Rattle.snapshot.specs.Entries.{by_ids, shown_by}
use Rattle.snapshot.specs.Views.{entry_of}
use Rattle.snapshot.specs.Passing.{to_come}
use Rattle.show.proofs.Says.{ids_in}
use Rattle.show.proofs.gathered.Goals as goal

-- there is room for one more
pub push-requires : goal.push-requires
push-requires g c =
    let s = c.args.held.now in
    let l = keep (shown_by c.args.epoch) (g.H.Counted.entries s) in
    let road = YieldsList-from_first (entry_of g.H.Ids.HeldIds.numbers) to_come {s = c.into_iter-one-iterator.result} l (rw c.into_iter-one-iterator.ensures.into_iter_gives c.shown-one-items.ensures) in
    let t = YieldsList-turn road c.loop-one.yielded c.loop-one.one-iterator c.loop-one.yielded_by _ c.next.new.self c.in-Some.one c.in-Some.is c.next.ensures.steps in
    omega (arith, t.0, length-keep (shown_by c.args.epoch) (g.H.Counted.entries s), g.met.H.HeldColumns.sized s, c.requires, ap length c.loop-one.invariant, length-map c.loop-one.yielded ids_in)

pub loop-one-preserved : goal.loop-one-preserved
loop-one-preserved g c =
    c.push.ensures.items ∙ ap (λ l. l ++ ids_in c.in-Some.one ∷ []) c.loop-one.invariant ∙ sym (map-append ids_in c.loop-one.yielded (c.in-Some.one ∷ []))

pub returns : goal.returns
returns g c =
    let s = c.args.held.now in
    let numbers = g.H.Ids.HeldIds.numbers in
    let l = keep (shown_by c.args.epoch) (g.H.Counted.entries s) in
    let road = YieldsList-from_first (entry_of numbers) to_come {s = c.into_iter-one-iterator.result} l (rw c.into_iter-one-iterator.ensures.into_iter_gives c.shown-one-items.ensures) in
    let e = YieldsList-end road c.loop-one.yielded c.loop-one.one-iterator c.loop-one.yielded_by _ c.next.new.self c.in-None.is c.next.ensures.steps in
    ap (map numbers) c.loop-one.invariant
    ∙ map-map numbers ids_in c.loop-one.yielded
    ∙ sym (map-map by_ids (entry_of numbers) c.loop-one.yielded)
    ∙ ap (map by_ids) e.0
