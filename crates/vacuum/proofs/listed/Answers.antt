-- `vacuum::listed` meets its contract.
use Rattle.std.specs.List.{refill}
use Rattle.std.proofs.lemmas.List.{take_at}
use Rattle.std.proofs.Common.{◌≡◌, List, ℕ, refl, [], ◌∷◌, ◌++◌, length, sym, ap, ◌∙◌, arith}
use lib.ListN.{length-map}
use Rattle.std.proofs.lemmas.Iterator.Consumers.{YieldsList-from_first, YieldsList-turn, YieldsList-end}
use Rattle.lists.specs.Keyed.{keep}
use Rattle.lists.proofs.Views.{map-append}
use Rattle.snapshot.specs.Entries.{gone_by}
use Rattle.snapshot.specs.Views.{rowsets_of, rowset_of}
use Rattle.snapshot.specs.Passing.{to_come}
use Rattle.vacuum.proofs.Arranged.{gone-few, listed_as, in-turn}
use Rattle.vacuum.proofs.listed.Goals as goal

-- there is room for one more
pub push-requires : goal.push-requires
push-requires c =
    let s = c.args.rowsets.now in
    let l = keep (gone_by c.args.epoch) (rowsets_of s) in
    let road = YieldsList-from_first rowset_of to_come {s = c.into_iter-rowset-iterator.result} l (ap to_come c.into_iter-rowset-iterator.ensures.into_iter_gives ∙ c.gone-rowset-items.ensures) in
    let t = YieldsList-turn road c.loop-rowset.yielded c.loop-rowset.rowset-iterator c.loop-rowset.yielded_by _ c.next.new.self c.in-Some.rowset c.in-Some.is c.next.ensures.steps in
    omega (arith, t.0, gone-few c.args.epoch s, ap length c.loop-rowset.invariant, length-map c.loop-rowset.yielded listed_as)

pub loop-rowset-preserved : goal.loop-rowset-preserved
loop-rowset-preserved c =
    c.push.ensures.items ∙ ap (λ l. l ++ listed_as c.in-Some.rowset ∷ []) c.loop-rowset.invariant ∙ sym (map-append listed_as c.loop-rowset.yielded (c.in-Some.rowset ∷ []))

-- as many, sorted, in the place of those
refilled : (xs ws : List (ℕ × ℕ × ℕ)) → length ws ≡ length xs → refill (length xs) xs ws ≡ ws
refilled xs ws e = rw (← e) (take_at ws _ (length ws) refl)

pub returns : goal.returns
returns c =
    let s = c.args.rowsets.now in
    let l = keep (gone_by c.args.epoch) (rowsets_of s) in
    let road = YieldsList-from_first rowset_of to_come {s = c.into_iter-rowset-iterator.result} l (ap to_come c.into_iter-rowset-iterator.ensures.into_iter_gives ∙ c.gone-rowset-items.ensures) in
    let e = YieldsList-end road c.loop-rowset.yielded c.loop-rowset.rowset-iterator c.loop-rowset.yielded_by _ c.next.new.self c.in-None.is c.next.ensures.steps in
    let z = c.sort_unstable.ensures in
    let n = z.len ∙ ap length c.deref_mut.ensures.value in
    refilled c.loop-rowset.gone.items c.sort_unstable.new.self n
    ∙ in-turn c.loop-rowset.yielded c.sort_unstable.new.self l e.0 (rw (c.deref_mut.ensures.value, c.loop-rowset.invariant) at z.permutation) z.sorted
