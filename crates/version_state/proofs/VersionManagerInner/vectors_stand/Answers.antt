-- `version_state::VersionManagerInner::vectors_stand` meets its contract.
use mathlib.Core.Path.{sym, ap, ◌∙◌}
use lib.ListN.{length, take, drop}
use Rattle.std.proofs.lemmas.Iterator.Consumers.{YieldsList-from_first, YieldsList-turn, YieldsList-end}
use Rattle.std.proofs.lemmas.List.{length_push}
use Rattle.lists.specs.Keyed.{keep}
use Rattle.lists.proofs.Keyed.{ascend-to}
use Rattle.snapshot.specs.Entries.{by_ids, shown_by}
use Rattle.snapshot.specs.Views.{vector_of}
use Rattle.snapshot.specs.Passing.{to_come}
use Rattle.version_state.specs.State.{state_of}
use Rattle.version_state.proofs.Facts.{walkable}
use Rattle.version_state.proofs.Stands.{stand-stop, stand-more, stand-end, kept-sorted}
use Rattle.version_state.proofs.VersionManagerInner.vectors_stand.Goals as goal

pub returns-then-not-shows_at : goal.returns-then-not-shows_at
returns-then-not-shows_at c =
    let o = walkable (state_of c.args.self.now) c.requires.rises in
    let m = (state_of c.args.self.now).pairs in
    let l = keep (shown_by c.args.epoch) (state_of c.args.self.now).vectors in
    let road = YieldsList-from_first vector_of to_come {s = c.into_iter-v-iterator.result} l (ap to_come c.into_iter-v-iterator.ensures.into_iter_gives ∙ c.shown-v-items.ensures) in
    let t = YieldsList-turn road c.loop-v.yielded c.loop-v.v-iterator c.loop-v.yielded_by _ c.next.new.self c.in-Some.v c.in-Some.is c.next.ensures.steps in
    stand-stop (λ x. take 2 (by_ids x)) by_ids (shown_by c.args.epoch) l m (kept-sorted (λ x. take 2 (by_ids x)) (shown_by c.args.epoch) (state_of c.args.self.now).vectors o.vectors) (ascend-to by_ids m o.pairs) (length c.loop-v.yielded) c.loop-v.at c.from_on-at.result (vector_of c.in-Some.v) t.0 t.1 (rw c.pair-pair.ensures at c.from_on-at.ensures) c.loop-v.invariant (sym (rw c.pair-pair.ensures at c.shows_at.ensures) ∙ c.if-not-shows_at.true)

pub loop-v-preserved : goal.loop-v-preserved
loop-v-preserved c =
    let o = walkable (state_of c.args.self.now) c.requires.rises in
    let m = (state_of c.args.self.now).pairs in
    let l = keep (shown_by c.args.epoch) (state_of c.args.self.now).vectors in
    let road = YieldsList-from_first vector_of to_come {s = c.into_iter-v-iterator.result} l (ap to_come c.into_iter-v-iterator.ensures.into_iter_gives ∙ c.shown-v-items.ensures) in
    let t = YieldsList-turn road c.loop-v.yielded c.loop-v.v-iterator c.loop-v.yielded_by _ c.next.new.self c.in-Some.v c.in-Some.is c.next.ensures.steps in
    let e = stand-more (λ x. take 2 (by_ids x)) by_ids (shown_by c.args.epoch) l m (kept-sorted (λ x. take 2 (by_ids x)) (shown_by c.args.epoch) (state_of c.args.self.now).vectors o.vectors) (ascend-to by_ids m o.pairs) (length c.loop-v.yielded) c.loop-v.at c.from_on-at.result (vector_of c.in-Some.v) t.0 t.1 (rw c.pair-pair.ensures at c.from_on-at.ensures) c.loop-v.invariant (sym (rw c.pair-pair.ensures at c.shows_at.ensures) ∙ c.if-not-shows_at.false) in
    rw (length_push c.loop-v.yielded c.in-Some.v) e

pub returns : goal.returns
returns c =
    let o = walkable (state_of c.args.self.now) c.requires.rises in
    let m = (state_of c.args.self.now).pairs in
    let l = keep (shown_by c.args.epoch) (state_of c.args.self.now).vectors in
    let road = YieldsList-from_first vector_of to_come {s = c.into_iter-v-iterator.result} l (ap to_come c.into_iter-v-iterator.ensures.into_iter_gives ∙ c.shown-v-items.ensures) in
    let t = YieldsList-end road c.loop-v.yielded c.loop-v.v-iterator c.loop-v.yielded_by _ c.next.new.self c.in-None.is c.next.ensures.steps in
    stand-end (λ x. take 2 (by_ids x)) by_ids (shown_by c.args.epoch) l m (drop c.loop-v.at m) (length c.loop-v.yielded) t.1 c.loop-v.invariant
