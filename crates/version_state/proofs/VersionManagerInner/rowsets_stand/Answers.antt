-- `version_state::VersionManagerInner::rowsets_stand` meets its contract.
use mathlib.Core.Path.{sym, ap, ◌∙◌}
use mathlib.Core.Bool.{true}
use lib.ListN.{length, take, drop}
use Rattle.std.proofs.lemmas.Iterator.Consumers.{YieldsList-from_first, YieldsList-turn, YieldsList-end}
use Rattle.std.proofs.lemmas.List.{length_push}
use Rattle.lists.specs.Keyed.{keep}
use Rattle.lists.proofs.Keyed.{ascend-to}
use Rattle.snapshot.specs.Entries.{by_ids, shown_by}
use Rattle.snapshot.specs.Tables.{by_table}
use Rattle.snapshot.specs.Views.{rowset_of}
use Rattle.snapshot.specs.Passing.{to_come}
use Rattle.version_state.specs.State.{state_of}
use Rattle.version_state.proofs.Facts.{walkable}
use Rattle.version_state.proofs.Stands.{stand-stop, stand-more, stand-end, stand_all, kept-prefix}
use Rattle.version_state.proofs.VersionManagerInner.rowsets_stand.Goals as goal

pub returns-then-not-stands_at : goal.returns-then-not-stands_at
returns-then-not-stands_at c =
    let o = walkable (state_of c.args.self.now) c.requires.rises in
    let m = (state_of c.args.self.now).tables in
    let l = keep (shown_by c.args.epoch) (state_of c.args.self.now).pairs in
    let road = YieldsList-from_first rowset_of to_come {s = c.into_iter-r-iterator.result} l (ap to_come c.into_iter-r-iterator.ensures.into_iter_gives ∙ c.shown-r-items.ensures) in
    let t = YieldsList-turn road c.loop-r.yielded c.loop-r.r-iterator c.loop-r.yielded_by _ c.next.new.self c.in-Some.r c.in-Some.is c.next.ensures.steps in
    stand-stop (λ x. take 1 (by_ids x)) by_table (λ t. true) l m (kept-prefix 1 (shown_by c.args.epoch) (state_of c.args.self.now).pairs o.pairs) (ascend-to by_table m o.tables) (length c.loop-r.yielded) c.loop-r.at c.from_on-at.result (rowset_of c.in-Some.r) t.0 t.1 c.from_on-at.ensures c.loop-r.invariant (sym c.stands_at.ensures ∙ c.if-not-stands_at.true) ∙ stand_all (λ x. take 1 (by_ids x)) by_table l m

pub loop-r-preserved : goal.loop-r-preserved
loop-r-preserved c =
    let o = walkable (state_of c.args.self.now) c.requires.rises in
    let m = (state_of c.args.self.now).tables in
    let l = keep (shown_by c.args.epoch) (state_of c.args.self.now).pairs in
    let road = YieldsList-from_first rowset_of to_come {s = c.into_iter-r-iterator.result} l (ap to_come c.into_iter-r-iterator.ensures.into_iter_gives ∙ c.shown-r-items.ensures) in
    let t = YieldsList-turn road c.loop-r.yielded c.loop-r.r-iterator c.loop-r.yielded_by _ c.next.new.self c.in-Some.r c.in-Some.is c.next.ensures.steps in
    let e = stand-more (λ x. take 1 (by_ids x)) by_table (λ t. true) l m (kept-prefix 1 (shown_by c.args.epoch) (state_of c.args.self.now).pairs o.pairs) (ascend-to by_table m o.tables) (length c.loop-r.yielded) c.loop-r.at c.from_on-at.result (rowset_of c.in-Some.r) t.0 t.1 c.from_on-at.ensures c.loop-r.invariant (sym c.stands_at.ensures ∙ c.if-not-stands_at.false) in
    rw (length_push c.loop-r.yielded c.in-Some.r) e

pub returns : goal.returns
returns c =
    let o = walkable (state_of c.args.self.now) c.requires.rises in
    let m = (state_of c.args.self.now).tables in
    let l = keep (shown_by c.args.epoch) (state_of c.args.self.now).pairs in
    let road = YieldsList-from_first rowset_of to_come {s = c.into_iter-r-iterator.result} l (ap to_come c.into_iter-r-iterator.ensures.into_iter_gives ∙ c.shown-r-items.ensures) in
    let t = YieldsList-end road c.loop-r.yielded c.loop-r.r-iterator c.loop-r.yielded_by _ c.next.new.self c.in-None.is c.next.ensures.steps in
    stand-end (λ x. take 1 (by_ids x)) by_table (λ t. true) l m (drop c.loop-r.at m) (length c.loop-r.yielded) t.1 c.loop-r.invariant ∙ stand_all (λ x. take 1 (by_ids x)) by_table l m
