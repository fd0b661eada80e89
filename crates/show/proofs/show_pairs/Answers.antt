-- `show::show_pairs` meets its contract.
use mathlib.Core.Path.{◌≡◌, refl, sym, ap, ◌∙◌}
use mathlib.Core.Bool.{not}
use mathlib.Core.List.{map}
use native.Mathlib.Omega.{arith}
use lib.ListN.{length}
use Rattle.std.specs.Prelude.{Ok}
use Rattle.ids.specs.Verdicts.{judged}
use Rattle.snapshot.specs.Views.{pair_ids}
use Rattle.snapshot.proofs.Filled.{fill_start}
use Rattle.version_state.specs.State.{state_of, pairs_at}
use Rattle.version_state.proofs.Facts.{sound-of}
use Rattle.show.specs.Says.{show_pairs_rules}
use Rattle.show.proofs.Says.{as_many, fronts-more, fronts-done, room-judged, in-turn, pairs-judged, pairs-refuse, pairs-accept}
use Rattle.show.proofs.show_pairs.Goals as goal
use Rattle.show.proofs.show_pairs.Goals.{After-fit}

pub gathered-shown-requires : goal.gathered-shown-requires
gathered-shown-requires c = (omega arith, (sound-of c.args.state.inner.now c.args.state.sound).fits.rowsets)

-- how many were gathered
counted : (c : After-fit) → c.len-count.result ≡ length (pairs_at c.args.epoch (state_of c.args.state.inner.now))
counted c = c.len-count.ensures.value ∙ as_many pair_ids c.gathered-shown.result.items _ c.gathered-shown.ensures

-- past 28 and 24, what 9 says is the verdict
rest : (c : After-fit) → c.judge.result ≡ Ok tt → c.fit.result ≡ judged (show_pairs_rules (state_of c.args.state.inner.now) c.args.book.now c.args.epoch (length c.args.tables.now) (length c.args.rowsets.now))
rest c h =
    c.fit.ensures
    ∙ sym (in-turn (state_of c.args.state.inner.now) c.args.book.now _ _ _ _ c.judge.ensures h)
    ∙ pairs-judged (state_of c.args.state.inner.now) c.args.book.now c.args.epoch _ c.args.tables.now c.args.rowsets.now _ _ (ap not c.may_show-unseen.ensures) (counted c) c.min-room.ensures

pub returns-in_err-judge : goal.returns-in_err-judge
returns-in_err-judge c =
    pairs-refuse (state_of c.args.state.inner.now) c.args.book.now c.args.epoch c.args.tables.now c.args.rowsets.now _ _ c.from_residual.ensures.1
    (sym (pairs-judged (state_of c.args.state.inner.now) c.args.book.now c.args.epoch _ c.args.tables.now c.args.rowsets.now _ _ (ap not c.may_show-unseen.ensures) refl refl)
    ∙ in-turn (state_of c.args.state.inner.now) c.args.book.now _ _ _ _ c.judge.ensures c.in_err-judge.was)

pub returns-in_err-fit : goal.returns-in_err-fit
returns-in_err-fit c =
    pairs-refuse (state_of c.args.state.inner.now) c.args.book.now c.args.epoch c.args.tables.now c.args.rowsets.now _ _ c.from_residual-in_err-fit.ensures.1
    (sym (rest (goal.at.returns-in_err-fit c).After-fit c.in_ok-judge.was) ∙ c.in_err-fit.was)

pub loop-i-init : goal.loop-i-init
loop-i-init c =
    let r = room-judged c.min-room.result c.len-count.result (sym c.fit.ensures ∙ c.in_ok-fit.was) in
    let n = counted (goal.at.loop-i-init c).After-fit in
    let m = c.min-room.ensures in
    (fill_start _ _ _ (omega arith), fill_start _ _ _ (omega arith))

pub loop-i-preserved : goal.loop-i-preserved
loop-i-preserved c =
    let more = fronts-more pair_ids c.as_slice-pair-items.result.now _ (ap (map pair_ids) c.as_slice-pair-items.ensures.value ∙ c.gathered-shown.ensures) in (
      more 0 c.args.tables.now c.loop-i.tables c.loop-i.i _ _ c.loop-i-test.true refl c.loop-i.invariant.0,
      more 1 c.args.rowsets.now c.loop-i.rowsets c.loop-i.i _ _ c.loop-i-test.true refl c.loop-i.invariant.1,
    )

pub returns : goal.returns
returns c =
    let done = fronts-done pair_ids c.as_slice-pair-items.result.now _ (ap (map pair_ids) c.as_slice-pair-items.ensures.value ∙ c.gathered-shown.ensures) in
    pairs-accept (state_of c.args.state.inner.now) c.args.book.now c.args.epoch c.args.tables.now c.args.rowsets.now _ _ _ (sym (rest (goal.at.returns c).After-fit c.in_ok-judge.was) ∙ c.in_ok-fit.was) (counted (goal.at.returns c).After-fit)
    (done 0 c.args.tables.now c.loop-i.tables c.loop-i.i c.loop-i-test.false c.loop-i.invariant.0)
    (done 1 c.args.rowsets.now c.loop-i.rowsets c.loop-i.i c.loop-i-test.false c.loop-i.invariant.1)
