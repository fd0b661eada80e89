-- `pinning::unpin` meets its contract.
use mathlib.Core.Path.{◌≡◌, refl, sym, ap, ◌∙◌}
use mathlib.Core.Bool.{true, false, not, ◌&&◌}
use mathlib.Core.Logic.{◌⊎◌, inl, inr}
use Prim.Native.Nat.{ℕ}
use borrow.Author.Tests.{eq-eqb, ne_eqb}
use lib.Dec.{eqb}
use lib.ListN.{length}
use Rattle.lists.specs.Keyed.{keep}
use Rattle.lists.proofs.Keyed.{length-arranged}
use Rattle.snapshot.specs.Entries.{gone_by, by_deletion}
use Rattle.snapshot.specs.Views.{rowsets_of}
use Rattle.std.specs.Prelude.{Ok}
use Rattle.pinning.specs.Says.{current, unpin_verdict}
use Rattle.pinning.proofs.Says.{two-passed, unpin-early, unpin-24, unpin-passes, unpinnable, unpin-refuses, unpin-accepts}
use Rattle.pinning.proofs.Laws.{unpinned-good}
use Rattle.pinning.proofs.unpin.Goals as goal
use Rattle.pinning.proofs.unpin.Goals.{Else-pins-eq0}

-- whether a vacuum is due, as the two tests tell it
not-due : (n e c : ℕ) → (n ≡ 0 → ⊥) ⊎ ((n ≡ 0) × (e ≡ c)) → false ≡ eqb n 0 && not (eqb e c)
not-due n e c (inl h) = rw (ne_eqb n 0 h)
not-due n e c (inr h) = rw (eq-eqb n 0 h.0, eq-eqb e c h.1)

is-due : (n e c : ℕ) → n ≡ 0 → (e ≡ c → ⊥) → true ≡ eqb n 0 && not (eqb e c)
is-due n e c h k = rw (eq-eqb n 0 h, ne_eqb e c k)

-- where the epoch has pins
accepted : (c : Else-pins-eq0) → unpin_verdict c.args.manager c.args.epoch c.args.book.now ≡ Ok tt
accepted c = unpin-passes c.args.manager c.args.book.now c.args.epoch _ c.pins_at-pins.ensures (sym c.judge.ensures ∙ c.in_ok-judge.was) c.if-pins-eq0.false

pub returns-in_err-judge : goal.returns-in_err-judge
returns-in_err-judge c =
    unpin-refuses c.args.manager c.args.book.now c.args.epoch _ _ c.from_residual.ensures.1 (unpin-early c.args.manager c.args.book.now c.args.epoch _ (sym c.judge.ensures ∙ c.in_err-judge.was))

pub pins_at-pins-requires : goal.pins_at-pins-requires
pins_at-pins-requires c = (two-passed c.args.manager c.args.book.now (sym c.judge.ensures ∙ c.in_ok-judge.was)).ordered

pub returns-then-pins-eq0 : goal.returns-then-pins-eq0
returns-then-pins-eq0 c =
    unpin-refuses c.args.manager c.args.book.now c.args.epoch _ _ refl (unpin-24 c.args.manager c.args.book.now c.args.epoch _ c.pins_at-pins.ensures (sym c.judge.ensures ∙ c.in_ok-judge.was) c.if-pins-eq0.true)

pub recount-requires : goal.recount-requires
recount-requires c =
    let p = unpinnable c.args.manager c.args.book.now c.args.epoch (accepted (goal.at.recount-requires c).Else-pins-eq0) in
    (p.good.fits, p.good.ordered, p.place)

pub returns-then-left-ne0 : goal.returns-then-left-ne0
returns-then-left-ne0 c =
    let due = rw c.pins_at-pins.ensures at (not-due _ c.args.epoch (current c.args.manager) c.then-left-ne0.either) in
    unpin-accepts c.args.manager c.args.book.now c.args.epoch _ _ (accepted (goal.at.returns-then-left-ne0 c).Else-pins-eq0) due refl (rw c.pins_at-pins.ensures at c.recount.ensures)

pub bound-bound-requires : goal.bound-bound-requires
bound-bound-requires c =
    unpinned-good c.args.manager c.args.epoch c.args.book.now _ (accepted (goal.at.bound-bound-requires c).Else-pins-eq0) (rw c.pins_at-pins.ensures at c.recount.ensures)

pub returns : goal.returns
returns c =
    let l = rowsets_of c.args.manager.inner.rowsets in
    let due = rw c.pins_at-pins.ensures at (is-due _ c.args.epoch (current c.args.manager) c.if-left-ne0.false c.if-epoch-current.false) in
    let ready = c.counted-ready.ensures ∙ ap (λ (n : ℕ). length (keep (gone_by n) l)) c.bound-bound.ensures ∙ sym (length-arranged by_deletion (keep (gone_by _) l)) in
    unpin-accepts c.args.manager c.args.book.now c.args.epoch _ _ (accepted (goal.at.returns c).Else-pins-eq0) due ready (rw c.pins_at-pins.ensures at c.recount.ensures)
