-- `compactor::select` meets its contract.
use Rattle.std.proofs.Common.{◌≡◌, List, ◌++◌, ℕ, map, length, take, drop, sym, ap, ap₂, ◌∙◌, arith}
use Rattle.arrayvec.proofs.ArrayVecLemmas.{items-with_items}
use Rattle.version_state.specs.State.{state_of}
use Rattle.compactor.specs.Selection.{taken, sized, rowsets_now, compacted, selected}
use Rattle.compactor.proofs.Taking.{rowset_in}
use Rattle.compactor.proofs.Selecting.{wrong-count, not_live, no_room, chooses}
use Rattle.compactor.proofs.select.Goals as goal
use Rattle.compactor.proofs.select.Goals.{After-len, After-compacted-chosen}

-- how many are shown
shown-count : (c : After-len) → c.len.result ≡ length (rowsets_now c.args.table.0 (state_of c.args.state.inner.now))
shown-count c = c.len.ensures.value ∙ ap length c.rowsets_now-rowsets.ensures

-- what take left of them
left-over : (c : After-compacted-chosen) → c.as_slice.result.now ≡ c.take-taken.new.rowsets
left-over c = c.as_slice.ensures.value ∙ items-with_items c.rowsets_now-rowsets.result c.take-taken.new.rowsets (c.take-taken.ensures.size ∙ ap length c.as_mut_slice.ensures.value)

-- what is selected
chosen : (c : After-compacted-chosen) → c.compacted-chosen.result.now ≡ selected c.args.table.0 c.args.target c.args.sizes.now (state_of c.args.state.inner.now)
chosen c =
    let s = state_of c.args.state.inner.now in
    c.compacted-chosen.ensures
    ∙ ap (λ (rs : List ℕ). compacted c.args.table.0 rs s)
    (ap (take c.take-taken.result) (left-over c)
    ∙ c.take-taken.ensures.told
    ∙ ap (λ (rs : List ℕ). map rowset_in (taken c.args.target (sized rs c.args.sizes.now))) (c.as_mut_slice.ensures.value ∙ c.rowsets_now-rowsets.ensures))

pub returns-then-sizes-len : goal.returns-then-sizes-len
returns-then-sizes-len c =
    let k = shown-count (goal.at.returns-then-sizes-len c).After-len in
    wrong-count c.args.state.inner.now c.args.table.0 c.args.target c.args.sizes.now c.args.out.now (sym c.is_id.ensures ∙ c.if-not-is_id.false) (λ e. c.if-sizes-len.true (e ∙ sym k))

pub returns-then-not-holds : goal.returns-then-not-holds
returns-then-not-holds c =
    let k = shown-count (goal.at.returns-then-not-holds c).After-len in
    not_live c.args.state.inner.now c.args.table.0 c.args.target c.args.sizes.now c.args.out.now (sym c.is_id.ensures ∙ c.if-not-is_id.false) (c.if-sizes-len.false ∙ k) (sym c.holds.ensures ∙ c.if-not-holds.true)

pub take-taken-requires : goal.take-taken-requires
take-taken-requires c = omega (arith, c.if-sizes-len.false, c.len.ensures.value, ap length c.as_mut_slice.ensures.value)

pub returns-then-out-count : goal.returns-then-out-count
returns-then-out-count c =
    let k = shown-count (goal.at.returns-then-out-count c).After-len in
    let n = ap length (chosen (goal.at.returns-then-out-count c).After-compacted-chosen) in
    no_room c.args.state.inner.now c.args.table.0 c.args.target c.args.sizes.now c.args.out.now (sym c.is_id.ensures ∙ c.if-not-is_id.false) (c.if-sizes-len.false ∙ k) (sym c.holds.ensures ∙ c.if-not-holds.false) (omega (arith, n, c.if-out-count.true))

pub returns : goal.returns
returns c =
    let k = shown-count (goal.at.returns c).After-len in
    let l = chosen (goal.at.returns c).After-compacted-chosen in
    let n = ap length l in
    chooses c.args.state.inner.now c.args.table.0 c.args.target c.args.sizes.now c.args.out.now (sym c.is_id.ensures ∙ c.if-not-is_id.false) (c.if-sizes-len.false ∙ k) (sym c.holds.ensures ∙ c.if-not-holds.false) (omega (arith, n, c.if-out-count.false)) _ _ n
    (ap₂ (λ (run : List ℕ) (i : ℕ). run ++ drop i c.args.out.now) (c.copy_from_slice.ensures.after ∙ l) n)
