-- `delete_vector::file::put_rows` meets its contract.
use Rattle.std.proofs.Common.{sym, ◌∙◌, arith}
use Rattle.std.proofs.lemmas.List.{set-get_or}
use borrow.Author.Tests.{eqb-false, eqb-true}
use Rattle.delete_vector.proofs.Files.{value_of, placing-start, placing-record, placing-room, placing-more, placing-done, placing-end}
use Rattle.delete_vector.proofs.file.put_rows.Goals as goal

pub loop-place-init : goal.loop-place-init
loop-place-init c = placing-start _ _ c.requires.0

pub overflow_cast-place : goal.overflow_cast-place
overflow_cast-place c =
    let n = eqb-false _ _ (sym c.is_empty.ensures ∙ c.if-is_empty.false) in
    record { fits = (value_of _ _ c.row_in.ensures (placing-record _ _ _ _ _ _ (omega arith) c.loop-place.invariant)).1 }

pub size_in-requires : goal.size_in-requires
size_in-requires c = let n = eqb-false _ _ (sym c.is_empty.ensures ∙ c.if-is_empty.false) in placing-record _ _ _ _ _ _ (omega arith) c.loop-place.invariant

pub slice_bounds-rest-count : goal.slice_bounds-rest-count
slice_bounds-rest-count c =
    let n = eqb-false _ _ (sym c.is_empty.ensures ∙ c.if-is_empty.false) in placing-room _ _ _ _ _ _ (omega arith) c.loop-place.invariant _ (sym c.size_in.ensures)

pub slice_bounds-rest-start : goal.slice_bounds-rest-start
slice_bounds-rest-start c =
    let n = eqb-false _ _ (sym c.is_empty.ensures ∙ c.if-is_empty.false) in placing-room _ _ _ _ _ _ (omega arith) c.loop-place.invariant _ (sym c.size_in.ensures)

pub loop-place-preserved : goal.loop-place-preserved
loop-place-preserved c =
    let n = eqb-false _ _ (sym c.is_empty.ensures ∙ c.if-is_empty.false) in
    let h = placing-record _ _ _ _ _ _ (omega arith) c.loop-place.invariant in
    placing-more _ _ _ _ _ _ (omega arith) c.loop-place.invariant _ (sym c.size_in.ensures) _ (value_of _ _ c.row_in.ensures h).0 (omega arith)

pub returns-then-is_empty : goal.returns-then-is_empty
returns-then-is_empty c =
    let n = eqb-true _ _ (sym c.is_empty.ensures ∙ c.if-is_empty.true) in
    set-get_or c.loop-place.place-items c.loop-place.place-index 0 ∙ placing-done _ _ _ _ _ _ (placing-end _ _ _ _ _ _ n c.loop-place.invariant) c.loop-place.invariant

pub returns-after-loop-place : goal.returns-after-loop-place
returns-after-loop-place c = placing-done _ _ _ _ _ _ (omega (arith, c.requires.1)) c.loop-place.invariant
