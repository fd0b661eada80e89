-- `transaction::vectors::Vectors::of` meets its contract.
use Rattle.std.proofs.Common.{◌≡◌, eqb, map, length, take, drop, ap, ◌∙◌, arith, rules, of_calls, length-append}
use borrow.Author.Tests.{tests}
use Rattle.std.specs.Slice.Iter.{chunk_by_rest}
use Rattle.std.proofs.lemmas.List.{length-map}
use Rattle.std.proofs.lemmas.List.Sorted.{answers_always}
use Rattle.ids.specs.declared.RowsetNo.{RowsetNo}
use Rattle.ids.specs.declared.SecondaryRowHandler.{SecondaryRowHandler}
use Rattle.delete_vector.specs.Records.{records_of}
use Rattle.transaction.specs.Groups.{handle_of}
use Rattle.transaction.proofs.Making.{fill_start, fill-turn, fill_done}
use Rattle.transaction.proofs.vectors.Vectors.of.Goals as goal

pub loop-run-init : goal.loop-run-init
loop-run-init c =
    let e : chunk_by_rest c.into_iter-run-iterator.result ≡ c.args.ordered.now.handles.now = cc in
    (search of_calls, tt, rw e (fill_start _ _ c.requires.0 c.new-vectors.ensures.0 c.new-vectors.ensures.1))

pub overflow_add-end : goal.overflow_add-end
overflow_add-end c =
    let s = c.in-Some.ensures.steps in
    let p = c.loop-run.invariant.2.place in
    omega (arith, c.args.ordered.now.few, ap length s.0, length-append c.in-Some.run'.now (chunk_by_rest c.next.new.self), length-map (chunk_by_rest c.loop-run.run-iterator) handle_of, length-map c.args.ordered.now.handles.now handle_of)

pub loop-run-preserved : goal.loop-run-preserved
loop-run-preserved c =
    let s = c.in-Some.ensures.steps in
    let x = c.in-Some.run'.now in
    let at = c.loop-run.at in
    let p = s.2 (λ (a b : SecondaryRowHandler). eqb a.0.0 b.0.0) (answers_always _ (λ a r. r ≡ eqb a.0.now.0.0 a.1.0.now.0.0) _ (λ f a r q k. search (rules, tests))) in (
      search of_calls,
      tt,
      fill-turn (map handle_of c.args.ordered.now.handles.now) x (chunk_by_rest c.next.new.self) at _ _ c.loop-run.vectors c.add.new.self
          s.1 (rw s.0 at p.1.0) (rw s.0 at p.1.1) (ap (λ (r : RowsetNo). r.0) c.rowset_id.ensures) (ap (λ n. take n (drop at c.args.rows.now)) (omega arith) ∙ ap (λ l. take (length x) (drop at l)) c.requires.1) c.add.ensures.0 c.add.ensures.1 (rw s.0 at c.loop-run.invariant.2),
    )

pub returns : goal.returns
returns c =
    let s = c.in-None.ensures.steps in
    let r = fill_done (map handle_of c.args.ordered.now.handles.now) _ _ _ (length-map (chunk_by_rest c.loop-run.run-iterator) handle_of ∙ s.0) c.loop-run.invariant.2 in
    (r.0, ap records_of c.requires.1 ∙ r.1)
