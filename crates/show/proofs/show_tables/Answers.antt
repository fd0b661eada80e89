-- `show::show_tables` meets its contract.
use mathlib.Core.Path.{◌≡◌, refl, sym, ap, ◌∙◌}
use Prim.Native.Nat.{ℕ, ◌*◌, ◌/◌, min}
use native.Mathlib.Omega.{arith}
use mathlib.Core.List.{List, []}
use lib.ListN.{length, get_or, length-take, length-drop}
use Rattle.std.specs.Prelude.{Ok}
use Rattle.snapshot.specs.Tables.{TableEntry, no_table}
use Rattle.snapshot.proofs.Filled.{fill_start, fill_more, fill_done}
use Rattle.version_state.specs.State.{state_of}
use Rattle.columns.proofs.Rows.{rows-length}
use Rattle.lists.specs.Written.{over}
use Rattle.ids.specs.Names.{longest_name}
use Rattle.ids.specs.Verdicts.{judged}
use Rattle.show.specs.Names.{padded_run}
use Rattle.show.specs.Says.{show_tables_rules}
use Rattle.show.proofs.Names.{naming-start, name-put, naming-more, naming-done}
use Rattle.show.proofs.Says.{rows-of, room-judged, in-turn, tables-judged, tables-refuse, tables-accept}
use Rattle.show.proofs.show_tables.Goals as goal
use Rattle.show.proofs.show_tables.Goals.{After-fit}

-- past 28 and 24, what 9 says is the verdict
rest : (c : After-fit) → c.judge.result ≡ Ok tt → c.fit.result ≡ judged (show_tables_rules (state_of c.args.state.inner.now) c.args.book.now c.args.epoch (length c.args.ids.now) (length c.args.shapes.now) (length c.args.lengths.now) (length c.args.names.now))
rest c h =
    let n : c.args.state.inner.now.tables.count ≡ length (state_of c.args.state.inner.now).tables = sym (rows-length _ c.args.state.inner.now.tables.count) in
    let room = c.min-room.ensures ∙ ap (λ (n : ℕ). min n (length c.args.names.now / longest_name)) (c.min-numbers.ensures ∙ ap (λ (n : ℕ). min n (length c.args.lengths.now)) c.min.ensures) in
    c.fit.ensures
    ∙ sym (in-turn (state_of c.args.state.inner.now) c.args.book.now _ _ _ _ c.judge.ensures h)
    ∙ tables-judged (state_of c.args.state.inner.now) c.args.book.now c.args.epoch _ c.args.ids.now c.args.shapes.now c.args.lengths.now c.args.names.now _ _ refl n room

pub returns-in_err-judge : goal.returns-in_err-judge
returns-in_err-judge c =
    tables-refuse (state_of c.args.state.inner.now) c.args.book.now c.args.epoch c.args.ids.now c.args.shapes.now c.args.lengths.now c.args.names.now _ _ c.from_residual.ensures.1
    (sym (tables-judged (state_of c.args.state.inner.now) c.args.book.now c.args.epoch _ c.args.ids.now c.args.shapes.now c.args.lengths.now c.args.names.now _ _ refl refl refl)
    ∙ in-turn (state_of c.args.state.inner.now) c.args.book.now _ _ _ _ c.judge.ensures c.in_err-judge.was)

pub returns-in_err-fit : goal.returns-in_err-fit
returns-in_err-fit c =
    tables-refuse (state_of c.args.state.inner.now) c.args.book.now c.args.epoch c.args.ids.now c.args.shapes.now c.args.lengths.now c.args.names.now _ _ c.from_residual-in_err-fit.ensures.1
    (sym (rest (goal.at.returns-in_err-fit c).After-fit c.in_ok-judge.was) ∙ c.in_err-fit.was)

pub loop-i-init : goal.loop-i-init
loop-i-init c =
    let r = room-judged c.min-room.result c.args.state.inner.now.tables.count (sym c.fit.ensures ∙ c.in_ok-fit.was) in
    let a = c.min.ensures in
    let b = c.min-numbers.ensures in
    let d = c.min-room.ensures in
    (fill_start _ _ _ (omega arith), fill_start _ _ _ (omega arith), fill_start _ _ _ (omega arith), naming-start _ _ _ (omega arith))

pub write_name-requires : goal.write_name-requires
write_name-requires c =
    let n = c.loop-i.invariant.3 in
    (c.name-name.ensures.short, length-take _ _ ∙ rw (length-drop (32 * c.loop-i.i) c.loop-i.names) (omega (arith, n.room, n.size)))

pub loop-i-preserved : goal.loop-i-preserved
loop-i-preserved c =
    let l = (state_of c.args.state.inner.now).tables in
    let n = c.loop-i.invariant.3 in
    let e = ap (λ (t : TableEntry). t.table) c.get-table.ensures in
    let f = ap (λ (t : TableEntry). t.shape) c.get-table.ensures in
    let g = c.name-name.ensures.told in (
      rw e (fill_more (λ j. (get_or l j no_table).table) _ _ c.loop-i.i c.loop-i.ids c.loop-i-test.true c.loop-i.invariant.0),
      rw f (fill_more (λ j. (get_or l j no_table).shape) _ _ c.loop-i.i c.loop-i.shapes c.loop-i-test.true c.loop-i.invariant.1),
      rw g (fill_more (λ j. length (get_or l j no_table).name) _ _ c.loop-i.i c.loop-i.lengths c.loop-i-test.true c.loop-i.invariant.2),
      naming-more (λ j. (get_or l j no_table).name) _ _ c.loop-i.i c.loop-i.names n _ c.loop-i-test.true (omega (arith, c.name-name.ensures.short, ap length g)) (name-put _ _ _ _ _ _ (omega arith) c.name-name.ensures.short c.write_name.ensures g),
    )

pub returns : goal.returns
returns c =
    let l = (state_of c.args.state.inner.now).tables in
    let n : c.args.state.inner.now.tables.count ≡ length l = sym (rows-length _ c.args.state.inner.now.tables.count) in
    tables-accept (state_of c.args.state.inner.now) c.args.book.now c.args.epoch c.args.ids.now c.args.shapes.now c.args.lengths.now c.args.names.now _ _ _ _ _ (sym (rest (goal.at.returns c).After-fit c.in_ok-judge.was) ∙ c.in_ok-fit.was) n
    (fill_done _ _ _ _ _ c.loop-i-test.false c.loop-i.invariant.0 ∙ ap (λ (r : List ℕ). over r c.args.ids.now) (rows-of l n 0 (λ t. t.table)))
    (fill_done _ _ _ _ _ c.loop-i-test.false c.loop-i.invariant.1 ∙ ap (λ (r : List ℕ). over r c.args.shapes.now) (rows-of l n 0 (λ t. t.shape)))
    (fill_done _ _ _ _ _ c.loop-i-test.false c.loop-i.invariant.2 ∙ ap (λ (r : List ℕ). over r c.args.lengths.now) (rows-of l n 0 (λ t. length t.name)))
    (naming-done _ _ _ _ _ c.loop-i.invariant.3 c.loop-i-test.false ∙ ap (λ (r : List (List ℕ)). over (padded_run r) c.args.names.now) (rows-of l n [] (λ t. t.name)))
