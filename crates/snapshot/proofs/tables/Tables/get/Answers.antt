-- `snapshot::tables::Tables::get` meets its contract.
use mathlib.Core.Path.{sym, ap, ◌∙◌}
use mathlib.Core.List.{List}
use Prim.Native.Nat.{ℕ}
use Rattle.columns.specs.Rows.{column, marks}
use Rattle.columns.proofs.Rows.{rows_at}
use Rattle.snapshot.specs.Tables.{TableEntry, no_table, table_at}
use Rattle.snapshot.proofs.tables.Tables.get.Goals as goal

pub returns : goal.returns
returns c =
    let s = c.args.self.now in
    let i = c.args.i in
    let e = rows_at (table_at s.ids s.shapes s.lengths s.names s.locked) s.count i no_table c.requires.inside in
    let f : List ℕ → TableEntry = λ n. record { table = column s.ids i; shape = column s.shapes i; name = n; locked = marks s.locked i } in
    ap f (c.of.ensures ∙ c.name.ensures.told ∙ ap (λ (x : TableEntry). x.name) e) ∙ sym e
