-- `snapshot::tables::Tables::from_on` meets its contract.
use mathlib.Core.Path.{ap, ◌∙◌}
use mathlib.Core.List.{[], ◌∷◌}
use Prim.Native.Nat.{◌≤◌, ◌<◌}
use lib.ListN.{drop}
use Rattle.std.proofs.Common.{rules, tests}
use Rattle.std.proofs.lemmas.Iterator.{first_from_Range}
use Rattle.columns.specs.Rows.{column}
use Rattle.snapshot.specs.Tables.{by_table, table_at}
use Rattle.snapshot.specs.Views.{tables_of}
use Rattle.snapshot.proofs.TableRows.{one-before, one-not-before}
use Rattle.snapshot.proofs.Tested.{first-not-below}
use Rattle.snapshot.proofs.tables.Tables.from_on.Goals as goal

pub returns : goal.returns
returns c =
    let s = c.args.self.now in
    let t = c.args.table.0 in
    ap (λ i. drop i (tables_of s)) c.unwrap_or.ensures
    ∙ first-not-below by_table (table_at s.ids s.shapes s.lengths s.names s.locked) s.count (t ∷ []) _ _ (λ i h e. one-not-before (column s.ids i) t e) (λ i h e. one-before (column s.ids i) t e) c.args.from _
    (first_from_Range _ _ _ _ (λ i. t ≤ column s.ids i) (λ i. column s.ids i < t) c.find.ensures.ran (λ x q k. search (rules, tests)) (λ x q k. search (rules, tests)))
