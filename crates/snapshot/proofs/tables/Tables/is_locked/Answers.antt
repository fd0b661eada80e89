-- `snapshot::tables::Tables::is_locked` meets its contract.
use mathlib.Core.Path.{refl, sym, ap, ◌∙◌}
use mathlib.Core.Bool.{Bool, ◌&&◌, and-true}
use mathlib.Core.List.{[], ◌∷◌}
use lib.Dec.{eqb}
use native.Mathlib.Omega.{arith}
use Rattle.std.proofs.Common.{rules, tests}
use Rattle.std.proofs.lemmas.Iterator.{YieldsList-from_range}
use Rattle.std.proofs.lemmas.Iterator.Search.{any_from_yields_List}
use Rattle.lists.specs.Keyed.{is_at}
use Rattle.columns.specs.Rows.{column, marks}
use Rattle.snapshot.specs.Tables.{by_table, table_at}
use Rattle.snapshot.proofs.Tested.{any-places}
use Rattle.snapshot.proofs.tables.Tables.is_locked.Goals as goal

pub returns : goal.returns
returns c =
    let s = c.args.self.now in
    let t = c.args.table.0 in
    any_from_yields_List (λ i. eqb (column s.ids i) t && marks s.locked i) _ _ _ c.any.ensures.ran (YieldsList-from_range 0 s.count s.count refl (omega arith)) (λ x b q k. search (rules, tests))
    ∙ any-places (table_at s.ids s.shapes s.lengths s.names s.locked) _ s.count (λ x. is_at by_table (t ∷ []) x && x.locked) (λ i h. ap (λ (b : Bool). b && marks s.locked i) (sym (and-true (eqb (column s.ids i) t))))
