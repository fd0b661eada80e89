-- `snapshot::tables::Tables::taken` meets its contract.
use mathlib.Core.Path.{refl, ap, ◌∙◌}
use lib.ListN.{get_or}
use native.Mathlib.Omega.{arith}
use Rattle.std.proofs.Common.{rules, tests}
use Rattle.std.proofs.lemmas.Iterator.{YieldsList-from_range}
use Rattle.std.proofs.lemmas.Iterator.Search.{any_from_yields_List}
use Rattle.lists.specs.Order.{same}
use Rattle.ids.specs.Names.{name_of}
use Rattle.ids.proofs.Names.{bytes-same}
use Rattle.columns.proofs.Rows.{rows_at}
use Rattle.snapshot.specs.Tables.{TableEntry, no_table, table_at}
use Rattle.snapshot.specs.Views.{tables_of}
use Rattle.snapshot.proofs.Tested.{any-places}
use Rattle.snapshot.proofs.tables.Tables.taken.Goals as goal

pub returns : goal.returns
returns c =
    let s = c.args.self.now in
    let n = name_of c.args.name in
    any_from_yields_List (λ i. same (get_or (tables_of s) i no_table).name n) _ _ _ c.any.ensures.ran (YieldsList-from_range 0 s.count s.count refl (omega arith)) (λ x b q k. search (rules, tests, bytes-same))
    ∙ any-places (table_at s.ids s.shapes s.lengths s.names s.locked) _ s.count (λ x. same x.name n) (λ i h. ap (λ (x : TableEntry). same x.name n) (rows_at (table_at s.ids s.shapes s.lengths s.names s.locked) s.count i no_table h))
