-- `snapshot::tables::Tables::is_ascending` meets its contract.
use mathlib.Core.Path.{◌≡◌, refl, sym, ◌∙◌}
use Prim.Native.Nat.{◌+◌, ◌-◌}
use lib.Dec.{ltb}
use native.Mathlib.Omega.{arith}
use Rattle.std.proofs.Common.{rules, tests}
use Rattle.std.proofs.lemmas.Iterator.{YieldsList-from_range}
use Rattle.std.proofs.lemmas.Iterator.Search.{all_from_yields_List}
use Rattle.lists.proofs.Order.{lex-last}
use Rattle.columns.specs.Rows.{column}
use Rattle.snapshot.specs.Tables.{by_table, table_at}
use Rattle.snapshot.proofs.Tested.{rising-places}
use Rattle.snapshot.proofs.tables.Tables.is_ascending.Goals as goal

pub returns : goal.returns
returns c =
    let s = c.args.self.now in
    all_from_yields_List (λ i. ltb (column s.ids (i - 1)) (column s.ids i)) _ _ _ c.all.ensures.ran (YieldsList-from_range 1 s.count (s.count - 1) refl refl) (λ x b q k. search (rules, tests))
    ∙ rising-places by_table (table_at s.ids s.shapes s.lengths s.names s.locked) _ s.count (λ i h. let z : i + 1 - 1 ≡ i = omega arith in rw z (sym (lex-last (column s.ids i) (column s.ids (i + 1)))))
