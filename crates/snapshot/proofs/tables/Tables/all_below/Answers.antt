-- `snapshot::tables::Tables::all_below` meets its contract.
use mathlib.Core.Path.{sym, ap, ◌∙◌}
use Prim.Native.Nat.{ℕ}
use lib.Dec.{ltb}
use lib.ListN.{take}
use Rattle.std.proofs.Common.{rules, tests}
use Rattle.std.proofs.lemmas.Iterator.{YieldsList-from_slice}
use Rattle.std.proofs.lemmas.Iterator.Search.{all_from_yields_List}
use Rattle.lists.specs.Keyed.{all_of}
use Rattle.lists.proofs.Keyed.{all-same}
use Rattle.lists.proofs.Places.{known}
use Rattle.columns.proofs.Rows.{rows-column}
use Rattle.snapshot.proofs.TableRows.{below-tables}
use Rattle.snapshot.proofs.tables.Tables.all_below.Goals as goal

pub returns : goal.returns
returns c =
    let s = c.args.self.now in
    let p = λ (x : ℕ). ltb x c.args.next.0 in
    all_from_yields_List p _ _ _ c.all.ensures.ran (YieldsList-from_slice (take s.count s.ids) (search rules)) (λ x b q k. search (rules, tests))
    ∙ all-same p (take s.count s.ids)
    ∙ ap (all_of p) (sym (rows-column s.ids s.count (search known)))
    ∙ sym (below-tables s.ids s.shapes s.lengths s.names s.locked s.count c.args.next.0)
