use Rattle.std.proofs.Common.{[], ◌∷◌, sym, ◌∙◌, rules, tests}
use Rattle.std.proofs.lemmas.Iterator.{YieldsList-from_slice}
use Rattle.std.proofs.lemmas.Iterator.Search.{all_from_yields_List}
use Rattle.lists.specs.Keyed.{has}
use Rattle.lists.proofs.Keyed.{all-same}
use Rattle.snapshot.specs.declared.rowsets.RowsetIds.{RowsetIds}
use Rattle.replay.specs.declared.sets.LiveTable.{LiveTable}
use Rattle.replay.proofs.Entries.{has-tables}
use Rattle.replay.proofs.sets.Sets.have_tables.Goals as goal

pub returns : goal.returns
returns c =
    let ts = c.args.self.now.tables in
    let l = c.args.self.now.rowsets in
    let p = λ (x : RowsetIds). has (λ (y : LiveTable). y.table.0 ∷ []) (x.table.0 ∷ []) ts in
    all_from_yields_List p _ _ _ c.all.ensures.ran (YieldsList-from_slice l cc) (λ x b q k. search (rules, tests))
    ∙ all-same p l ∙ sym (has-tables ts l)
