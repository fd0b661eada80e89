-- `version_state::VersionManagerInner::names_valid` meets its contract.
use mathlib.Core.Path.{refl, ap, ◌∙◌}
use native.Mathlib.Omega.{arith}
use lib.ListN.{get_or}
use Rattle.std.proofs.Common.{rules, tests}
use Rattle.std.proofs.lemmas.Iterator.{YieldsList-from_range}
use Rattle.std.proofs.lemmas.Iterator.Search.{all_from_yields_List}
use Rattle.columns.proofs.Rows.{rows_at}
use Rattle.text.specs.Name.{is_name}
use Rattle.snapshot.specs.Tables.{TableEntry, no_table, table_at}
use Rattle.snapshot.specs.Views.{tables_of}
use Rattle.snapshot.proofs.Tested.{all-places}
use Rattle.version_state.proofs.VersionManagerInner.names_valid.Goals as goal

pub returns : goal.returns
returns c =
    let s = c.args.self.now.tables in
    all_from_yields_List (λ i. is_name (get_or (tables_of s) i no_table).name) _ _ _ c.all.ensures.ran (YieldsList-from_range 0 s.count s.count refl (omega arith)) (λ x b q k. search (rules, tests))
    ∙ all-places (table_at s.ids s.shapes s.lengths s.names s.locked) _ s.count (λ (t : TableEntry). is_name t.name) (λ i h. ap (λ (t : TableEntry). is_name t.name) (rows_at (table_at s.ids s.shapes s.lengths s.names s.locked) s.count i no_table h))
