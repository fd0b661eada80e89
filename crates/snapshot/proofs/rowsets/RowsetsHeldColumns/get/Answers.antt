-- `snapshot::rowsets::RowsetsHeldColumns::get` meets its contract.
use mathlib.Core.Path.{sym}
use mathlib.Core.List.{[], ◌∷◌}
use Rattle.snapshot.proofs.ByPlace.{entry_there}
use Rattle.snapshot.proofs.rowsets.RowsetsHeldColumns.get.Goals as goal

pub returns : goal.returns
returns c = let s = c.args.self.now in sym (entry_there (s.tables ∷ s.rowsets ∷ []) s.added s.deleted s.count _ c.requires.inside)
