-- `snapshot::vectors::VectorsHeldColumns::truncate` meets its contract.
use mathlib.Core.List.{[], ◌∷◌}
use Rattle.snapshot.specs.Entries.{entry_at}
use Rattle.snapshot.proofs.Packed.{rows-front}
use Rattle.snapshot.proofs.vectors.VectorsHeldColumns.truncate.Goals as goal

pub returns-clause-told : goal.returns-clause-told
returns-clause-told c = let s = c.args.self.now in rows-front (entry_at (s.tables ∷ s.rowsets ∷ s.vectors ∷ []) s.added s.deleted) s.count c.args.end c.requires.inside
