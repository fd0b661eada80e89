-- `snapshot::vectors::VectorsHeldColumns::set` meets its contract.
use mathlib.Core.List.{[], ◌∷◌}
use lib.ListN.{set}
use lib.Seq.{get_or-set_same, get_or-set_other}
use Rattle.lists.proofs.Places.{known}
use Rattle.columns.proofs.Rows.{rows-change}
use Rattle.snapshot.specs.Entries.{entry_at}
use Rattle.snapshot.specs.Views.{vector_of}
use Rattle.snapshot.proofs.vectors.VectorsHeldColumns.set.Goals as goal

pub returns-clause-told : goal.returns-clause-told
returns-clause-told c =
    let s = c.args.self.now in
    let x = c.args.held.now in
    let i = c.args.i in
    rows-change (entry_at (s.tables ∷ s.rowsets ∷ s.vectors ∷ []) s.added s.deleted) (entry_at (set s.tables i x.ids.table.0 ∷ set s.rowsets i x.ids.rowset.0 ∷ set s.vectors i x.ids.vector.0 ∷ []) (set s.added i x.added) (set s.deleted i x.deleted)) s.count i (vector_of x) c.requires.inside
    (λ j h ne. rw (get_or-set_other s.tables i j x.ids.table.0 0 ne, get_or-set_other s.rowsets i j x.ids.rowset.0 0 ne, get_or-set_other s.vectors i j x.ids.vector.0 0 ne, get_or-set_other s.added i j x.added 0 ne, get_or-set_other s.deleted i j x.deleted 0 ne))
    (rw (get_or-set_same s.tables i x.ids.table.0 0 (search known), get_or-set_same s.rowsets i x.ids.rowset.0 0 (search known), get_or-set_same s.vectors i x.ids.vector.0 0 (search known), get_or-set_same s.added i x.added 0 (search known), get_or-set_same s.deleted i x.deleted 0 (search known)))
