-- `snapshot::vectors::Vectors::numbered` meets its contract.
use mathlib.Core.Path.{sym, ◌∙◌}
use Rattle.lists.proofs.Places.{known}
use Rattle.snapshot.proofs.ByPlace.{column-has, vector-ids}
use Rattle.snapshot.proofs.vectors.Vectors.numbered.Goals as goal

pub returns : goal.returns
returns c =
    let s = c.args.self.now in
    c.contains.ensures.value ∙ column-has s.vectors s.count c.args.vector.0 (search known) ∙ sym (vector-ids s.tables s.rowsets s.vectors s.added s.deleted s.count c.args.vector.0)
