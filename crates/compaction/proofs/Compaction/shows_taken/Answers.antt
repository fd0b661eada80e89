-- `compaction::Compaction::shows_taken` meets its contract.
use mathlib.Core.Path.{refl, ◌∙◌}
use mathlib.Core.Bool.{Bool, ◌&&◌}
use mathlib.Core.List.{[], ◌∷◌}
use Prim.Native.Nat.{ℕ}
use Rattle.std.proofs.Common.{rules}
use Rattle.std.specs.List.{list_all}
use Rattle.std.proofs.lemmas.Iterator.{YieldsList-from_slice}
use Rattle.std.proofs.lemmas.Iterator.Search.{all_from_yields_List}
use Rattle.std.proofs.lemmas.List.Recursion.{same_from_clauses}
use Rattle.lists.specs.Keyed.{all_of}
use Rattle.snapshot.specs.Views.{rowsets_of}
use Rattle.operations.specs.Judge.{is_shown}
use Rattle.compaction.proofs.Compaction.shows_taken.Goals as goal

pub returns : goal.returns
returns c =
    let xs = c.args.self.now.taken.now in
    let p : ℕ → Bool = λ x. is_shown c.args.self.now.state.inner.now.epoch (c.args.self.now.table.0 ∷ x ∷ []) (rowsets_of c.args.self.now.state.inner.now.rowsets) in
    all_from_yields_List p _ _ _ c.all.ensures.ran (YieldsList-from_slice xs cc) (λ x b q k. search rules)
    ∙ same_from_clauses (list_all p) (all_of p) (λ b r. p b && r) refl (λ _ _. refl) (λ _ _. refl) xs
