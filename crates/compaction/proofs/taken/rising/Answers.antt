-- `compaction::taken::rising` meets its contract.
use mathlib.Core.Path.{refl, ◌∙◌}
use mathlib.Core.Bool.{◌&&◌}
use Rattle.std.proofs.Common.{◌≡◌, ltb, rules}
use borrow.Author.Tests.{tests}
use Rattle.std.specs.List.{list_all}
use Rattle.std.proofs.lemmas.Iterator.{YieldsList-from_slice}
use Rattle.std.proofs.lemmas.Iterator.Search.{all_from_yields_List}
use Rattle.std.proofs.lemmas.List.Recursion.{same_from_clauses}
use Rattle.std.proofs.lemmas.List.Sorted.{answers_always}
use Rattle.lists.specs.Keyed.{all_of}
use Rattle.ids.specs.Ids.{is_id32}
use Rattle.compaction.proofs.Searched.{rises}
use Rattle.compaction.proofs.taken.rising.Goals as goal

pub returns-then-all : goal.returns-then-all
returns-then-all c =
    let l = c.args.taken.now in
    let ids : c.all.result ≡ all_of is_id32 l =
    all_from_yields_List is_id32 _ _ _ c.all.ensures.ran (YieldsList-from_slice l cc) (λ x b q k. search rules)
    ∙ same_from_clauses (list_all is_id32) (all_of is_id32) (λ x r. is_id32 x && r) refl (λ _ _. refl) (λ _ _. refl) l in
    rw (← ids, c.if-all.true) (rises l c.is_sorted_by.result (c.is_sorted_by.ensures.cases ltb (answers_always _ (λ a r. r ≡ ltb a.0.now a.1.0.now) _ (λ f a r q k. search (rules, tests)))))
