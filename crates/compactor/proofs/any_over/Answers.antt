-- `compactor::any_over` meets its contract.
use mathlib.Core.Path.{◌∙◌}
use borrow.Author.Rules.{rules}
use borrow.Author.Tests.{tests}
use Rattle.std.proofs.lemmas.Iterator.Search.{any_from_yields_List}
use Rattle.std.proofs.lemmas.Iterator.Consumers.{YieldsList-from_first}
use Rattle.lists.proofs.Keyed.{any-same}
use Rattle.snapshot.specs.Views.{vector_of}
use Rattle.snapshot.specs.Passing.{to_come}
use Rattle.version_state.specs.State.{state_of}
use Rattle.compactor.proofs.Over.{over_rowset, any-shown}
use Rattle.compactor.proofs.any_over.Goals as goal

pub returns : goal.returns
returns c =
    let r = c.args.rowset.0 in
    any_from_yields_List (over_rowset r) c.any.new.self _ _ c.any.ensures.ran (YieldsList-from_first vector_of to_come _ c.shown_of.ensures) (λ x b q k. search (rules, tests))
    ∙ any-same (over_rowset r) _
    ∙ any-shown c.args.table.0 r (state_of c.args.state.inner.now)
