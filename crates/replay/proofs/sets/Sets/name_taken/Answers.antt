use Rattle.std.proofs.Common.{sym, ◌∙◌, rules, tests}
use Rattle.std.proofs.lemmas.Iterator.{YieldsList-from_slice}
use Rattle.std.proofs.lemmas.Iterator.Search.{any_from_yields_List}
use Rattle.lists.specs.Order.{same}
use Rattle.lists.proofs.Keyed.{any-same}
use Rattle.ids.specs.Names.{name_of}
use Rattle.ids.proofs.Names.{bytes-same}
use Rattle.replay.specs.declared.sets.LiveTable.{LiveTable}
use Rattle.replay.proofs.Entries.{name-taken}
use Rattle.replay.proofs.sets.Sets.name_taken.Goals as goal

pub returns : goal.returns
returns c =
    let p = λ (x : LiveTable). same (name_of x.name) (name_of c.args.name) in
    let l = c.args.self.now.tables in
    any_from_yields_List p _ _ _ c.any.ensures.ran (YieldsList-from_slice l cc) (λ x b q k. search (rules, tests, bytes-same))
    ∙ any-same p l ∙ sym (name-taken l (name_of c.args.name))
