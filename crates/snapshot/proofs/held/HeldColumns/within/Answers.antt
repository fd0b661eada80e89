-- `snapshot::held::HeldColumns::within` meets its contract.
use mathlib.Core.Path.{refl, sym, ◌∙◌}
use native.Mathlib.Omega.{arith}
use lib.ListN.{get_or}
use Rattle.std.proofs.Common.{rules, tests}
use Rattle.std.proofs.lemmas.Iterator.{YieldsList-from_range}
use Rattle.std.proofs.lemmas.Iterator.Search.{all_from_yields_List}
use Rattle.snapshot.specs.Entries.{nothing, within}
use Rattle.snapshot.proofs.Listed.{all-listed}
use Rattle.snapshot.proofs.held.HeldColumns.within.Goals as goal

pub returns : goal.returns
returns g c =
    let s = c.args.self.now in
    let l = g.Self.Counted.entries s in
    let n = c.count.result in
    let p = within c.args.epoch (g.Self.Ids.HeldIds.numbers c.args.next) in
    all_from_yields_List (λ i. p (get_or l i nothing)) _ _ _ c.all.ensures.ran (YieldsList-from_range 0 n n refl (omega arith)) (λ x b q k. search (rules, tests))
    ∙ all-listed l n (g.met.Self.HeldColumns.sized s ∙ sym c.count.ensures) _ p (λ i h. refl)
