-- `snapshot::held::HeldColumns::from_on` meets its contract.
use mathlib.Core.Path.{◌≡◌, sym, ap, ◌∙◌}
use mathlib.Core.Bool.{true, false}
use lib.ListN.{drop, get_or}
use Rattle.std.proofs.Common.{rules, tests}
use Rattle.std.proofs.lemmas.Iterator.{first_from_Range}
use Rattle.lists.specs.Order.{less}
use Rattle.snapshot.specs.Entries.{by_ids, nothing}
use Rattle.snapshot.proofs.Listed.{below-listed}
use Rattle.snapshot.proofs.held.HeldColumns.from_on.Goals as goal

pub returns : goal.returns
returns g c =
    let s = c.args.self.now in
    let l = g.Self.Counted.entries s in
    let k = g.Self.Ids.HeldIds.numbers c.args.ids in
    ap (λ i. drop i l) c.unwrap_or.ensures
    ∙ below-listed l c.count-2.result (g.met.Self.HeldColumns.sized s ∙ sym c.count-2.ensures) k c.args.from _
    (rw (c.count.ensures ∙ sym c.count-2.ensures) at (first_from_Range _ _ _ _ (λ i. less (by_ids (get_or l i nothing)) k ≡ false) (λ i. less (by_ids (get_or l i nothing)) k ≡ true) c.find.ensures.ran (λ x q k. search (rules, tests)) (λ x q k. search (rules, tests))))
