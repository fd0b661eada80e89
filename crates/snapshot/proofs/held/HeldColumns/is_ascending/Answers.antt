-- `snapshot::held::HeldColumns::is_ascending` meets its contract.
use mathlib.Core.Path.{◌≡◌, refl, sym, ◌∙◌}
use Prim.Native.Nat.{◌+◌, ◌-◌}
use native.Mathlib.Omega.{arith}
use lib.ListN.{get_or}
use Rattle.std.proofs.Common.{rules, tests}
use Rattle.std.proofs.lemmas.Iterator.{YieldsList-from_range}
use Rattle.std.proofs.lemmas.Iterator.Search.{all_from_yields_List}
use Rattle.lists.specs.Order.{less}
use Rattle.snapshot.specs.Entries.{by_ids, nothing}
use Rattle.snapshot.proofs.Listed.{rising-listed}
use Rattle.snapshot.proofs.held.HeldColumns.is_ascending.Goals as goal

pub returns : goal.returns
returns g c =
    let s = c.args.self.now in
    let l = g.Self.Counted.entries s in
    let n = c.count.result in
    all_from_yields_List (λ i. less (by_ids (get_or l (i - 1) nothing)) (by_ids (get_or l i nothing))) _ _ _ c.all.ensures.ran (YieldsList-from_range 1 n (n - 1) refl refl) (λ x b q k. search (rules, tests))
    ∙ rising-listed l n (g.met.Self.HeldColumns.sized s ∙ sym c.count.ensures) _ (λ i h. let z : i + 1 - 1 ≡ i = omega arith in rw z)
