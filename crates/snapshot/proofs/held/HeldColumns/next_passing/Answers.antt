-- `snapshot::held::HeldColumns::next_passing` meets its contract.
use mathlib.Core.Bool.{true, false}
use native.Mathlib.Omega.{arith}
use lib.ListN.{get_or}
use Rattle.std.proofs.Common.{◌≡◌, rules, tests}
use Rattle.std.proofs.lemmas.Iterator.{first_from_Range}
use Rattle.snapshot.specs.Entries.{nothing, passes}
use Rattle.snapshot.proofs.Tested.{first-shown}
use Rattle.snapshot.proofs.held.HeldColumns.next_passing.Goals as goal

pub returns : goal.returns
returns g c =
    let s = c.args.self.now in
    let l = g.Self.Counted.entries s in
    let p = passes (g.T.EpochTest.test c.args.test) in
    let z = g.met.Self.HeldColumns.sized s in
    first-shown p l c.args.end (omega arith) c.args.from _ (first_from_Range _ _ _ _ (λ i. p (get_or l i nothing) ≡ true) (λ i. p (get_or l i nothing) ≡ false) c.find.ensures.ran (λ x q k. search (rules, tests)) (λ x q k. search (rules, tests)))
