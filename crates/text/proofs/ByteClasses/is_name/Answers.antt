-- `text::ByteClasses::is_name` meets its contract.
use mathlib.Core.Path.{◌≡◌, sym, ◌∙◌}
use lib.ListN.{length}
use Rattle.std.proofs.Common.{rules, tests, arith}
use Rattle.std.proofs.lemmas.Bool.Decides.{nat_tests}
use Rattle.std.proofs.lemmas.Iterator.{YieldsList-from_slice}
use Rattle.std.proofs.lemmas.Iterator.Search.{all_from_yields_List}
use Rattle.text.specs.Name.{is_name_byte}
use Rattle.text.proofs.Names.{name-empty, name-long, name-all}
use Rattle.text.proofs.ByteClasses.is_name.Goals as goal

pub returns-then-s-le-LONGEST_NAME : goal.returns-then-s-le-LONGEST_NAME
returns-then-s-le-LONGEST_NAME c =
    let s = c.args.s.now in
    let some : length s ≡ 0 → ⊥ = grind (arith, nat_tests) in
    let all = all_from_yields_List is_name_byte _ _ _ c.all.ensures.ran (YieldsList-from_slice s cc) (λ x b q k. search (rules, tests)) in
    all ∙ sym (name-all s some c.if-s-le-LONGEST_NAME.true.1)

pub returns-else-s-le-LONGEST_NAME : goal.returns-else-s-le-LONGEST_NAME
returns-else-s-le-LONGEST_NAME c = let s = c.args.s.now in grind (arith, nat_tests, name-empty s, name-long s)
