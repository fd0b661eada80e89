-- `pins::PinBook::bad` meets its contract.
use mathlib.Core.Path.{◌≡◌, ap, ap₂, ◌∙◌}
use mathlib.Core.Bool.{Bool, not, ◌&&◌}
use mathlib.Core.List.{List, map}
use borrow.Author.Rules.{rules}
use borrow.Author.Tests.{tests, le-ltb}
use Rattle.std.proofs.lemmas.Iterator.{YieldsList-from_slice}
use Rattle.std.proofs.lemmas.Iterator.Search.{all_from_yields_List}
use Rattle.std.proofs.lemmas.List.Sorted.{answers_always}
use Rattle.std.specs.Ordering.{nat_cmp, is_lt}
use Rattle.lists.specs.Keyed.{all_of, ascending}
use Rattle.pins.specs.declared.Pin.{Pin}
use Rattle.pins.specs.Book.{pin_entry, by_place, valid_pin}
use Rattle.pins.proofs.Seen.{before, all-seen, rising}
use Rattle.pins.proofs.PinBook.bad.Goals as goal
use Rattle.pins.proofs.PinBook.bad.Goals.{then-valid, else-valid}

pub returns-after-valid : goal.returns-after-valid
returns-after-valid c =
    let l = c.pins-pins.result.now in
    let valid : c.all-valid.result ≡ all_of (valid_pin c.args.current) (map pin_entry l) =
    all_from_yields_List (λ (y : Pin). valid_pin c.args.current (pin_entry y)) _ _ _ c.all-valid.ensures.ran (YieldsList-from_slice l cc) (λ x b q k. search (rules, tests))
    ∙ all-seen pin_entry (valid_pin c.args.current) l in
    let below : Pin → Pin → Bool = λ y z. is_lt (nat_cmp y.epoch z.epoch) in
    let rises : c.is_sorted_by-rises.result ≡ ascending by_place (map pin_entry l) =
    rising pin_entry by_place below (λ y z. before y.epoch z.epoch) l _ (c.is_sorted_by-rises.ensures.cases below (answers_always _ _ _ (λ f a r g k. search rules))) in
    let both : c.if-valid.result ≡ c.all-valid.result && c.is_sorted_by-rises.result = elim c.if-valid.branch [ then-valid w ↦ search rules | else-valid w ↦ search rules ] in
    rw (le-ltb _ _ c.if-self-gt-MOST_PINNED.false)
    (ap not (both ∙ ap₂ ◌&&◌ valid rises ∙ ap (λ (t : List Pin). all_of (valid_pin c.args.current) (map pin_entry t) && ascending by_place (map pin_entry t)) c.pins-pins.ensures))
