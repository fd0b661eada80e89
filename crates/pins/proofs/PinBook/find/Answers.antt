-- `pins::PinBook::find` meets its contract.
use mathlib.Core.Path.{sym}
use borrow.Author.Rules.{rules}
use Rattle.std.proofs.lemmas.List.Sorted.{answers_always}
use Rattle.pins.specs.declared.Pin.{Pin}
use Rattle.pins.specs.Book.{place_on}
use Rattle.pins.proofs.Finding.{search-finds}
use Rattle.pins.proofs.PinBook.find.Goals as goal

pub returns : goal.returns
returns c =
    let facts = c.binary_search_by_key.ensures in
    let finds = facts.position (λ (y : Pin). place_on y.epoch) (answers_always _ _ _ (λ f a r g k. search rules)) in
    rw (sym c.pins.ensures) (search-finds c.args.place c.pins.result.now (rw c.pins.ensures c.requires) _ facts.bound finds)
