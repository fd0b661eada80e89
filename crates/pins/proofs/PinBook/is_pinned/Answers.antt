-- `pins::PinBook::is_pinned` meets its contract.
use mathlib.Core.Path.{ap, ◌∙◌}
use mathlib.Core.List.{List, map}
use borrow.Author.Rules.{rules}
use borrow.Author.Tests.{tests}
use lib.Dec.{eqb}
use Rattle.std.proofs.lemmas.Iterator.{YieldsList-from_slice}
use Rattle.std.proofs.lemmas.Iterator.Search.{any_from_yields_List}
use Rattle.pins.specs.declared.Pin.{Pin}
use Rattle.pins.specs.Book.{PinEntry, pin_entry, pinned}
use Rattle.pins.proofs.Seen.{any-seen}
use Rattle.pins.proofs.PinBook.is_pinned.Goals as goal

pub returns : goal.returns
returns c =
    any_from_yields_List (λ (y : Pin). eqb y.epoch c.args.epoch) _ _ _ c.any.ensures.ran (YieldsList-from_slice c.pins.result.now cc) (λ x b q k. search (rules, tests))
    ∙ any-seen pin_entry (λ (p : PinEntry). eqb p.epoch c.args.epoch) c.pins.result.now
    ∙ ap (λ (l : List Pin). pinned c.args.epoch (map pin_entry l)) c.pins.ensures
