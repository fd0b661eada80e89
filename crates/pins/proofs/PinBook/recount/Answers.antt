-- `pins::PinBook::recount` meets its contract.
use mathlib.Core.Path.{◌≡◌, ap, ◌∙◌}
use mathlib.Core.List.{map}
use native.Mathlib.Omega.{arith}
use borrow.Author.Tests.{ne_eqb}
use lib.ListN.{length, take}
use lib.Seq.{take-set-lt}
use Rattle.lists.proofs.Places.{known}
use Rattle.lists.proofs.Views.{map-set, view-length}
use Rattle.pins.specs.Book.{pin_entry, pins_of, most_pinned}
use Rattle.pins.specs.Counts.{found_at}
use Rattle.pins.proofs.Finding.{found-inside, found-set, found-removed, missed-inserted, missed-room, missed-without}
use Rattle.pins.proofs.PinBook.recount.Goals as goal

pub insert-requires : goal.insert-requires
insert-requires c =
    let b = c.args.self.now in
    let full : length b.items ≡ most_pinned = search known in
    let w = view-length pin_entry b.items b.count (omega (arith, c.requires.0)) in
    let r = missed-room c.args.place (pins_of b) c.in-Err.at c.in-Err.ensures c.requires.1 c.requires.2 in
    (omega (arith, c.find.ensures.within, ap found_at c.in-Err.is), omega arith)

pub returns-in-Ok : goal.returns-in-Ok
returns-in-Ok c =
    rw c.if-count-eq0.true (record {
      fits = omega (arith, c.remove.ensures.0, c.requires.0);
      pins = c.remove.ensures.1 ∙ found-removed c.args.place (pins_of c.args.self.now) c.in-Ok.at c.in-Ok.ensures c.requires.1;
    })

pub returns-in-Ok-2 : goal.returns-in-Ok-2
returns-in-Ok-2 c =
    let b = c.args.self.now in
    let full : length b.items ≡ most_pinned = search known in
    let w = view-length pin_entry b.items b.count (omega (arith, c.requires.0)) in
    let i = found-inside c.args.place (pins_of b) c.in-Ok.at c.in-Ok.ensures in
    rw (ne_eqb _ _ c.if-count-eq0.false) (record {
      fits = c.requires.0;
      pins =
          ap (map pin_entry) (take-set-lt b.count b.items c.in-Ok.at _ (omega arith))
          ∙ map-set pin_entry c.in-Ok.at _ (take b.count b.items)
          ∙ found-set c.args.place (pins_of b) c.in-Ok.at c.in-Ok.ensures c.args.count;
    })

pub returns-in-Err : goal.returns-in-Err
returns-in-Err c =
    let b = c.args.self.now in
    let full : length b.items ≡ most_pinned = search known in
    let w = view-length pin_entry b.items b.count (omega (arith, c.requires.0)) in
    let r = missed-room c.args.place (pins_of b) c.in-Err.at c.in-Err.ensures c.requires.1 c.requires.2 in
    rw (ne_eqb _ _ c.if-count-ne0.true) (record {
      fits = omega (arith, c.insert.ensures.0);
      pins = c.insert.ensures.1 ∙ missed-inserted c.args.place (pins_of b) c.in-Err.at c.in-Err.ensures c.args.count;
    })

pub returns-else-count-ne0 : goal.returns-else-count-ne0
returns-else-count-ne0 c =
    rw c.if-count-ne0.false (record {
      fits = c.requires.0;
      pins = missed-without c.args.place (pins_of c.args.self.now) c.in-Err.at c.in-Err.ensures c.requires.1;
    })
