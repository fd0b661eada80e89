-- `pins::PinBook::insert` meets its contract.
use mathlib.Core.Path.{◌≡◌, refl, ap, ◌∙◌}
use mathlib.Core.List.{List, map}
use Prim.Native.Nat.{◌+◌}
use native.Mathlib.Omega.{arith}
use lib.ListN.{length, take, set}
use Rattle.lists.proofs.Places.{known}
use Rattle.lists.proofs.Views.{map-insert}
use Rattle.pins.specs.declared.Pin.{Pin}
use Rattle.pins.specs.Book.{pin_entry, most_pinned}
use Rattle.pins.proofs.Shifts.{shift-up}
use Rattle.pins.proofs.PinBook.insert.Goals as goal

pub returns : goal.returns
returns c =
    let full : length c.args.self.now.items ≡ most_pinned = search known in
    let n = c.args.self.now.count in
    let l = c.args.self.now.items in (
      refl,
      ap (λ (t : List Pin). map pin_entry (take (n + 1) (set t c.args.at c.args.pin))) c.copy_within.ensures.after
          ∙ ap (map pin_entry) (shift-up l n c.args.at c.args.pin c.requires.0 (omega (arith, c.requires.1)))
          ∙ map-insert pin_entry c.args.at c.args.pin (take n l),
    )
