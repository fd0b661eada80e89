-- `pins::PinBook::remove` meets its contract.
use mathlib.Core.Path.{◌≡◌, ap, ◌∙◌}
use mathlib.Core.List.{List, map}
use Prim.Native.Nat.{◌-◌}
use native.Mathlib.Omega.{arith}
use lib.ListN.{length, take}
use Rattle.lists.proofs.Places.{known}
use Rattle.pins.specs.declared.Pin.{Pin}
use Rattle.pins.specs.Book.{pin_entry, most_pinned}
use Rattle.pins.proofs.Shifts.{shift-down, map-remove}
use Rattle.pins.proofs.PinBook.remove.Goals as goal

pub returns : goal.returns
returns c =
    let full : length c.args.self.now.items ≡ most_pinned = search known in
    let n = c.args.self.now.count in
    let l = c.args.self.now.items in (
      omega (arith, c.requires.0),
      ap (λ (t : List Pin). map pin_entry (take (n - 1) t)) c.copy_within.ensures.after
          ∙ ap (map pin_entry) (shift-down l n c.args.at c.requires.0 (omega (arith, c.requires.1)))
          ∙ map-remove pin_entry c.args.at (take n l),
    )
