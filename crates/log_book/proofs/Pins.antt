-- The entries on pins. Assumes nothing.
use mathlib.Core.Path.{◌≡◌, refl, sym, ap, subst, ◌∙◌}
use mathlib.Core.Bool.{true}
use mathlib.Core.List.{List, [], ◌∷◌}
use borrow.Author.Tests.{eq-eqb}
use Rattle.std.specs.Prelude.{Err}
use Rattle.lists.specs.Keyed.{all_of, ascending}
use Rattle.ids.specs.declared.refusal.Refusal.TheVariants.{PinAtEpochZero}
use Rattle.ids.specs.Verdicts.{Verdict}
use Rattle.ids.specs.Answers.{told}
use Rattle.version_state.specs.State.{State}
use Rattle.pins.specs.Book.{PinEntry, by_place, valid_pin}
use Rattle.pins.proofs.Facts.{book-good}
use Rattle.version_manager.specs.declared.Opened.{Opened}
use Rattle.version_manager.specs.Managers.{FreshSays}
use Rattle.version_manager.proofs.Laws.{draw-laws}
use Rattle.pinning.specs.Says.{current, pin_verdict}
use Rattle.pinning.proofs.Says.{pin-10}
use Rattle.log_book.specs.Pins.{PinCases}

fresh-refused : (r : Opened) → FreshSays r → pin_verdict r.manager r.book ≡ Err PinAtEpochZero
fresh-refused r f =
    let q = sym f.book.pins in
    sym
    (pin-10 r.manager r.book (draw-laws.fresh r f)
    (book-good (current r.manager) r.book
    (record {
      fits = f.book.fits;
      valid = subst (λ (l : List PinEntry). all_of (valid_pin (current r.manager)) l ≡ true) q refl;
      ordered = subst (λ (l : List PinEntry). ascending by_place l ≡ true) q refl;
    }))
    (eq-eqb (current r.manager) 0 (ap (λ (t : State). t.epoch) f.manager.hands.state)))

pub pin-cases : PinCases
pin-cases = record { fresh = λ r f a b s. s.answer ∙ ap (λ (v : Verdict). told v (current r.manager ∷ [])) (fresh-refused r f) }
