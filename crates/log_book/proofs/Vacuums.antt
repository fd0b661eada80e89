-- The entries on deletions and pins: by computing on the state and its pins, and from there to managers and books. Assumes nothing.
use mathlib.Core.Path.{◌≡◌, refl, sym, ap, ap₂, subst, ◌∙◌}
use mathlib.Core.Bool.{Bool, true, false, not, ◌||◌}
use mathlib.Core.List.{List}
use lib.Dec.{ltb}
use lib.ListN.{length}
use Rattle.lists.specs.Keyed.{all_of, ascending}
use Rattle.ids.specs.Limits.{longest_manifest}
use Rattle.text.specs.Class.{is_digit, is_lower, is_capital, class_of}
use Rattle.text.specs.Decimal.{digits_by, digits}
use Rattle.text.specs.Name.{is_name_byte, is_name}
use Rattle.manifest.specs.Lines.{fields_text, text_of}
use Rattle.snapshot.specs.Entries.{Entry, gone_at, shown_at}
use Rattle.version_state.specs.State.{State, Hands}
use Rattle.version_state.specs.Sound.{left_behind, out_of_order, above_own, bad_inner}
use Rattle.version_state.proofs.Facts.{fit-counts}
use Rattle.operations.specs.Steps.{step_of}
use Rattle.pins.specs.declared.PinBook.{PinBook}
use Rattle.pins.specs.Book.{PinEntry, by_place, valid_pin, Keeps, bad_book}
use Rattle.pins.specs.Guards.{guards_by, bound}
use Rattle.pins.proofs.Facts.{book-good}
use Rattle.vacuum.specs.LetGo.{vacuum_list, vacuumed}
use Rattle.vacuum.specs.Says.{bound_of, list_of}
use Rattle.version_manager.specs.declared.VersionManager.{VersionManager}
use Rattle.version_manager.specs.Managers.{held_by, bad_former, bad_manager}
use Rattle.log_book.specs.Vacuums.{Lists, VacuumCases}

-- what 29 asks of a state whose counts are within the limits
abbrev pub is_bad : State → Bool
is_bad s =
    (ltb longest_manifest s.manifest || not (all_of (λ x. is_name x.name) s.tables)) || (out_of_order s || (above_own s || left_behind s.epoch s))

-- what the vacuum of a state and its pins is
record Computed (s : State) (l : List PinEntry) (es : List Entry) (t : State) : Type 0 where
  good : is_bad s ≡ false
  valid : all_of (valid_pin s.epoch) l ≡ true
  rising : ascending by_place l ≡ true
  list : vacuum_list (bound (guards_by s.epoch l)) s ≡ es
  fewer : ltb 1 (length es) ≡ false
  leaves : vacuumed (bound (guards_by s.epoch l)) s ≡ t

module _ (s : State) (m : VersionManager) (h : Hands m.inner s) (f : bad_former m ≡ false) where
  pub passes : is_bad s ≡ false → bad_manager m ≡ false
  passes g =
      let i : bad_inner m.inner ≡ false = rw (fit-counts m.inner h.fits) (subst (λ (t : State). is_bad t ≡ false) (sym h.state) g) in
      rw (i, f)

  module _ (l : List PinEntry) (b : PinBook) (k : Keeps b l) where
    good-pins : all_of (valid_pin s.epoch) l ≡ true → ascending by_place l ≡ true → bad_book (held_by m).epoch b ≡ false
    good-pins v r =
        book-good (held_by m).epoch b
        (record {
          fits = k.fits;
          valid = ap₂ (λ (t : State) (p : List PinEntry). all_of (valid_pin t.epoch) p) h.state k.pins ∙ v;
          ordered = ap (λ (p : List PinEntry). ascending by_place p) k.pins ∙ r;
        })

    is-list : list_of (held_by m) b ≡ vacuum_list (bound (guards_by s.epoch l)) s
    is-list = ap₂ (λ (t : State) (p : List PinEntry). vacuum_list (bound (guards_by t.epoch p)) t) h.state k.pins

    is-left : vacuumed (bound_of (held_by m) b) (held_by m) ≡ vacuumed (bound (guards_by s.epoch l)) s
    is-left = ap₂ (λ (t : State) (p : List PinEntry). vacuumed (bound (guards_by t.epoch p)) t) h.state k.pins

    lists : (es : List Entry) (t : State) → Computed s l es t → Lists m b es t
    lists es t c =
        let p = passes c.good in
        let q = good-pins c.valid c.rising in
        let i : list_of (held_by m) b ≡ es = is-list ∙ c.list in
        let f : ltb 1 (length (list_of (held_by m) b)) ≡ false = ap (λ (x : List Entry). ltb 1 (length x)) i ∙ c.fewer in
        record { passes = p; verdict = rw (p, q, f); list = i; leaves = is-left ∙ c.leaves }

pub vacuum-cases : VacuumCases
unfolding is_digit is_lower is_capital class_of digits_by digits is_name_byte is_name fields_text text_of gone_at shown_at step_of
vacuum-cases =
    record {
      adds = refl;
      pins = refl;
      deletes = refl;
      pinned = λ m b h f k. lists _ m h f _ b k _ _ (record { good = refl; valid = refl; rising = refl; list = refl; fewer = refl; leaves = refl });
      unpins = refl;
      unpinned = λ m b h f k. lists _ m h f _ b k _ _ (record { good = refl; valid = refl; rising = refl; list = refl; fewer = refl; leaves = refl });
      then = λ m b h f k. lists _ m h f _ b k _ _ (record { good = refl; valid = refl; rising = refl; list = refl; fewer = refl; leaves = refl });
      pins_later = refl;
      own_epoch = λ m b h f k. lists _ m h f _ b k _ _ (record { good = refl; valid = refl; rising = refl; list = refl; fewer = refl; leaves = refl });
    }
