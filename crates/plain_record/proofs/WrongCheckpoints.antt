-- The claim is false of managers whose checkpoint is wrong. Assumes nothing.
use mathlib.Core.Path.{refl, sym}
use mathlib.Core.Bool.{false, true≢false}
use mathlib.Core.List.{List, [], ◌∷◌}
use Prim.Native.Nat.{ℕ}
use native.Mathlib.Omega.{arith}
use Rattle.std.specs.Prelude.{Ok, Err}
use Rattle.columns.specs.Rows.{rows}
use Rattle.ids.specs.declared.refusal.Refusal.TheVariants.{OutputTooShort}
use Rattle.text.specs.Class.{is_digit, is_lower}
use Rattle.text.specs.Name.{is_name_byte, is_name}
use Rattle.text.specs.Decimal.{digits_by, digits, read_on, read_in, read_at}
use Rattle.manifest.specs.Lines.{field_at, named as named_at, two_fields, three_fields, table_fields, line_by, line_of, fields_text, text_of}
use Rattle.manifest.specs.Split.{lines_on, lines}
use Rattle.snapshot.specs.Entries.{gone_at, shown_at}
use Rattle.version_state.specs.Widths.{Narrow}
use Rattle.rewrite.specs.Rewritten.{rewritten_of}
use Rattle.version_manager.specs.declared.VersionManager.{VersionManager}
use Rattle.version_manager.specs.Managers.{held_by}
use Rattle.version_manager.specs.Vacuum.{VacuumSays}
use Rattle.version_manager.specs.Show.{ShowPairsSays}
use Rattle.storage.specs.Reopen.{ReopenSays}
use Rattle.plain_record.specs.Wrong.{ChecksBy, with_length, all_held, writes_waiting, past_held, forgets_let_go, keeps_length, only_now, drops_older, Refuted}
use Rattle.plain_record.proofs.Events.{apart, no_pairs, holding, few, unpinned, once, no_pins, first, begun, listed_by, checkpointed_by, rewritten_by, vacuums, checkpoints, reopens, begins, vacuumed, checkpointed, reopened, fresh-says, draw-says, tables, pair, after_tad, swept_tad, commit_tad, says-TAD, on-TAD, says-TA, after_d, commit_d, pin-says-TA, says-D, on-D, no-pair, a_pair, recorded_pair}

-- `N`, then the table, where the digit of the next rowset is n, and then these bytes
abbrev written_t : ℕ → List ℕ → List ℕ
written_t n l = 66 ∷ 10 ∷ 78 ∷ 44 ∷ 49 ∷ 44 ∷ n ∷ 44 ∷ 48 ∷ 10 ∷ 84 ∷ 44 ∷ 48 ∷ 44 ∷ 55 ∷ 44 ∷ 97 ∷ 10 ∷ l

abbrev ending : List ℕ
ending = 69 ∷ 10 ∷ []

-- The rowset is added and deleted at epoch 1, and the checkpoint writes it.
abbrev with_pair : List ℕ
with_pair = written_t 49 (65 ∷ 44 ∷ 48 ∷ 44 ∷ 48 ∷ 10 ∷ ending)

narrow-TAD : Narrow (held_by after_tad)
narrow-TAD = record { table = omega arith; rowset = omega arith; vector = omega arith }

abbrev checked_tad : VersionManager
checked_tad = holding 1 1 1 tables (pair 1 1) 26

waiting-says : ChecksBy all_held (with_length all_held) after_tad with_pair (checkpointed_by checked_tad 26) with_pair
unfolding rows text_of fields_text digits digits_by is_name is_name_byte is_digit is_lower gone_at shown_at
waiting-says = record { answer = refl; bytes = refl; manager = record { hands = record { fits = few 1 1 1 tables (pair 1 1) 26 (omega arith) (omega arith); state = refl }; nothing = refl } }

abbrev found_pair : VersionManager
found_pair = holding 1 1 1 tables (pair 1 0) 26

pair-opens : ReopenSays with_pair with_pair (rewritten_by found_pair 26) with_pair
unfolding rows text_of fields_text digits digits_by lines lines_on line_of line_by two_fields three_fields table_fields field_at named_at read_at read_in read_on is_name is_name_byte is_digit is_lower gone_at shown_at
pair-opens = (refl, record { hands = record { fits = few 1 1 1 tables (pair 1 0) 26 (omega arith) (omega arith); state = refl }; nothing = refl }, no_pins, refl)

pair-shows : ShowPairsSays found_pair unpinned 1 [] [] (Err OutputTooShort) [] []
unfolding rows is_name is_name_byte is_digit is_lower gone_at shown_at
pair-shows = record { answer = refl; tables = refl; rowsets = refl }

pub writes-waiting : Refuted writes_waiting
unfolding rows
writes-waiting claim =
    let S = writes_waiting in
    let w = commit_tad.after in
    let c = checkpoints w checked_tad 26 with_pair in
    let o = reopens c.after found_pair 26 with_pair false in
    let h =
    on-TAD S claim fresh-says draw-says says-TAD (c ∷ o ∷ []) (
      refl,
      checkpointed S w checked_tad 26 with_pair narrow-TAD waiting-says,
      (refl, reopened S c.after found_pair 26 with_pair false pair-opens, tt),
    ) in
    a_pair S o.after 1 pair-shows (h.agrees.pairs 1 refl)

-- The same rowset is let go by a vacuum, and the checkpoint's `N` would have its id drawn again.
abbrev forgetting : List ℕ
forgetting = written_t 48 ending

vacuum-says : VacuumSays after_tad unpinned (5 ∷ []) (5 ∷ []) (listed_by swept_tad 1) (0 ∷ []) (0 ∷ [])
unfolding rows is_name is_name_byte is_digit is_lower gone_at shown_at
vacuum-says =
    record { answer = refl; tables = refl; rowsets = refl; manager = record { hands = record { fits = few 1 1 1 tables no_pairs 26 (omega arith) (omega arith); state = refl }; nothing = refl } }

narrow-swept : Narrow (held_by swept_tad)
narrow-swept = record { table = omega arith; rowset = omega arith; vector = omega arith }

abbrev checked_swept : VersionManager
checked_swept = holding 1 1 1 tables no_pairs 20

forgetting-says : ChecksBy past_held (with_length past_held) swept_tad forgetting (checkpointed_by checked_swept 20) forgetting
unfolding rows text_of fields_text digits digits_by is_name is_name_byte is_digit is_lower gone_at shown_at
forgetting-says = record { answer = refl; bytes = refl; manager = record { hands = record { fits = few 1 1 1 tables no_pairs 20 (omega arith) (omega arith); state = refl }; nothing = refl } }

abbrev forgot : VersionManager
forgot = holding 1 1 0 tables no_pairs 20

forgetting-opens : ReopenSays forgetting forgetting (rewritten_by forgot 20) forgetting
unfolding rows text_of fields_text digits digits_by lines lines_on line_of line_by three_fields table_fields field_at named_at read_at read_in read_on is_name is_name_byte is_digit is_lower gone_at shown_at
forgetting-opens = (refl, record { hands = record { fits = few 1 1 0 tables no_pairs 20 (omega arith) (omega arith); state = refl }; nothing = refl }, no_pins, refl)

pub forgets-let-go : Refuted forgets_let_go
unfolding rows
forgets-let-go claim =
    let S = forgets_let_go in
    let w = commit_tad.after in
    let v = vacuums w swept_tad 1 (0 ∷ []) (0 ∷ []) in
    let c = checkpoints v.after checked_swept 20 forgetting in
    let o = reopens c.after forgot 20 forgetting false in
    let h =
    on-TAD S claim fresh-says draw-says says-TAD (v ∷ c ∷ o ∷ []) (
      refl,
      vacuumed S w swept_tad 1 (0 ∷ []) (0 ∷ []) vacuum-says,
      (
        refl,
        checkpointed S v.after checked_swept 20 forgetting narrow-swept forgetting-says,
        (refl, reopened S c.after forgot 20 forgetting false forgetting-opens, tt),
      ),
    ) in
    true≢false (sym h.agrees.next)

-- Before any commit the new manifest has 12 bytes, and the old one none.
abbrev nothing : List ℕ
nothing = 66 ∷ 10 ∷ 78 ∷ 44 ∷ 48 ∷ 44 ∷ 48 ∷ 44 ∷ 48 ∷ 10 ∷ ending

length-says : ChecksBy rewritten_of (λ s. s) first.manager nothing (checkpointed_by first.manager 12) nothing
unfolding rows text_of fields_text digits digits_by
length-says = record { answer = refl; bytes = refl; manager = fresh-says.manager }

pub keeps-length : Refuted keeps_length
keeps-length claim =
    let S = keeps_length in
    let h =
    claim begun (checkpoints begun first.manager 12 nothing ∷ []) (begins S fresh-says) (
      refl,
      checkpointed S begun first.manager 12 nothing (record { table = omega arith; rowset = omega arith; vector = omega arith }) length-says,
      tt,
    ) in
    apart h.agrees.manifest refl

-- The rowset is added at epoch 1, which is pinned, and deleted at epoch 2; after the checkpoint the pinned epoch shows nothing.
abbrev shown_now : List ℕ
shown_now = written_t 49 ending

narrow-D : Narrow (held_by after_d)
narrow-D = record { table = omega arith; rowset = omega arith; vector = omega arith }

abbrev checked_d : VersionManager
checked_d = holding 2 1 1 tables no_pairs 20

older-says : ChecksBy rewritten_of (λ s. with_length rewritten_of (only_now s)) after_d shown_now (checkpointed_by checked_d 20) shown_now
unfolding rows text_of fields_text digits digits_by is_name is_name_byte is_digit is_lower gone_at shown_at
older-says = record { answer = refl; bytes = refl; manager = record { hands = record { fits = few 2 1 1 tables no_pairs 20 (omega arith) (omega arith); state = refl }; nothing = refl } }

older-shows : ShowPairsSays checked_d once 1 [] [] (Ok 0) [] []
unfolding rows is_name is_name_byte is_digit is_lower gone_at shown_at
older-shows = record { answer = refl; tables = refl; rowsets = refl }

pub drops-older : Refuted drops_older
drops-older claim =
    let S = drops_older in
    let c = checkpoints commit_d.after checked_d 20 shown_now in
    let h =
    on-D S claim fresh-says draw-says says-TA pin-says-TA says-D (c ∷ []) (
      refl,
      checkpointed S commit_d.after checked_d 20 shown_now narrow-D older-says,
      tt,
    ) in
    no-pair S c.after 1 recorded_pair older-shows (h.agrees.pairs 1 refl)
