-- The claim is false of managers that write or read a manifest wrongly. Assumes nothing.
use mathlib.Core.Path.{refl, sym}
use mathlib.Core.Bool.{true, false, true≢false}
use mathlib.Core.List.{List, [], ◌∷◌, ◌++◌}
use Prim.Native.Nat.{ℕ, ◌≤◌}
use native.Mathlib.Omega.{arith}
use lib.ListN.{length, take, replicate, length-replicate}
use Rattle.std.specs.Prelude.{Ok, Err}
use Rattle.columns.specs.Rows.{rows}
use Rattle.ids.specs.declared.refusal.Refusal.TheVariants.{OutputTooShort}
use Rattle.text.specs.Class.{is_digit, is_lower}
use Rattle.text.specs.Name.{is_name_byte, is_name}
use Rattle.text.specs.Decimal.{digits_by, digits, read_on, read_in, read_at}
use Rattle.manifest.specs.Lines.{field_at, named as named_at, two_fields, three_fields, table_fields, line_by, line_of, fields_text, text_of}
use Rattle.manifest.specs.Split.{lines_on, rest_on, lines}
use Rattle.snapshot.specs.Entries.{gone_at, shown_at}
use Rattle.operations.specs.Steps.{step_of}
use Rattle.version_manager.specs.declared.VersionManager.{VersionManager}
use Rattle.commit.specs.Commit.{append_of}
use Rattle.version_manager.specs.Commit.{outcome_of, CommitSays}
use Rattle.version_manager.specs.Show.{ShowTablesSays}
use Rattle.rewrite.specs.Rewritten.{longest_rewritten}
use Rattle.storage.specs.Reopen.{reopen_of, ReopenIs, ReopenSays}
use Rattle.plain_record.specs.Calls.{reopen}
use Rattle.plain_record.specs.Run.{Steps, Event, Link}
use Rattle.plain_record.specs.Wrong.{unended, CommitAppends, appends_no_end, opens_empty, first_frame, reads_first, reads_to_room, closed, counts_early, forgotten, forgets_ids, ReopenEndsEarly, rewrites_no_end, refuses_reopen, Refuted}
use Rattle.plain_record.proofs.Events.{places, no_tables, no_pairs, holding, few, unpinned, no_pins, first, begun, appended, rewritten_by, commits, reopens, refusing, begins, committed, reopened, fresh-says, draw-says, tables, frame_tad, commit_tad, says-TAD, on-TAD, ops_none, frame_none, after_none, ops_t, frame_t, after_t, commit_none, commit_t, created_t, fits-T, says_none, says-T, no_table, a-table, recorded}

-- a reopen that leaves nothing
abbrev rewritten : List ℕ
rewritten = 66 ∷ 10 ∷ 78 ∷ 44 ∷ 48 ∷ 44 ∷ 48 ∷ 44 ∷ 48 ∷ 10 ∷ 69 ∷ 10 ∷ []

abbrev empty : VersionManager
empty = holding 1 0 0 no_tables no_pairs 12

empty-shows : ShowTablesSays empty unpinned 1 [] [] [] [] (Ok 0) [] [] [] []
unfolding rows
empty-shows = record { answer = refl; ids = refl; shapes = refl; lengths = refl; names = refl }

module _ (S : Steps) (fresh : S.fresh first) (none : S.commit first.manager (length ops_none) ops_none frame_none (appended after_none 1 6) frame_none)
    (one : S.commit after_none (length ops_t) ops_t frame_t (appended (after_t tables) 2 14) frame_t)
    (opens : S.reopen (frame_none ++ frame_t) rewritten (rewritten_by empty 12) rewritten) (shows : S.show_tables empty unpinned 1 [] [] [] [] (Ok 0) [] [] [] []) where
  all-gone : Refuted S
  all-gone claim =
      let w = (commit_t tables 0).after in
      let o = reopens w empty 12 rewritten false in
      let h =
      claim begun (commit_none ∷ commit_t tables 0 ∷ o ∷ []) (begins S fresh) (
        refl,
        committed S begun ops_none after_none 1 6 frame_none 0 none,
        (
          refl,
          committed S commit_none.after ops_t (after_t tables) 2 14 frame_t 0 one,
          (refl, reopened S w empty 12 rewritten false opens, tt),
        ),
      ) in
      no_table S o.after 1 recorded shows h.agrees.tables

empty-says : ReopenSays [] rewritten (rewritten_by empty 12) rewritten
unfolding rows text_of fields_text digits digits_by lines lines_on
empty-says = (refl, record { hands = record { fits = few 1 0 0 no_tables no_pairs 12 (omega arith) (omega arith); state = refl }; nothing = refl }, no_pins, refl)

pub opens-empty : Refuted opens_empty
opens-empty = all-gone opens_empty fresh-says says_none says-T empty-says empty-shows

first_says : ReopenSays (first_frame (frame_none ++ frame_t)) rewritten (rewritten_by empty 12) rewritten
unfolding rows text_of fields_text digits digits_by lines lines_on line_of line_by
first_says = (refl, record { hands = record { fits = few 1 0 0 no_tables no_pairs 12 (omega arith) (omega arith); state = refl }; nothing = refl }, no_pins, refl)

pub reads-first : Refuted reads_first
reads-first = all-gone reads_first fresh-says says_none says-T first_says empty-shows

-- The manifest has 26 bytes and the rewritten one 20. A reopen that is lent 26 finds the table; one that is lent 20 would find it again in
-- the rewritten manifest, but the old one still stands, and of its frame the end is cut off.
abbrev rewritten_tad : List ℕ
rewritten_tad = 66 ∷ 10 ∷ 78 ∷ 44 ∷ 49 ∷ 44 ∷ 49 ∷ 44 ∷ 48 ∷ 10 ∷ 84 ∷ 44 ∷ 48 ∷ 44 ∷ 55 ∷ 44 ∷ 97 ∷ 10 ∷ 69 ∷ 10 ∷ []

abbrev found_tad : VersionManager
found_tad = holding 1 1 1 tables no_pairs 20

whole_says : ReopenSays (take 26 frame_tad) (places 26 rewritten_tad) (rewritten_by found_tad 20) (places 26 rewritten_tad)
unfolding rows text_of fields_text digits digits_by lines lines_on line_of line_by two_fields table_fields field_at named_at read_at read_in read_on is_name is_name_byte is_digit is_lower gone_at shown_at
whole_says = (refl, record { hands = record { fits = few 1 1 1 tables no_pairs 20 (omega arith) (omega arith); state = refl }; nothing = refl }, no_pins, refl)

cut-says : ReopenSays (take 20 frame_tad) (places 20 rewritten) (rewritten_by empty 12) (places 20 rewritten)
unfolding rows text_of fields_text digits digits_by lines lines_on line_of line_by two_fields table_fields field_at named_at read_at read_in read_on is_name is_name_byte is_digit is_lower
cut-says = (refl, record { hands = record { fits = few 1 0 0 no_tables no_pairs 12 (omega arith) (omega arith); state = refl }; nothing = refl }, no_pins, refl)

pub reads-to-room : Refuted reads_to_room
unfolding rows
reads-to-room claim =
    let S = reads_to_room in
    let w = commit_tad.after in
    let o = reopens w found_tad 20 (places 26 rewritten_tad) true in
    let q = reopens o.after empty 12 (places 20 rewritten) false in
    let h =
    on-TAD S claim fresh-says draw-says says-TAD (o ∷ q ∷ []) (
      refl,
      reopened S w found_tad 20 (places 26 rewritten_tad) true whole_says,
      (refl, reopened S o.after empty 12 (places 20 rewritten) false cut-says, tt),
    ) in
    no_table S q.after 1 recorded empty-shows h.agrees.tables

-- Reopens that find the table, where the next table's digit is n.
abbrev rewritten_t : ℕ → List ℕ
rewritten_t n = 66 ∷ 10 ∷ 78 ∷ 44 ∷ n ∷ 44 ∷ 48 ∷ 44 ∷ 48 ∷ 10 ∷ 84 ∷ 44 ∷ 48 ∷ 44 ∷ 55 ∷ 44 ∷ 97 ∷ 10 ∷ 69 ∷ 10 ∷ []

abbrev found : ℕ → VersionManager
found n = holding 1 n 0 tables no_pairs 20

-- of a file that lacks the last newline
abbrev torn : List ℕ
torn = 33 ∷ 10 ∷ 66 ∷ 10 ∷ 69 ∷ 10 ∷ 33 ∷ 10 ∷ 66 ∷ 10 ∷ 84 ∷ 44 ∷ 48 ∷ 44 ∷ 55 ∷ 44 ∷ 97 ∷ 10 ∷ 69 ∷ []

early-says : ReopenSays (closed torn) (rewritten_t 49) (rewritten_by (found 1) 20) (rewritten_t 49)
unfolding rows text_of fields_text digits digits_by lines lines_on rest_on line_of line_by table_fields field_at named_at read_at read_in read_on is_name is_name_byte is_digit is_lower gone_at shown_at
early-says = (refl, record { hands = record { fits = few 1 1 0 tables no_pairs 20 (omega arith) (omega arith); state = refl }; nothing = refl }, no_pins, refl)

found-shows : ShowTablesSays (found 1) unpinned 1 [] [] [] [] (Err OutputTooShort) [] [] [] []
unfolding rows is_name is_name_byte is_digit is_lower
found-shows = record { answer = refl; ids = refl; shapes = refl; lengths = refl; names = refl }

pub counts-early : Refuted counts_early
counts-early claim =
    let S = counts_early in
    let w = (commit_t tables 1).after in
    let o = reopens w (found 1) 20 (rewritten_t 49) false in
    let h =
    claim begun (commit_none ∷ commit_t tables 1 ∷ o ∷ []) (begins S fresh-says) (
      refl,
      committed S begun ops_none after_none 1 6 frame_none 0 says_none,
      (
        refl,
        committed S commit_none.after ops_t (after_t tables) 2 14 frame_t 1 says-T,
        (refl, reopened S w (found 1) 20 (rewritten_t 49) false early-says, tt),
      ),
    ) in
    a-table S o.after 1 found-shows h.agrees.tables

-- the used ids are forgotten
forgets-says : ReopenIs (forgotten (frame_none ++ frame_t) 20) (rewritten_t 48) (rewritten_by (found 0) 20) (rewritten_t 48)
unfolding rows text_of fields_text digits digits_by lines lines_on line_of line_by table_fields field_at named_at read_at read_in read_on is_name is_name_byte is_digit is_lower gone_at shown_at
forgets-says = (refl, record { hands = record { fits = few 1 0 0 tables no_pairs 20 (omega arith) (omega arith); state = refl }; nothing = refl }, no_pins, refl)

pub forgets-ids : Refuted forgets_ids
forgets-ids claim =
    let S = forgets_ids in
    let w = (commit_t tables 0).after in
    let o = reopens w (found 0) 20 (rewritten_t 48) false in
    let h =
    claim begun (commit_none ∷ commit_t tables 0 ∷ o ∷ []) (begins S fresh-says) (
      refl,
      committed S begun ops_none after_none 1 6 frame_none 0 says_none,
      (
        refl,
        committed S commit_none.after ops_t (after_t tables) 2 14 frame_t 0 says-T,
        (refl, reopened S w (found 0) 20 (rewritten_t 48) false forgets-says, tt),
      ),
    ) in
    true≢false (sym h.agrees.next)

-- The table is created at epoch 1. The append, and the rewritten manifest, lack their last line.
abbrev creates_t : ℕ → Event
creates_t n = commits begun ops_t (created_t n) 1 n frame_t 0

early-T : CommitAppends (λ l. unended (append_of l)) (outcome_of first.manager (length ops_t) ops_t 14) first.manager ops_t frame_t (appended (created_t 12) 1 12) frame_t
unfolding rows step_of text_of fields_text digits digits_by is_name is_name_byte is_digit is_lower gone_at shown_at
early-T = (refl, record { hands = record { fits = fits-T; state = refl }; former = record { fits = fresh-says.manager.hands.fits; state = refl }; append = refl }, refl)

unended-opens : ReopenSays (take 12 frame_t) rewritten (rewritten_by empty 12) rewritten
unfolding rows text_of fields_text digits digits_by lines lines_on line_of line_by table_fields field_at named_at read_at read_in read_on is_name is_name_byte is_digit is_lower
unended-opens = (refl, record { hands = record { fits = few 1 0 0 no_tables no_pairs 12 (omega arith) (omega arith); state = refl }; nothing = refl }, no_pins, refl)

pub appends-no-end : Refuted appends_no_end
unfolding rows
appends-no-end claim =
    let S = appends_no_end in
    let w = (creates_t 12).after in
    let o = reopens w empty 12 rewritten false in
    let h =
    claim begun (creates_t 12 ∷ o ∷ []) (begins S fresh-says) (
      refl,
      committed S begun ops_t (created_t 12) 1 12 frame_t 0 early-T,
      (refl, reopened S w empty 12 rewritten false unended-opens, tt),
    ) in
    no_table S o.after 1 recorded empty-shows h.agrees.tables

says-created : CommitSays first.manager (length ops_t) ops_t frame_t (appended (created_t 14) 1 14) frame_t
unfolding rows step_of text_of fields_text digits digits_by is_name is_name_byte is_digit is_lower gone_at shown_at
says-created = (refl, record { hands = record { fits = fits-T; state = refl }; former = record { fits = fresh-says.manager.hands.fits; state = refl }; append = refl }, refl)

early-found : ReopenEndsEarly (reopen_of frame_t 20) (rewritten_t 49) (rewritten_by (found 1) 18) (rewritten_t 49)
unfolding rows text_of fields_text digits digits_by lines lines_on line_of line_by table_fields field_at named_at read_at read_in read_on is_name is_name_byte is_digit is_lower gone_at shown_at
early-found = (refl, record { hands = record { fits = few 1 1 0 tables no_pairs 20 (omega arith) (omega arith); state = refl }; nothing = refl }, no_pins, refl)

early-empty : ReopenEndsEarly (reopen_of (take 18 (rewritten_t 49)) 12) rewritten (rewritten_by empty 10) rewritten
unfolding rows text_of fields_text digits digits_by lines lines_on line_of line_by three_fields table_fields field_at named_at read_at read_in read_on is_name is_name_byte is_digit is_lower
early-empty = (refl, record { hands = record { fits = few 1 0 0 no_tables no_pairs 12 (omega arith) (omega arith); state = refl }; nothing = refl }, no_pins, refl)

pub rewrites-no-end : Refuted rewrites_no_end
unfolding rows
rewrites-no-end claim =
    let S = rewrites_no_end in
    let w = (creates_t 14).after in
    let o = reopens w (found 1) 18 (rewritten_t 49) false in
    let q = reopens o.after empty 10 rewritten false in
    let h =
    claim begun (creates_t 14 ∷ o ∷ q ∷ []) (begins S fresh-says) (
      refl,
      committed S begun ops_t (created_t 14) 1 14 frame_t 0 says-created,
      (
        refl,
        reopened S w (found 1) 18 (rewritten_t 49) false early-found,
        (refl, reopened S o.after empty 10 rewritten false early-empty, tt),
      ),
    ) in
    no_table S q.after 1 recorded empty-shows h.agrees.tables

-- a reopen is refused, though it is lent enough
module _ (out : List ℕ) (long : longest_rewritten ≤ length out) where
  abbrev refusal : Event
  refusal = record { before = begun; call = reopen out false; told = refusing OutputTooShort; listed = []; after = begun }

  refusal-says : Link refuses_reopen refusal
  refusal-says =
      record {
        result = record { manager = first.manager; book = unpinned; answer = Err OutputTooShort };
        left = out;
        says = (refl, fresh-says.manager, no_pins, refl);
        told = refl;
        none = refl;
        after = refl;
      }

  opens-never : Refuted refuses_reopen
  opens-never claim =
      let h = claim begun (refusal ∷ []) (begins refuses_reopen fresh-says) (refl, refusal-says, tt) in
      true≢false (sym (h.answers.0 long))

pub refuses-reopen : Refuted refuses_reopen
refuses-reopen = opens-never (replicate longest_rewritten 0) (rw (length-replicate {0} {A = ℕ} longest_rewritten 0) (omega arith))
