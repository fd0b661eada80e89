-- The claim is false of managers whose report is wrong. Assumes nothing.
use mathlib.Core.Path.{refl, sym}
use mathlib.Core.Bool.{false, true≢false}
use mathlib.Core.List.{List, [], ◌∷◌}
use Prim.Native.Nat.{ℕ, ◌≤◌}
use native.Mathlib.Omega.{arith}
use lib.ListN.{length, replicate, length-replicate}
use Rattle.std.specs.Prelude.{Ok, Err}
use Rattle.columns.specs.Rows.{rows}
use Rattle.ids.specs.declared.refusal.Refusal.TheVariants.{Malformed, OutputTooShort}
use Rattle.text.specs.Class.{is_digit, is_lower}
use Rattle.text.specs.Name.{is_name_byte, is_name}
use Rattle.text.specs.Decimal.{digits_by, digits, read_on, read_in, read_at}
use Rattle.manifest.specs.Lines.{field_at, named as named_at, table_fields, line_by, line_of, fields_text, text_of}
use Rattle.manifest.specs.Split.{lines_on, lines}
use Rattle.frames.specs.Frames.{frame_of}
use Rattle.snapshot.specs.Entries.{gone_at, shown_at}
use Rattle.operations.specs.Steps.{step_of}
use Rattle.rewrite.specs.Rewritten.{longest_rewritten}
use Rattle.version_manager.specs.declared.VersionManager.{VersionManager}
use Rattle.version_manager.specs.Commit.{CommitSays}
use Rattle.version_manager.specs.Report.{report_verdict, reported_state, ReportSays}
use Rattle.version_manager.specs.Show.{ShowTablesSays}
use Rattle.pinning.specs.Says.{PinSays}
use Rattle.plain_record.specs.Calls.{reopen}
use Rattle.plain_record.specs.Run.{Event, Link}
use Rattle.plain_record.specs.Wrong.{ReportsBy, same_epoch, stays_at_epoch, with_deletions, keeps_deletions, pinned_verdict, loses_pinned, reads_torn, CommitAppends, unmarked, appends_no_mark, Refuted}
use Rattle.plain_record.proofs.Events.{apart, not-empty, places, no_tables, no_pairs, holding, following, few, unpinned, once, no_pins, begun, first, appended, rewritten_by, reported_by, commits, pins, reports, reopens, refusing, begins, committed, pinned, reported, reopened, fresh-says, draw-says, tables, pair, ops_none, frame_none, after_none, commit_none, says_none, ops_t, frame_t, created_t, fits-T, a-table, commit_ta, says-TA, on-TA, ops_d, frame_d, after_d, says-D}

-- The empty commit is reported, no byte of it landed, and the epoch stays 1.
abbrev stayed : VersionManager
stayed = holding 1 0 0 no_tables no_pairs 0

stayed-says : ReportsBy report_verdict same_epoch after_none unpinned 0 (reported_by stayed 1 0)
unfolding rows
stayed-says =
    record { answer = refl; manager = record { hands = record { fits = few 1 0 0 no_tables no_pairs 0 (omega arith) (omega arith); state = refl }; nothing = refl } }

pub stays-at-epoch : Refuted stays_at_epoch
stays-at-epoch claim =
    let S = stays_at_epoch in
    let w = commit_none.after in
    let h =
    claim begun (commit_none ∷ reports w 0 stayed 1 0 ∷ []) (begins S fresh-says) (
      refl,
      committed S begun ops_none after_none 1 6 frame_none 0 says_none,
      (refl, reported S w 0 stayed 1 0 stayed-says, tt),
    ) in
    apart h.agrees.epoch refl

-- The rowset is added at epoch 1 and deleted at epoch 2. The deletion is reported, three bytes of it landed, and it waits on.
abbrev deletes : Event
deletes = commits commit_ta.after ops_d after_d 2 12 frame_d 0

abbrev waits_on : VersionManager
waits_on = holding 1 1 1 tables (pair 1 2) 23

waits-says : ReportsBy report_verdict with_deletions after_d unpinned 3 (reported_by waits_on 1 23)
unfolding rows is_name is_name_byte is_digit is_lower gone_at shown_at
waits-says =
    record { answer = refl; manager = record { hands = record { fits = few 1 1 1 tables (pair 1 2) 23 (omega arith) (omega arith); state = refl }; nothing = refl } }

pub keeps-deletions : Refuted keeps_deletions
unfolding rows
keeps-deletions claim =
    let S = keeps_deletions in
    let w = deletes.after in
    let h =
    on-TA S claim fresh-says draw-says says-TA (deletes ∷ reports w 3 waits_on 1 23 ∷ []) (
      refl,
      committed S commit_ta.after ops_d after_d 2 12 frame_d 0 says-D,
      (refl, reported S w 3 waits_on 1 23 waits-says, tt),
    ) in
    not-empty (sym h.agrees.waiting)

-- The epoch of the empty commit is pinned, and the commit is reported.
abbrev fresh : VersionManager
fresh = holding 0 0 0 no_tables no_pairs 0

pin-says : PinSays after_none unpinned (Ok 1) once
unfolding rows
pin-says = record { answer = refl; book = record { fits = omega arith; pins = refl } }

pinned-says : ReportsBy pinned_verdict reported_state after_none once 0 (reported_by fresh 0 0)
unfolding rows
pinned-says = record { answer = refl; manager = record { hands = fresh-says.manager.hands; nothing = refl } }

pub loses-pinned : Refuted loses_pinned
loses-pinned claim =
    let S = loses_pinned in
    let p = pins commit_none.after 1 once in
    let h =
    claim begun (commit_none ∷ p ∷ reports p.after 0 fresh 0 0 ∷ []) (begins S fresh-says) (
      refl,
      committed S begun ops_none after_none 1 6 frame_none 0 says_none,
      (
        refl,
        pinned S commit_none.after 1 once pin-says,
        (refl, reported S p.after 0 fresh 0 0 pinned-says, tt),
      ),
    ) in
    true≢false h.answers.1.1.0.0

-- All but the last byte of the table's commit land, which is reported, and an empty commit follows. A reopen that takes `E!` for an `E`
-- finds the table.
abbrev creates_t : Event
creates_t = commits begun ops_t (created_t 14) 1 14 frame_t 0

abbrev taken_t : VersionManager
taken_t = holding 0 0 0 no_tables no_pairs 13

abbrev reports_t : Event
reports_t = reports creates_t.after 13 taken_t 0 13

abbrev after_more : VersionManager
after_more = following taken_t 6 (holding 1 0 0 no_tables no_pairs 19)

abbrev commits_more : Event
commits_more = commits reports_t.after ops_none after_more 1 6 frame_none 0

abbrev found_t : VersionManager
found_t = holding 1 1 0 tables no_pairs 20

abbrev rewritten_t : List ℕ
rewritten_t = 66 ∷ 10 ∷ 78 ∷ 44 ∷ 49 ∷ 44 ∷ 48 ∷ 44 ∷ 48 ∷ 10 ∷ 84 ∷ 44 ∷ 48 ∷ 44 ∷ 55 ∷ 44 ∷ 97 ∷ 10 ∷ 69 ∷ 10 ∷ []

says-created : CommitSays first.manager (length ops_t) ops_t frame_t (appended (created_t 14) 1 14) frame_t
unfolding rows step_of text_of fields_text digits digits_by is_name is_name_byte is_digit is_lower gone_at shown_at
says-created =
    (refl, record { hands = record { fits = fits-T; state = refl }; former = record { fits = fresh-says.manager.hands.fits; state = refl }; append = refl }, refl)

taken-says : ReportSays (created_t 14) unpinned 13 (reported_by taken_t 0 13)
unfolding rows is_name is_name_byte is_digit is_lower
taken-says =
    record { answer = refl; manager = record { hands = record { fits = few 0 0 0 no_tables no_pairs 13 (omega arith) (omega arith); state = refl }; nothing = refl } }

more-says : CommitSays taken_t (length ops_none) ops_none frame_none (appended after_more 1 6) frame_none
unfolding rows
more-says =
    (refl, record { hands = record { fits = few 1 0 0 no_tables no_pairs 19 (omega arith) (omega arith); state = refl }; former = record { fits = few 0 0 0 no_tables no_pairs 13 (omega arith) (omega arith); state = refl }; append = refl }, refl)

torn-says : reads_torn.reopen commits_more.after.torn rewritten_t (rewritten_by found_t 20) rewritten_t
unfolding rows text_of fields_text digits digits_by lines lines_on line_of line_by table_fields field_at named_at read_at read_in read_on is_name is_name_byte is_digit is_lower gone_at shown_at
torn-says =
    (refl, record { hands = record { fits = few 1 1 0 tables no_pairs 20 (omega arith) (omega arith); state = refl }; nothing = refl }, no_pins, refl)

found-shows : ShowTablesSays found_t unpinned 1 [] [] [] [] (Err OutputTooShort) [] [] [] []
unfolding rows is_name is_name_byte is_digit is_lower
found-shows = record { answer = refl; ids = refl; shapes = refl; lengths = refl; names = refl }

pub reads-torn : Refuted reads_torn
reads-torn claim =
    let S = reads_torn in
    let w = commits_more.after in
    let o = reopens w found_t 20 rewritten_t false in
    let h =
    claim begun (creates_t ∷ reports_t ∷ commits_more ∷ o ∷ []) (begins S fresh-says) (
      refl,
      committed S begun ops_t (created_t 14) 1 14 frame_t 0 says-created,
      (
        refl,
        reported S creates_t.after 13 taken_t 0 13 taken-says,
        (
          refl,
          committed S reports_t.after ops_none after_more 1 6 frame_none 0 more-says,
          (refl, reopened S w found_t 20 rewritten_t false torn-says, tt),
        ),
      ),
    ) in
    a-table S o.after 1 found-shows h.agrees.tables

-- One byte of the empty commit lands, its `B`, and the next append begins with a `B`: the line `BB` is malformed.
abbrev unmarked_none : List ℕ
unmarked_none = places 6 (66 ∷ 10 ∷ 69 ∷ 10 ∷ [])

abbrev after_unmarked : VersionManager
after_unmarked = following first.manager 4 (holding 1 0 0 no_tables no_pairs 4)

abbrev commits_unmarked : Event
commits_unmarked = commits begun ops_none after_unmarked 1 4 unmarked_none 0

abbrev taken_unmarked : VersionManager
taken_unmarked = holding 0 0 0 no_tables no_pairs 1

abbrev reports_unmarked : Event
reports_unmarked = reports commits_unmarked.after 1 taken_unmarked 0 1

abbrev after_again : VersionManager
after_again = following taken_unmarked 4 (holding 1 0 0 no_tables no_pairs 5)

abbrev commits_again : Event
commits_again = commits reports_unmarked.after ops_none after_again 1 4 unmarked_none 0

unmarked-says : CommitAppends frame_of (unmarked first.manager (length ops_none) ops_none 6) first.manager ops_none unmarked_none (appended after_unmarked 1 4) unmarked_none
unfolding rows
unmarked-says =
    (refl, record { hands = record { fits = few 1 0 0 no_tables no_pairs 4 (omega arith) (omega arith); state = refl }; former = record { fits = fresh-says.manager.hands.fits; state = refl }; append = refl }, refl)

unmarked-taken : ReportSays after_unmarked unpinned 1 (reported_by taken_unmarked 0 1)
unfolding rows
unmarked-taken =
    record { answer = refl; manager = record { hands = record { fits = few 0 0 0 no_tables no_pairs 1 (omega arith) (omega arith); state = refl }; nothing = refl } }

unmarked-again : CommitAppends frame_of (unmarked taken_unmarked (length ops_none) ops_none 6) taken_unmarked ops_none unmarked_none (appended after_again 1 4) unmarked_none
unfolding rows
unmarked-again =
    (refl, record { hands = record { fits = few 1 0 0 no_tables no_pairs 5 (omega arith) (omega arith); state = refl }; former = record { fits = few 0 0 0 no_tables no_pairs 1 (omega arith) (omega arith); state = refl }; append = refl }, refl)

module _ (out : List ℕ) (long : longest_rewritten ≤ length out) where
  abbrev refusal : Event
  refusal = record { before = commits_again.after; call = reopen out false; told = refusing (Malformed 1); listed = []; after = commits_again.after }

  refusal-says : Link appends_no_mark refusal
  unfolding rows lines lines_on line_of line_by
  refusal-says =
      record {
        result = record { manager = first.manager; book = unpinned; answer = Err (Malformed 1) };
        left = out;
        says = (refl, fresh-says.manager, no_pins, refl);
        told = refl;
        none = refl;
        after = refl;
      }

  refuses : Refuted appends_no_mark
  refuses claim =
      let S = appends_no_mark in
      let h =
      claim begun (commits_unmarked ∷ reports_unmarked ∷ commits_again ∷ refusal ∷ []) (begins S fresh-says) (
        refl,
        committed S begun ops_none after_unmarked 1 4 unmarked_none 0 unmarked-says,
        (
          refl,
          reported S commits_unmarked.after 1 taken_unmarked 0 1 unmarked-taken,
          (
            refl,
            committed S reports_unmarked.after ops_none after_again 1 4 unmarked_none 0 unmarked-again,
            (refl, refusal-says, tt),
          ),
        ),
      ) in
      true≢false (sym (h.answers.1.1.1.0 long))

pub appends-no-mark : Refuted appends_no_mark
appends-no-mark = refuses (replicate longest_rewritten 0) (rw (length-replicate {0} {A = ℕ} longest_rewritten 0) (omega arith))
