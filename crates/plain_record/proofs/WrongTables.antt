-- The claim is false of managers that are wrong in a lock, a create, a drop or a compaction. Assumes nothing.
use mathlib.Core.Path.{refl, sym, ap}
use mathlib.Core.Bool.{false, true≢false}
use mathlib.Core.List.{List, [], ◌∷◌, ◌++◌}
use Prim.Native.Nat.{ℕ}
use native.Mathlib.Omega.{arith}
use lib.ListN.{length}
use Rattle.std.specs.Prelude.{Ok, Err}
use Rattle.columns.specs.Rows.{rows}
use Rattle.ids.specs.declared.TableNo.{TableNo}
use Rattle.ids.specs.declared.refusal.Refusal.TheVariants.{NameTaken, OutputTooShort, BadManager}
use Rattle.ids.specs.Names.{longest_name}
use Rattle.ids.specs.Answers.{Told}
use Rattle.text.specs.Class.{is_digit, is_lower}
use Rattle.text.specs.Name.{is_name_byte, is_name}
use Rattle.text.specs.Decimal.{digits_by, digits, read_on, read_in, read_at}
use Rattle.manifest.specs.Operations.{Operation, create_table, drop_table, add_rowset}
use Rattle.manifest.specs.Lines.{field_at, named as named_at, two_fields, table_fields, line_by, line_of, fields_text, text_of}
use Rattle.manifest.specs.Split.{lines_on, lines}
use Rattle.snapshot.specs.declared.rowsets.Rowsets.{Rowsets}
use Rattle.snapshot.specs.Entries.{gone_at, shown_at}
use Rattle.operations.specs.Steps.{step_of}
use Rattle.version_state.specs.Widths.{Narrow}
use Rattle.compaction.specs.New.{NewRowset}
use Rattle.std.specs.Prelude.{Some, None}
use Rattle.version_manager.specs.declared.VersionManager.{VersionManager}
use Rattle.version_manager.specs.Answered.{Created}
use Rattle.version_manager.specs.Managers.{held_by}
use Rattle.version_manager.specs.Draw.{DrawRowsetSays}
use Rattle.version_manager.specs.Lock.{LockSays}
use Rattle.version_manager.specs.Commit.{CommitSays}
use Rattle.version_manager.specs.Compact.{CompactSays}
use Rattle.version_manager.specs.Show.{ShowPairsSays, ShowVectorsSays}
use Rattle.storage.specs.Reopen.{ReopenSays}
use Rattle.plain_record.specs.Run.{Steps, World, Event, Chain}
use Rattle.plain_record.specs.Claim.{Claim, Holds}
use Rattle.plain_record.specs.Shows.{ShowsPairs}
use Rattle.plain_record.specs.Wrong.{Like, compacting, LocksForgetting, forgets_pairs, reuses_id, creates_refused, leaves_rowsets, leaves_vectors, keeps_taken, appends_new_alone, Refuted}
use Rattle.plain_record.proofs.Events.{apart, not-empty, places, holds, holds_pairs, no_tables, no_pairs, holding_all, holding, following, few-all, few, unpinned, no_pins, first, begun, drawn_by, drawn_to, appended, created_by, locked_by, rewritten_by, draws_on, draws, draws_vector, commits, creates_table, drops, compacts, locks, reopens, create_refused, begins, drew-on, drew, drew-vector, committed, made_table, dropped, compacted, took-lock, reopened, fresh-says, draw-says, draw-vector-says, name, tables, locked, pair, vector_of, frame_t, created_t, fits-T, after_ta, commit_ta, says-TA, on-TA, ops_tav, frame_tav, after_tav, commit_tav, says-TAV, frame_d, no-pair, recorded_pair}

abbrev table : TableNo
table = record { 0 = 0 }

-- Two tables are created and dropped, so that their ids are used; a create then takes 0 again.
abbrev ops_txtx : List Operation
ops_txtx = create_table 0 7 name ∷ drop_table 0 ∷ create_table 1 7 name ∷ drop_table 1 ∷ []

abbrev frame_txtx : List ℕ
frame_txtx = 33 ∷ 10 ∷ 66 ∷ 10 ∷ 84 ∷ 44 ∷ 48 ∷ 44 ∷ 55 ∷ 44 ∷ 97 ∷ 10 ∷ 88 ∷ 44 ∷ 48 ∷ 10 ∷ 84 ∷ 44 ∷ 49 ∷ 44 ∷ 55 ∷ 44 ∷ 97 ∷ 10 ∷ 88 ∷ 44 ∷ 49 ∷ 10 ∷ 69 ∷ 10 ∷ []

abbrev after_txtx : VersionManager
after_txtx = following first.manager 30 (holding 1 2 0 no_tables no_pairs 30)

abbrev commit_txtx : Event
commit_txtx = commits begun ops_txtx after_txtx 1 30 frame_txtx 0

abbrev again : VersionManager
again = following after_txtx 14 (holding 2 1 0 tables no_pairs 44)

says-TXTX : CommitSays first.manager (length ops_txtx) ops_txtx frame_txtx (appended after_txtx 1 30) frame_txtx
unfolding rows step_of text_of fields_text digits digits_by is_name is_name_byte is_digit is_lower gone_at shown_at
says-TXTX = (refl, record { hands = record { fits = few 1 2 0 no_tables no_pairs 30 (omega arith) (omega arith); state = refl }; former = record { fits = fresh-says.manager.hands.fits; state = refl }; append = refl }, refl)

again-says : reuses_id.create after_txtx 7 name frame_t (created_by again 0 2 14) frame_t
unfolding rows text_of fields_text digits digits_by is_name is_name_byte is_digit is_lower
again-says =
    record { answer = refl; manager = record { hands = record { fits = few 2 1 0 tables no_pairs 44 (omega arith) (omega arith); state = refl }; former = record { fits = few 1 2 0 no_tables no_pairs 30 (omega arith) (omega arith); state = refl }; append = refl }; bytes = refl }

pub reuses-id : Refuted reuses_id
reuses-id claim =
    let S = reuses_id in
    let w = commit_txtx.after in
    let h =
    claim begun (commit_txtx ∷ creates_table w 7 name again 0 2 14 frame_t ∷ []) (begins S fresh-says) (
      refl,
      committed S begun ops_txtx after_txtx 1 30 frame_txtx 0 says-TXTX,
      (refl, made_table S w 7 name again 0 2 14 frame_t (omega arith) again-says, tt),
    ) in
    true≢false (sym h.agrees.next)

-- A table's name is taken: 15 refuses the create, which leaves a second table of that name.
abbrev create_t : Event
create_t = creates_table begun 7 name (created_t 14) 0 1 14 frame_t

abbrev twice : VersionManager
twice = following (created_t 14) 14 (holding 2 2 0 (holds (0 ∷ 1 ∷ []) (7 ∷ 7 ∷ []) (1 ∷ 1 ∷ []) (places longest_name name ++ name) [] 2) no_pairs 28)

abbrev not_created : Created
not_created = record { manager = twice; answer = Err (NameTaken 0) }

create-says : creates_refused.create first.manager 7 name frame_t (created_by (created_t 14) 0 1 14) frame_t
unfolding rows text_of fields_text digits digits_by is_name is_name_byte is_digit is_lower
create-says = record { answer = refl; manager = record { hands = record { fits = fits-T; state = refl }; former = record { fits = fresh-says.manager.hands.fits; state = refl }; append = refl }; bytes = refl }

anyway-says : creates_refused.create (created_t 14) 7 name [] not_created []
unfolding rows text_of fields_text digits digits_by is_name is_name_byte is_digit is_lower
anyway-says =
    record { answer = refl; manager = record { hands = record { fits = few 2 2 0 twice.inner.tables no_pairs 28 (omega arith) (omega arith); state = refl }; former = record { fits = fits-T; state = refl }; append = refl }; bytes = refl }

pub creates-refused : Refuted creates_refused
creates-refused claim =
    let S = creates_refused in
    let w = create_t.after in
    let h =
    claim begun (create_t ∷ create_refused w 7 name twice (NameTaken 0) ∷ []) (begins S fresh-says) (
      refl,
      made_table S begun 7 name (created_t 14) 0 1 14 frame_t (omega arith) create-says,
      (
        refl,
        record { narrow = omega arith; result = not_created; left = []; says = anyway-says; told = refl; none = refl; after = refl },
        tt,
      ),
    ) in
    apart h.agrees.epoch refl

-- a lock forgets the rowset
abbrev forgotten : VersionManager
forgotten = holding 1 1 1 locked no_pairs 20

forgotten-says : LocksForgetting after_ta table (locked_by forgotten)
unfolding rows is_name is_name_byte is_digit is_lower gone_at shown_at
forgotten-says = record { answer = refl; manager = record { hands = record { fits = few 1 1 1 locked no_pairs 20 (omega arith) (omega arith); state = refl }; nothing = refl } }

forgotten-shows : ShowPairsSays forgotten unpinned 1 [] [] (Ok 0) [] []
unfolding rows is_name is_name_byte is_digit is_lower gone_at shown_at
forgotten-shows = record { answer = refl; tables = refl; rowsets = refl }

pub forgets-pairs : Refuted forgets_pairs
forgets-pairs claim =
    let S = forgets_pairs in
    let e = locks commit_ta.after table forgotten in
    let h =
    on-TA S claim fresh-says draw-says says-TA (e ∷ []) (refl, took-lock S commit_ta.after table forgotten forgotten-says, tt) in
    no-pair S e.after 1 recorded_pair forgotten-shows (h.agrees.pairs 1 refl)

-- a drop leaves the rowset; it is lent what the port's append would need
abbrev frame_x : List ℕ
frame_x = 33 ∷ 10 ∷ 66 ∷ 10 ∷ 88 ∷ 44 ∷ 48 ∷ 10 ∷ 69 ∷ 10 ∷ []

abbrev after_x : VersionManager
after_x = following after_ta 10 (holding 2 1 1 no_tables (pair 1 0) 30)

narrow-TA : Narrow (held_by after_ta)
narrow-TA = record { table = omega arith; rowset = omega arith; vector = omega arith }

left-says : leaves_rowsets.drop after_ta 0 (places 16 frame_x) (appended after_x 2 10) (places 16 frame_x)
unfolding rows text_of fields_text digits digits_by is_name is_name_byte is_digit is_lower gone_at shown_at
left-says =
    record { answer = refl; manager = record { hands = record { fits = few 2 1 1 no_tables (pair 1 0) 30 (omega arith) (omega arith); state = refl }; former = record { fits = few 1 1 1 tables (pair 1 0) 20 (omega arith) (omega arith); state = refl }; append = refl }; bytes = refl }

pub leaves-rowsets : Refuted leaves_rowsets
unfolding rows
leaves-rowsets claim =
    let S = leaves_rowsets in
    let w = commit_ta.after in
    let h =
    on-TA S claim fresh-says draw-says says-TA (drops w 0 after_x 2 10 (places 16 frame_x) ∷ []) (
      refl,
      dropped S w 0 after_x 2 10 (places 16 frame_x) narrow-TA left-says,
      tt,
    ) in
    not-empty h.agrees.waiting

-- Compactions. The table's lock is taken first.
abbrev after_lock : VersionManager
after_lock = holding_all 1 1 1 1 locked (pair 1 0) (vector_of 1 0) 28

abbrev lock_tav : Event
lock_tav = locks commit_tav.after table after_lock

lock-says-TAV : LockSays after_tav table (locked_by after_lock)
unfolding rows is_name is_name_byte is_digit is_lower gone_at shown_at
lock-says-TAV =
    record {
      answer = refl;
      manager = record { hands = record { fits = few-all 1 1 1 1 locked (pair 1 0) (vector_of 1 0) 28 (omega arith) (omega arith) (omega arith); state = refl }; nothing = refl };
    }

-- The rowset is taken, its vector stays, and nothing is new.
abbrev stays : VersionManager
stays = following after_lock 12 (holding_all 2 1 1 1 locked (pair 1 2) (vector_of 1 0) 40)

narrow-TAV : Narrow (held_by after_lock)
narrow-TAV = record { table = omega arith; rowset = omega arith; vector = omega arith }

stays-says : leaves_vectors.compact after_lock 0 [] (0 ∷ []) (places 20 frame_d) (appended stays 2 12) (places 20 frame_d)
unfolding rows text_of fields_text digits digits_by is_name is_name_byte is_digit is_lower gone_at shown_at
stays-says =
    record {
      answer = refl;
      manager = record { hands = record { fits = few-all 2 1 1 1 locked (pair 1 2) (vector_of 1 0) 40 (omega arith) (omega arith) (omega arith); state = refl }; former = record { fits = lock-says-TAV.manager.hands.fits; state = refl }; append = refl };
      bytes = refl;
    }

-- a vector without its rowset: 29 refuses to show it
stays-shows : ShowVectorsSays stays unpinned 2 [] [] [] (Err BadManager) [] [] []
unfolding rows is_name is_name_byte is_digit is_lower gone_at shown_at
stays-shows = record { answer = refl; tables = refl; rowsets = refl; vectors = refl }

pub leaves-vectors : Refuted leaves_vectors
unfolding rows
leaves-vectors claim =
    let S = leaves_vectors in
    let e = compacts lock_tav.after 0 None (0 ∷ []) stays 2 12 (places 20 frame_d) in
    let h =
    claim begun (draws ∷ draws_vector ∷ commit_tav ∷ lock_tav ∷ e ∷ []) (begins S fresh-says) (
      refl,
      drew S draw-says,
      (
        refl,
        drew-vector S draw-vector-says,
        (
          refl,
          committed S draws_vector.after ops_tav after_tav 1 28 frame_tav 0 says-TAV,
          (
            refl,
            took-lock S commit_tav.after table after_lock lock-says-TAV,
            (refl, compacted S lock_tav.after 0 None (0 ∷ []) stays 2 12 (places 20 frame_d) narrow-TAV stays-says, tt),
          ),
        ),
      ),
    ) in
    apart (ap (λ (x : Told). x.number) (h.agrees.vectors 2 refl [] [] [] (Err BadManager) [] [] [] stays-shows).0) refl

-- Rowsets 0 and 1 are merged into 2, by a manager whose compactions alone are wrong.
abbrev draws_two : Event
draws_two = draws_on draws.after (drawn_to 2) 1

abbrev draws_three : Event
draws_three = draws_on draws_two.after (drawn_to 3) 2

abbrev ops_taa : List Operation
ops_taa = create_table 0 7 name ∷ add_rowset 0 0 ∷ add_rowset 0 1 ∷ []

abbrev frame_taa : List ℕ
frame_taa = 33 ∷ 10 ∷ 66 ∷ 10 ∷ 84 ∷ 44 ∷ 48 ∷ 44 ∷ 55 ∷ 44 ∷ 97 ∷ 10 ∷ 65 ∷ 44 ∷ 48 ∷ 44 ∷ 48 ∷ 10 ∷ 65 ∷ 44 ∷ 48 ∷ 44 ∷ 49 ∷ 10 ∷ 69 ∷ 10 ∷ []

abbrev two : Rowsets
two = holds_pairs (0 ∷ 0 ∷ []) (0 ∷ 1 ∷ []) (1 ∷ 1 ∷ []) (0 ∷ 0 ∷ []) 2

abbrev after_taa : VersionManager
after_taa = following (drawn_to 3) 26 (holding 1 1 3 tables two 26)

abbrev locked_taa : VersionManager
locked_taa = holding 1 1 3 locked two 26

abbrev commit_taa : Event
commit_taa = commits draws_three.after ops_taa after_taa 1 26 frame_taa 0

abbrev lock_taa : Event
lock_taa = locks commit_taa.after table locked_taa

-- the third is added at a, and the two are deleted at d
abbrev three : ℕ → ℕ → Rowsets
three a d = holds_pairs (0 ∷ 0 ∷ 0 ∷ []) (0 ∷ 1 ∷ 2 ∷ []) (1 ∷ 1 ∷ a ∷ []) (d ∷ d ∷ 0 ∷ []) 3

abbrev merged : NewRowset
merged = Some (record { 0 = 2 })

abbrev frame_a : List ℕ
frame_a = 33 ∷ 10 ∷ 66 ∷ 10 ∷ 65 ∷ 44 ∷ 48 ∷ 44 ∷ 50 ∷ 10 ∷ 69 ∷ 10 ∷ []

abbrev lent : List ℕ
lent = places 24 frame_a

abbrev after_merge : ℕ → ℕ → VersionManager
after_merge d n = following locked_taa 12 (holding 2 1 3 locked (three 2 d) n)

abbrev merges : ℕ → ℕ → Event
merges d n = compacts lock_taa.after 0 merged (0 ∷ 1 ∷ []) (after_merge d n) 2 12 lent

draw-two : DrawRowsetSays (drawn_to 1) (drawn_by (drawn_to 2) 1)
unfolding rows
draw-two = record { answer = refl; manager = record { hands = record { fits = few 0 0 2 no_tables no_pairs 0 (omega arith) (omega arith); state = refl }; nothing = refl } }

draw-three : DrawRowsetSays (drawn_to 2) (drawn_by (drawn_to 3) 2)
unfolding rows
draw-three = record { answer = refl; manager = record { hands = record { fits = few 0 0 3 no_tables no_pairs 0 (omega arith) (omega arith); state = refl }; nothing = refl } }

says-TAA : CommitSays (drawn_to 3) (length ops_taa) ops_taa frame_taa (appended after_taa 1 26) frame_taa
unfolding rows step_of text_of fields_text digits digits_by is_name is_name_byte is_digit is_lower gone_at shown_at
says-TAA = (refl, record { hands = record { fits = few 1 1 3 tables two 26 (omega arith) (omega arith); state = refl }; former = record { fits = draw-three.manager.hands.fits; state = refl }; append = refl }, refl)

lock-says-TAA : LockSays after_taa table (locked_by locked_taa)
unfolding rows is_name is_name_byte is_digit is_lower gone_at shown_at
lock-says-TAA = record { answer = refl; manager = record { hands = record { fits = few 1 1 3 locked two 26 (omega arith) (omega arith); state = refl }; nothing = refl } }

narrow-TAA : Narrow (held_by locked_taa)
narrow-TAA = record { table = omega arith; rowset = omega arith; vector = omega arith }

-- the claim of these calls and further ones
module _ (f : Like CompactSays) (claim : Claim (compacting f)) (d n : ℕ) (says : f locked_taa 0 (2 ∷ []) (0 ∷ 1 ∷ []) lent (appended (after_merge d n) 2 12) lent) where
  on-merge : (es : List Event) → Chain (compacting f) (merges d n).after es → Holds (compacting f) begun (draws ∷ draws_two ∷ draws_three ∷ commit_taa ∷ lock_taa ∷ merges d n ∷ es)
  on-merge es c =
      let S = compacting f in
      claim begun (draws ∷ draws_two ∷ draws_three ∷ commit_taa ∷ lock_taa ∷ merges d n ∷ es) (begins S fresh-says) (
        refl,
        drew S draw-says,
        (
          refl,
          drew-on S draws.after (drawn_to 2) 1 draw-two,
          (
            refl,
            drew-on S draws_two.after (drawn_to 3) 2 draw-three,
            (
              refl,
              committed S draws_three.after ops_taa after_taa 1 26 frame_taa 0 says-TAA,
              (
                refl,
                took-lock S commit_taa.after table locked_taa lock-says-TAA,
                (refl, compacted S lock_taa.after 0 merged (0 ∷ 1 ∷ []) (after_merge d n) 2 12 lent narrow-TAA says, c),
              ),
            ),
          ),
        ),
      )

-- a show of more than one pair, where the record has one
more-pairs : (S : Steps) (w : World) (d : ℕ) (k : List ℕ) → S.show_pairs w.manager w.book d (5 ∷ []) (5 ∷ []) (Err OutputTooShort) (5 ∷ []) (5 ∷ []) → ShowsPairs S w d (k ∷ []) → ⊥
more-pairs S w d k says h = apart (ap (λ (x : Told). x.number) (h (5 ∷ []) (5 ∷ []) (Err OutputTooShort) (5 ∷ []) (5 ∷ []) says).0) refl

abbrev merged_pair : List ℕ
merged_pair = 0 ∷ 2 ∷ []

-- the two stay
both-says : keeps_taken.compact locked_taa 0 (2 ∷ []) (0 ∷ 1 ∷ []) lent (appended (after_merge 0 38) 2 12) lent
unfolding rows text_of fields_text digits digits_by is_name is_name_byte is_digit is_lower gone_at shown_at
both-says =
    record { answer = refl; manager = record { hands = record { fits = few 2 1 3 locked (three 2 0) 38 (omega arith) (omega arith); state = refl }; former = record { fits = lock-says-TAA.manager.hands.fits; state = refl }; append = refl }; bytes = refl }

both-shown : ShowPairsSays (after_merge 0 38) unpinned 2 (5 ∷ []) (5 ∷ []) (Err OutputTooShort) (5 ∷ []) (5 ∷ [])
unfolding rows is_name is_name_byte is_digit is_lower gone_at shown_at
both-shown = record { answer = refl; tables = refl; rowsets = refl }

pub keeps-taken : Refuted keeps_taken
unfolding rows
keeps-taken claim =
    let h = on-merge keeps_taken.compact claim 0 38 both-says [] tt in
    more-pairs keeps_taken (merges 0 38).after 2 merged_pair both-shown (h.agrees.pairs 2 refl)

-- The two go, but their deletions are not in the manifest: a reopen finds them beside the third.
alone-says : appends_new_alone.compact locked_taa 0 (2 ∷ []) (0 ∷ 1 ∷ []) lent (appended (after_merge 2 50) 2 12) lent
unfolding rows text_of fields_text digits digits_by is_name is_name_byte is_digit is_lower gone_at shown_at
alone-says =
    record { answer = refl; manager = record { hands = record { fits = few 2 1 3 locked (three 2 2) 50 (omega arith) (omega arith); state = refl }; former = record { fits = lock-says-TAA.manager.hands.fits; state = refl }; append = refl }; bytes = refl }

abbrev rewritten_three : List ℕ
rewritten_three =
    66 ∷ 10 ∷ 78 ∷ 44 ∷ 49 ∷ 44 ∷ 51 ∷ 44 ∷ 48 ∷ 10 ∷ 84 ∷ 44 ∷ 48 ∷ 44 ∷ 55 ∷ 44 ∷ 97 ∷ 10 ∷ 65 ∷ 44 ∷ 48 ∷ 44 ∷ 48 ∷ 10 ∷ 65 ∷ 44 ∷ 48 ∷ 44 ∷ 49 ∷ 10 ∷ 65 ∷ 44 ∷ 48 ∷ 44 ∷ 50 ∷ 10 ∷ 69 ∷ 10 ∷ []

abbrev found : VersionManager
found = holding 1 1 3 tables (three 1 0) 38

found-says : ReopenSays (frame_taa ++ frame_a) rewritten_three (rewritten_by found 38) rewritten_three
unfolding rows text_of fields_text digits digits_by lines lines_on line_of line_by two_fields table_fields field_at named_at read_at read_in read_on is_name is_name_byte is_digit is_lower gone_at shown_at
found-says = (refl, record { hands = record { fits = few 1 1 3 tables (three 1 0) 38 (omega arith) (omega arith); state = refl }; nothing = refl }, no_pins, refl)

found-shows : ShowPairsSays found unpinned 1 (5 ∷ []) (5 ∷ []) (Err OutputTooShort) (5 ∷ []) (5 ∷ [])
unfolding rows is_name is_name_byte is_digit is_lower gone_at shown_at
found-shows = record { answer = refl; tables = refl; rowsets = refl }

pub appends-new-alone : Refuted appends_new_alone
unfolding rows
appends-new-alone claim =
    let S = appends_new_alone in
    let w = (merges 2 50).after in
    let o = reopens w found 38 rewritten_three false in
    let h =
    on-merge S.compact claim 2 50 alone-says (o ∷ []) (refl, reopened S w found 38 rewritten_three false found-says, tt) in
    more-pairs S o.after 1 merged_pair found-shows (h.agrees.pairs 1 refl)
