-- The claim is false of each wrong manager: a short list of calls that tells it apart. Assumes nothing.
use mathlib.Core.Path.{refl, sym, ap}
use mathlib.Core.Bool.{false, true≢false}
use mathlib.Core.List.{List, [], ◌∷◌}
use Prim.Native.Nat.{ℕ, ◌-◌}
use native.Mathlib.Omega.{arith}
use lib.ListN.{length, replicate}
use Rattle.std.specs.Prelude.{Err, Ok}
use Rattle.columns.specs.Rows.{rows}
use Rattle.ids.specs.declared.refusal.Refusal.TheVariants.{PinAtEpochZero, IdNotDrawn, EpochNotPinned, OutputTooShort}
use Rattle.ids.specs.Answers.{Told}
use Rattle.text.specs.Class.{is_digit, is_lower}
use Rattle.text.specs.Name.{is_name_byte, is_name}
use Rattle.text.specs.Decimal.{digits_by, digits}
use Rattle.manifest.specs.Operations.{Operation, delete_vector}
use Rattle.manifest.specs.Lines.{fields_text, text_of}
use Rattle.snapshot.specs.declared.rowsets.Rowsets.{Rowsets}
use Rattle.snapshot.specs.declared.vectors.Vectors.{Vectors}
use Rattle.snapshot.specs.Entries.{gone_at, shown_at}
use Rattle.version_state.specs.State.{Fit}
use Rattle.pins.specs.declared.PinBook.{PinBook}
use Rattle.pins.specs.Book.{most_pinned}
use Rattle.operations.specs.Steps.{step_of}
use Rattle.version_manager.specs.declared.VersionManager.{VersionManager}
use Rattle.version_manager.specs.Answered.{Committed, Vacuumed}
use Rattle.version_manager.specs.Managers.{held_by}
use Rattle.version_manager.specs.Commit.{outcome_of, CommitEnds, CommitSays}
use Rattle.version_manager.specs.Show.{ShowTablesSays, ShowPairsSays, ShowVectorsSays}
use Rattle.pinning.specs.Says.{PinSays}
use Rattle.show.specs.Says.{TablesShown}
use Rattle.plain_record.specs.Run.{Steps, World, Event, Chain}
use Rattle.plain_record.specs.Claim.{Claim, Holds}
use Rattle.plain_record.specs.Shows.{ShowsVectors}
use Rattle.plain_record.specs.Wrong.{unchanged, keeps_sets, unraised, leaves_epoch, unjudged, judges_nothing, unaware, forgets_waiting, CommitLeaves, leaves_part, PinsNext, answers_next, PinsNothing, counts_no_pin, PinsAnyway, counts_refused, UnpinsNothing, keeps_pin, VacuumsTo, nothing, lists_nothing, port_bound, keeps_listed, counts_one_more, lowered_bound, keeps_own_epoch, unguarded, ignores_pins, loses_pairs, loses_vectors, VacuumsAnyway, lets_go_refused, shows_current, shows_current_vectors, refuses_show, Refuted, WrongRefuted}
use Rattle.plain_record.proofs.Events.{apart, not-empty, holds_pairs, no_tables, no_pairs, no_vectors, holding_all, holding, following, few-all, few, unpinned, once, first, begun, drawn, drawn_vector, appended, listed_by, draws, draws_vector, commits, pins, unpins, vacuums, commit_refused, pin_refused, vacuum_refused, begins, drew, drew-vector, committed, pinned, released, vacuumed, fresh-says, draw-says, draw-vector-says, adds, deletes, tables, pair, vector_of, ops_tad, frame_tad, held_tad, after_tad, commit_tad, swept_tad, fits-TAD, says-TAD, on-TAD, ops_none, frame_none, after_none, ops_t, frame_t, after_t, commit_none, commit_t, says_none, no_table, a-table, recorded, ops_ta, says-TA, ops_tav, frame_tav, after_tav, commit_tav, says-TAV, after_d, commit_d, pin-says-TA, says-D, on-D, no-pair, recorded_pair}
use Rattle.plain_record.proofs.WrongManifests.{opens-empty, reads-first, reads-to-room, counts-early, forgets-ids, appends-no-end, rewrites-no-end, refuses-reopen}
use Rattle.plain_record.proofs.WrongReports.{stays-at-epoch, keeps-deletions, loses-pinned, reads-torn, appends-no-mark}
use Rattle.plain_record.proofs.WrongCheckpoints.{writes-waiting, forgets-let-go, keeps-length, drops-older}
use Rattle.plain_record.proofs.WrongTables.{forgets-pairs, reuses-id, creates-refused, leaves-rowsets, leaves-vectors, keeps-taken, appends-new-alone}

-- a vacuum lists nothing
nothing-says : VacuumsTo 0 nothing nothing nothing after_tad unpinned (5 ∷ []) (5 ∷ []) (listed_by held_tad 0) (5 ∷ []) (5 ∷ [])
unfolding rows is_name is_name_byte is_digit is_lower gone_at shown_at
nothing-says = record { answer = refl; tables = refl; rowsets = refl; manager = record { hands = record { fits = fits-TAD; state = refl }; nothing = refl } }

lists-nothing : Refuted lists_nothing
lists-nothing claim =
    let S = lists_nothing in
    let w = commit_tad.after in
    let h =
    on-TAD S claim fresh-says draw-says says-TAD (vacuums w held_tad 0 (5 ∷ []) (5 ∷ []) ∷ []) (refl, vacuumed S w held_tad 0 (5 ∷ []) (5 ∷ []) nothing-says, tt) in
    true≢false (sym ((h.deletions.1.0 refl refl refl).0.0 refl).0.1)

-- a vacuum lists the deletion and keeps it, so that the next one lists it again
listed-says : VacuumsTo 0 port_bound nothing nothing after_tad unpinned (5 ∷ []) (5 ∷ []) (listed_by held_tad 1) (0 ∷ []) (0 ∷ [])
unfolding rows is_name is_name_byte is_digit is_lower gone_at shown_at
listed-says =
    record { answer = refl; tables = refl; rowsets = refl; manager = record { hands = record { fits = fits-TAD; state = refl }; nothing = refl } }

listed-again : VacuumsTo 0 port_bound nothing nothing held_tad unpinned (5 ∷ []) (5 ∷ []) (listed_by held_tad 1) (0 ∷ []) (0 ∷ [])
unfolding rows is_name is_name_byte is_digit is_lower gone_at shown_at
listed-again =
    record { answer = refl; tables = refl; rowsets = refl; manager = record { hands = record { fits = fits-TAD; state = refl }; nothing = refl } }

keeps-listed : Refuted keeps_listed
keeps-listed claim =
    let S = keeps_listed in
    let w = commit_tad.after in
    let v = vacuums w held_tad 1 (0 ∷ []) (0 ∷ []) in
    let h =
    on-TAD S claim fresh-says draw-says says-TAD (v ∷ vacuums v.after held_tad 1 (0 ∷ []) (0 ∷ []) ∷ []) (
      refl,
      vacuumed S w held_tad 1 (0 ∷ []) (0 ∷ []) listed-says,
      (refl, vacuumed S v.after held_tad 1 (0 ∷ []) (0 ∷ []) listed-again, tt),
    ) in
    true≢false ((h.deletions.1.0 refl refl refl).0.0 refl).1.0.1

-- a vacuum lists the deletion, lets it go and answers 2
more-says : VacuumsTo 1 port_bound port_bound port_bound after_tad unpinned (5 ∷ []) (5 ∷ []) (listed_by swept_tad 2) (0 ∷ []) (0 ∷ [])
unfolding rows is_name is_name_byte is_digit is_lower gone_at shown_at
more-says =
    record { answer = refl; tables = refl; rowsets = refl; manager = record { hands = record { fits = few 1 1 1 tables no_pairs 26 (omega arith) (omega arith); state = refl }; nothing = refl } }

counts-one-more : Refuted counts_one_more
counts-one-more claim =
    let S = counts_one_more in
    let w = commit_tad.after in
    let h =
    on-TAD S claim fresh-says draw-says says-TAD (vacuums w swept_tad 2 (0 ∷ []) (0 ∷ []) ∷ []) (refl, vacuumed S w swept_tad 2 (0 ∷ []) (0 ∷ []) more-says, tt) in
    apart (h.answers.1.1.0 refl).1 refl

-- a vacuum that is lent nothing lets the deletion go
abbrev not_listed : Vacuumed
not_listed = record { manager = swept_tad; answer = Err OutputTooShort }

anyway-says : VacuumsAnyway after_tad unpinned [] [] not_listed [] []
unfolding rows is_name is_name_byte is_digit is_lower gone_at shown_at
anyway-says =
    record { answer = refl; tables = refl; rowsets = refl; manager = record { hands = record { fits = few 1 1 1 tables no_pairs 26 (omega arith) (omega arith); state = refl }; nothing = refl } }

lets-go-refused : Refuted lets_go_refused
unfolding rows
lets-go-refused claim =
    let S = lets_go_refused in
    let w = commit_tad.after in
    let h =
    on-TAD S claim fresh-says draw-says says-TAD (vacuum_refused w swept_tad OutputTooShort ∷ []) (
      refl,
      record { result = not_listed; tables = []; rowsets = []; says = anyway-says; told = refl; listed = refl; after = refl },
      tt,
    ) in
    not-empty h.agrees.waiting

-- the deletion's own epoch is pinned
pin-says : PinSays after_tad unpinned (Ok 1) once
unfolding rows is_name is_name_byte is_digit is_lower gone_at shown_at
pin-says = record { answer = refl; book = record { fits = omega arith; pins = refl } }

own-says : VacuumsTo 0 lowered_bound lowered_bound lowered_bound after_tad once (5 ∷ []) (5 ∷ []) (listed_by held_tad 0) (5 ∷ []) (5 ∷ [])
unfolding rows is_name is_name_byte is_digit is_lower gone_at shown_at
own-says = record { answer = refl; tables = refl; rowsets = refl; manager = record { hands = record { fits = fits-TAD; state = refl }; nothing = refl } }

keeps-own-epoch : Refuted keeps_own_epoch
keeps-own-epoch claim =
    let S = keeps_own_epoch in
    let p = pins commit_tad.after 1 once in
    let h =
    on-TAD S claim fresh-says draw-says says-TAD (p ∷ vacuums p.after held_tad 0 (5 ∷ []) (5 ∷ []) ∷ []) (
      refl,
      pinned S commit_tad.after 1 once pin-says,
      (refl, vacuumed S p.after held_tad 0 (5 ∷ []) (5 ∷ []) own-says, tt),
    ) in
    true≢false (sym (((h.deletions.1.0 refl refl refl).0.1 refl).1.0 refl).0.1)

-- a pin answers the next epoch
next-says : PinsNext after_tad unpinned (Ok 2) once
unfolding rows is_name is_name_byte is_digit is_lower gone_at shown_at
next-says = record { answer = refl; book = record { fits = omega arith; pins = refl } }

answers-next : Refuted answers_next
answers-next claim =
    let S = answers_next in
    let w = commit_tad.after in
    let h = on-TAD S claim fresh-says draw-says says-TAD (pins w 2 once ∷ []) (refl, pinned S w 2 once next-says, tt) in
    apart (h.answers.1.1.0 refl) refl

-- a pin is not counted
uncounted-says : PinsNothing after_tad unpinned (Ok 1) unpinned
unfolding rows is_name is_name_byte is_digit is_lower gone_at shown_at
uncounted-says = record { answer = refl; book = refl }

counts-no-pin : Refuted counts_no_pin
counts-no-pin claim =
    let S = counts_no_pin in
    let w = commit_tad.after in
    let h = on-TAD S claim fresh-says draw-says says-TAD (pins w 1 unpinned ∷ []) (refl, pinned S w 1 unpinned uncounted-says, tt) in
    not-empty h.agrees.book

-- a pin before any commit is refused by 10, and counted
abbrev on_zero : PinBook
on_zero = record { items = record { epoch = 0; count = 1 } ∷ replicate (most_pinned - 1) (record { epoch = 0; count = 0 }); count = 1 }

zero-says : PinsAnyway first.manager unpinned (Err PinAtEpochZero) on_zero
unfolding rows
zero-says = record { answer = refl; book = record { fits = omega arith; pins = refl } }

counts-refused : Refuted counts_refused
counts-refused claim =
    let S = counts_refused in
    let h =
    claim begun (pin_refused begun PinAtEpochZero on_zero ∷ []) (begins S fresh-says) (
      refl,
      record { answer = Err PinAtEpochZero; book = on_zero; says = zero-says; told = refl; none = refl; after = refl },
      tt,
    ) in
    not-empty (sym h.agrees.book)

-- The pair that waits is added again.
abbrev ops_a : List Operation
ops_a = adds ∷ []

abbrev frame_a : List ℕ
frame_a = 33 ∷ 10 ∷ 66 ∷ 10 ∷ 65 ∷ 44 ∷ 48 ∷ 44 ∷ 48 ∷ 10 ∷ 69 ∷ 10 ∷ []

abbrev after_a : VersionManager
after_a = following after_tad 12 (holding 2 1 1 tables (pair 2 0) 38)

unjudged-TAD : CommitEnds (unjudged drawn.manager (length ops_tad) ops_tad 26) drawn.manager ops_tad frame_tad (appended after_tad 1 26) frame_tad
unfolding rows text_of fields_text digits digits_by is_name is_name_byte is_digit is_lower gone_at shown_at
unjudged-TAD = (refl, record { hands = record { fits = fits-TAD; state = refl }; former = record { fits = draw-says.manager.hands.fits; state = refl }; append = refl }, refl)

unjudged-A : CommitEnds (unjudged after_tad (length ops_a) ops_a 12) after_tad ops_a frame_a (appended after_a 2 12) frame_a
unfolding rows text_of fields_text digits digits_by is_name is_name_byte is_digit is_lower gone_at shown_at
unjudged-A = (refl, record { hands = record { fits = few 2 1 1 tables (pair 2 0) 38 (omega arith) (omega arith); state = refl }; former = record { fits = fits-TAD; state = refl }; append = refl }, refl)

judges-nothing : Refuted judges_nothing
unfolding rows
judges-nothing claim =
    let S = judges_nothing in
    let w = commit_tad.after in
    let h =
    on-TAD S claim fresh-says draw-says unjudged-TAD (commits w ops_a after_a 2 12 frame_a 0 ∷ []) (refl, committed S w ops_a after_a 2 12 frame_a 0 unjudged-A, tt) in
    not-empty h.agrees.waiting

-- It is added and deleted again, beside itself.
abbrev ops_ad : List Operation
ops_ad = adds ∷ deletes ∷ []

abbrev frame_ad : List ℕ
frame_ad = 33 ∷ 10 ∷ 66 ∷ 10 ∷ 65 ∷ 44 ∷ 48 ∷ 44 ∷ 48 ∷ 10 ∷ 68 ∷ 44 ∷ 48 ∷ 44 ∷ 48 ∷ 10 ∷ 69 ∷ 10 ∷ []

abbrev pair_twice : Rowsets
pair_twice = holds_pairs (0 ∷ 0 ∷ []) (0 ∷ 0 ∷ []) (1 ∷ 2 ∷ []) (1 ∷ 2 ∷ []) 2

abbrev after_ad : VersionManager
after_ad = following after_tad 18 (holding 2 1 1 tables pair_twice 44)

unaware-TAD : CommitEnds (unaware drawn.manager (length ops_tad) ops_tad 26) drawn.manager ops_tad frame_tad (appended after_tad 1 26) frame_tad
unfolding rows step_of text_of fields_text digits digits_by is_name is_name_byte is_digit is_lower gone_at shown_at
unaware-TAD = (refl, record { hands = record { fits = fits-TAD; state = refl }; former = record { fits = draw-says.manager.hands.fits; state = refl }; append = refl }, refl)

unaware-AD : CommitEnds (unaware after_tad (length ops_ad) ops_ad 18) after_tad ops_ad frame_ad (appended after_ad 2 18) frame_ad
unfolding rows step_of text_of fields_text digits digits_by is_name is_name_byte is_digit is_lower gone_at shown_at
unaware-AD = (refl, record { hands = record { fits = few 2 1 1 tables pair_twice 44 (omega arith) (omega arith); state = refl }; former = record { fits = fits-TAD; state = refl }; append = refl }, refl)

forgets-waiting : Refuted forgets_waiting
forgets-waiting claim =
    let S = forgets_waiting in
    let w = commit_tad.after in
    let h =
    on-TAD S claim fresh-says draw-says unaware-TAD (commits w ops_ad after_ad 2 18 frame_ad 0 ∷ []) (refl, committed S w ops_ad after_ad 2 18 frame_ad 0 unaware-AD, tt) in
    true≢false (sym h.agrees.apart)

-- a vacuum ignores the pin
abbrev swept_d : VersionManager
swept_d = holding 2 1 1 tables no_pairs 32

fits-D : Fit swept_d.inner
fits-D = few 2 1 1 tables no_pairs 32 (omega arith) (omega arith)

all-says : VacuumsTo 0 unguarded unguarded unguarded after_d once (5 ∷ []) (5 ∷ []) (listed_by swept_d 1) (0 ∷ []) (0 ∷ [])
unfolding rows is_name is_name_byte is_digit is_lower gone_at shown_at
all-says = record { answer = refl; tables = refl; rowsets = refl; manager = record { hands = record { fits = fits-D; state = refl }; nothing = refl } }

ignores-pins : Refuted ignores_pins
ignores-pins claim =
    let S = ignores_pins in
    let w = commit_d.after in
    let h =
    on-D S claim fresh-says draw-says says-TA pin-says-TA says-D (vacuums w swept_d 1 (0 ∷ []) (0 ∷ []) ∷ []) (
      refl,
      vacuumed S w swept_d 1 (0 ∷ []) (0 ∷ []) all-says,
      tt,
    ) in
    not-empty (sym (h.answers.1.1.1.1.0 refl).0)

-- it lists nothing and lets the pair go
pairs-lost : VacuumsTo 0 port_bound unguarded port_bound after_d once (5 ∷ []) (5 ∷ []) (listed_by swept_d 0) (5 ∷ []) (5 ∷ [])
unfolding rows is_name is_name_byte is_digit is_lower gone_at shown_at
pairs-lost = record { answer = refl; tables = refl; rowsets = refl; manager = record { hands = record { fits = fits-D; state = refl }; nothing = refl } }

lost-shows : ShowPairsSays swept_d once 1 [] [] (Ok 0) [] []
unfolding rows is_name is_name_byte is_digit is_lower gone_at shown_at
lost-shows = record { answer = refl; tables = refl; rowsets = refl }

loses-pairs : Refuted loses_pairs
loses-pairs claim =
    let S = loses_pairs in
    let v = vacuums commit_d.after swept_d 0 (5 ∷ []) (5 ∷ []) in
    let h =
    on-D S claim fresh-says draw-says says-TA pin-says-TA says-D (v ∷ []) (
      refl,
      vacuumed S commit_d.after swept_d 0 (5 ∷ []) (5 ∷ []) pairs-lost,
      tt,
    ) in
    no-pair S v.after 1 recorded_pair lost-shows (h.agrees.pairs 1 refl)

-- a show of epoch 1 gives what epoch 2 has
current-says : ShowPairsSays after_d once 2 [] [] (Ok 0) [] []
unfolding rows is_name is_name_byte is_digit is_lower gone_at shown_at
current-says = record { answer = refl; tables = refl; rowsets = refl }

shows-current : Refuted shows_current
shows-current claim =
    let S = shows_current in
    let h = on-D S claim fresh-says draw-says says-TA pin-says-TA says-D [] tt in
    no-pair S commit_d.after 1 recorded_pair current-says (h.agrees.pairs 1 refl)

-- The vector is added at epoch 1, epoch 1 is pinned, and the vector is deleted at epoch 2.
abbrev ops_w : List Operation
ops_w = delete_vector 0 0 0 ∷ []

abbrev frame_w : List ℕ
frame_w = 33 ∷ 10 ∷ 66 ∷ 10 ∷ 87 ∷ 44 ∷ 48 ∷ 44 ∷ 48 ∷ 44 ∷ 48 ∷ 10 ∷ 69 ∷ 10 ∷ []

abbrev held_w : Vectors → VersionManager
held_w l = holding_all 2 1 1 1 tables (pair 1 0) l 42

abbrev after_w : VersionManager
after_w = following after_tav 14 (held_w (vector_of 1 2))

abbrev pin_tav : Event
pin_tav = pins commit_tav.after 1 once

abbrev commit_w : Event
commit_w = commits pin_tav.after ops_w after_w 2 14 frame_w 0

pin-says-TAV : PinSays after_tav unpinned (Ok 1) once
unfolding rows is_name is_name_byte is_digit is_lower gone_at shown_at
pin-says-TAV = record { answer = refl; book = record { fits = omega arith; pins = refl } }

says-W : CommitSays after_tav (length ops_w) ops_w frame_w (appended after_w 2 14) frame_w
unfolding rows step_of text_of fields_text digits digits_by is_name is_name_byte is_digit is_lower gone_at shown_at
says-W =
    (refl, record { hands = record { fits = few-all 2 1 1 1 tables (pair 1 0) (vector_of 1 2) 42 (omega arith) (omega arith) (omega arith); state = refl }; former = record { fits = says-TAV.1.hands.fits; state = refl }; append = refl }, refl)

-- the claim of these calls and further ones, by a manager that draws, commits and pins as the port does
module _ (S : Steps) (claim : Claim S) (fresh : S.fresh first) (draw : S.draw_rowset first.manager drawn) (draw-v : S.draw_vector drawn.manager drawn_vector)
    (add : S.commit drawn_vector.manager (length ops_tav) ops_tav frame_tav (appended after_tav 1 28) frame_tav) (guard : S.pin after_tav unpinned (Ok 1) once)
    (delete : S.commit after_tav (length ops_w) ops_w frame_w (appended after_w 2 14) frame_w) where
  on-W : (es : List Event) → Chain S commit_w.after es → Holds S begun (draws ∷ draws_vector ∷ commit_tav ∷ pin_tav ∷ commit_w ∷ es)
  on-W es c =
      claim begun (draws ∷ draws_vector ∷ commit_tav ∷ pin_tav ∷ commit_w ∷ es) (begins S fresh) (
        refl,
        drew S draw,
        (
          refl,
          drew-vector S draw-v,
          (
            refl,
            committed S draws_vector.after ops_tav after_tav 1 28 frame_tav 0 add,
            (
              refl,
              pinned S commit_tav.after 1 once guard,
              (refl, committed S pin_tav.after ops_w after_w 2 14 frame_w 0 delete, c),
            ),
          ),
        ),
      )

-- a show without vectors, where the record has one
no-vector : (S : Steps) (w : World) (d : ℕ) (k : List ℕ) → S.show_vectors w.manager w.book d [] [] [] (Ok 0) [] [] [] → ShowsVectors S w d (k ∷ []) → ⊥
no-vector S w d k says h = apart (ap (λ (x : Told). x.number) (h [] [] [] (Ok 0) [] [] [] says).0) refl

abbrev recorded_vector : List ℕ
recorded_vector = 0 ∷ 0 ∷ 0 ∷ []

-- a show of epoch 1 gives the vectors that epoch 2 has
current-vectors : ShowVectorsSays after_w once 2 [] [] [] (Ok 0) [] [] []
unfolding rows is_name is_name_byte is_digit is_lower gone_at shown_at
current-vectors = record { answer = refl; tables = refl; rowsets = refl; vectors = refl }

shows-current-vectors : Refuted shows_current_vectors
shows-current-vectors claim =
    let S = shows_current_vectors in
    let h = on-W S claim fresh-says draw-says draw-vector-says says-TAV pin-says-TAV says-W [] tt in
    no-vector S commit_w.after 1 recorded_vector current-vectors (h.agrees.vectors 1 refl)

-- a vacuum lets the vector go
vectors-lost : VacuumsTo 0 port_bound port_bound unguarded after_w once (5 ∷ []) (5 ∷ []) (listed_by (held_w no_vectors) 0) (5 ∷ []) (5 ∷ [])
unfolding rows is_name is_name_byte is_digit is_lower gone_at shown_at
vectors-lost =
    record {
      answer = refl;
      tables = refl;
      rowsets = refl;
      manager = record { hands = record { fits = few-all 2 1 1 1 tables (pair 1 0) no_vectors 42 (omega arith) (omega arith) (omega arith); state = refl }; nothing = refl };
    }

lost-vectors : ShowVectorsSays (held_w no_vectors) once 1 [] [] [] (Ok 0) [] [] []
unfolding rows is_name is_name_byte is_digit is_lower gone_at shown_at
lost-vectors = record { answer = refl; tables = refl; rowsets = refl; vectors = refl }

loses-vectors : Refuted loses_vectors
loses-vectors claim =
    let S = loses_vectors in
    let v = vacuums commit_w.after (held_w no_vectors) 0 (5 ∷ []) (5 ∷ []) in
    let h =
    on-W S claim fresh-says draw-says draw-vector-says says-TAV pin-says-TAV says-W (v ∷ []) (
      refl,
      vacuumed S commit_w.after (held_w no_vectors) 0 (5 ∷ []) (5 ∷ []) vectors-lost,
      tt,
    ) in
    no-vector S v.after 1 recorded_vector lost-vectors (h.agrees.vectors 1 refl)

-- the empty commit leaves the epoch
abbrev unraised_none : VersionManager
unraised_none = following first.manager 6 (holding 0 0 0 no_tables no_pairs 6)

unraised-says : CommitEnds (unraised first.manager (length ops_none) ops_none 6) first.manager ops_none frame_none (appended unraised_none 0 6) frame_none
unfolding rows
unraised-says = (refl, record { hands = record { fits = few 0 0 0 no_tables no_pairs 6 (omega arith) (omega arith); state = refl }; former = record { fits = fresh-says.manager.hands.fits; state = refl }; append = refl }, refl)

leaves-epoch : Refuted leaves_epoch
leaves-epoch claim =
    let S = leaves_epoch in
    let h =
    claim begun (commits begun ops_none unraised_none 0 6 frame_none 0 ∷ []) (begins S fresh-says) (
      refl,
      committed S begun ops_none unraised_none 0 6 frame_none 0 unraised-says,
      tt,
    ) in
    apart h.agrees.epoch refl

-- epoch 1 is pinned and unpinned, and the pin stays
pin-says-none : PinSays after_none unpinned (Ok 1) once
unfolding rows
pin-says-none = record { answer = refl; book = record { fits = omega arith; pins = refl } }

stays-says : UnpinsNothing after_none 1 once (Ok (record { due = false; ready = 0 })) once
unfolding rows
stays-says = record { answer = refl; ready = omega arith; book = refl }

keeps-pin : Refuted keeps_pin
keeps-pin claim =
    let S = keeps_pin in
    let p = pins commit_none.after 1 once in
    let h =
    claim begun (commit_none ∷ p ∷ unpins p.after 1 once ∷ []) (begins S fresh-says) (
      refl,
      committed S begun ops_none after_none 1 6 frame_none 0 says_none,
      (
        refl,
        pinned S commit_none.after 1 once pin-says-none,
        (refl, released S p.after 1 once stays-says, tt),
      ),
    ) in
    not-empty (sym h.agrees.book)

-- a commit keeps the old sets
unchanged-T : CommitEnds (unchanged after_none (length ops_t) ops_t 14) after_none ops_t frame_t (appended (after_t no_tables) 2 14) frame_t
unfolding rows step_of text_of fields_text digits digits_by is_name is_name_byte is_digit is_lower gone_at shown_at
unchanged-T = (refl, record { hands = record { fits = few 2 1 0 no_tables no_pairs 20 (omega arith) (omega arith); state = refl }; former = record { fits = says_none.1.hands.fits; state = refl }; append = refl }, refl)

unchanged-shows : ShowTablesSays (after_t no_tables) unpinned 2 [] [] [] [] (Ok 0) [] [] [] []
unfolding rows
unchanged-shows = record { answer = refl; ids = refl; shapes = refl; lengths = refl; names = refl }

keeps-sets : Refuted keeps_sets
unfolding rows
keeps-sets claim =
    let S = keeps_sets in
    let h =
    claim begun (commit_none ∷ commit_t no_tables 0 ∷ []) (begins S fresh-says) (
      refl,
      committed S begun ops_none after_none 1 6 frame_none 0 says_none,
      (refl, committed S commit_none.after ops_t (after_t no_tables) 2 14 frame_t 0 unchanged-T, tt),
    ) in
    no_table S (commit_t no_tables 0).after 2 recorded unchanged-shows h.agrees.tables

-- a commit whose rowset was not drawn is refused by 14, and leaves the table
abbrev part_t : VersionManager
part_t = holding 0 1 0 tables no_pairs 0

abbrev not_appended : Committed
not_appended = record { manager = part_t; answer = Err (IdNotDrawn 1) }

part_says : CommitLeaves (outcome_of first.manager (length ops_ta) ops_ta 0) first.manager ops_ta [] not_appended []
unfolding rows step_of is_name is_name_byte is_digit is_lower
part_says = (refl, record { hands = record { fits = few 0 1 0 tables no_pairs 0 (omega arith) (omega arith); state = refl }; nothing = refl }, refl)

part-shows : ShowTablesSays part_t unpinned 0 [] [] [] [] (Err OutputTooShort) [] [] [] []
unfolding rows is_name is_name_byte is_digit is_lower
part-shows = record { answer = refl; ids = refl; shapes = refl; lengths = refl; names = refl }

leaves-part : Refuted leaves_part
leaves-part claim =
    let S = leaves_part in
    let e = commit_refused begun ops_ta part_t (IdNotDrawn 1) in
    let h =
    claim begun (e ∷ []) (begins S fresh-says) (
      refl,
      record { count = length ops_ta; counted = omega arith; result = not_appended; left = []; says = part_says; told = refl; none = refl; after = refl },
      tt,
    ) in
    a-table S e.after 0 part-shows h.agrees.tables

-- a show of epoch 0 is refused by 24 before any call
no-epoch : TablesShown (held_by first.manager) 0 (Err EpochNotPinned) [] [] [] [] (Err EpochNotPinned) [] [] [] []
no-epoch = record { answer = refl; ids = refl; shapes = refl; lengths = refl; names = refl }

refuses-show : Refuted refuses_show
refuses-show claim =
    let S = refuses_show in
    let h = claim begun [] (begins S fresh-says) tt in
    apart (ap (λ (x : Told). x.number) (h.agrees.tables [] [] [] [] (Err EpochNotPinned) [] [] [] [] no-epoch).0) refl

pub wrong-refuted : WrongRefuted
wrong-refuted =
    record {
      forgets_pairs = forgets-pairs;
      keeps_sets = keeps-sets;
      leaves_epoch = leaves-epoch;
      judges_nothing = judges-nothing;
      forgets_waiting = forgets-waiting;
      appends_no_end = appends-no-end;
      appends_no_mark = appends-no-mark;
      leaves_part = leaves-part;
      reuses_id = reuses-id;
      creates_refused = creates-refused;
      leaves_rowsets = leaves-rowsets;
      leaves_vectors = leaves-vectors;
      keeps_taken = keeps-taken;
      appends_new_alone = appends-new-alone;
      answers_next = answers-next;
      counts_no_pin = counts-no-pin;
      counts_refused = counts-refused;
      keeps_pin = keeps-pin;
      lists_nothing = lists-nothing;
      keeps_listed = keeps-listed;
      counts_one_more = counts-one-more;
      keeps_own_epoch = keeps-own-epoch;
      ignores_pins = ignores-pins;
      loses_pairs = loses-pairs;
      loses_vectors = loses-vectors;
      lets_go_refused = lets-go-refused;
      stays_at_epoch = stays-at-epoch;
      keeps_deletions = keeps-deletions;
      loses_pinned = loses-pinned;
      writes_waiting = writes-waiting;
      forgets_let_go = forgets-let-go;
      keeps_length = keeps-length;
      drops_older = drops-older;
      opens_empty = opens-empty;
      reads_first = reads-first;
      reads_to_room = reads-to-room;
      counts_early = counts-early;
      reads_torn = reads-torn;
      forgets_ids = forgets-ids;
      rewrites_no_end = rewrites-no-end;
      refuses_reopen = refuses-reopen;
      shows_current = shows-current;
      shows_current_vectors = shows-current-vectors;
      refuses_show = refuses-show;
    }
