-- What the invariant says of the record: shows give its rows, refused by 9 alone. Assumes nothing.
use mathlib.Core.Path.{◌≡◌, refl, sym, ap, ap₂, subst, ◌∙◌}
use mathlib.Core.Bool.{Bool, true, false, not, ◌&&◌, ◌||◌}
use mathlib.Core.List.{List, [], ◌∷◌, ◌++◌, map}
use Prim.Native.Nat.{ℕ, ◌*◌, ◌≤◌}
use lib.Dec.{ltb}
use lib.ListN.{length, length-map}
use borrow.Author.Tests.{eq-eqb}
use Rattle.lists.specs.Order.{less, same}
use Rattle.lists.specs.Keyed.{keep, any_of, placed, arranged}
use Rattle.lists.specs.Written.{over}
use Rattle.lists.proofs.Tests.{by_cases}
use Rattle.lists.proofs.Order.{less-same, same-sym}
use Rattle.lists.proofs.Keyed.{Ascending, ascend-to, ascending-keep, any_of-placed, any_of-map, none-any_of, all_map}
use Rattle.ids.specs.declared.refusal.Refusal.{Refusal}
use Rattle.ids.specs.Names.{longest_name}
use Rattle.ids.specs.Verdicts.{◌⇒◌, judged, Verdict}
use Rattle.ids.specs.Answers.{told, after}
use Rattle.snapshot.specs.Entries.{Entry, by_ids, by_deletion, waits}
use Rattle.snapshot.specs.Tables.{TableEntry}
use Rattle.version_state.specs.State.{State, pairs_at, vectors_at}
use Rattle.version_state.proofs.Facts.{sound-of}
use Rattle.pins.specs.Book.{bad_book}
use Rattle.pins.specs.Guards.{Guards, guards_of, may_show, bound}
use Rattle.pins.proofs.Bound.{bound-shows}
use Rattle.show.specs.Names.{padded, names_run}
use Rattle.show.specs.Says.{shown_field, show_rules, unseen, not_current, show_tables_rules}
use Rattle.version_manager.specs.Managers.{held_by, bad_manager}
use Rattle.version_manager.specs.Show.{show_verdict}
use Rattle.manifest.specs.Edits.{Table}
use Rattle.plain_record.specs.Plain.{Waiting, Plain, epoch_of, guards_in, Record}
use Rattle.plain_record.specs.Run.{port, World}
use Rattle.plain_record.specs.Shows.{nine_alone, names_of, ShowsPairs, ShowsVectors, ShowsTables}
use Rattle.plain_record.specs.Claim.{waiting_in, waiting_of, pairs_of, differ, Agrees}
use Rattle.plain_record.proofs.Invariant.{plain_table, Inv, passes, guards-alike}

-- three rules that do not hold are passed over
past_three : (a b c : Bool) (i j k : Refusal) (s : Bool) (q : Refusal) → a ≡ false → b ≡ false → c ≡ false
    → judged ((a ⇒ i) ∷ (b ⇒ j) ∷ (c ⇒ k) ∷ (s ⇒ q) ∷ []) ≡ judged ((s ⇒ q) ∷ [])
past_three a b c i j k s q e f g = rw (e, f, g)

module _ (w : World) (good : bad_manager w.manager ≡ false) (book : bad_book w.manager.inner.epoch w.book ≡ false) where
  nine : (u s : Bool) → u ≡ false → show_verdict w.manager (show_rules (held_by w.manager) w.book u s) ≡ nine_alone s
  nine u s h = past_three (bad_manager w.manager) (bad_book w.manager.inner.epoch w.book) u _ _ _ s _ good book h

  module _ (d : ℕ) (seen : may_show (guards_of (held_by w.manager) w.book) d ≡ true) where
    seen-not : unseen (held_by w.manager) w.book d ≡ false
    seen-not = ap not seen

    pairs-shown : ShowsPairs port w d (pairs_at d (held_by w.manager))
    pairs-shown ts rs a ts' rs' says =
        let l = pairs_at d (held_by w.manager) in
        let e = nine (unseen (held_by w.manager) w.book d) (ltb (length ts) (length l) || ltb (length rs) (length l)) seen-not in (
          says.answer ∙ ap (λ (v : Verdict). told v (length l ∷ [])) e,
          says.tables ∙ ap (λ (v : Verdict). after v (over (shown_field 0 l) ts) ts) e,
          says.rowsets ∙ ap (λ (v : Verdict). after v (over (shown_field 1 l) rs) rs) e,
        )

    vectors-shown : ShowsVectors port w d (vectors_at d (held_by w.manager))
    vectors-shown ts rs vs a ts' rs' vs' says =
        let l = vectors_at d (held_by w.manager) in
        let e = nine (unseen (held_by w.manager) w.book d) (ltb (length ts) (length l) || (ltb (length rs) (length l) || ltb (length vs) (length l))) seen-not in (
          says.answer ∙ ap (λ (v : Verdict). told v (length l ∷ [])) e,
          says.tables ∙ ap (λ (v : Verdict). after v (over (shown_field 0 l) ts) ts) e,
          says.rowsets ∙ ap (λ (v : Verdict). after v (over (shown_field 1 l) rs) rs) e,
          says.vectors ∙ ap (λ (v : Verdict). after v (over (shown_field 2 l) vs) vs) e,
        )

-- what the rows of tables say is what the manager's tables say
ids-plain : (l : List TableEntry) → map (λ (t : TableEntry). t.table) l ≡ map (λ (t : Table). t.id) (map plain_table l)
ids-plain [] = refl
ids-plain (t ∷ l) = ap (λ k. t.table ∷ k) (ids-plain l)

shapes-plain : (l : List TableEntry) → map (λ (t : TableEntry). t.shape) l ≡ map (λ (t : Table). t.shape) (map plain_table l)
shapes-plain [] = refl
shapes-plain (t ∷ l) = ap (λ k. t.shape ∷ k) (shapes-plain l)

lengths-plain : (l : List TableEntry) → map (λ (t : TableEntry). length t.name) l ≡ map (λ (t : Table). length t.name) (map plain_table l)
lengths-plain [] = refl
lengths-plain (t ∷ l) = ap (λ k. length t.name ∷ k) (lengths-plain l)

names-plain : (l : List TableEntry) → names_run l ≡ names_of (map plain_table l)
names-plain [] = refl
names-plain (t ∷ l) = ap (λ k. padded t.name ++ k) (names-plain l)

module _ (w : World) (good : bad_manager w.manager ≡ false) (book : bad_book w.manager.inner.epoch w.book ≡ false) (d : ℕ) (now : d ≡ w.manager.inner.epoch) where
  current-not : not_current (held_by w.manager) w.book d ≡ false
  current-not = rw (eq-eqb d w.manager.inner.epoch now)

  abbrev short : ℕ → ℕ → ℕ → ℕ → ℕ → Bool
  short i h l n k = ltb i k || (ltb h k || (ltb l k || ltb n (longest_name * k)))

  tables-shown : ShowsTables port w d (map plain_table (held_by w.manager).tables)
  tables-shown is hs ls ns a is' hs' ls' ns' says =
      let l = (held_by w.manager).tables in
      let k = sym (length-map l plain_table) in
      let e : show_verdict w.manager (show_tables_rules (held_by w.manager) w.book d (length is) (length hs) (length ls) (length ns)) ≡ nine_alone (short (length is) (length hs) (length ls) (length ns) (length (map plain_table l))) =
      nine w good book (not_current (held_by w.manager) w.book d) (short (length is) (length hs) (length ls) (length ns) (length l)) current-not
      ∙ ap (λ (n : ℕ). nine_alone (short (length is) (length hs) (length ls) (length ns) n)) k in (
        says.answer ∙ ap₂ (λ (v : Verdict) (n : ℕ). told v (n ∷ [])) e k,
        says.ids ∙ ap₂ (λ (v : Verdict) (x : List ℕ). after v (over x is) is) e (ids-plain l),
        says.shapes ∙ ap₂ (λ (v : Verdict) (x : List ℕ). after v (over x hs) hs) e (shapes-plain l),
        says.lengths ∙ ap₂ (λ (v : Verdict) (x : List ℕ). after v (over x ls) ls) e (lengths-plain l),
        says.names ∙ ap₂ (λ (v : Verdict) (x : List ℕ). after v (over x ns) ns) e (names-plain l),
      )

-- Waiting entries have different pairs.
differ-swap : (s a b d : Bool) → not (s || b) && (not a && d) ≡ not (s || a) && (not b && d)
differ-swap true a b d = refl
differ-swap false true true d = refl
differ-swap false true false d = refl
differ-swap false false true d = refl
differ-swap false false false d = refl

module _ {A : Type 0} (key f : A → List ℕ) where
  any-placed : (k : List ℕ) (x : A) (l : List A) → any_of (same k) (map f (placed key x l)) ≡ same k (f x) || any_of (same k) (map f l)
  any-placed k x l =
      any_of-map f (same k) (placed key x l)
      ∙ any_of-placed key (λ y. same k (f y)) x l
      ∙ ap (λ (b : Bool). same k (f x) || b) (sym (any_of-map f (same k) l))

  differ-placed : (x : A) (l : List A) → differ (map f (placed key x l)) ≡ differ (f x ∷ map f l)
  differ-placed x [] = refl
  differ-placed x (y ∷ l) =
      by_cases (less (key y) (key x))
      (λ e. rw e (ap₂ (λ (a b : Bool). not a && b) (any-placed (f y) x l) (differ-placed x l)
      ∙ ap (λ (b : Bool). not (b || any_of (same (f y)) (map f l)) && (not (any_of (same (f x)) (map f l)) && differ (map f l))) (same-sym (f y) (f x))
      ∙ differ-swap (same (f x) (f y)) (any_of (same (f x)) (map f l)) (any_of (same (f y)) (map f l)) (differ (map f l))))
      (λ e. rw e)

  differ-arranged : (l : List A) → differ (map f (arranged key l)) ≡ differ (map f l)
  differ-arranged [] = refl
  differ-arranged (x ∷ l) =
      differ-placed x (arranged key l)
      ∙ ap₂ (λ (a b : Bool). not a && b) (any-arranged (f x) l) (differ-arranged l)
    where
      any-arranged : (k : List ℕ) (l : List A) → any_of (same k) (map f (arranged key l)) ≡ any_of (same k) (map f l)
      any-arranged k [] = refl
      any-arranged k (y ∷ l) = any-placed k y (arranged key l) ∙ ap (λ (b : Bool). same k (f y) || b) (any-arranged k l)

differ-ascending : (l : List Entry) → Ascending by_ids l → differ (map by_ids l) ≡ true
differ-ascending [] s = refl
differ-ascending (x ∷ l) s =
    let n : any_of (same (by_ids x)) (map by_ids l) ≡ false =
    any_of-map by_ids (same (by_ids x)) l ∙ none-any_of (λ y. same (by_ids x) (by_ids y)) l (all_map l (λ y h. less-same (by_ids x) (by_ids y) h) s.0) in
    rw n (differ-ascending l s.1)

-- without its first number
abbrev rest : List ℕ → List ℕ
rest [] = []
rest (x ∷ k) = k

rest-waiting : (l : List Waiting) → map rest (map (λ (x : Waiting). x.epoch ∷ x.pair) l) ≡ pairs_of l
rest-waiting [] = refl
rest-waiting (x ∷ l) = ap (λ k. x.pair ∷ k) (rest-waiting l)

rest-deleted : (l : List Entry) → map rest (map by_deletion l) ≡ map by_ids l
rest-deleted [] = refl
rest-deleted (x ∷ l) = ap (λ k. x.ids ∷ k) (rest-deleted l)

pairs-apart : (s : State) (p : Plain) → Ascending by_ids s.pairs → waiting_in s ≡ waiting_of p → differ (pairs_of p.waiting) ≡ true
pairs-apart s p o h =
    let e : pairs_of p.waiting ≡ map by_ids (arranged by_deletion (keep waits s.pairs)) =
    sym (rest-waiting p.waiting) ∙ ap (map rest) (sym h) ∙ rest-deleted (arranged by_deletion (keep waits s.pairs)) in
    ap differ e ∙ differ-arranged by_deletion by_ids (keep waits s.pairs) ∙ differ-ascending (keep waits s.pairs) (ascending-keep by_ids waits s.pairs o)

pub agree : (w : World) (r : Record) → Inv w r → Agrees port w r.whole
agree w r i =
    record {
      epoch = i.epoch;
      tables = subst (ShowsTables port w (epoch_of r.whole)) i.tables (tables-shown w i.sound i.book (epoch_of r.whole) (sym i.epoch));
      pairs = λ d h. subst (ShowsPairs port w d) (i.pairs d (seen d h)) (pairs-shown w i.sound i.book d (shows d h));
      vectors = λ d h. subst (ShowsVectors port w d) (i.vectors d (seen d h)) (vectors-shown w i.sound i.book d (shows d h));
      book = i.pins;
      waiting = i.waiting;
      apart = pairs-apart (held_by w.manager) r.whole (ascend-to by_ids (held_by w.manager).pairs (sound-of w.manager.inner (passes w r i)).ordered.pairs) i.waiting;
      next = i.next;
      manifest = sym i.file.long;
    }
  where
    shows : (d : ℕ) → may_show (guards_in r.whole) d ≡ true → may_show (guards_of (held_by w.manager) w.book) d ≡ true
    shows d h = ap (λ (g : Guards). may_show g d) (guards-alike w r i) ∙ h

    seen : (d : ℕ) → may_show (guards_in r.whole) d ≡ true → bound (guards_of (held_by w.manager) w.book) ≤ d
    seen d h = bound-shows (guards_of (held_by w.manager) w.book) d (shows d h)
