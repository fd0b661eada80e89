-- A vacuum beside the record: what it lists, what still waits after it, and the files. Assumes nothing.
use mathlib.Core.Path.{◌≡◌, refl, sym, ap, subst, ◌∙◌}
use mathlib.Core.Bool.{Bool, true, false, not, ◌&&◌}
use mathlib.Core.List.{List, [], ◌∷◌, map}
use Prim.Native.Nat.{ℕ, ◌+◌, ◌≤◌}
use native.Mathlib.Omega.{arith}
use lib.Dec.{leb}
use lib.ListN.{length, drop, get_or, length-map}
use lib.Seq.{take_at}
use borrow.Author.Tests.{leb-true}
use Rattle.std.specs.Prelude.{Ok, Err}
use Rattle.lists.specs.Keyed.{keep, placed, arranged}
use Rattle.lists.specs.Written.{over}
use Rattle.lists.proofs.Tests.{by_cases, clash, both}
use Rattle.lists.proofs.Keyed.{All, all_map, all_any, all_of-all, all_keep, all_placed, keep_same, keep-keep, keep-map, sorted-arranged, keep-placed, keep-placed-out}
use Rattle.columns.proofs.Rows.{rows_all}
use Rattle.ids.specs.Verdicts.{Verdict}
use Rattle.ids.specs.Answers.{Told, told, after}
use Rattle.snapshot.specs.Views.{rowsets_of}
use Rattle.snapshot.specs.Entries.{Entry, gone_at, gone_by, waits, by_deletion, below_next, within, field}
use Rattle.version_state.specs.declared.VersionManagerInner.{VersionManagerInner}
use Rattle.version_state.specs.State.{State, state_of}
use Rattle.version_state.specs.Sets.{sets_of}
use Rattle.version_state.proofs.Facts.{sound-of}
use Rattle.pins.specs.Guards.{Guards, guards_of, blocked, bound}
use Rattle.pins.proofs.Bound.{bound-le, free-is}
use Rattle.vacuum.specs.LetGo.{vacuum_list, stays_by, vacuumed}
use Rattle.vacuum.specs.Says.{bound_of, list_of}
use Rattle.vacuum.proofs.Laws.{pairs-after, vectors-after, vacuum-sound}
use Rattle.version_manager.specs.Managers.{held_by, HandsBack}
use Rattle.version_manager.proofs.Managers.{nothing-passes}
use Rattle.version_manager.specs.Vacuum.{vacuum_verdict}
use Rattle.plain_record.specs.Calls.{as_vacuum}
use Rattle.plain_record.specs.Plain.{Waiting, by_epoch_and_pair, Plain, guards_in, listed, swept, gone, Record, turn}
use Rattle.plain_record.specs.Run.{port, World, is_accepted, value, paired, pairs_in, listed_if, DidVacuum}
use Rattle.plain_record.specs.Claim.{waiting_in, waiting_of, pairs_of}
use Rattle.plain_record.proofs.Invariant.{passes, Inv, guards-alike}
use Rattle.plain_record.proofs.Refused.{refused-number}
use Rattle.plain_record.proofs.Stands.{Stands, accepted-stands, onward-kept}
use Rattle.plain_record.proofs.CommitIds.{next-rise}

-- the entries that pass a test stay in order
pub keep-arranged : {A : Type 0} (key : A → List ℕ) (q : A → Bool) (l : List A) → keep q (arranged key l) ≡ arranged key (keep q l)
keep-arranged key q [] = refl
keep-arranged key q (x ∷ l) =
    by_cases (q x)
    (λ e. rw e (keep-placed key q x (arranged key l) (sorted-arranged key l) e ∙ ap (placed key x) (keep-arranged key q l)))
    (λ e. rw e (keep-placed-out key q x (arranged key l) e ∙ keep-arranged key q l))

all-arranged : {A : Type 0} (key : A → List ℕ) (P : A → Type 0) (l : List A) → All P l → All P (arranged key l)
all-arranged key P [] h = tt
all-arranged key P (x ∷ l) h = all_placed key P x (arranged key l) h.0 (all-arranged key P l h.1)

pub map-map : {A B C : Type 0} (f : A → B) (g : B → C) (l : List A) → map g (map f l) ≡ map (λ x. g (f x)) l
map-map f g [] = refl
map-map f g (x ∷ l) = ap (λ k. g (f x) ∷ k) (map-map f g l)

-- whether a deletion is kept, by its key; and whether it is not
abbrev held : Guards → List ℕ → Bool
held g k = blocked g (get_or k 0 0)

abbrev free : Guards → List ℕ → Bool
free g k = not (held g k)

-- a key without its epoch
abbrev rest : List ℕ → List ℕ
rest [] = []
rest (x ∷ k) = k

module _ (g : Guards) where
  gone-free : (x : Entry) → x.deleted ≤ g.current → gone_by (bound g) x ≡ waits x && free g (by_deletion x)
  unfolding gone_at
  gone-free x h = rw (free-is g x.deleted h)

  stays-held : (x : Entry) → x.deleted ≤ g.current → stays_by (bound g) x && waits x ≡ waits x && held g (by_deletion x)
  stays-held x h =
      rw (gone-free x h) (by_cases (waits x)
      (λ f. by_cases (held g (by_deletion x)) (λ t. rw (f, t)) (λ t. rw (f, t)))
      (λ f. rw f))

  module _ (s : State) (below : All (λ (x : Entry). x.deleted ≤ g.current) s.pairs) where
    list-kept : vacuum_list (bound g) s ≡ keep (λ (x : Entry). free g (by_deletion x)) (arranged by_deletion (keep waits s.pairs))
    list-kept =
        ap (arranged by_deletion)
        (keep_same (gone_by (bound g)) (λ (x : Entry). waits x && free g (by_deletion x)) s.pairs (all_map s.pairs gone-free below)
        ∙ sym (keep-keep (λ (x : Entry). free g (by_deletion x)) waits s.pairs))
        ∙ sym (keep-arranged by_deletion (λ (x : Entry). free g (by_deletion x)) (keep waits s.pairs))

    left-kept : arranged by_deletion (keep waits (keep (stays_by (bound g)) s.pairs)) ≡ keep (λ (x : Entry). held g (by_deletion x)) (arranged by_deletion (keep waits s.pairs))
    left-kept =
        ap (arranged by_deletion)
        (keep-keep waits (stays_by (bound g)) s.pairs
        ∙ keep_same (λ (x : Entry). stays_by (bound g) x && waits x) (λ (x : Entry). waits x && held g (by_deletion x)) s.pairs (all_map s.pairs stays-held below)
        ∙ sym (keep-keep (λ (x : Entry). held g (by_deletion x)) waits s.pairs))
        ∙ sym (keep-arranged by_deletion (λ (x : Entry). held g (by_deletion x)) (keep waits s.pairs))

    module _ (p : Plain) (alike : g ≡ guards_in p) (waiting : waiting_in s ≡ waiting_of p) where
      held-alike : (w : Waiting) → held g (by_epoch_and_pair w) ≡ blocked (guards_in p) w.epoch
      held-alike w = ap (λ (h : Guards). blocked h w.epoch) alike

      free-alike : (w : Waiting) → free g (by_epoch_and_pair w) ≡ not (blocked (guards_in p) w.epoch)
      free-alike w = ap not (held-alike w)

      -- the list is the record's
      pub list-keys : map by_deletion (vacuum_list (bound g) s) ≡ map by_epoch_and_pair (listed p)
      list-keys =
          ap (map by_deletion) list-kept
          ∙ sym (keep-map by_deletion (free g) (arranged by_deletion (keep waits s.pairs)))
          ∙ ap (keep (free g)) waiting
          ∙ keep-map by_epoch_and_pair (free g) p.waiting
          ∙ ap (map by_epoch_and_pair) (keep_same (λ (w : Waiting). free g (by_epoch_and_pair w)) (λ (w : Waiting). not (blocked (guards_in p) w.epoch)) p.waiting (all_any p.waiting free-alike))

      pub list-pairs : map (λ (x : Entry). x.ids) (vacuum_list (bound g) s) ≡ pairs_of (listed p)
      list-pairs =
          sym (map-map by_deletion rest (vacuum_list (bound g) s)) ∙ ap (map rest) list-keys ∙ map-map by_epoch_and_pair rest (listed p)

      -- what waits afterwards is what still waits in the record
      pub still-waiting : waiting_in (vacuumed (bound g) s) ≡ waiting_of (swept p)
      still-waiting =
          ap (map by_deletion) left-kept
          ∙ sym (keep-map by_deletion (held g) (arranged by_deletion (keep waits s.pairs)))
          ∙ ap (keep (held g)) waiting
          ∙ keep-map by_epoch_and_pair (held g) p.waiting
          ∙ ap (map by_epoch_and_pair) (keep_same (λ (w : Waiting). held g (by_epoch_and_pair w)) (λ (w : Waiting). blocked (guards_in p) w.epoch) p.waiting (all_any p.waiting held-alike))

-- an entry of two ids
abbrev TwoIds : Entry → Type 0
TwoIds x = get_or x.ids 0 0 ∷ get_or x.ids 1 0 ∷ [] ≡ x.ids

paired-fields : (l : List Entry) → All TwoIds l → paired (field 0 l) (field 1 l) ≡ map (λ (x : Entry). x.ids) l
paired-fields [] h = refl
paired-fields (x ∷ l) h = rw (h.0, paired-fields l h.1)

-- the slices hold the list
pub pairs-written : (l : List Entry) (ts rs : List ℕ) → All TwoIds l → pairs_in (length l) (over (field 0 l) ts) (over (field 1 l) rs) ≡ map (λ (x : Entry). x.ids) l
pairs-written l ts rs h =
    rw (take_at (field 0 l) (drop (length (field 0 l)) ts) (length l) (length-map l _), take_at (field 1 l) (drop (length (field 1 l)) rs) (length l) (length-map l _)) (paired-fields l h)

pub two-ids : (m : VersionManagerInner) (b : ℕ) → All TwoIds (vacuum_list b (state_of m))
two-ids m b =
    let l = rowsets_of m.rowsets in
    all-arranged by_deletion TwoIds (keep (gone_by b) l) (all_keep TwoIds (gone_by b) l (rows_all _ TwoIds (λ i. refl) m.rowsets.count))

module _ (w : World) (r : Record) (t : Told) (l : List (List ℕ)) (v : World) (ts rs : List ℕ) (i : Inv w r) (d : DidVacuum port w t l v ts rs) where
  abbrev inner : VersionManagerInner
  inner = w.manager.inner

  abbrev to : ℕ
  to = bound_of (held_by w.manager) w.book

  abbrev swept-state : State
  swept-state = vacuumed to (state_of inner)

  abbrev verdict : Verdict
  verdict = vacuum_verdict w.manager w.book (length ts) (length rs)

  abbrev Handed : Verdict → Type 0
  Handed x = HandsBack x w.manager swept-state d.result.manager

  -- by 29
  deletions-below : All (λ (x : Entry). x.deleted ≤ inner.epoch) (state_of inner).pairs
  deletions-below =
      let next = (state_of inner).next_table ∷ (state_of inner).next_rowset ∷ [] in
      all_map (state_of inner).pairs
      (λ (x : Entry) h.
      let a = both (leb x.added inner.epoch) (leb x.deleted inner.epoch && below_next x.ids next) h in
      leb-true x.deleted inner.epoch (both (leb x.deleted inner.epoch) (below_next x.ids next) a.1).0)
      (all_of-all (within inner.epoch next) (state_of inner).pairs (sound-of inner (passes w r i)).pairs)

  sets-stay : sets_of swept-state ≡ sets_of (state_of inner)
  sets-stay =
      let k = bound-le (guards_of (state_of inner) w.book) in
      rw (pairs-after to inner.epoch (state_of inner) k, vectors-after to inner.epoch (state_of inner) k)

  stands-swept : Stands swept-state w.book w.file (swept r.whole)
  stands-swept =
      record {
        book = i.book;
        epoch = i.epoch;
        tables = i.tables;
        pairs = λ e k. pairs-after to e (state_of inner) k ∙ i.pairs e k;
        vectors = λ e k. vectors-after to e (state_of inner) k ∙ i.vectors e k;
        pins = i.pins;
        waiting = still-waiting (guards_of (state_of inner) w.book) (state_of inner) deletions-below r.whole (guards-alike w r i) i.waiting;
        next = next-rise (state_of inner) swept-state r.whole.added (record { table = omega arith; rowset = omega arith; vector = omega arith }) i.next;
        file = record { state = i.file.state; holds = i.file.holds; same = sets-stay ∙ i.file.same; long = i.file.long; next = i.file.next };
      }

  tells : t ≡ told verdict (length (list_of (held_by w.manager) w.book) ∷ [])
  tells = d.told ∙ d.says.answer

  pub vacuum-kept : (id : ℕ) → Inv v (turn as_vacuum (is_accepted t) id r)
  vacuum-kept id =
      onward-kept as_vacuum id w r d.result.manager w.book verdict (length (list_of (held_by w.manager) w.book) ∷ []) t v i d.after tells
      (λ a. let h = subst Handed a d.says.manager in
      accepted-stands d.result.manager w.book w.file w.last swept-state (swept r.whole) gone (r.place + 1)
      (nothing-passes d.result.manager (vacuum-sound inner d.result.manager.inner to (bound-le (guards_of (state_of inner) w.book)) (passes w r i) h.hands) h.nothing) h.hands.state stands-swept h.nothing)
      (λ k a. (subst Handed a d.says.manager, refl))

  abbrev list : List Entry
  list = list_of (held_by w.manager) w.book

  lists-by : (c : Verdict) (ts' rs' : List ℕ) → t ≡ told c (length list ∷ []) → ts' ≡ after c (over (field 0 list) ts) ts → rs' ≡ after c (over (field 1 list) rs) rs → is_accepted t ≡ true
      → (listed_if t ts' rs' ≡ map (λ (x : Entry). x.ids) list) × (value 0 t ≡ length list)
  lists-by (Ok _) ts' rs' e f g a = (rw (e, f, g) (pairs-written list ts rs (two-ids inner to)), rw e)
  lists-by (Err q) ts' rs' e f g a = clash a (rw e (refused-number q))

  -- what it lists, by the slices that it left
  pub vacuum-pairs : is_accepted t ≡ true → l ≡ map (λ (x : Entry). x.ids) list
  vacuum-pairs a = d.listed ∙ (lists-by verdict d.tables d.rowsets tells d.says.tables d.says.rowsets a).0

  -- it lists what the record lists, and answers how many these are
  pub vacuum-lists : is_accepted t ≡ true → (l ≡ pairs_of (listed r.whole)) × (value 0 t ≡ length l)
  vacuum-lists a =
      let h = lists-by verdict d.tables d.rowsets tells d.says.tables d.says.rowsets a in
      let e = d.listed ∙ h.0 in
      (e ∙ list-pairs (guards_of (state_of inner) w.book) (state_of inner) deletions-below r.whole (guards-alike w r i) i.waiting, h.1 ∙ sym (ap length e ∙ length-map list (λ (x : Entry). x.ids)))
