-- What an accepted call tells, of its operations, the pin book and what it hands back. Assumes nothing.
use mathlib.Core.Path.{◌≡◌, refl, sym, ap, subst, ◌∙◌}
use mathlib.Core.Bool.{Bool, true, ◌&&◌}
use mathlib.Core.List.{List, [], ◌∷◌, map}
use Prim.Native.Nat.{ℕ, ◌+◌, ◌≤◌}
use native.Mathlib.Omega.{arith}
use lib.Dec.{eqb, ltb, leb}
use lib.ListN.{take}
use borrow.Author.Tests.{eqb-true, ltb-true, leb-true, not-false}
use Rattle.std.specs.Prelude.{Ok, Err}
use Rattle.lists.specs.Order.{same}
use Rattle.lists.specs.Keyed.{keep, all_of, has, is_at}
use Rattle.lists.proofs.Tests.{by_cases, clash, both}
use Rattle.lists.proofs.Order.{same_true}
use Rattle.lists.proofs.Keyed.{all_map, all_of-all, any_of-map}
use Rattle.ids.specs.declared.refusal.Refusal.{Refusal}
use Rattle.ids.specs.Verdicts.{Verdict}
use Rattle.ids.specs.Answers.{Told, told}
use Rattle.manifest.specs.Operations.{Operation}
use Rattle.snapshot.specs.Entries.{Entry, shown_by}
use Rattle.snapshot.specs.Tables.{TableEntry, by_table}
use Rattle.version_state.specs.State.{State}
use Rattle.version_state.specs.Sound.{has_table}
use Rattle.version_state.specs.Sound as sound
use Rattle.version_state.proofs.Facts.{sound-of}
use Rattle.pins.specs.Book.{PinEntry, pinned, valid_pin}
use Rattle.pins.proofs.Facts.{good_book}
use Rattle.commit.specs.Commit.{commit_of}
use Rattle.commit.proofs.Sounds.{accepts}
use Rattle.version_manager.specs.Managers.{held_by}
use Rattle.plain_record.specs.Sets.{by_id, itself}
use Rattle.plain_record.specs.Plain.{Record}
use Rattle.plain_record.specs.Run.{World, is_accepted}
use Rattle.plain_record.proofs.Invariant.{plain_table, plain_sets, Inv, passes}
use Rattle.plain_record.proofs.Refused.{refused-number}
use Rattle.plain_record.proofs.Commit.{now-at}
use Rattle.risinglight.proofs.Fitting.{Found, found}
use Rattle.risinglight.proofs.Counts.{Pinning}
use Rattle.risinglight.proofs.Starts.{Whole}

-- What an accepted call tells.

pub refused-told : (k : Refusal) (vs : List ℕ) (t : Told) → t ≡ told (Err k) vs → is_accepted t ≡ true → ⊥
refused-told k vs t e a = clash (ap is_accepted (sym e) ∙ a) (refused-number k)

pub passed : (v : Verdict) (vs : List ℕ) (t : Told) → t ≡ told v vs → is_accepted t ≡ true → v ≡ Ok tt
passed (Ok _) vs t e a = refl
passed (Err k) vs t e a = absurd (refused-told k vs t e a)

-- the operations of an accepted commit find what they ask for
pub commit-found : (w : World) (r : Record) (z : ℕ) (os : List Operation) (room : ℕ) (s : State) → Inv w r → commit_of (held_by w.manager) z os room ≡ Ok s → Found os r.whole.now
commit-found w r z os room s i h =
    let m = w.manager.inner in
    let a = accepts (held_by w.manager) z os room s h in
    let g = sound-of m (passes w r i) in
    subst (Found os) (now-at w r i (m.epoch + 1) (omega arith))
    (found 0 (m.epoch + 1) os (held_by w.manager) a.done (omega arith) g.ordered (all_of-all (λ (t : TableEntry). ltb t.table (held_by w.manager).next_table) (held_by w.manager).tables g.below) a.steps)

-- A book that 28 lets pass.

pub pinning-of : (c : ℕ) (l : List PinEntry) → all_of (valid_pin c) l ≡ true → Pinning l
pinning-of c l h =
    all_map l (λ (p : PinEntry) v. ltb-true 0 p.count (both (ltb 0 p.count) (ltb 0 p.epoch && leb p.epoch c) v).0) (all_of-all (valid_pin c) l h)

pub pinned-within : (c d : ℕ) (l : List PinEntry) → all_of (valid_pin c) l ≡ true → pinned d l ≡ true → (1 ≤ d) × (d ≤ c)
pinned-within c d [] v h = clash h refl
pinned-within c d (p ∷ l) v h =
    let a = both (valid_pin c p) (all_of (valid_pin c) l) v in
    by_cases (eqb p.epoch d)
    (λ t.
    let q = eqb-true p.epoch d t in
    let x = both (ltb 0 p.count) (ltb 0 p.epoch && leb p.epoch c) a.0 in
    let y = both (ltb 0 p.epoch) (leb p.epoch c) x.1 in
    let low = ltb-true 0 p.epoch y.0 in
    let high = leb-true p.epoch c y.1 in
    (omega arith, omega arith))
    (λ t. pinned-within c d l a.1 (rw t at h))

pub valid-pins : (w : World) (r : Record) → Inv w r → all_of (valid_pin w.manager.inner.epoch) r.whole.pinned ≡ true
valid-pins w r i = subst (λ (l : List PinEntry). all_of (valid_pin w.manager.inner.epoch) l ≡ true) i.pins (good_book w.manager.inner.epoch w.book i.book).valid

-- What a manager that passes 29 shows.

all-has : (f : List ℕ → Bool) (k : List ℕ) (l : List Entry) → all_of (λ (x : Entry). f x.ids) l ≡ true → has itself k (map (λ (x : Entry). x.ids) l) ≡ true → f k ≡ true
all-has f k [] a h = clash h refl
all-has f k (x ∷ l) a h =
    let b = both (f x.ids) (all_of (λ (x : Entry). f x.ids) l) a in
    by_cases (same x.ids k)
    (λ t. ap f (sym (same_true x.ids k t)) ∙ b.0)
    (λ t. all-has f k l b.1 (rw t at h))

module _ (w : World) (r : Record) (i : Inv w r) where
  abbrev held : State
  held = held_by w.manager

  abbrev shown-pairs : List Entry
  shown-pairs = keep (shown_by held.epoch) held.pairs

  abbrev shown-vectors : List Entry
  shown-vectors = keep (shown_by held.epoch) held.vectors

  nothing_left : (all_of (sound.has_rowset shown-pairs) shown-vectors ≡ true) × (all_of (has_table held.tables) shown-pairs ≡ true)
  nothing_left = both (all_of (sound.has_rowset shown-pairs) shown-vectors) (all_of (has_table held.tables) shown-pairs) (not-false _ (sound-of w.manager.inner (passes w r i)).whole)

  has-table : (t q : ℕ) → has itself (t ∷ q ∷ []) (plain_sets held).pairs ≡ true → has by_id (t ∷ []) (plain_sets held).tables ≡ true
  has-table t q h = any_of-map plain_table (is_at by_id (t ∷ [])) held.tables ∙ all-has (λ k. has by_table (take 1 k) held.tables) (t ∷ q ∷ []) shown-pairs nothing_left.1 h

  has-rowset : (t q v : ℕ) → has itself (t ∷ q ∷ v ∷ []) (plain_sets held).vectors ≡ true → has itself (t ∷ q ∷ []) (plain_sets held).pairs ≡ true
  has-rowset t q v h =
      any_of-map (λ (x : Entry). x.ids) (is_at itself (t ∷ q ∷ [])) shown-pairs
      ∙ all-has (λ k. has (λ (x : Entry). x.ids) (take 2 k) shown-pairs) (t ∷ q ∷ v ∷ []) shown-vectors nothing_left.0 h

  pub whole_of : Whole (plain_sets held)
  whole_of = record { pairs = has-table; vectors = λ t q v h. has-table t q (has-rowset t q v h) }
