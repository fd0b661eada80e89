-- What a vacuum leaves: older epochs from the bound on show what they showed, and the state passes 29. Assumes nothing.
use mathlib.Core.Path.{◌≡◌, refl, ap, ◌∙◌}
use mathlib.Core.Bool.{Bool, true, false, not, ◌&&◌, ◌||◌}
use mathlib.Core.List.{List, [], ◌∷◌, map}
use Prim.Native.Nat.{ℕ, ◌≤◌}
use native.Mathlib.Omega.{arith}
use lib.Dec.{leb, ltb, eqb}
use borrow.Author.Tests.{leb-true, le-leb, not-false}
use Rattle.lists.specs.Order.{less}
use Rattle.lists.specs.Keyed.{keep, all_of, arranged, not_below, sorted}
use Rattle.lists.proofs.Tests.{by_cases, both, neither}
use Rattle.lists.proofs.Keyed.{All, all_any, all_of-all, all-all_of, all_keep, keep_same, keep-keep, ascend-to, ascend-from, ascending-keep, Sorted, sorted-arranged}
use Rattle.text.specs.Name.{is_name}
use Rattle.snapshot.specs.Entries.{Entry, gone_at, shown_at, gone_by, shown_by, shown, by_ids, by_deletion, within}
use Rattle.snapshot.specs.Tables.{TableEntry}
use Rattle.version_state.specs.declared.VersionManagerInner.{VersionManagerInner}
use Rattle.ids.specs.Limits.{longest_manifest}
use Rattle.version_state.specs.State.{State, state_of, counts_fit, Hands, pairs_at, vectors_at}
use Rattle.version_state.specs.Sound.{left_behind, beyond_limits, out_of_order, above_own, bad_inner}
use Rattle.version_state.proofs.Facts.{fit-counts, in_order, order-in}
use Rattle.vacuum.specs.LetGo.{vacuum_list, stays_by, vacuumed}

-- what is gone by b is gone by every later epoch
pub gone-later : (b e d : ℕ) → b ≤ e → gone_at b d ≡ true → gone_at e d ≡ true
unfolding gone_at
gone-later b e d k h =
    let a = both (not (eqb d 0)) (leb d b) h in
    rw a.0 (le-leb d e (omega (arith, leb-true d b a.1)))

stays-shown : (b e : ℕ) (x : Entry) → b ≤ e → stays_by b x && shown_by e x ≡ shown_by e x
unfolding shown_at
stays-shown b e x k =
    by_cases (gone_at b x.deleted)
    (λ h. by_cases (leb x.added e)
    (λ f. rw (h, f, gone-later b e x.deleted k h))
    (λ f. rw (h, f)))
    (λ h. rw h)

-- from the bound on, an epoch picks the same entries
pub kept-shown : (b e : ℕ) (l : List Entry) → b ≤ e → keep (shown_by e) (keep (stays_by b) l) ≡ keep (shown_by e) l
kept-shown b e l k =
    keep-keep (shown_by e) (stays_by b) l
    ∙ keep_same (λ (x : Entry). stays_by b x && shown_by e x) (shown_by e) l (all_any l (λ x. stays-shown b e x k))

-- a list shows at such an epoch what it showed
pub shown-after : (b e : ℕ) (l : List Entry) → b ≤ e → shown e (keep (stays_by b) l) ≡ shown e l
shown-after b e l k = ap (map (λ (x : Entry). x.ids)) (kept-shown b e l k)

pub pairs-after : (b e : ℕ) (s : State) → b ≤ e → pairs_at e (vacuumed b s) ≡ pairs_at e s
pairs-after b e s k = shown-after b e s.pairs k

pub vectors-after : (b e : ℕ) (s : State) → b ≤ e → vectors_at e (vacuumed b s) ≡ vectors_at e s
vectors-after b e s k = shown-after b e s.vectors k

not-below : {A : Type 0} (key : A → List ℕ) (k : List ℕ) (l : List A) → All (λ y. less (key y) k ≡ false) l → Sorted key l → not_below key k l ≡ true
not-below key k [] a s = refl
not-below key k (x ∷ l) a s = rw a.0 (not-below key (key x) l s.0 s.1)

in-turn : {A : Type 0} (key : A → List ℕ) (l : List A) → Sorted key l → sorted key l ≡ true
in-turn key [] s = refl
in-turn key (x ∷ l) s = not-below key (key x) l s.0 s.1

-- the list is by epoch, table, rowset
pub list-sorted : (b : ℕ) (s : State) → sorted by_deletion (vacuum_list b s) ≡ true
list-sorted b s = in-turn by_deletion (vacuum_list b s) (sorted-arranged by_deletion (keep (gone_by b) s.pairs))

none-gone : (b : ℕ) (l : List Entry) → keep (gone_by b) (keep (stays_by b) l) ≡ []
none-gone b [] = refl
none-gone b (x ∷ l) = by_cases (gone_by b x) (λ e. rw e (none-gone b l)) (λ e. rw (e, e) (none-gone b l))

-- a second vacuum up to the same epoch lists nothing
pub list-once : (b : ℕ) (s : State) → vacuum_list b (vacuumed b s) ≡ []
list-once b s = ap (arranged by_deletion) (none-gone b s.pairs)

all_of-keep : {A : Type 0} (p q : A → Bool) (l : List A) → all_of p l ≡ true → all_of p (keep q l) ≡ true
all_of-keep p q l h = all-all_of p (keep q l) (all_keep (λ x. p x ≡ true) q l (all_of-all p l h))

module _ (b : ℕ) (s : State) where
  order-left : out_of_order s ≡ false → out_of_order (vacuumed b s) ≡ false
  order-left h =
      let o = in_order s h in
      order-in (vacuumed b s) (record {
        tables = o.tables;
        pairs = ascend-from by_ids (keep (stays_by b) s.pairs) (ascending-keep by_ids (stays_by b) s.pairs (ascend-to by_ids s.pairs o.pairs));
        vectors = ascend-from by_ids (keep (stays_by b) s.vectors) (ascending-keep by_ids (stays_by b) s.vectors (ascend-to by_ids s.vectors o.vectors));
      })

  below_left : above_own s ≡ false → above_own (vacuumed b s) ≡ false
  below_left h =
      let p = within s.epoch (s.next_table ∷ s.next_rowset ∷ []) in
      let q = within s.epoch (s.next_table ∷ s.next_rowset ∷ s.next_vector ∷ []) in
      let t = all_of (λ (t : TableEntry). ltb t.table s.next_table) s.tables in
      let a = both t (all_of p s.pairs && all_of q s.vectors) (not-false _ h) in
      let d = both (all_of p s.pairs) (all_of q s.vectors) a.1 in
      rw (a.0, all_of-keep p (stays_by b) s.pairs d.0, all_of-keep q (stays_by b) s.vectors d.1)

  behind-left : (e : ℕ) → b ≤ e → left_behind e (vacuumed b s) ≡ left_behind e s
  behind-left e k = rw (kept-shown b e s.pairs k, kept-shown b e s.vectors k)

-- 29 of what is handed back, by its counts and its state
abbrev bad_by : Bool → State → Bool
bad_by c s =
    (not c || (ltb longest_manifest s.manifest || not (all_of (λ (t : TableEntry). is_name t.name) s.tables)))
    || (out_of_order s || (above_own s || left_behind s.epoch s))

none : {w x y z : Bool} → w ≡ false → x ≡ false → y ≡ false → z ≡ false → w || (x || (y || z)) ≡ false
none p q r t = rw (p, q, r, t)

-- what is handed back passes 29 where the manager did: b is not above its epoch
pub vacuum-sound : (m n : VersionManagerInner) (b : ℕ) → b ≤ m.epoch → bad_inner m ≡ false → Hands n (vacuumed b (state_of m)) → bad_inner n ≡ false
vacuum-sound m n b k h d =
    let s = state_of m in
    let x = neither (beyond_limits m) (out_of_order s || (above_own s || left_behind s.epoch s)) h in
    let y = neither (out_of_order s) (above_own s || left_behind s.epoch s) x.1 in
    let z = neither (above_own s) (left_behind s.epoch s) y.1 in
    let l = neither (not (counts_fit m)) (ltb longest_manifest s.manifest || not (all_of (λ (t : TableEntry). is_name t.name) s.tables)) x.0 in
    ap (λ (c : Bool). bad_by c (state_of n)) (fit-counts n d.fits)
    ∙ ap (bad_by true) d.state
    ∙ none l.1 (order-left b s y.0) (below_left b s z.0) (behind-left b s s.epoch k ∙ z.1)
