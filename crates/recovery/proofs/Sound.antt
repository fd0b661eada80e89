-- What a replay gives passes 29. Assumes nothing.
use mathlib.Core.Path.{◌≡◌, refl, sym, ap, subst, ◌∙◌}
use mathlib.Core.Bool.{Bool, true, false}
use mathlib.Core.List.{List, [], ◌∷◌}
use Prim.Native.Nat.{ℕ, ◌<◌, ◌≤◌}
use native.Mathlib.Omega.{arith}
use lib.Dec.{ltb, eqb}
use lib.ListN.{length, get_or, take}
use borrow.Author.Tests.{eqb-true, lt-ltb, le-leb, not-false}
use Rattle.std.specs.Prelude.{Ok}
use Rattle.lists.specs.Order.{same}
use Rattle.lists.specs.Keyed.{keep, all_of, has}
use Rattle.lists.proofs.Tests.{by_cases, clash, both}
use Rattle.lists.proofs.Order.{same-sym}
use Rattle.lists.proofs.Keyed.{All, all_map, all_of-all, all-all_of, none-any_of, keep_all, kept-all, all_both}
use Rattle.ids.specs.Ids.{largest32}
use Rattle.text.specs.Name.{is_name}
use Rattle.snapshot.specs.Entries.{Entry, by_ids, gone_at, shown_at, shown_by, below_next, within}
use Rattle.snapshot.specs.Tables.{TableEntry, by_table}
use Rattle.version_state.specs.declared.VersionManagerInner.{VersionManagerInner}
use Rattle.ids.specs.Limits.{longest_manifest}
use Rattle.version_state.specs.State.{State, with_epoch, Hands}
use Rattle.version_state.specs.Sound.{left_behind, bad_inner}
use Rattle.version_state.proofs.Within.{of-within}
use Rattle.version_state.proofs.Facts.{Ordered, of-sound}
use Rattle.commit.proofs.Sounds.{has_all}
use Rattle.replay.specs.Replay.{reopened, stands, replay_of}
use Rattle.recovery.specs.Rewritable.{names_differ, ids_below}
use Rattle.recovery.proofs.SoundState.{Pairwise, Other, Added, two, three}
use Rattle.recovery.proofs.SoundReading.{Whole, whole-replayed}
use Rattle.recovery.proofs.SoundSets.{Passes}

all_three : {A : Type 0} {P Q R S : A → Type 0} (l : List A) → ((x : A) → P x → Q x → R x → S x) → All P l → All Q l → All R l → All S l
all_three [] f p q r = tt
all_three (x ∷ l) f p q r = (f x p.0 q.0 r.0, all_three l f p.1 q.1 r.1)

others-differ : (l : List TableEntry) → Pairwise Other l → names_differ l ≡ true
others-differ [] h = refl
others-differ (x ∷ l) h = rw (none-any_of (λ t. same t.name x.name) l (all_map l (λ y t. same-sym y.name x.name ∙ t) h.0), others-differ l h.1)

-- an entry that stands was not deleted
pub standing : (x : Entry) → stands x ≡ true → x.deleted ≡ 0
standing x h = by_cases (eqb x.deleted 0) (λ e. eqb-true x.deleted 0 e) (λ e. clash {b = false} (rw e at h) refl)

now-shown : (x : Entry) → x.added ≡ reopened → x.deleted ≡ 0 → shown_by reopened x ≡ true
unfolding shown_at gone_at
now-shown x a d = rw (a, d)

all_shown : (f : List ℕ → List ℕ) (i n : ℕ) (l : List Entry) → All (Added f i n) l → All (λ x. stands x ≡ true) l → keep (shown_by reopened) l ≡ l
all_shown f i n l a b = keep_all (shown_by reopened) l (all_both l (λ x w h. now-shown x w.added (standing x h)) a b)

-- the ids k of a pair, and of a vector, below the next ones
abbrev LowPair : State → List ℕ → Type 0
LowPair s k = (get_or k 0 0 < s.next_table) × (get_or k 1 0 < s.next_rowset)

abbrev LowVector : State → List ℕ → Type 0
LowVector s k = (get_or k 0 0 < s.next_table) × (get_or k 1 0 < s.next_rowset) × (get_or k 2 0 < s.next_vector)

module _ (s : State) (w : Whole s) where
  low-pairs : All (λ x. LowPair s (by_ids x)) s.pairs
  low-pairs =
      all_both s.pairs (λ x a h.
      let b = has_all by_table (λ k. get_or k 0 0 < s.next_table) (take 1 (by_ids x)) s.tables (all_map s.tables (λ t m. m.below) w.rests.kept.tables) h in
      (subst (λ (k : List ℕ). get_or k 0 0 < s.next_table) (ap (take 1) a.ids) b, a.below))
      w.rests.kept.pairs (all_of-all (λ p. has by_table (take 1 (by_ids p)) s.tables) s.pairs (not-false _ w.tables))

  owned : All (λ v. has by_ids (take 2 (by_ids v)) s.pairs ≡ true) s.vectors
  owned =
      let q : Entry → Bool = λ v. has by_ids (take 2 (by_ids v)) s.pairs in
      subst (λ (l : List Entry). All (λ v. q v ≡ true) l) (ap (λ (u : State). u.vectors) w.rowsets) (kept-all q s.vectors)

  low-vectors : All (λ x. LowVector s (by_ids x)) s.vectors
  low-vectors =
      all_both s.vectors (λ x a h.
      let b = subst (LowPair s) (ap (take 2) a.ids) (has_all by_ids (LowPair s) (take 2 (by_ids x)) s.pairs low-pairs h) in
      (b.0, b.1, a.below))
      w.rests.kept.vectors owned

  pub pairs-shown : keep (shown_by s.epoch) s.pairs ≡ s.pairs
  pairs-shown = rw w.rests.kept.epoch (all_shown two 1 s.next_rowset s.pairs w.rests.kept.pairs w.rests.pairs)

  pub vectors-shown : keep (shown_by s.epoch) s.vectors ≡ s.vectors
  vectors-shown = rw w.rests.kept.epoch (all_shown three 2 s.next_vector s.vectors w.rests.kept.vectors w.rests.vectors)

  complete : left_behind s.epoch s ≡ false
  complete = rw (pairs-shown, vectors-shown, all-all_of _ s.vectors owned) w.tables

  pub whole-passes : Passes s
  whole-passes =
      let k = w.rests.kept in
      record {
        ordered = k.ordered;
        few = record { tables = w.rests.table_count; pairs = w.rests.pair_count; vectors = w.rests.vector_count };
        widths =
            record {
              next = record { table = k.next_table; rowset = k.next_rowset; vector = k.next_vector };
              shapes = all-all_of _ s.tables (all_map s.tables (λ t g. le-leb t.shape largest32 g.shape) k.tables);
            };
        names = all-all_of _ s.tables (all_map s.tables (λ t g. g.name) k.tables);
        differ = others-differ s.tables k.names;
        below = all-all_of _ s.tables (all_map s.tables (λ t g. lt-ltb t.table s.next_table g.below) k.tables);
        pairs = all_both s.pairs (λ x a b. ap (ids_below (s.next_table ∷ s.next_rowset ∷ [])) a.ids ∙ rw (lt-ltb _ _ b.0, lt-ltb _ _ b.1)) k.pairs low-pairs;
        vectors = all_both s.vectors (λ x a b. ap (ids_below (s.next_table ∷ s.next_rowset ∷ s.next_vector ∷ [])) a.ids ∙ rw (lt-ltb _ _ b.0, lt-ltb _ _ b.1, lt-ltb _ _ b.2)) k.vectors low-vectors;
        whole = complete;
      }

  -- nothing is above the epoch: it was added then, and stands
  now-within : (f : List ℕ → List ℕ) (i n : ℕ) (ns : List ℕ) (l : List Entry) → All (Added f i n) l → All (λ x. stands x ≡ true) l → All (λ x. ids_below ns (by_ids x) ≡ true) l → all_of (within s.epoch ns) l ≡ true
  now-within f i n ns l a b c =
      let e = w.rests.kept.epoch in
      all-all_of (within s.epoch ns) l
      (all_three l (λ x g h k.
      let d = standing x h in
      of-within s.epoch ns x (record { added = omega (arith, g.added); deleted = omega arith; ids = (both (eqb (length (by_ids x)) (length ns)) (below_next (by_ids x) ns) k).1 })) a b c)

  whole-sound : (m : VersionManagerInner) (n : ℕ) → n ≤ longest_manifest → Hands m (with_epoch s s.epoch n) → bad_inner m ≡ false
  whole-sound m n h k =
      let q = sym k.state in
      let p = whole-passes in
      of-sound m
      (record {
        fits = k.fits;
        manifest = subst (λ (u : State). u.manifest ≤ longest_manifest) q h;
        names = subst (λ (u : State). all_of (λ x. is_name x.name) u.tables ≡ true) q p.names;
        ordered = subst Ordered q (record { tables = p.ordered.tables; pairs = p.ordered.pairs; vectors = p.ordered.vectors });
        below = subst (λ (u : State). all_of (λ x. ltb x.table u.next_table) u.tables ≡ true) q p.below;
        pairs = subst (λ (u : State). all_of (within u.epoch (u.next_table ∷ u.next_rowset ∷ [])) u.pairs ≡ true) q (now-within two 1 s.next_rowset _ s.pairs w.rests.kept.pairs w.rests.pairs p.pairs);
        vectors = subst (λ (u : State). all_of (within u.epoch (u.next_table ∷ u.next_rowset ∷ u.next_vector ∷ [])) u.vectors ≡ true) q (now-within three 2 s.next_vector _ s.vectors w.rests.kept.vectors w.rests.vectors p.vectors);
        whole = subst (λ (u : State). left_behind u.epoch u ≡ false) q p.whole;
      })

pub replay-sound : (src : List ℕ) (s : State) (m : VersionManagerInner) (n : ℕ) → replay_of src ≡ Ok s → n ≤ longest_manifest → Hands m (with_epoch s s.epoch n) → bad_inner m ≡ false
replay-sound src s m n h = whole-sound s (whole-replayed src s h) m n
