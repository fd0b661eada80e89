-- What an accepted commit leaves passes 29. Assumes nothing.
use mathlib.Core.Path.{◌≡◌, refl, sym, subst, ◌∙◌}
use mathlib.Core.Bool.{true, false, ◌&&◌}
use mathlib.Core.List.{List, [], ◌∷◌}
use Prim.Native.Nat.{ℕ, ◌+◌, ◌<◌, ◌≤◌, max}
use native.Mathlib.Omega.{arith}
use lib.Dec.{ltb}
use lib.ListN.{length, get_or}
use borrow.Author.Tests.{ltb-false, leb-false, lt-ltb, not-false}
use Rattle.std.specs.Prelude.{Result, Ok, Err}
use Rattle.std.specs.Result.{result_and}
use Rattle.lists.specs.Order.{same}
use Rattle.lists.specs.Keyed.{keep, all_of, has}
use Rattle.lists.proofs.Tests.{by_cases, clash, both}
use Rattle.lists.proofs.Order.{same_true}
use Rattle.lists.proofs.Keyed.{All, all_map, all_of-all, all-all_of, all_keep}
use Rattle.text.specs.Name.{is_name}
use Rattle.ids.specs.declared.refusal.Refusal.{Refusal}
use Rattle.ids.specs.Verdicts.{judged, Verdict}
use Rattle.ids.proofs.Verdicts.{none-judged}
use Rattle.manifest.specs.Operations.{Operation, create_table, drop_table, add_rowset, delete_rowset, add_vector, delete_vector, next_ids}
use Rattle.ids.specs.Ids.{Next}
use Rattle.manifest.specs.Edits.{Edit, Edits, edits_of}
use Rattle.snapshot.specs.Entries.{Entry, by_ids, below_next, within, shown_by}
use Rattle.snapshot.specs.Tables.{by_table}
use Rattle.version_state.specs.declared.VersionManagerInner.{VersionManagerInner}
use Rattle.ids.specs.Limits.{most_operations, last_epoch, longest_manifest}
use Rattle.ids.specs.Results.{and_then}
use Rattle.version_state.specs.State.{State, state_of, with_epoch, Hands}
use Rattle.version_state.specs.Sound.{left_behind, bad_inner}
use Rattle.version_state.proofs.Within.{Rises, Within, within_of, of-within, within-up}
use Rattle.version_state.proofs.Facts.{Ordered, Sound, sound-of, of-sound}
use Rattle.version_state.specs.Sets.{next_of}
use Rattle.operations.specs.Effect.{marked, as_entry, raised, applied}
use Rattle.operations.specs.Judge.{op_rules, is_live, is_shown}
use Rattle.operations.specs.Steps.{steps_of}
use Rattle.commit.specs.Commit.{append_of, first_rules, last_rules, finish_of, commit_of}
use Rattle.operations.proofs.Edits.{Adds, adds_map, all-edited, all-marked, rises, well-table}
use Rattle.operations.proofs.Keeps.{Below, below-applied, ordered-applied}
use Rattle.commit.proofs.Stepwise.{halt, steps-keep}

-- all that 29 asks of a state but 17 and the limits
record Kept (e : ℕ) (s : State) : Type 0 where
  names : All (λ t. is_name t.name ≡ true) s.tables
  ordered : Ordered s
  below : Below s.next_table s.tables
  pairs : All (Within e (s.next_table ∷ s.next_rowset ∷ [])) s.pairs
  vectors : All (Within e (s.next_table ∷ s.next_rowset ∷ s.next_vector ∷ [])) s.vectors

-- what holds of every key of a list holds of a key that it has
pub has_all : {A : Type 0} (key : A → List ℕ) (P : List ℕ → Type 0) (k : List ℕ) (l : List A) → All (λ x. P (key x)) l → has key k l ≡ true → P k
has_all key P k [] a h = clash h refl
has_all key P k (x ∷ l) a h =
    by_cases (same (key x) k)
    (λ e. subst P (same_true (key x) k e) a.0)
    (λ e. has_all key P k l a.1 (rw e at h))

live_below : (t : ℕ) (s : State) → Below s.next_table s.tables → is_live t s ≡ true → ltb t s.next_table ≡ true
live_below t s b h = has_all by_table (λ k. ltb (get_or k 0 0) s.next_table ≡ true) (t ∷ []) s.tables b h

shown-below : (e : ℕ) (ns k : List ℕ) (l : List Entry) → All (Within e ns) l → is_shown e k l ≡ true → below_next k ns ≡ true
shown-below e ns k l a h =
    has_all by_ids (λ j. below_next j ns ≡ true) k (keep (shown_by e) l) (all_keep (λ x. below_next (by_ids x) ns ≡ true) (shown_by e) l (all_map l (λ x w. w.ids) a)) h

-- what an operation that is accepted adds has ids below the next ones after it
record Belows (d : Edits) (x : Next) : Type 0 where
  pairs : Adds (λ k. below_next k (x.table ∷ x.rowset ∷ []) ≡ true) d.pairs
  vectors : Adds (λ k. below_next k (x.table ∷ x.rowset ∷ x.vector ∷ []) ≡ true) d.vectors

belows : (e i : ℕ) (o : Operation) (s : State) → Kept e s → judged (op_rules i e o s) ≡ Ok tt → Belows (edits_of o) (raised (edits_of o) (next_of s))
belows e i (create_table t h n) s k a = record { pairs = tt; vectors = tt }
belows e i (drop_table t) s k a = record { pairs = tt; vectors = tt }
belows e i (add_rowset t r) s k a =
    let b = live_below t s k.below (not-false _ (none-judged (op_rules i e (add_rowset t r) s) a).1.0) in
    record { pairs = rw (b, lt-ltb r (max s.next_rowset (r + 1)) (omega arith)); vectors = tt }
belows e i (delete_rowset t r) s k a = record { pairs = tt; vectors = tt }
belows e i (add_vector t r v) s k a =
    let b = shown-below e (s.next_table ∷ s.next_rowset ∷ []) (t ∷ r ∷ []) s.pairs k.pairs (not-false _ (none-judged (op_rules i e (add_vector t r v) s) a).1.0) in
    let c = both (ltb t s.next_table) (ltb r s.next_rowset && true) b in
    let d = both (ltb r s.next_rowset) true c.1 in
    record { pairs = tt; vectors = rw (c.0, d.0, lt-ltb v (max s.next_vector (v + 1)) (omega arith)) }
belows e i (delete_vector t r v) s k a = record { pairs = tt; vectors = tt }
belows e i (next_ids t r v) s k a = record { pairs = tt; vectors = tt }

within-marked : (e : ℕ) (ns ms : List ℕ) (d : Edit (List ℕ)) (l : List Entry) → Rises ns ms → Adds (λ k. below_next k ms ≡ true) d → All (Within e ns) l → All (Within e ms) (marked e d l)
within-marked e ns ms d l up b a =
    all-marked e (Within e ms) d l
    (adds_map d (λ k h. record { added = omega arith; deleted = omega arith; ids = h }) b)
    (λ x w. record { added = w.added; deleted = omega arith; ids = w.ids })
    (within-up e e ns ms (omega arith) up l a)

kept-applied : (e i : ℕ) (o : Operation) (s : State) → Kept e s → judged (op_rules i e o s) ≡ Ok tt → Kept e (applied e o s)
kept-applied e i o s k a =
    let d = edits_of o in
    let x = raised d (next_of s) in
    let b = belows e i o s k a in
    let up = rises d (next_of s) in
    let well = well-table o (not-false _ (none-judged (op_rules i e o s) a).0) in
    record {
      names = all-edited by_table as_entry (λ x. is_name x.name ≡ true) d.tables s.tables (adds_map d.tables (λ t w. w.1) well) k.names;
      ordered = ordered-applied e o s k.ordered;
      below = below-applied e o s k.below;
      pairs = within-marked e (s.next_table ∷ s.next_rowset ∷ []) (x.table ∷ x.rowset ∷ []) d.pairs s.pairs (up.table, (up.rowset, tt)) b.pairs k.pairs;
      vectors = within-marked e (s.next_table ∷ s.next_rowset ∷ s.next_vector ∷ []) (x.table ∷ x.rowset ∷ x.vector ∷ []) d.vectors s.vectors (up.table, (up.rowset, (up.vector, tt))) b.vectors k.vectors;
    }

-- a state that passes 29 begins the next epoch
kept-start : (m : VersionManagerInner) → Sound m → Kept (m.epoch + 1) (state_of m)
kept-start m s =
    record {
      names = all_of-all _ (state_of m).tables s.names;
      ordered = s.ordered;
      below = all_of-all _ (state_of m).tables s.below;
      pairs = within-up m.epoch (m.epoch + 1) _ _ (omega arith) (omega arith, (omega arith, tt)) (state_of m).pairs (all_map (state_of m).pairs (within_of _ _) (all_of-all _ (state_of m).pairs s.pairs));
      vectors = within-up m.epoch (m.epoch + 1) _ _ (omega arith) (omega arith, (omega arith, (omega arith, tt))) (state_of m).vectors (all_map (state_of m).vectors (within_of _ _) (all_of-all _ (state_of m).vectors s.vectors));
    }

-- Taking an accepted commit apart.
pub record Accepts (s : State) (n : ℕ) (os : List Operation) (room : ℕ) (u : State) : Type 0 where
  pub short : n ≤ most_operations
  pub last : s.epoch < last_epoch
  -- what the operations left
  pub done : State
  pub steps : steps_of 0 (s.epoch + 1) os s ≡ Ok done
  pub whole : left_behind (s.epoch + 1) done ≡ false
  pub fits : done.manifest + length (append_of os) ≤ longest_manifest
  pub lent : length (append_of os) ≤ room
  pub state : with_epoch done (s.epoch + 1) (done.manifest + length (append_of os)) ≡ u

pub onward-given : (v : Verdict) (x : Result State Refusal) (s : State) → result_and v x ≡ Ok s → (v ≡ Ok tt) × (x ≡ Ok s)
onward-given (Ok _) x s h = (refl, h)
onward-given (Err k) x s h = absurd (halt h)

then-given : (x : Result State Refusal) (f : State → Result State Refusal) (s : State) → and_then x f ≡ Ok s → (t : State) × (x ≡ Ok t) × (f t ≡ Ok s)
then-given (Ok t) f s h = (t, refl, h)
then-given (Err k) f s h = absurd (halt h)

pub accepts : (s : State) (n : ℕ) (os : List Operation) (room : ℕ) (u : State) → commit_of s n os room ≡ Ok u → Accepts s n os room u
accepts s n os room u h =
    let e = s.epoch + 1 in
    let x = onward-given (judged (first_rules s n)) (and_then (steps_of 0 e os s) (finish_of e os room)) u h in
    let f = none-judged (first_rules s n) x.0 in
    let y = then-given (steps_of 0 e os s) (finish_of e os room) u x.1 in
    let t = y.0 in
    let z = onward-given (judged (last_rules e t (length (append_of os)) room)) (Ok (with_epoch t e (t.manifest + length (append_of os)))) u y.2 in
    let g = none-judged (last_rules e t (length (append_of os)) room) z.0 in
    let q : with_epoch t e (t.manifest + length (append_of os)) ≡ u = cc z.1 in
    record {
      short = ltb-false most_operations n f.0;
      last = leb-false last_epoch s.epoch f.1.0;
      done = t;
      steps = y.1;
      whole = g.0;
      fits = ltb-false longest_manifest (t.manifest + length (append_of os)) g.1.0;
      lent = ltb-false room (length (append_of os)) g.1.1.0;
      state = q;
    }

pub commit-sound : (m n : VersionManagerInner) (k : ℕ) (os : List Operation) (room : ℕ) (s : State) → bad_inner m ≡ false → commit_of (state_of m) k os room ≡ Ok s → Hands n s → bad_inner n ≡ false
commit-sound m n k os room s b h z =
    let a = accepts (state_of m) k os room s h in
    let t = a.done in
    let e = m.epoch + 1 in
    let p = steps-keep (Kept e) e (λ i o u q j. kept-applied e i o u q j) 0 os (state_of m) t (kept-start m (sound-of m b)) a.steps in
    let q : state_of n ≡ with_epoch t e (t.manifest + length (append_of os)) = z.state ∙ sym a.state in
    of-sound n (back n t e (t.manifest + length (append_of os)) z q p a.whole a.fits)
  where
    back : (n : VersionManagerInner) (t : State) (e l : ℕ) → Hands n s → state_of n ≡ with_epoch t e l → Kept e t → left_behind e t ≡ false → l ≤ longest_manifest → Sound n
    back n t e l k q p w f =
        record {
          fits = k.fits;
          manifest = subst (λ (u : State). u.manifest ≤ longest_manifest) (sym q) f;
          names = subst (λ (u : State). all_of (λ x. is_name x.name) u.tables ≡ true) (sym q) (all-all_of _ t.tables p.names);
          ordered = subst Ordered (sym q) (record { tables = p.ordered.tables; pairs = p.ordered.pairs; vectors = p.ordered.vectors });
          below = subst (λ (u : State). all_of (λ x. ltb x.table u.next_table) u.tables ≡ true) (sym q) (all-all_of _ t.tables p.below);
          pairs = subst (λ (u : State). all_of (within u.epoch (u.next_table ∷ u.next_rowset ∷ [])) u.pairs ≡ true) (sym q) (all-all_of _ t.pairs (all_map t.pairs (of-within e _) p.pairs));
          vectors = subst (λ (u : State). all_of (within u.epoch (u.next_table ∷ u.next_rowset ∷ u.next_vector ∷ [])) u.vectors ≡ true) (sym q) (all-all_of _ t.vectors (all_map t.vectors (of-within e _) p.vectors));
          whole = subst (λ (u : State). left_behind u.epoch u ≡ false) (sym q) w;
        }
