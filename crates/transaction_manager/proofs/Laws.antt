-- What taking and giving back a lock keeps, and what frees one. Assumes nothing.
use mathlib.Core.Path.{◌≡◌, refl, sym, ap, subst, ◌∙◌}
use mathlib.Core.Bool.{Bool, true, false, cond, not, ◌&&◌}
use mathlib.Core.List.{List, [], ◌∷◌, map}
use Prim.Native.Nat.{ℕ, ◌≤◌}
use lib.Dec.{ltb}
use lib.ListN.{take}
use borrow.Author.Tests.{not-true}
use Rattle.std.specs.Prelude.{Ok}
use Rattle.lists.specs.Keyed.{keep, all_of, any_of, has, is_at, without}
use Rattle.lists.proofs.Tests.{by_cases, clash, neither}
use Rattle.lists.proofs.Keyed.{all_map, kept-all, none-any_of, ascend-to, ascend-from, ascending-changed}
use Rattle.ids.specs.Limits.{longest_manifest}
use Rattle.ids.specs.Verdicts.{judged}
use Rattle.ids.proofs.Verdicts.{none-judged}
use Rattle.manifest.specs.Operations.{drop_table}
use Rattle.text.specs.Name.{is_name}
use Rattle.snapshot.specs.Entries.{Entry, shown_by, within}
use Rattle.snapshot.specs.Tables.{TableEntry, by_table, created, with_lock}
use Rattle.version_state.specs.declared.VersionManagerInner.{VersionManagerInner}
use Rattle.version_state.specs.State.{State, state_of, with_tables, Hands}
use Rattle.version_state.specs.Sound.{has_table, has_rowset, left_behind, bad_inner}
use Rattle.version_state.proofs.Facts.{Ordered, sound-of, of-sound}
use Rattle.operations.specs.Effect.{effect}
use Rattle.operations.specs.Judge.{is_live}
use Rattle.transaction_manager.specs.Locks.{is_locked, relocked, lock_rules}

module _ (t : ℕ) (b : Bool) where
  abbrev relock : TableEntry → TableEntry
  relock x = cond (is_at by_table (t ∷ []) x) (with_lock b x) x

  -- a test that does not look at locks
  module _ (p : TableEntry → Bool) (blind : (x : TableEntry) → p (with_lock b x) ≡ p x) where
    relock-blind : (x : TableEntry) → p (relock x) ≡ p x
    relock-blind x = by_cases (is_at by_table (t ∷ []) x) (λ e. rw e (blind x)) (λ e. rw e)

    all-relocked : (l : List TableEntry) → all_of p (map relock l) ≡ all_of p l
    all-relocked [] = refl
    all-relocked (x ∷ l) = rw (relock-blind x, all-relocked l)

    any-relocked : (l : List TableEntry) → any_of p (map relock l) ≡ any_of p l
    any-relocked [] = refl
    any-relocked (x ∷ l) = rw (relock-blind x, any-relocked l)

  has-tables : (ps : List Entry) (l : List TableEntry) → all_of (has_table (map relock l)) ps ≡ all_of (has_table l) ps
  has-tables [] l = refl
  has-tables (x ∷ ps) l = rw (any-relocked (λ y. is_at by_table (take 1 x.ids) y) (λ y. refl) l, has-tables ps l)

  -- a manager that passes 29 passes it with a lock taken or given back
  pub relocked-sound : (m n : VersionManagerInner) → bad_inner m ≡ false → Hands n (relocked t b (state_of m)) → bad_inner n ≡ false
  relocked-sound m n h k =
      let s = sound-of m h in
      let q = sym k.state in
      let l = (state_of m).tables in
      let e = (state_of m).epoch in
      of-sound n
      (record {
        fits = k.fits;
        manifest = subst (λ (u : State). u.manifest ≤ longest_manifest) q s.manifest;
        names = subst (λ (u : State). all_of (λ x. is_name x.name) u.tables ≡ true) q (all-relocked (λ x. is_name x.name) (λ x. refl) l ∙ s.names);
        ordered = subst Ordered q (record { tables = ascend-from by_table (map relock l) (ascending-changed by_table (t ∷ []) (with_lock b) (λ x. refl) l (ascend-to by_table l s.ordered.tables)); pairs = s.ordered.pairs; vectors = s.ordered.vectors });
        below = subst (λ (u : State). all_of (λ x. ltb x.table u.next_table) u.tables ≡ true) q (all-relocked (λ x. ltb x.table (state_of m).next_table) (λ x. refl) l ∙ s.below);
        pairs = subst (λ (u : State). all_of (within u.epoch (u.next_table ∷ u.next_rowset ∷ [])) u.pairs ≡ true) q s.pairs;
        vectors = subst (λ (u : State). all_of (within u.epoch (u.next_table ∷ u.next_rowset ∷ u.next_vector ∷ [])) u.vectors ≡ true) q s.vectors;
        whole = subst (λ (u : State). left_behind u.epoch u ≡ false) q (ap (λ (z : Bool). not (all_of (has_rowset (keep (shown_by e) (state_of m).pairs)) (keep (shown_by e) (state_of m).vectors) && z)) (has-tables (keep (shown_by e) (state_of m).pairs) l) ∙ s.whole);
      })

  pub tables-kept : (s : State) → map (λ (x : TableEntry). created x.table x.shape x.name) (relocked t b s).tables ≡ map (λ (x : TableEntry). created x.table x.shape x.name) s.tables
  tables-kept s = go s.tables
    where
      go : (l : List TableEntry) → map (λ (x : TableEntry). created x.table x.shape x.name) (map relock l) ≡ map (λ (x : TableEntry). created x.table x.shape x.name) l
      go [] = refl
      go (x ∷ l) = by_cases (is_at by_table (t ∷ []) x) (λ e. rw (e, go l)) (λ e. rw (e, go l))

-- the lock of a table of an id is held
abbrev locked_at : ℕ → TableEntry → Bool
locked_at t x = is_at by_table (t ∷ []) x && x.locked

module _ (t : ℕ) where
  freed : (l : List TableEntry) → any_of (locked_at t) (map (relock t false) l) ≡ false
  freed [] = refl
  freed (x ∷ l) = by_cases (is_at by_table (t ∷ []) x) (λ e. cc (freed l)) (λ e. cc (freed l))

  taken : (l : List TableEntry) → has by_table (t ∷ []) l ≡ true → any_of (locked_at t) (map (relock t true) l) ≡ true
  taken [] h = clash h refl
  taken (x ∷ l) h = by_cases (is_at by_table (t ∷ []) x) (λ e. cc) (λ e. cc (taken l (rw e at h)))

  pub lock-is : (b : Bool) (s : State) → is_live t s ≡ true → is_locked t (relocked t b s) ≡ b
  lock-is true s h = taken s.tables h
  lock-is false s h = freed s.tables

  same-again : (l : List TableEntry) → any_of (locked_at t) l ≡ false → map (relock t false) (map (relock t true) l) ≡ l
  same-again [] h = refl
  same-again (x ∷ l) h =
      let d = neither (locked_at t x) (any_of (locked_at t) l) h in
      by_cases (is_at by_table (t ∷ []) x)
      (λ e. let f : x.locked ≡ false = rw e at d.0 in
      let g : with_lock false x ≡ x = ap (λ (z : Bool). with_lock z x) (sym f) in
      cc (g, same-again l d.1))
      (λ e. cc (same-again l d.1))

  pub lock-back : (s : State) → judged (lock_rules t true s) ≡ Ok tt → relocked t false (relocked t true s) ≡ s
  lock-back s h = ap (with_tables s) (same-again s.tables (none-judged (lock_rules t true s) h).1.1.0)

  pub lock-dropped : (e : ℕ) (s : State) → is_locked t (effect e (drop_table t) s) ≡ false
  lock-dropped e s =
      let l = without by_table (t ∷ []) s.tables in
      none-any_of (locked_at t) l (all_map l (λ x h. rw (not-true (is_at by_table (t ∷ []) x) h)) (kept-all (λ x. not (is_at by_table (t ∷ []) x)) s.tables))
