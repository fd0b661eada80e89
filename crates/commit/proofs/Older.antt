-- What an older epoch shows is untouched by a commit. Assumes nothing.
use mathlib.Core.Path.{◌≡◌, refl, sym, ap, ◌∙◌}
use mathlib.Core.Bool.{true, false}
use mathlib.Core.List.{List, [], ◌∷◌, map}
use Prim.Native.Nat.{ℕ, ◌+◌, ◌<◌, ◌≤◌}
use native.Mathlib.Omega.{arith}
use lib.Dec.{leb, eqb}
use borrow.Author.Tests.{leb-false, lt-leb, ne_eqb}
use Rattle.std.specs.Prelude.{Ok}
use Rattle.lists.specs.Keyed.{keep, is_at, has, put, changed}
use Rattle.lists.proofs.Tests.{by_cases, clash, neither}
use Rattle.lists.proofs.Order.{same_true}
use Rattle.lists.proofs.Keyed.{All, Ascending, ascend-to, after-absent, put-new, keep-placed-out}
use Rattle.ids.specs.Verdicts.{judged}
use Rattle.manifest.specs.Operations.{Operation}
use Rattle.manifest.specs.Edits.{Edit, leaves, adds, deletes, edits_of}
use Rattle.snapshot.specs.Entries.{Entry, added_at, deleted_at, by_ids, gone_at, shown_at, shown_by, shown}
use Rattle.version_state.specs.declared.VersionManagerInner.{VersionManagerInner}
use Rattle.version_state.specs.State.{State, state_of, pairs_at, vectors_at}
use Rattle.version_state.specs.Sound.{bad_inner}
use Rattle.version_state.proofs.Facts.{Ordered, sound-of}
use Rattle.operations.specs.Effect.{marked, applied}
use Rattle.operations.specs.Judge.{op_rules, is_shown}
use Rattle.commit.specs.Commit.{commit_of}
use Rattle.operations.proofs.Keeps.{ordered-applied}
use Rattle.operations.proofs.Edits.{EntryFits, fits}
use Rattle.commit.proofs.Stepwise.{steps-keep}
use Rattle.commit.proofs.Sounds.{accepts}

-- an entry that epoch e adds is not shown before it
not_yet : (d e : ℕ) (k : List ℕ) → d < e → shown_by d (added_at e k) ≡ false
unfolding shown_at
not_yet d e k h = rw (lt-leb e d h)

-- an entry that epoch e shows, deleted there, is shown before e as it was
as_before : (d e : ℕ) (x : Entry) → d < e → shown_by e x ≡ true → shown_by d (deleted_at e x) ≡ shown_by d x
unfolding shown_at gone_at
as_before d e x h s =
    by_cases (leb x.added e)
    (λ a. by_cases (eqb x.deleted 0)
    (λ z. rw (z, ne_eqb e 0 (omega arith), lt-leb e d h))
    (λ z.
    let g : leb x.deleted e ≡ false = by_cases (leb x.deleted e) (λ t. clash {b = false} (rw (a, z, t) at s) refl) (λ t. t) in
    rw (z, ne_eqb e 0 (omega arith), lt-leb e d h, lt-leb x.deleted d (omega (arith, leb-false x.deleted e g)))))
    (λ a. clash {b = false} (rw a at s) refl)

shown-put : (d : ℕ) (x : Entry) (l : List Entry) → has by_ids (by_ids x) l ≡ false → shown_by d x ≡ false → shown d (put by_ids x l) ≡ shown d l
shown-put d x l n h = ap (map by_ids) (ap (keep (shown_by d)) (put-new by_ids x l n) ∙ keep-placed-out by_ids (shown_by d) x l h)

-- of a list in order, what has the ids k is shown by e where some entry with them is
all_shown : (e : ℕ) (k : List ℕ) (l : List Entry) → Ascending by_ids l → is_shown e k l ≡ true → All (λ x. is_at by_ids k x ≡ true → shown_by e x ≡ true) l
all_shown e k [] a h = tt
all_shown e k (x ∷ l) a h =
    by_cases (is_at by_ids k x)
    (λ t. let q = same_true x.ids k t in
    let absent : has by_ids k l ≡ false = rw (← q) (after-absent by_ids x.ids l a.0) in
    (λ _. by_cases (shown_by e x) (λ s. s) (λ s. clash (rw s at h) (no_more l absent)), none l absent))
    (λ t. (λ u. clash u t, all_shown e k l a.1 (by_cases (shown_by e x) (λ s. rw (s, t) at h) (λ s. rw s at h))))
  where
    no_more : (l : List Entry) → has by_ids k l ≡ false → has by_ids k (keep (shown_by e) l) ≡ false
    no_more [] n = refl
    no_more (y ∷ l) n =
        let d = neither (is_at by_ids k y) (has by_ids k l) n in
        by_cases (shown_by e y) (λ s. rw (s, d.0) (no_more l d.1)) (λ s. rw s (no_more l d.1))

    none : (l : List Entry) → has by_ids k l ≡ false → All (λ y. is_at by_ids k y ≡ true → shown_by e y ≡ true) l
    none [] n = tt
    none (y ∷ l) n =
        let d = neither (is_at by_ids k y) (has by_ids k l) n in
        (λ u. clash u d.0, none l d.1)

shown-deleted : (d e : ℕ) (k : List ℕ) (l : List Entry) → d < e → All (λ x. is_at by_ids k x ≡ true → shown_by e x ≡ true) l
    → shown d (changed by_ids k (deleted_at e) l) ≡ shown d l
shown-deleted d e k [] h a = refl
shown-deleted d e k (x ∷ l) h a =
    let ih = shown-deleted d e k l h a.1 in
    by_cases (is_at by_ids k x)
    (λ t. let q = as_before d e x h (a.0 t) in
    by_cases (shown_by d x)
    (λ s. rw (t, q, s) (ap (λ (m : List (List ℕ)). x.ids ∷ m) ih))
    (λ s. rw (t, q, s) ih))
    (λ t. by_cases (shown_by d x)
    (λ s. rw (t, s) (ap (λ (m : List (List ℕ)). x.ids ∷ m) ih))
    (λ s. rw (t, s) ih))

-- what is kept of a state s while a commit at epoch e goes on from s₀
record Same (e : ℕ) (s₀ s : State) : Type 0 where
  ordered : Ordered s
  pairs : (d : ℕ) → d < e → pairs_at d s ≡ pairs_at d s₀
  vectors : (d : ℕ) → d < e → vectors_at d s ≡ vectors_at d s₀

module _ (d e : ℕ) (before : d < e) where
  shown-marked : (f : Edit (List ℕ)) (l : List Entry) → Ascending by_ids l → EntryFits e f l → shown d (marked e f l) ≡ shown d l
  shown-marked leaves l a h = refl
  shown-marked (adds k) l a h = shown-put d (added_at e k) l h.0 (not_yet d e k before)
  shown-marked (deletes k) l a h = shown-deleted d e k l before (all_shown e k l a h)

same-applied : (e : ℕ) (s₀ : State) (i : ℕ) (o : Operation) (s : State) → Same e s₀ s → judged (op_rules i e o s) ≡ Ok tt → Same e s₀ (applied e o s)
same-applied e s₀ i o s k a =
    let f = fits i e o s a in
    let d = edits_of o in
    record {
      ordered = ordered-applied e o s k.ordered;
      pairs = λ c h. shown-marked c e h d.pairs s.pairs (ascend-to by_ids s.pairs k.ordered.pairs) f.pairs ∙ k.pairs c h;
      vectors = λ c h. shown-marked c e h d.vectors s.vectors (ascend-to by_ids s.vectors k.ordered.vectors) f.vectors ∙ k.vectors c h;
    }

module _ (m : VersionManagerInner) (n : ℕ) (os : List Operation) (room : ℕ) (s : State) (b : bad_inner m ≡ false) (h : commit_of (state_of m) n os room ≡ Ok s) (d : ℕ) (k : d ≤ m.epoch) where
  kept : Same (m.epoch + 1) (state_of m) (accepts (state_of m) n os room s h).done
  kept =
      let a = accepts (state_of m) n os room s h in
      let e = m.epoch + 1 in
      steps-keep (Same e (state_of m)) e (same-applied e (state_of m)) 0 os (state_of m) a.done
      (record { ordered = (sound-of m b).ordered; pairs = λ d h. refl; vectors = λ d h. refl }) a.steps

  pub older-pairs : pairs_at d s ≡ pairs_at d (state_of m)
  older-pairs = ap (pairs_at d) (sym (accepts (state_of m) n os room s h).state) ∙ kept.pairs d (omega arith)

  pub older-vectors : vectors_at d s ≡ vectors_at d (state_of m)
  older-vectors = ap (vectors_at d) (sym (accepts (state_of m) n os room s h).state) ∙ kept.vectors d (omega arith)
