-- Deletions one after another of what is shown: each is accepted, and what they leave. Assumes nothing.
use mathlib.Core.Path.{◌≡◌, refl, sym, ap, subst, ◌∙◌}
use mathlib.Core.Bool.{Bool, true, not, ◌&&◌}
use mathlib.Core.List.{List, [], ◌∷◌, ◌++◌, map}
use Prim.Native.Nat.{ℕ, ◌+◌, ◌≤◌}
use native.Mathlib.Omega.{arith}
use lib.ListN.{length}
use Rattle.std.specs.Prelude.{Ok}
use Rattle.lists.specs.Order.{less}
use Rattle.lists.specs.Keyed.{keep, any_of, is_at, has, without, changed}
use Rattle.lists.proofs.Tests.{not_or}
use Rattle.lists.proofs.Order.{more_same, same_true}
use Rattle.lists.proofs.Keyed.{All, Ascending, keep-keep, keep_same, all_any}
use Rattle.lists.proofs.Kept.{has-keep, keep-changed}
use Rattle.manifest.specs.Operations.{Operation, well_formed}
use Rattle.snapshot.specs.Entries.{Entry, deleted_at, shown_by, by_ids}
use Rattle.snapshot.proofs.Entries.{hides-deleted}
use Rattle.version_state.specs.State.{State}
use Rattle.operations.specs.Effect.{applied}
use Rattle.operations.specs.Judge.{is_shown}
use Rattle.operations.specs.Steps.{step_of, steps_of}

-- the keys of one list are those of an entry
abbrev pub among : List (List ℕ) → Entry → Bool
among ks x = any_of (λ k. is_at by_ids k x) ks

-- the entries of these keys deleted at epoch e
abbrev pub deleted_all : ℕ → List (List ℕ) → List Entry → List Entry
deleted_all e [] l = l
deleted_all e (k ∷ ks) l = deleted_all e ks (changed by_ids k (deleted_at e) l)

module _ (e : ℕ) (late : 1 ≤ e) where
  shown-changed : (k : List ℕ) (l : List Entry) → keep (shown_by e) (changed by_ids k (deleted_at e) l) ≡ without by_ids k (keep (shown_by e) l)
  shown-changed k l = keep-changed by_ids (shown_by e) k (deleted_at e) (λ x. hides-deleted e x late) l

  pub shown-marked : (ks : List (List ℕ)) (l : List Entry) → keep (shown_by e) (deleted_all e ks l) ≡ keep (λ x. not (among ks x)) (keep (shown_by e) l)
  shown-marked [] l = sym (keep-true (keep (shown_by e) l))
    where
      keep-true : (l : List Entry) → keep (λ x. true) l ≡ l
      keep-true [] = refl
      keep-true (x ∷ l) = ap (λ (m : List Entry). x ∷ m) (keep-true l)
  shown-marked (k ∷ ks) l =
      shown-marked ks (changed by_ids k (deleted_at e) l)
      ∙ ap (keep (λ x. not (among ks x))) (shown-changed k l)
      ∙ keep-keep (λ x. not (among ks x)) (λ x. not (is_at by_ids k x)) (keep (shown_by e) l)
      ∙ keep_same (λ x. not (is_at by_ids k x) && not (among ks x)) (λ x. not (among (k ∷ ks) x)) (keep (shown_by e) l) (all_any (keep (shown_by e) l) (λ x. not_or (is_at by_ids k x) (among ks x)))

  -- another one is shown as before
  still-shown : (j k : List ℕ) (l : List Entry) → less j k ≡ true → is_shown e k (changed by_ids j (deleted_at e) l) ≡ is_shown e k l
  still-shown j k l h =
      ap (has by_ids k) (shown-changed j l)
      ∙ has-keep by_ids k (λ x. not (is_at by_ids j x)) (keep (shown_by e) l) (λ x t. rw (same_true (by_ids x) k t, more_same j k h))

  module _ (form : List ℕ → List ℕ) (op : List ℕ → Operation) (get : State → List Entry) (set : State → List Entry → State)
      (accepted : (i : ℕ) (k : List ℕ) (s : State) → well_formed (op k) ≡ true → is_shown e (form k) (get s) ≡ true → step_of i e (op k) s ≡ Ok (applied e (op k) s))
      (acts : (k : List ℕ) (s : State) → applied e (op k) s ≡ set s (changed by_ids (form k) (deleted_at e) (get s)))
      (got : (s : State) (l : List Entry) → get (set s l) ≡ l)
      (again : (s : State) (l m : List Entry) → set (set s l) m ≡ set s m)
      (same_set : (s : State) → set s (get s) ≡ s) where
    pub deletes : (i : ℕ) (ks : List (List ℕ)) (rest : List Operation) (s : State)
        → All (λ k. form k ≡ k) ks → All (λ k. well_formed (op k) ≡ true) ks → Ascending (λ k. k) ks → All (λ k. is_shown e k (get s) ≡ true) ks
        → steps_of i e (map op ks ++ rest) s ≡ steps_of (i + length ks) e rest (set s (deleted_all e ks (get s)))
    deletes i [] rest s f w a h = ap (λ (j : ℕ). steps_of j e rest s) (omega arith) ∙ ap (steps_of (i + 0) e rest) (sym (same_set s))
    deletes i (k ∷ ks) rest s f w a h =
        let t = applied e (op k) s in
        let q : t ≡ set s (changed by_ids k (deleted_at e) (get s)) = acts k s ∙ ap (λ (j : List ℕ). set s (changed by_ids j (deleted_at e) (get s))) f.0 in
        let g : get t ≡ changed by_ids k (deleted_at e) (get s) = ap get q ∙ got s (changed by_ids k (deleted_at e) (get s)) in
        let shows : All (λ j. is_shown e j (get t) ≡ true) ks =
        subst (λ (l : List Entry). All (λ j. is_shown e j l ≡ true) ks) (sym g) (later k ks (get s) a.0 h.1) in
        rw (accepted i k s w.0 (subst (λ (j : List ℕ). is_shown e j (get s) ≡ true) (sym f.0) h.0))
        (deletes (i + 1) ks rest t f.1 w.1 a.1 shows
        ∙ ap (λ (j : ℕ). steps_of j e rest (set t (deleted_all e ks (get t)))) (omega arith)
        ∙ ap (steps_of (i + length (k ∷ ks)) e rest) (ap (λ (u : List Entry). set t (deleted_all e ks u)) g ∙ ap (λ (u : State). set u (deleted_all e ks (changed by_ids k (deleted_at e) (get s)))) q ∙ again s _ _))
      where
        later : (k : List ℕ) (ks : List (List ℕ)) (l : List Entry) → All (λ j. less k j ≡ true) ks → All (λ j. is_shown e j l ≡ true) ks → All (λ j. is_shown e j (changed by_ids k (deleted_at e) l) ≡ true) ks
        later k [] l a h = tt
        later k (j ∷ ks) l a h = (still-shown k j l a.0 ∙ h.0, later k ks l a.1 h.1)
