-- What the work below a method tells of the method's own proposition. Assumes nothing.
use mathlib.Core.Path.{◌≡◌, refl, ap, subst, ◌∙◌}
use mathlib.Core.List.{List, [], ◌∷◌, map}
use Prim.Native.Nat.{ℕ, ◌≤◌}
use lib.ListN.{length, length-map}
use Rattle.std.specs.Prelude.{Result, Ok, Err}
use Rattle.std.specs.Result.{result_and}
use Rattle.lists.proofs.Views.{view-length}
use Rattle.ids.specs.declared.refusal.Refusal.{Refusal}
use Rattle.ids.specs.declared.refusal.Refusal.TheVariants.{BadManager}
use Rattle.ids.specs.Verdicts.{◌⇒◌, judged, Verdict}
use Rattle.ids.specs.Answers.{Told, told, after}
use Rattle.manifest.specs.declared.operation.Batch.{Batch}
use Rattle.manifest.specs.Operations.{Operation, operation_of, batch_of}
use Rattle.version_state.specs.declared.VersionManagerInner.{VersionManagerInner}
use Rattle.version_state.specs.State.{State, Hands}
use Rattle.frames.specs.Frames.{texts_of}
use Rattle.commit.specs.Commit.{commit_of, CommitIs}
use Rattle.commit.specs.Lent.{as_line, operations_in}
use Rattle.commit.proofs.Sounds.{onward-given}
use Rattle.commit.proofs.AsLines.{lines-read, commit-same, commit-lines-same}
use Rattle.version_manager.specs.declared.VersionManager.{VersionManager}
use Rattle.version_manager.specs.declared.Answered.{Answered}
use Rattle.version_manager.specs.Answered.{Committed}
use Rattle.version_manager.specs.Managers.{held_by, bad_manager, HandsBack, Settled}
use Rattle.version_manager.proofs.Managers.{manages}
use Rattle.version_manager.specs.Commit.{commit_told, outcome_of, CommitEnds, CommitSays}

-- a commit of a typed batch's lines is one of its operations
module _ (m : VersionManager) (n : ℕ) (os : List Operation) (out : List ℕ) (r : Committed) (out' : List ℕ) where
  outcome-same : outcome_of m n (map as_line os) (length out) ≡ outcome_of m n os (length out)
  outcome-same = ap (result_and (judged ((bad_manager m ⇒ BadManager) ∷ []))) (commit-same (held_by m) n os (length out))

  ends_same : (x : Result State Refusal) → outcome_of m n os (length out) ≡ x → CommitEnds x m (map as_line os) out r out' → CommitEnds x m os out r out'
  ends_same (Ok s) h e =
      let q = commit-lines-same (held_by m) n os (length out) s (onward-given (judged ((bad_manager m ⇒ BadManager) ∷ [])) (commit_of (held_by m) n os (length out)) s h).1 in
      subst (λ (l : List Operation). CommitEnds (Ok s) m l out r out') q e
  ends_same (Err k) h e = e

  pub typed-says : CommitSays m n (map as_line os) out r out' → CommitSays m n os out r out'
  typed-says h = ends_same (outcome_of m n os (length out)) refl (subst (λ (x : Result State Refusal). CommitEnds x m (map as_line os) out r out') outcome-same h)

pub says_same : (m : VersionManager) (n : ℕ) (os : List Operation) (out : List ℕ) (r : Committed) (out' : List ℕ) (k : ℕ) (l : List Operation) → n ≡ k → os ≡ l → CommitSays m n os out r out' → CommitSays m k l out r out'
says_same m n os out r out' k l p q h = subst (λ (x : List Operation). CommitSays m k x out r out') q (subst (λ (x : ℕ). CommitSays m x os out r out') p h)

-- the lines that a batch was turned into
module _ (b : Batch) (l : List ℕ) (whole : b.count ≤ length b.changes) (w : l ≡ texts_of (map as_line (batch_of b))) where
  pub lines_are : operations_in l ≡ map as_line (batch_of b)
  lines_are = ap operations_in w ∙ lines-read (batch_of b)

  pub lines-count : length (operations_in l) ≡ b.count
  lines-count = ap length lines_are ∙ length-map (batch_of b) as_line ∙ view-length operation_of b.changes b.count whole

-- work on the state of a manager that passed 29: what it answers, and what it leaves, go by its verdict
pub settled-says : {T : Type 0} (m : VersionManager) (v : Verdict) (x : T) (s : State) (i : VersionManagerInner) (a : Result T Refusal) (r : Answered T)
    → a ≡ result_and v (Ok x) → Hands i (after v s (held_by m)) → Settled m i a r → (r.answer ≡ result_and v (Ok x)) × HandsBack v m s r.manager
settled-says m (Ok _) x s i a r e h d = let q = subst (λ y. Settled m i y r) e d in (q.0, manages r.manager i s (q.1, q.2) h)
settled-says m (Err k) x s i a r e h d = let q = subst (λ y. Settled m i y r) e d in (q.0, q.1)

-- a number that such a call answers
pub told-number : (f : Result ℕ Refusal → Told) → ((n : ℕ) → f (Ok n) ≡ told (Ok tt) (n ∷ [])) → ((k : Refusal) → f (Err k) ≡ told (Err k) []) → (v : Verdict) (n : ℕ) → f (result_and v (Ok n)) ≡ told v (n ∷ [])
told-number f given none (Ok _) n = given n
told-number f given none (Err k) n = none k

-- a commit that is refused hands back the same manager
pub append-refused : (x : Result State Refusal) (m : VersionManager) (os : List Operation) (out : List ℕ) (a : Result ℕ Refusal) (i : VersionManagerInner) (out' : List ℕ) (k : Refusal) (r : Committed)
    → CommitIs x os out a i out' → a ≡ Err k → r.answer ≡ Err k → r.manager ≡ m → CommitEnds x m os out r out'
append-refused (Ok s) m os out a i out' k r c e q h = absurd (cc (c.0, e))
append-refused (Err j) m os out a i out' k r c e q h = let z : ◌≡◌ {A = Result ℕ Refusal} (Err j) (Err k) = cc (c.0, e) in (ap commit_told q ∙ cc z, h, c.1)
