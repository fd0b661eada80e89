-- A commit from its first test to its last: what each says of the outcome. Assumes nothing.
use mathlib.Core.Path.{◌≡◌, refl, sym, ap, ◌∙◌}
use mathlib.Core.Bool.{false}
use mathlib.Core.List.{List, [], ◌∷◌}
use Prim.Native.Nat.{ℕ, ◌+◌, ◌≤◌, ◌<◌}
use lib.ListN.{length}
use borrow.Author.Tests.{lt-ltb, le-ltb, le-leb, lt-leb}
use Rattle.std.specs.Prelude.{Result, Ok, Err}
use Rattle.std.specs.Result.{result_and}
use Rattle.lists.specs.Written.{over}
use Rattle.ids.specs.Limits.{most_operations, last_epoch, longest_manifest}
use Rattle.ids.specs.declared.refusal.Refusal.{Refusal}
use Rattle.ids.specs.declared.refusal.Refusal.TheVariants.{TooManyOperations, EpochsFull}
use Rattle.ids.specs.Verdicts.{judged, Verdict}
use Rattle.ids.specs.Results.{and_then}
use Rattle.manifest.specs.Operations.{Operation}
use Rattle.version_state.specs.declared.VersionManagerInner.{VersionManagerInner}
use Rattle.version_state.specs.State.{State, state_of, with_epoch, Fit, Hands}
use Rattle.version_state.specs.Sound.{bad_inner}
use Rattle.version_state.proofs.Facts.{sound-of}
use Rattle.operations.specs.Steps.{step_of, steps_of}
use Rattle.operations.specs.Ready.{Ready, Leaves}
use Rattle.commit.specs.Commit.{append_of, last_rules, finish_of, commit_of, CommitIs}
use Rattle.commit.specs.Lent.{operations_in}
use Rattle.commit.proofs.Stepwise.{went, halted, halts, goes}
use Rattle.commit.proofs.Lent.{lent_append, append-lent, append-size}

-- what 29 lets through is ready
pub ready_of : (m : VersionManagerInner) → bad_inner m ≡ false → Ready m × (m.manifest ≤ longest_manifest)
ready_of m b =
    let s = sound-of m b in
    (record { fits = s.fits; tables = s.ordered.tables; pairs = s.ordered.pairs; vectors = s.ordered.vectors; below = s.below }, s.manifest)

-- what is left, n, is handed back
pub handed : (m n : VersionManagerInner) → m ≡ n → Fit n → Hands m (state_of n)
handed m n e f = rw e (record { fits = f; state = refl })

-- Operations under way from the state s at epoch e: before those from i on, which are `rest`, t is left.
abbrev pub Going : State → ℕ → List Operation → ℕ → List Operation → State → Type 0
Going s e os i rest t = steps_of 0 e os s ≡ steps_of i e rest t

module _ (s : State) (e : ℕ) (os : List Operation) where
  module _ (i : ℕ) (o : Operation) (rest : List Operation) (t u : State) (g : Going s e os i (o ∷ rest) t) where
    pub go_on : Leaves (step_of i e o t) (Ok tt) u → Going s e os (i + 1) rest u
    go_on h = g ∙ ap (λ (x : Result State Refusal). and_then x (λ u. steps_of (i + 1) e rest u)) (went _ u h)

    pub go-off : (k : Refusal) → Leaves (step_of i e o t) (Err k) u → Leaves (steps_of 0 e os s) (Err k) u
    go-off k h = halts _ k u (g ∙ ap (λ (x : Result State Refusal). and_then x (λ u. steps_of (i + 1) e rest u)) (halted _ k u h))

  pub gone : (i : ℕ) (t : State) → Going s e os i [] t → Leaves (steps_of 0 e os s) (Ok tt) t
  gone i t g = goes _ t g

-- a commit after the last epoch
pub too-late : (s : State) (n : ℕ) (os : List Operation) (room : ℕ) → n ≤ most_operations → last_epoch ≤ s.epoch → commit_of s n os room ≡ Err EpochsFull
too-late s n os room a h = rw (le-ltb most_operations n a, le-leb last_epoch s.epoch h)

-- The first tests of a commit of operations lent as lines.
module _ (s : List ℕ) (room : ℕ) (m : VersionManagerInner) where
  abbrev os : List Operation
  os = operations_in s

  abbrev outcome : Result State Refusal
  outcome = commit_of (state_of m) (length os) os room

  pub too_many : most_operations < length os → outcome ≡ Err (TooManyOperations 0)
  too_many h = rw (lt-ltb most_operations (length os) h)

  module _ (few : length os ≤ most_operations) where
    -- its steps, which left n
    module _ (early : m.epoch < last_epoch) (n : VersionManagerInner) where
      abbrev e : ℕ
      e = m.epoch + 1

      begun : (x : Result State Refusal) → steps_of 0 e os (state_of m) ≡ x → outcome ≡ and_then x (finish_of e os room)
      begun x h = rw (le-ltb most_operations (length os) few, lt-leb last_epoch m.epoch early, h)

      pub steps-off : (k : Refusal) → Leaves (steps_of 0 e os (state_of m)) (Err k) (state_of n) → outcome ≡ Err k
      steps-off k t = begun (Err k) (halted _ k _ t)

      module _ (t : Leaves (steps_of 0 e os (state_of m)) (Ok tt) (state_of n)) where
        done : steps_of 0 e os (state_of m) ≡ Ok (state_of n)
        done = went _ _ t

        stepped-append : append_of os ≡ lent_append s
        stepped-append = append-lent s e (state_of m) (state_of n) done

        stepped-size : length s + 6 ≡ length (append_of os)
        stepped-size = sym (ap length stepped-append ∙ append-size s)

        -- and the last tests
        module _ (v : Verdict) (j : v ≡ judged (last_rules e (state_of n) (length s + 6) room)) where
          ended : outcome ≡ result_and v (Ok (with_epoch (state_of n) e (n.manifest + length (append_of os))))
          ended =
              begun (Ok (state_of n)) done
              ∙ ap (λ (x : Verdict). result_and x (Ok (with_epoch (state_of n) e (n.manifest + length (append_of os)))))
              (ap (λ (l : ℕ). judged (last_rules e (state_of n) l room)) (sym stepped-size) ∙ sym j)

          pub end-off : (k : Refusal) → v ≡ Err k → outcome ≡ Err k
          end-off k h = ended ∙ rw h

          pub end_on : v ≡ Ok tt → (out out' : List ℕ) (p : VersionManagerInner) → Hands p (with_epoch (state_of n) e (n.manifest + (length s + 6)))
              → out' ≡ over (lent_append s) out → CommitIs outcome os out (Ok (length s + 6)) p out'
          end_on a out out' p h w =
              rw (ended, a, ← stepped-size) (refl, h, w ∙ ap (λ (r : List ℕ). over r out) (sym stepped-append))
