-- A compaction's operations, all together: how many they are, and what its parts' verdicts make. Assumes nothing.
use mathlib.Core.Path.{◌≡◌, sym, ap, ◌∙◌}
use mathlib.Core.Bool.{true}
use mathlib.Core.List.{List, [], ◌∷◌, ◌++◌, map}
use Prim.Native.Nat.{ℕ, ◌+◌, ◌-◌, ◌≤◌}
use native.Mathlib.Omega.{arith}
use lib.Dec.{ltb}
use lib.ListN.{length, length-append, length-map}
use borrow.Author.Tests.{le-ltb, lt-ltb, ltb-true, ltb-false}
use Rattle.std.specs.Prelude.{Ok, Err, Some, None, is_ok}
use Rattle.std.specs.Result.{result_and, IsErrAnd}
use Rattle.lists.specs.Keyed.{keep}
use Rattle.lists.proofs.Tests.{by_cases, clash}
use Rattle.ids.specs.Limits.{most_operations}
use Rattle.ids.specs.declared.refusal.Refusal.{Refusal}
use Rattle.ids.specs.Verdicts.{judged, Verdict}
use Rattle.ids.proofs.Verdicts.{judged-append}
use Rattle.columns.proofs.Rows.{rows-length}
use Rattle.manifest.specs.Operations.{Operation, add_rowset, delete_rowset}
use Rattle.frames.specs.Frames.{texts_of}
use Rattle.frames.proofs.Texts.{frame-long}
use Rattle.snapshot.specs.Entries.{entry_at}
use Rattle.version_state.specs.declared.VersionManagerInner.{VersionManagerInner}
use Rattle.version_state.specs.State.{state_of, vectors_at}
use Rattle.commit.specs.Commit.{append_of}
use Rattle.table.specs.Made.{is_over, delete_vector_of}
use Rattle.table.specs.Compact.{compacted_by, valid_compaction, compact_state, compact_last, compact_rules}
use Rattle.table.specs.Says.{MadeIs}
use Rattle.compaction.specs.New.{NewRowset, new_of}

-- at most one
pub few-new : (n : NewRowset) → length (new_of n) ≤ 1
few-new None = omega arith
few-new (Some r) = omega arith

pub pairs_of : (m : VersionManagerInner) → length (state_of m).pairs ≡ m.rowsets.count
pairs_of m = rows-length (entry_at (m.rowsets.tables ∷ m.rowsets.rowsets ∷ []) m.rowsets.added m.rowsets.deleted) m.rowsets.count

-- more than what a and b leave
pub left-long : (a b k n : ℕ) → a + b ≤ most_operations → n ≡ a + b + k → ltb (most_operations - a - b) k ≡ ltb most_operations n
left-long a b k n h e =
    by_cases (ltb (most_operations - a - b) k)
    (λ t. let u = ltb-true (most_operations - a - b) k t in rw (t, lt-ltb most_operations n (omega arith)))
    (λ t. let u = ltb-false (most_operations - a - b) k t in rw (t, le-ltb most_operations n (omega arith)))

module _ (m : VersionManagerInner) (t : ℕ) (new taken : List ℕ) where
  abbrev operations : List Operation
  operations = compacted_by (state_of m) t new taken

  pub counted : length operations ≡ length new + length (keep (is_over t taken) (vectors_at m.epoch (state_of m))) + length taken
  counted =
      let vs = keep (is_over t taken) (vectors_at m.epoch (state_of m)) in
      omega (arith, length-append (map (add_rowset t) new) (map delete_vector_of vs ++ map (delete_rowset t) taken), length-append (map delete_vector_of vs) (map (delete_rowset t) taken), length-map taken (delete_rowset t), length-map new (add_rowset t), length-map vs delete_vector_of)

  module _ (room : ℕ) (valid : valid_compaction (state_of m) t new taken ≡ true) (short : length operations ≤ most_operations) where
    passed : judged (compact_rules (state_of m) t new taken room) ≡ result_and (judged (compact_state (state_of m) t new taken)) (judged (compact_last (state_of m) t (length (append_of operations)) room))
    passed = rw (valid, le-ltb most_operations (length operations) short) (judged-append (compact_state (state_of m) t new taken) (compact_last (state_of m) t (length (append_of operations)) room))

    pub state-refused : (q : Refusal) → judged (compact_state (state_of m) t new taken) ≡ Err q → judged (compact_rules (state_of m) t new taken room) ≡ Err q
    state-refused q h = passed ∙ ap (λ (v : Verdict). result_and v (judged (compact_last (state_of m) t (length (append_of operations)) room))) h

    -- n bytes of lines
    pub last-judged : (n : ℕ) → n ≡ length (texts_of operations) → judged (compact_state (state_of m) t new taken) ≡ Ok tt → judged (compact_rules (state_of m) t new taken room) ≡ judged (compact_last (state_of m) t (n + 6) room)
    last-judged n e h =
        let size : length (append_of operations) ≡ n + 6 = omega (arith, frame-long operations, e) in
        passed
        ∙ ap (λ (v : Verdict). result_and v (judged (compact_last (state_of m) t (length (append_of operations)) room))) h
        ∙ ap (λ (k : ℕ). judged (compact_last (state_of m) t k room)) size

module _ (v : Verdict) (os : List Operation) (l : List ℕ) where
  pub refused : (r : Verdict) (q : Refusal) → IsErrAnd r (λ k. k ≡ q) → v ≡ Err q → MadeIs v os r l
  refused (Ok n) q h e = absurd h
  refused (Err k) q h e = record { answer = rw (h, e); made = λ a. clash (ap is_ok a) (ap is_ok e) }

  -- the last verdict decides
  pub ended : (r : Verdict) → l ≡ texts_of os → v ≡ r → MadeIs v os r l
  ended r w h = record { answer = sym h; made = λ a. w }
