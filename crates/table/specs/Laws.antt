-- Where a call's own rules pass, the one commit accepts what the call has made; and what is then shown. Assumes nothing.
use Rattle.std.specs.Prelude.{◌≡◌, true, false, not, List, [], ◌∷◌, map, ℕ, ◌+◌, ◌≤◌, length, Ok}
use Rattle.lists.specs.Order.{same}
use Rattle.lists.specs.Keyed.{keep, all_of, any_of, put}
use Rattle.ids.specs.Ids.{largest32}
use Rattle.ids.specs.Limits.{most_operations}
use Rattle.ids.specs.Verdicts.{judged}
use Rattle.manifest.specs.Operations.{Operation}
use Rattle.version_state.specs.declared.VersionManagerInner.{VersionManagerInner}
use Rattle.version_state.specs.State.{State, state_of, pairs_at, vectors_at}
use Rattle.version_state.specs.Widths.{Narrow}
use Rattle.version_state.specs.Sound.{bad_inner}
use Rattle.operations.specs.Judge.{is_shown}
use Rattle.commit.specs.Commit.{commit_of}
use Rattle.table.specs.Made.{of_table, is_over, committed}
use Rattle.table.specs.Create.{created_by, create_rules}
use Rattle.table.specs.Drop.{dropped_by, drop_rules}
use Rattle.table.specs.Compact.{compacted_by, valid_compaction, compact_rules}

-- the commit of os by s into a buffer of `room` is accepted
abbrev pub Accepts : State → List Operation → ℕ → Type 0
Accepts s os room = commit_of s (length os) os room ≡ Ok (committed os s)

-- the pairs of the table t with these rowsets, and pairs put in among others
abbrev pub pairs_with : ℕ → List ℕ → List (List ℕ)
pairs_with t rs = map (λ r. t ∷ r ∷ []) rs

abbrev pub put_all : List (List ℕ) → List (List ℕ) → List (List ℕ)
put_all [] l = l
put_all (k ∷ ks) l = put (λ j. j) k (put_all ks l)

-- a compaction that is accepted: the new epoch shows the pairs that were shown and the new one, without the taken ones, and the vectors
-- without those over the taken ones; the tables, and so their locks, are as they were
pub record Compacts (s : State) (t : ℕ) (new taken : List ℕ) (room : ℕ) : Type 0 where
  pub accepts : Accepts s (compacted_by s t new taken) room
  pub pairs : pairs_at (s.epoch + 1) (committed (compacted_by s t new taken) s) ≡ keep (λ k. not (any_of (same k) (pairs_with t taken))) (put_all (pairs_with t new) (pairs_at s.epoch s))
  pub vectors : vectors_at (s.epoch + 1) (committed (compacted_by s t new taken) s) ≡ keep (λ k. not (is_over t taken k)) (vectors_at s.epoch s)
  pub tables : (committed (compacted_by s t new taken) s).tables ≡ s.tables

-- of a manager m that passes 29
pub record MadeLaws : Type 0 where
  pub create : (m : VersionManagerInner) (shape : ℕ) (name : List ℕ) (room : ℕ) → bad_inner m ≡ false → shape ≤ largest32
      → judged (create_rules (state_of m) shape name room) ≡ Ok tt → Accepts (state_of m) (created_by (state_of m) shape name) room
  pub drop : (m : VersionManagerInner) (t room : ℕ) → bad_inner m ≡ false → Narrow (state_of m)
      → judged (drop_rules (state_of m) t room) ≡ Ok tt → Accepts (state_of m) (dropped_by (state_of m) t) room
  pub compact : (m : VersionManagerInner) (t : ℕ) (new taken : List ℕ) (room : ℕ) → bad_inner m ≡ false → Narrow (state_of m) → length new ≤ 1
      → judged (compact_rules (state_of m) t new taken room) ≡ Ok tt → Compacts (state_of m) t new taken room
  -- taken rowsets that are shown are never too many for a commit: 6 is for others
  pub few : (m : VersionManagerInner) (t : ℕ) (new taken : List ℕ) → bad_inner m ≡ false → Narrow (state_of m) → valid_compaction (state_of m) t new taken ≡ true → length new ≤ 1
      → all_of (λ r. is_shown m.epoch (t ∷ r ∷ []) (state_of m).pairs) taken ≡ true → length (compacted_by (state_of m) t new taken) ≤ most_operations
  -- after a drop no pair and no vector of the table is shown, and those of other tables are as they were
  pub drop_pairs : (m : VersionManagerInner) (t room : ℕ) → bad_inner m ≡ false → Narrow (state_of m) → judged (drop_rules (state_of m) t room) ≡ Ok tt
      → pairs_at (m.epoch + 1) (committed (dropped_by (state_of m) t) (state_of m)) ≡ keep (λ k. not (of_table t k)) (pairs_at m.epoch (state_of m))
  pub drop_vectors : (m : VersionManagerInner) (t room : ℕ) → bad_inner m ≡ false → Narrow (state_of m) → judged (drop_rules (state_of m) t room) ≡ Ok tt
      → vectors_at (m.epoch + 1) (committed (dropped_by (state_of m) t) (state_of m)) ≡ keep (λ k. not (of_table t k)) (vectors_at m.epoch (state_of m))
