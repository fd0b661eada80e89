-- The second theorem: what the port accepts the Rust does too, with the same answers, and both then show the same. Assumes nothing.
use Rattle.std.specs.Prelude.{◌≡◌, Bool, true, false, not, ◌&&◌, List, [], ◌∷◌, ◌++◌, map, ℕ, ◌+◌, ◌≤◌}
use Rattle.lists.specs.Keyed.{any_of, has, arranged}
use Rattle.snapshot.specs.Entries.{by_ids}
use Rattle.pins.specs.Book.{pins_of, place_on}
use Rattle.pins.specs.Guards.{guards_of, may_show}
use Rattle.pins.specs.Counts.{pins_at}
use Rattle.version_manager.specs.Managers.{held_by}
use Rattle.plain_record.specs.Sets.{by_id, itself}
use Rattle.plain_record.specs.Calls.{kind_of}
use Rattle.plain_record.specs.Run.{Steps, World, Event, is_accepted, Chain}
use Rattle.plain_record.specs.Run as run
use Rattle.plain_record.specs.Claim.{waiting_in, is_report}
use Rattle.plain_record.specs.Shows.{ShowsTables, ShowsPairs, ShowsVectors}
use Rattle.risinglight.specs.Maps.{Binding, unwrap_or, get}
use Rattle.risinglight.specs.Snapshot.{Snapshot, default, has_rowset, has_dv}
use Rattle.risinglight.specs.VersionManager.{Inner}
use Rattle.risinglight.specs.Run.{Engine, started, Does}

-- the snapshot of an epoch
abbrev pub snapshot_at : ℕ → Inner → Snapshot
snapshot_at d m = unwrap_or default (get d m.status)

-- the deletions to apply: (epoch, table, rowset)
abbrev pub deletions_in : List (Binding (List (List ℕ))) → List (List ℕ)
deletions_in [] = []
deletions_in (b ∷ m) = map (λ k. b.key ∷ k) b.value ++ deletions_in m

-- the port gives pairs, in its order, and the snapshot has the same
pub record SamePairs (S : Steps) (w : World) (d : ℕ) (s : Snapshot) : Type 0 where
  pub pairs : List (List ℕ)
  pub shown : ShowsPairs S w d pairs
  pub same : (t r : ℕ) → has itself (t ∷ r ∷ []) pairs ≡ has_rowset t r s

pub record SameVectors (S : Steps) (w : World) (d : ℕ) (s : Snapshot) : Type 0 where
  pub vectors : List (List ℕ)
  pub shown : ShowsVectors S w d vectors
  pub same : (t r v : ℕ) → has itself (t ∷ r ∷ v ∷ []) vectors ≡ has_dv t r v s

-- what stands on both sides after a list
pub record Matches (S : Steps) (w : World) (g : Engine) : Type 0 where
  pub epoch : (held_by w.manager).epoch ≡ g.running.version.epoch
  pub tables : ShowsTables S w (held_by w.manager).epoch (arranged by_id g.running.catalog)
  -- of the current epoch and of each pinned one
  pub pairs : (d : ℕ) → may_show (guards_of (held_by w.manager) w.book) d ≡ true → SamePairs S w d (snapshot_at d g.running.version)
  pub vectors : (d : ℕ) → may_show (guards_of (held_by w.manager) w.book) d ≡ true → SameVectors S w d (snapshot_at d g.running.version)
  pub pins : (d : ℕ) → pins_at (place_on d) (pins_of w.book) ≡ unwrap_or 0 (get d g.running.version.ref_cnt)
  -- what is held is in the pool of rowsets, and no other; held vectors are in theirs
  pub rowsets : (k : List ℕ) → has by_ids k (held_by w.manager).pairs ≡ has itself k g.running.version.rowsets
  pub dvs : (t r v : ℕ) → has by_ids (t ∷ r ∷ v ∷ []) (held_by w.manager).vectors ≡ true → has itself (t ∷ v ∷ []) g.running.version.dvs ≡ true
  -- the next ids are at least the Rust's, and the same where there was no start
  pub next_rowset : (g.running.next.rowset ≤ (held_by w.manager).next_rowset) × (g.starts ≡ 0 → g.running.next.rowset ≡ (held_by w.manager).next_rowset)
  pub next_dv : (g.running.next.dv ≤ (held_by w.manager).next_vector) × (g.starts ≡ 0 → g.running.next.dv ≡ (held_by w.manager).next_vector)
  -- the same deletions, each as often
  pub waiting : waiting_in (held_by w.manager) ≡ arranged itself (deletions_in g.running.version.rowset_deletion_to_apply)

-- what the Rust does at an accepted call, and from there on
pub record Onward (S : Steps) (g : Engine) (cut : ℕ) (e : Event) (Rest : Engine → Type 0) : Type 0 where
  pub engine : Engine
  pub does : Does cut g engine e
  pub rest : Rest engine

-- the Rust is not called where the port refuses. cut n says where the append of the call at place n is cut, if it is
abbrev pub Agreed : Steps → (ℕ → ℕ) → ℕ → World → Engine → List Event → Type 0
Agreed S cut n w g [] = Matches S w g
Agreed S cut n w g (e ∷ es) =
    (is_accepted e.told ≡ true → Onward S g (cut n) e (λ h. Agreed S cut (n + 1) e.after h es))
    × (is_accepted e.told ≡ false → Agreed S cut (n + 1) e.after g es)

-- an accepted report: the Rust has none
abbrev pub reports : Event → Bool
reports e = is_report (kind_of e.call) && is_accepted e.told

-- after every list of calls without one
abbrev pub Agreement : Steps → Type 0
Agreement S = (w : World) (es : List Event) (cut : ℕ → ℕ) → run.Starts S w → Chain S w es → not (any_of reports es) ≡ true → Agreed S cut 0 w started es
