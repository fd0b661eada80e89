-- The Rust beside a run of the port: what each of its calls does. Assumes nothing.
use Rattle.std.specs.Prelude.{◌≡◌, Bool, cond, List, [], ◌++◌, ℕ, zero, suc, ◌+◌, ◌-◌, ◌≤◌, min, length, take}
use Rattle.lists.specs.Keyed.{arranged}
use Rattle.manifest.specs.Operations.{Operation}
use Rattle.manifest.specs.Edits.{Table}
use Rattle.table.specs.Made.{create_operations}
use Rattle.table.specs.Drop.{dropped_by}
use Rattle.table.specs.Compact.{compacted_by}
use Rattle.compaction.specs.New.{new_of}
use Rattle.version_manager.specs.Managers.{held_by}
use Rattle.pinning.specs.Says.{flag}
use Rattle.plain_record.specs.Sets.{itself}
use Rattle.plain_record.specs.Calls.{Call, draw_rowset, draw_vector, group, lock, unlock, commit, create, drop, compact, pin, unpin, vacuum, report, checkpoint, reopen}
use Rattle.plain_record.specs.Run.{Event, value}
use Rattle.risinglight.specs.Maps.{ok}
use Rattle.risinglight.specs.Manifest.{Value, frame}
use Rattle.risinglight.specs.VersionManager.{Inner, fresh, commit_changes, Pinned, Dropped, find_vacuum}
use Rattle.risinglight.specs.VersionManager as version
use Rattle.risinglight.specs.Storage.{Storage, storage, NextId, next_id, apply_tables, bootstrap}

-- the storage, the manifest that a start finds if it is the next call, and how many starts there were
pub record Engine : Type 0 where
  pub running : Storage
  pub torn : List Value
  pub starts : ℕ

abbrev pub engine : Storage → List Value → ℕ → Engine
engine s t n = record { running = s; torn = t; starts = n }

-- nothing yet. The Rust begins by a start on an empty folder, which is a commit: that one is left out
abbrev pub started : Engine
started = engine (storage [] fresh (next_id 0 0) []) [] 0

-- how many of the n values of a commit's append land where a start is the next call: all, or fewer. Which value a crash cuts is
-- open, and what is cut of one counts for none: the Rust does not start on half a value
abbrev pub landing : ℕ → ℕ → ℕ → ℕ
landing zero cut n = n
landing (suc missing) cut n = min cut (n - 1)

-- any other call finds that everything had landed
abbrev pub landed : Inner → NextId → Engine → Engine
landed m n g = engine (storage g.running.catalog m n g.running.manifest) g.running.manifest g.starts

-- The event of an accepted call of the port, and the engine g before it and h after it.
module _ (cut : ℕ) (g h : Engine) (e : Event) where
  -- the id of a draw, and the first one of a grouping, which draws n: never above the port's, and the same where there was no start
  pub record Draws (mine theirs : ℕ) (left : NextId) : Type 0 where
    pub not_above : mine ≤ theirs
    pub same : g.starts ≡ 0 → mine ≡ theirs
    pub after : h ≡ landed g.running.version left g

  abbrev pub ids : NextId
  ids = g.running.next

  -- the Rust is not called: locks are not the version manager's, and it has no checkpoint
  abbrev pub Rests : Type 0
  Rests = h ≡ landed g.running.version ids g

  -- commits the same operations; whoever commits creates and drops makes the catalog follow
  pub record Commits (os : List Operation) (missing : ℕ) : Type 0 where
    pub version : Inner
    pub catalog : List Table
    pub runs : commit_changes os g.running.version ≡ ok version
    pub follows : apply_tables os g.running.catalog ≡ ok catalog
    pub epoch : (version).epoch ≡ (held_by e.after.manager).epoch
    pub after :
        let file = g.running.manifest in
        h ≡ engine (storage catalog version ids (file ++ frame os)) (file ++ take (landing missing cut (length (frame os))) (frame os)) g.starts

  pub record Pins : Type 0 where
    pub result : Pinned
    pub runs : version.pin g.running.version ≡ ok result
    pub answer : result.epoch ≡ value 0 e.told
    pub after : h ≡ landed result.left ids g

  -- the notice is sent where the port says that a vacuum is due
  pub record Unpins (d : ℕ) : Type 0 where
    pub result : Dropped
    pub runs : version.drop d g.running.version ≡ ok result
    pub answer : flag result.notice ≡ value 0 e.told
    pub after : h ≡ landed result.left ids g

  -- the same pairs, each as often
  pub record Vacuums : Type 0 where
    pub answer : arranged itself (find_vacuum g.running.version).deletions ≡ arranged itself e.listed
    pub after : h ≡ landed (find_vacuum g.running.version).left ids g

  pub record Starts (stale : Bool) : Type 0 where
    pub result : Storage
    pub runs : bootstrap g.torn ≡ ok result
    pub after : h ≡ engine result (cond stale g.torn result.manifest) (g.starts + 1)

  abbrev pub DoesBy : Call → Type 0
  DoesBy draw_rowset = Draws ids.rowset (value 0 e.told) (next_id (ids.rowset + 1) ids.dv)
  DoesBy draw_vector = Draws ids.dv (value 0 e.told) (next_id ids.rowset (ids.dv + 1))
  DoesBy (group x rs ls cs fs ms) = Draws ids.dv (value 1 e.told) (next_id ids.rowset (ids.dv + value 0 e.told))
  DoesBy (lock n) = Rests
  DoesBy (unlock n) = Rests
  DoesBy (commit os out missing) = Commits os missing
  DoesBy (create shape name out missing) = Commits (create_operations (value 0 e.told) shape name) missing
  DoesBy (drop t out missing) = Commits (dropped_by (held_by e.before.manager) t) missing
  DoesBy (compact t new taken out missing) = Commits (compacted_by (held_by e.before.manager) t (new_of new) taken) missing
  DoesBy pin = Pins
  DoesBy (unpin d) = Unpins d
  DoesBy (vacuum ts rs) = Vacuums
  -- it does none
  DoesBy (report n) = ⊥
  DoesBy (checkpoint out stale) = Rests
  DoesBy (reopen out stale) = Starts stale

  abbrev pub Does : Type 0
  Does = DoesBy e.call
