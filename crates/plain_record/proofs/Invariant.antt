-- What holds between two calls of every run: the manager, the book and the files beside the record. Assumes nothing.
use mathlib.Core.Path.{◌≡◌, ap₂}
use mathlib.Core.Bool.{true, false}
use mathlib.Core.List.{List, ◌++◌, map}
use Prim.Native.Nat.{ℕ, ◌+◌, ◌<◌, ◌≤◌}
use lib.ListN.{length, take}
use Rattle.std.specs.Prelude.{Ok}
use Rattle.lists.specs.Keyed.{all_of}
use Rattle.snapshot.specs.Tables.{TableEntry}
use Rattle.version_state.specs.State.{State, with_epoch, pairs_at, vectors_at}
use Rattle.version_state.specs.Sets.{sets_of}
use Rattle.version_state.specs.Sound.{bad_inner}
use Rattle.pins.specs.declared.PinBook.{PinBook}
use Rattle.pins.specs.Book.{pins_of, bad_book}
use Rattle.pins.specs.Guards.{guards_by, guards_of, bound}
use Rattle.version_manager.specs.declared.VersionManager.{VersionManager}
use Rattle.version_manager.specs.Managers.{held_by, former_by, bad_manager}
use Rattle.version_manager.proofs.Managers.{inner-passes}
use Rattle.replay.specs.Replay.{replay_of}
use Rattle.recovery.specs.Holds as manifest
use Rattle.manifest.specs.Edits.{Table, table}
use Rattle.plain_record.specs.Sets.{Sets, sets}
use Rattle.plain_record.specs.Calls.{Kind}
use Rattle.plain_record.specs.Plain.{Plain, epoch_of, sets_at, guards_in, Former, gone, former, Record, turn}
use Rattle.plain_record.specs.Run.{Append, World, Event, is_accepted, value}
use Rattle.plain_record.specs.Claim.{waiting_in, waiting_of, below_next, AnswerBy}

abbrev pub plain_table : TableEntry → Table
plain_table t = table t.table t.shape t.name

-- what a state shows now, as the record's sets
abbrev pub plain_sets : State → Sets
plain_sets s = sets (map plain_table s.tables) (pairs_at s.epoch s) (vectors_at s.epoch s)

-- the file if all landed holds what the manager's state s shows
pub record Filed (f : List ℕ) (s : State) (p : Plain) : Type 0 where
  pub state : State
  pub holds : manifest.Holds f state
  pub same : sets_of s ≡ sets_of state
  pub long : length f ≡ s.manifest
  pub next : all_of (below_next state) p.added ≡ true

-- the file as a reopen would find it is replayed to the record's last sets
pub record Torn (f : List ℕ) (p : Plain) : Type 0 where
  pub state : State
  pub replayed : replay_of f ≡ Ok state
  pub sets : plain_sets state ≡ p.now
  pub next : all_of (below_next state) p.added ≡ true

-- what is kept for a report: the state f before the last commit, which appended n bytes, beside the record q of that time and the book of
-- now; e is the current epoch
pub record Recalls (f : State) (n : ℕ) (b : PinBook) (a : Append) (q : Plain) (e : ℕ) : Type 0 where
  pub current : e ≡ f.epoch + 1
  pub long : length a.bytes ≡ n
  pub epoch : f.epoch ≡ epoch_of q
  pub tables : map plain_table f.tables ≡ q.now.tables
  pub pairs : (d : ℕ) → bound (guards_of f b) ≤ d → pairs_at d f ≡ (sets_at d q).pairs
  pub vectors : (d : ℕ) → bound (guards_of f b) ≤ d → vectors_at d f ≡ (sets_at d q).vectors
  pub waiting : waiting_in f ≡ waiting_of q
  pub next : all_of (below_next f) q.added ≡ true
  -- wherever the append was cut off
  pub cut : (k : ℕ) → k < n → Filed (a.before ++ take k a.bytes) (with_epoch f f.epoch (f.manifest + k)) q

abbrev pub Recalled : VersionManager → PinBook → Append → Plain → Former → Type 0
Recalled m b a p gone = m.append ≡ 0
Recalled m b a p (former q) = Recalls (former_by m) m.append b a q (epoch_of p)

pub record Inv (w : World) (r : Record) : Type 0 where
  pub sound : bad_manager w.manager ≡ false
  pub book : bad_book w.manager.inner.epoch w.book ≡ false
  pub epoch : w.manager.inner.epoch ≡ epoch_of r.whole
  pub tables : map plain_table (held_by w.manager).tables ≡ r.whole.now.tables
  -- every epoch from the vacuum's bound on, those to come too
  pub pairs : (d : ℕ) → bound (guards_of (held_by w.manager) w.book) ≤ d → pairs_at d (held_by w.manager) ≡ (sets_at d r.whole).pairs
  pub vectors : (d : ℕ) → bound (guards_of (held_by w.manager) w.book) ≤ d → vectors_at d (held_by w.manager) ≡ (sets_at d r.whole).vectors
  pub pins : pins_of w.book ≡ r.whole.pinned
  pub waiting : waiting_in (held_by w.manager) ≡ waiting_of r.whole
  pub next : all_of (below_next (held_by w.manager)) r.whole.added ≡ true
  pub file : Filed w.file (held_by w.manager) r.whole
  pub torn : Torn w.torn r.torn
  pub recalled : Recalled w.manager w.book w.last r.whole r.former

-- of 29 the manager's own state
pub passes : (w : World) (r : Record) → Inv w r → bad_inner w.manager.inner ≡ false
passes w r i = inner-passes w.manager i.sound

-- the epochs that are kept are the record's
pub guards-alike : (w : World) (r : Record) → Inv w r → guards_of (held_by w.manager) w.book ≡ guards_in r.whole
guards-alike w r i = ap₂ guards_by i.epoch i.pins

-- a turn keeps it, and its answer is as claimed; k is the call's kind
pub record Kept (r : Record) (e : Event) (k : Kind) : Type 0 where
  pub inv : Inv e.after (turn k (is_accepted e.told) (value 0 e.told) r)
  pub answer : AnswerBy r e k
