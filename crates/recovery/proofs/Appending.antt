-- What a manifest that holds a state is read to, by itself and with an append after it, whole or cut. Assumes nothing.
use mathlib.Core.Path.{◌≡◌, refl, sym, ap, ◌∙◌}
use mathlib.Core.Bool.{true, false}
use mathlib.Core.List.{List, [], ◌++◌, map}
use Prim.Native.Nat.{ℕ, ◌+◌, ◌≤◌, ◌<◌}
use native.Mathlib.Omega.{arith}
use lib.ListN.{length, take}
use borrow.Author.Tests.{le-ltb}
use Rattle.std.specs.Prelude.{Result, Ok}
use Rattle.lists.specs.Keyed.{all_of}
use Rattle.manifest.specs.Operations.{Operation, Line, well_formed}
use Rattle.manifest.specs.Lines.{line_of}
use Rattle.manifest.specs.Split.{rest_on, lines, lines_on}
use Rattle.ids.specs.Limits.{most_operations, longest_manifest}
use Rattle.ids.specs.declared.refusal.Refusal.{Refusal}
use Rattle.ids.specs.Results.{and_then}
use Rattle.frames.specs.Frames.{frame_of}
use Rattle.version_state.specs.declared.VersionManagerInner.{VersionManagerInner}
use Rattle.version_state.specs.State.{State, start, with_epoch, state_of}
use Rattle.ids.specs.Ids.{Next}
use Rattle.version_state.specs.Sets.{Sets, sets_of, next_of}
use Rattle.version_state.specs.Widths.{Narrow}
use Rattle.version_state.specs.Sound.{bad_inner}
use Rattle.version_state.proofs.Facts.{sound-of}
use Rattle.commit.specs.Commit.{append_of, commit_of}
use Rattle.commit.proofs.Sounds.{Accepts, accepts}
use Rattle.rewrite.specs.Rewritten.{written_of}
use Rattle.replay.specs.Replay.{none, Carried, carried, reopened, at_start, lines_read, finished, lines_replayed, replay_of}
use Rattle.replay.proofs.Turns.{said_read}
use Rattle.recovery.specs.Rewritable.{Rewritable, made_of}
use Rattle.recovery.specs.Holds.{Holds, followed, Appended, first, rewritten, checkpointed, committed, short, other}
use Rattle.recovery.specs.Laws.{Replaces}
use Rattle.recovery.proofs.Reading.{whole_append}
use Rattle.recovery.proofs.Framed.{frame-lines}
use Rattle.recovery.proofs.Short.{read-over, marked-read, cut-read}
use Rattle.recovery.proofs.Replays.{holds_read, sets-settled}
use Rattle.recovery.proofs.Besides.{Went, beside-start, beside-steps}
use Rattle.recovery.proofs.Owned.{none-tableless, none-orphaned, none_over}
use Rattle.recovery.proofs.Again.{made-same, rewritten-holds, rewritten-room, held-rewritable, replay-again}
use Rattle.operations.specs.Effect.{applied_all}

pub empty_holds : Holds [] (with_epoch start reopened 0)
unfolding rest_on lines lines_on
empty_holds = record { frame = none; line = 1; read = refl; tables = refl; rowsets = refl }

short-replayed : (src : List ℕ) → length src ≤ longest_manifest → replay_of src ≡ lines_replayed (lines src)
short-replayed src h = rw (le-ltb longest_manifest (length src) h)

holds-finished : (src : List ℕ) (s : State) → Holds src s → finished s ≡ Ok s
holds-finished src s h = rw h.tables (ap Ok h.rowsets)

pub holds-replayed : (src : List ℕ) (s : State) → Holds src s → length src ≤ longest_manifest → replay_of src ≡ Ok s
holds-replayed src s h q =
    short-replayed src q
    ∙ ap (λ (x : Result Carried Refusal). and_then x (λ c. finished c.state)) h.read
    ∙ holds-finished src s h

pub rewritten-replayed : (n : Next) (z : Sets) → Rewritable n z → replay_of (written_of n z) ≡ Ok (made_of n z)
rewritten-replayed n z r = holds-replayed (written_of n z) (made_of n z) (rewritten-holds n z r) (omega (arith, rewritten-room n z r))

-- the manifest of a checkpoint by a manager that shows what its manifest holds
pub replaces : (src : List ℕ) (s : State) (m : VersionManagerInner) → Holds src s → sets_of (state_of m) ≡ sets_of s → bad_inner m ≡ false → Narrow (state_of m) → Replaces s m
replaces src s m h k g n =
    let r = held-rewritable src s m h k g n in
    record {
      state = made_of (next_of (state_of m)) (sets_of (state_of m));
      holds = rewritten-holds (next_of (state_of m)) (sets_of (state_of m)) r;
      replayed = rewritten-replayed (next_of (state_of m)) (sets_of (state_of m)) r;
      room = rewritten-room (next_of (state_of m)) (sets_of (state_of m)) r;
      sets = made-same (state_of m) ∙ k;
      next = refl;
    }

-- an append after those lines, cut or whole
module _ (src : List ℕ) (s : State) (h : Holds src s) where
  read-on : (more : List ℕ) → lines_read (lines (src ++ more)) at_start ≡ said_read (map line_of (lines_on (rest_on [] src) more)) (carried s h.frame h.line)
  read-on more = read-over src more ∙ ap (λ (x : Result Carried Refusal). and_then x (said_read (map line_of (lines_on (rest_on [] src) more)))) h.read

  pub cut_holds : (os : List Operation) (k : ℕ) → all_of well_formed os ≡ true → length os ≤ most_operations → k < length (append_of os) → Holds (src ++ take k (append_of os)) s
  cut_holds os k w few q =
      let r = cut-read os w few k q (rest_on [] src) s h.frame h.line in
      record { frame = r.0; line = r.1; read = read-on (take k (append_of os)) ∙ r.2; tables = h.tables; rowsets = h.rowsets }

-- an accepted commit of a manager with the same sets
module _ (src : List ℕ) (s : State) (m : VersionManagerInner) (n : ℕ) (os : List Operation) (room : ℕ) (u : State) (h : Holds src s) (k : sets_of (state_of m) ≡ sets_of s) (g : bad_inner m ≡ false) (few : length os ≤ n) (c : commit_of (state_of m) n os room ≡ Ok u) where
  a : Accepts (state_of m) n os room u
  a = accepts (state_of m) n os room u c

  went : Went (m.epoch + 1) os a.done s
  went =
      let start = beside-start m s (sound-of m g) (holds_read src s h) k in
      beside-steps (m.epoch + 1) 0 os (state_of m) a.done s (omega arith) start a.steps

  well : all_of well_formed os ≡ true
  well = went.well

  whole-holds : Holds (src ++ append_of os) (followed os s)
  whole-holds =
      let e = m.epoch + 1 in
      let v = applied_all reopened os s in
      record {
        frame = none;
        line = h.line + 1 + 1 + length os + 1;
        read =
            read-on src s h (append_of os)
            ∙ marked-read (rest_on [] src) (frame_of os) (carried s h.frame h.line)
            ∙ ap (λ (ls : List Line). said_read ls (carried s none (h.line + 1))) (frame-lines os went.well)
            ∙ whole_append os s none (h.line + 1) (omega (arith, few, a.short)) went.free (none_over e a.done v went.beside);
        tables = none-tableless e a.done v went.beside a.whole;
        rowsets = none-orphaned e a.done v went.beside a.whole;
      }

  whole-sets : sets_of (followed os s) ≡ sets_of u
  whole-sets =
      sets-settled (applied_all reopened os s) went.beside.read
      ∙ sym went.beside.same
      ∙ ap sets_of a.state

  pub whole-appended : Holds (src ++ append_of os) (followed os s) × (sets_of (followed os s) ≡ sets_of u)
  whole-appended = (whole-holds, whole-sets)

-- a state that the manifest holds, with the manager's sets
pub record Held (src : List ℕ) (m : VersionManagerInner) : Type 0 where
  pub state : State
  pub holds : Holds src state
  pub same : sets_of (state_of m) ≡ sets_of state

held : (src : List ℕ) (m : VersionManagerInner) → Appended src m → Held src m
held _ _ (first m h) = record { state = with_epoch start reopened 0; holds = empty_holds; same = ap sets_of h.state }
held _ _ (rewritten src s m r q) = record { state = s; holds = replay-again src s r; same = q }
held _ _ (checkpointed src m n p g w q) =
    let i = held src m p in
    let c = replaces src i.state m i.holds i.same g w in
    record { state = c.state; holds = c.holds; same = q ∙ i.same ∙ sym c.sets }
held _ _ (committed src m n k os room u p g few c h) =
    let i = held src m p in
    let w = whole-appended src i.state m k os room u i.holds i.same g few c in
    record { state = followed os i.state; holds = w.0; same = ap sets_of h.state ∙ sym w.1 }
held _ _ (short src m n k os room u landed p g few c q e) =
    let i = held src m p in
    let a = accepts (state_of m) k os room u c in
    record { state = i.state; holds = cut_holds src i.state i.holds os landed (well src i.state m k os room u i.holds i.same g few c) (omega (arith, few, a.short)) q; same = e ∙ i.same }
held _ _ (other src m n p q) =
    let i = held src m p in
    record { state = i.state; holds = i.holds; same = q ∙ i.same }

pub made-replayed : (src : List ℕ) (m : VersionManagerInner) → Appended src m → length src ≤ longest_manifest
    → (s : State) × (Holds src s × (sets_of (state_of m) ≡ sets_of s) × (replay_of src ≡ Ok s))
made-replayed src m p q =
    let i = held src m p in
    (i.state, (i.holds, i.same, holds-replayed src i.state i.holds q))
