-- What taking and giving back a lock keeps, and what frees one. Assumes nothing.
use Rattle.std.specs.Prelude.{◌≡◌, Bool, true, false, map, ℕ, Ok}
use Rattle.ids.specs.Verdicts.{judged}
use Rattle.manifest.specs.Operations.{drop_table}
use Rattle.snapshot.specs.Tables.{TableEntry, created}
use Rattle.version_state.specs.declared.VersionManagerInner.{VersionManagerInner}
use Rattle.version_state.specs.State.{State, state_of, Hands, pairs_at, vectors_at}
use Rattle.version_state.specs.Sound.{bad_inner}
use Rattle.operations.specs.Effect.{effect}
use Rattle.operations.specs.Judge.{is_live}
use Rattle.transaction_manager.specs.Locks.{is_locked, relocked, lock_rules}

pub record LockLaws : Type 0 where
  -- what it hands out passes 29
  pub sound : (m n : VersionManagerInner) (t : ℕ) (b : Bool) → bad_inner m ≡ false → Hands n (relocked t b (state_of m)) → bad_inner n ≡ false
  -- every epoch shows what it showed, and the tables have the ids, shapes and names that they had
  pub pairs : (t : ℕ) (b : Bool) (e : ℕ) (s : State) → pairs_at e (relocked t b s) ≡ pairs_at e s
  pub vectors : (t : ℕ) (b : Bool) (e : ℕ) (s : State) → vectors_at e (relocked t b s) ≡ vectors_at e s
  pub tables : (t : ℕ) (b : Bool) (s : State) → map (λ (x : TableEntry). created x.table x.shape x.name) (relocked t b s).tables ≡ map (λ (x : TableEntry). created x.table x.shape x.name) s.tables
  -- the lock of a live table is then held, or free
  pub lock : (t : ℕ) (b : Bool) (s : State) → is_live t s ≡ true → is_locked t (relocked t b s) ≡ b
  -- a lock that is taken and given back
  pub back : (t : ℕ) (s : State) → judged (lock_rules t true s) ≡ Ok tt → relocked t false (relocked t true s) ≡ s
  -- `X` frees the lock
  pub dropped : (t e : ℕ) (s : State) → is_locked t (effect e (drop_table t) s) ≡ false
