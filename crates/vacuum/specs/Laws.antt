-- What an accepted vacuum keeps, and its list. Assumes nothing.
use Rattle.std.specs.Prelude.{◌≡◌, true, false, [], ℕ}
use Rattle.lists.specs.Keyed.{sorted}
use Rattle.snapshot.specs.Entries.{by_deletion}
use Rattle.version_state.specs.declared.VersionManagerInner.{VersionManagerInner}
use Rattle.version_state.specs.State.{State, state_of, Hands, pairs_at, vectors_at}
use Rattle.version_state.specs.Sound.{bad_inner}
use Rattle.pins.specs.declared.PinBook.{PinBook}
use Rattle.pins.specs.Guards.{guards_of, may_show}
use Rattle.vacuum.specs.LetGo.{vacuum_list, vacuumed}
use Rattle.vacuum.specs.Says.{bound_of}

-- of a vacuum by m with the book b
pub record VacuumLaws : Type 0 where
  -- what it hands out passes 29
  pub sound : (m n : VersionManagerInner) (b : PinBook) → bad_inner m ≡ false → Hands n (vacuumed (bound_of (state_of m) b) (state_of m)) → bad_inner n ≡ false
  -- an epoch that may be shown shows what it showed
  pub pairs : (m : VersionManagerInner) (b : PinBook) (e : ℕ) → may_show (guards_of (state_of m) b) e ≡ true → pairs_at e (vacuumed (bound_of (state_of m) b) (state_of m)) ≡ pairs_at e (state_of m)
  pub vectors : (m : VersionManagerInner) (b : PinBook) (e : ℕ) → may_show (guards_of (state_of m) b) e ≡ true → vectors_at e (vacuumed (bound_of (state_of m) b) (state_of m)) ≡ vectors_at e (state_of m)
  -- the list is by epoch, table, rowset, and nothing is listed twice
  pub ordered : (b : ℕ) (s : State) → sorted by_deletion (vacuum_list b s) ≡ true
  pub once : (b : ℕ) (s : State) → vacuum_list b (vacuumed b s) ≡ []
