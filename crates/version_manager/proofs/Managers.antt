-- What 29 tells of a manager's two states, and what makes a manager pass it. Assumes nothing.
use mathlib.Core.Path.{◌≡◌, refl}
use mathlib.Core.Bool.{false}
use Prim.Native.Nat.{ℕ, ◌<◌}
use native.Mathlib.Omega.{arith}
use borrow.Author.Tests.{ne_eqb}
use Rattle.lists.proofs.Tests.{by_cases, neither, past}
use Rattle.version_state.specs.declared.VersionManagerInner.{VersionManagerInner}
use Rattle.version_state.specs.State.{State, lengthened, Hands}
use Rattle.version_state.specs.Sound.{bad_inner}
use Rattle.version_state.proofs.Facts.{sound-of}
use Rattle.version_manager.specs.declared.VersionManager.{VersionManager}
use Rattle.version_manager.specs.Managers.{held_by, has_former, bad_former, bad_manager, Manages, Follows}

pub inner-passes : (m : VersionManager) → bad_manager m ≡ false → bad_inner m.inner ≡ false
inner-passes m b = (neither (bad_inner m.inner) (bad_former m) b).0

-- the kept state, where there is one
pub kept-passes : (m : VersionManager) (n : ℕ) → n < m.append → bad_manager m ≡ false → bad_inner (lengthened m.append m.kept) ≡ false
kept-passes m n h b =
    past (has_former m) (bad_inner (lengthened m.append m.kept))
    (neither (bad_inner m.inner) (bad_former m) b).1
    (rw (ne_eqb m.append 0 (λ e. omega (arith, e, h))))

pub nothing-passes : (m : VersionManager) → bad_inner m.inner ≡ false → m.append ≡ 0 → bad_manager m ≡ false
nothing-passes m b e = rw (b, e)

pub both-pass : (m : VersionManager) → bad_inner m.inner ≡ false → bad_inner (lengthened m.append m.kept) ≡ false → bad_manager m ≡ false
both-pass m b k = rw (b, k) (by_cases (has_former m) (λ e. rw e) (λ e. rw e))

-- a manager that keeps nothing, by what it was made of
pub manages : (n : VersionManager) (i : VersionManagerInner) (s : State) → (n.inner ≡ i) × (n.append ≡ 0) → Hands i s → Manages n s
manages n i s e h = record { hands = rw e.0 h; nothing = e.1 }

-- and one after a commit by m
pub follows : (m n : VersionManager) (i : VersionManagerInner) (s : State) (k : ℕ) → bad_manager m ≡ false
    → (n.inner ≡ i) × (n.kept ≡ m.inner) × (n.append ≡ k) → Hands i s → Follows n s (held_by m) k
follows m n i s k b e h =
    record {
      hands = rw e.0 h;
      former = rw e.1 (record { fits = (sound-of m.inner (inner-passes m b)).fits; state = refl });
      append = e.2;
    }
