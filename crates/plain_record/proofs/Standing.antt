-- What a replay gives shows the same at every epoch from 1 on, and nothing in it waits. Assumes nothing.
use mathlib.Core.Path.{◌≡◌, refl, ap}
use mathlib.Core.Bool.{true}
use mathlib.Core.List.{List, [], ◌∷◌, map}
use Prim.Native.Nat.{ℕ, ◌≤◌}
use borrow.Author.Tests.{le-leb}
use lib.Dec.{eqb}
use Rattle.lists.specs.Keyed.{keep}
use Rattle.lists.proofs.Tests.{by_cases, clash}
use Rattle.lists.proofs.Keyed.{All, all_map, keep_all}
use Rattle.snapshot.specs.Entries.{Entry, by_ids, gone_at, shown_at, shown_by, shown, waits}
use Rattle.replay.specs.Replay.{reopened, stands}

standing-shown : (d : ℕ) (x : Entry) → 1 ≤ d → x.added ≡ reopened → stands x ≡ true → shown_by d x ≡ true
unfolding shown_at gone_at
standing-shown d x h a s =
    by_cases (eqb x.deleted 0)
    (λ t. rw (t, a, le-leb 1 d h))
    (λ t. clash s (rw t))

pub record Standing (x : Entry) : Type 0 where
  pub added : x.added ≡ reopened
  pub stands : stands x ≡ true

-- the ids of all, at whatever epoch
pub all_shown : (d : ℕ) (l : List Entry) → 1 ≤ d → All Standing l → shown d l ≡ map by_ids l
all_shown d l h a = ap (map by_ids) (keep_all (shown_by d) l (all_map l (λ x w. standing-shown d x h w.added w.stands) a))

pub none-waits : (l : List Entry) → All Standing l → keep waits l ≡ []
none-waits [] a = refl
none-waits (x ∷ l) a =
    by_cases (waits x)
    (λ t. clash a.0.stands (rw t))
    (λ t. rw t (none-waits l a.1))
