-- A create's commit is accepted. Assumes nothing.
use mathlib.Core.Path.{◌≡◌, refl, ◌∙◌}
use mathlib.Core.Bool.{true, false}
use mathlib.Core.List.{List}
use Prim.Native.Nat.{ℕ, ◌+◌, ◌≤◌, ◌<◌}
use native.Mathlib.Omega.{arith}
use lib.ListN.{length, take}
use borrow.Author.Tests.{lt-ltb, le-leb, lt-leb, eq-eqb}
use Rattle.std.specs.Prelude.{Ok}
use Rattle.lists.specs.Keyed.{keep, is_at, put}
use Rattle.lists.proofs.Keyed.{all_map, all-all_of, all_of-all, has-put}
use Rattle.ids.specs.Ids.{largest32}
use Rattle.ids.specs.Limits.{most_tables}
use Rattle.text.specs.Name.{is_name}
use Rattle.manifest.specs.Operations.{Operation, create_table}
use Rattle.snapshot.specs.Entries.{Entry, by_ids, shown_by}
use Rattle.snapshot.specs.Tables.{by_table, created, name_taken}
use Rattle.version_state.specs.declared.VersionManagerInner.{VersionManagerInner}
use Rattle.version_state.specs.State.{State, state_of}
use Rattle.version_state.specs.Sound.{has_table, left_behind}
use Rattle.version_state.proofs.Facts.{Sound}
use Rattle.operations.specs.Effect.{applied}
use Rattle.operations.specs.Steps.{step_of, steps_of}
use Rattle.table.specs.Made.{create_operations}
use Rattle.table.proofs.Shown.{or-second, next-same}
use Rattle.table.proofs.Accepted.{two, three, commit-accepts, pairs-held, vectors-held, whole-now, Accepts}

module _ (m : VersionManagerInner) (g : Sound m) (h : ℕ) (n : List ℕ) (shape : h ≤ largest32) (name : is_name n ≡ true) (drawn : (state_of m).next_table < largest32)
    (free : name_taken n (state_of m).tables ≡ false) (room-left : length (state_of m).tables < most_tables) where
  abbrev s : State
  s = state_of m

  abbrev e : ℕ
  e = m.epoch + 1

  abbrev operations : List Operation
  operations = create_operations s.next_table h n

  abbrev left : State
  left = applied e (create_table s.next_table h n) s

  create-steps : steps_of 0 e operations s ≡ Ok left
  unfolding step_of
  create-steps = rw (lt-ltb s.next_table largest32 drawn, le-leb h largest32 shape, name, eq-eqb s.next_table s.next_table refl, free, lt-leb most_tables (length s.tables) room-left)

  abbrev pairs_now : List Entry
  pairs_now = keep (shown_by m.epoch) s.pairs

  abbrev vectors_now : List Entry
  vectors_now = keep (shown_by m.epoch) s.vectors

  table_stays : (x : Entry) → has_table s.tables x ≡ true → has_table (put by_table (created s.next_table h n) s.tables) x ≡ true
  table_stays x q = has-put by_table (take 1 (by_ids x)) (created s.next_table h n) s.tables ∙ or-second (is_at by_table (take 1 (by_ids x)) (created s.next_table h n)) q

  create-whole : left_behind e left ≡ false
  create-whole =
      let z = whole-now m g in
      rw (
        next-same three m.epoch _ s.vectors (vectors-held m g),
        next-same two m.epoch _ s.pairs (pairs-held m g),
        z.0,
        all-all_of (has_table (put by_table (created s.next_table h n) s.tables)) pairs_now (all_map pairs_now table_stays (all_of-all (has_table s.tables) pairs_now z.1)),
      )

  pub create-accepts : Accepts s operations
  create-accepts = commit-accepts s operations (omega arith) left create-steps create-whole
