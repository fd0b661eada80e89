-- One lock a table: whether it is held, when it is taken or given back, and what that does. Assumes nothing.
use Rattle.std.specs.Prelude.{Bool, true, false, not, List, [], ◌∷◌, ℕ}
use Rattle.lists.specs.Keyed.{changed}
use Rattle.ids.specs.Ids.{is_id32}
use Rattle.ids.specs.declared.refusal.Refusal.TheVariants.{Malformed, TableNotLive, LockHeld, LockNotHeld}
use Rattle.ids.specs.Verdicts.{Rule, ◌⇒◌}
use Rattle.snapshot.specs.Tables.{by_table, lock_held, with_lock}
use Rattle.version_state.specs.State.{State, with_tables}
use Rattle.operations.specs.Judge.{is_live}

-- the lock of table t is held
abbrev pub is_locked : ℕ → State → Bool
is_locked t s = lock_held t s.tables

-- the lock of table t held or free, and all else as it was
abbrev pub relocked : ℕ → Bool → State → State
relocked t b s = with_tables s (changed by_table (t ∷ []) (with_lock b) s.tables)

-- 25: a lock that is taken is held; 27: one that is given back is free
abbrev pub lock_rule : Bool → Bool → Rule
lock_rule true was = was ⇒ LockHeld
lock_rule false was = not was ⇒ LockNotHeld

-- 2, 11, then 25 or 27, of a table t that is live or not, its lock held or not
abbrev pub rules_of : ℕ → Bool → Bool → Bool → List Rule
rules_of t b live was = (not (is_id32 t) ⇒ Malformed 0) ∷ (not live ⇒ TableNotLive 0) ∷ lock_rule b was ∷ []

-- the lock of table t is to be held or to be free; before these 29
abbrev pub lock_rules : ℕ → Bool → State → List Rule
lock_rules t b s = rules_of t b (is_live t s) (is_locked t s)
