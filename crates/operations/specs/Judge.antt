-- When an operation of a commit is refused: its rules in the specification's order, with the operation's place. Assumes nothing.
use Rattle.std.specs.Prelude.{Bool, true, not, List, [], ◌∷◌, ℕ, leb, eqb, length, get_or}
use Rattle.lists.specs.Keyed.{keep, any_of, has}
use Rattle.ids.specs.declared.refusal.Refusal.TheVariants.{Malformed, TableNotLive, PairNotShown, VectorNotShown, IdNotDrawn, NameTaken, StillHeld, TablesFull, HeldFull}
use Rattle.ids.specs.Verdicts.{Rule, ◌⇒◌}
use Rattle.manifest.specs.Operations.{Operation, create_table, drop_table, add_rowset, delete_rowset, add_vector, delete_vector, next_ids, well_formed}
use Rattle.snapshot.specs.Entries.{Entry, by_ids, shown_by}
use Rattle.snapshot.specs.Tables.{by_table, name_taken}
use Rattle.ids.specs.Limits.{most_tables, most_held}
use Rattle.version_state.specs.State.{State}

-- the table is live
abbrev pub is_live : ℕ → State → Bool
is_live t s = has by_table (t ∷ []) s.tables

-- what has these ids is shown by epoch e
abbrev pub is_shown : ℕ → List ℕ → List Entry → Bool
is_shown e k l = has by_ids k (keep (shown_by e) l)

-- a vector of any table has the id v
abbrev pub vector_held : ℕ → List Entry → Bool
vector_held v l = any_of (λ x. eqb (get_or (by_ids x) 2 0) v) l

-- the rules that look at the state as the operations before it left it; `N` is no operation of a commit
abbrev pub state_rules : ℕ → ℕ → Operation → State → List Rule
state_rules i e (create_table t h n) s =
    (not (eqb t s.next_table) ⇒ IdNotDrawn i)
    ∷ (name_taken n s.tables ⇒ NameTaken i)
    ∷ (leb most_tables (length s.tables) ⇒ TablesFull i)
    ∷ []
state_rules i e (drop_table t) s = (not (is_live t s) ⇒ TableNotLive i) ∷ []
state_rules i e (add_rowset t r) s =
    (not (is_live t s) ⇒ TableNotLive i)
    ∷ (leb s.next_rowset r ⇒ IdNotDrawn i)
    ∷ (has by_ids (t ∷ r ∷ []) s.pairs ⇒ StillHeld i)
    ∷ (leb most_held (length s.pairs) ⇒ HeldFull i)
    ∷ []
state_rules i e (delete_rowset t r) s = (not (is_shown e (t ∷ r ∷ []) s.pairs) ⇒ PairNotShown i) ∷ []
state_rules i e (add_vector t r v) s =
    (not (is_shown e (t ∷ r ∷ []) s.pairs) ⇒ PairNotShown i)
    ∷ (leb s.next_vector v ⇒ IdNotDrawn i)
    ∷ (vector_held v s.vectors ⇒ StillHeld i)
    ∷ (leb most_held (length s.vectors) ⇒ HeldFull i)
    ∷ []
state_rules i e (delete_vector t r v) s = (not (is_shown e (t ∷ r ∷ v ∷ []) s.vectors) ⇒ VectorNotShown i) ∷ []
state_rules i e (next_ids t r v) s = (true ⇒ Malformed i) ∷ []

abbrev pub op_rules : ℕ → ℕ → Operation → State → List Rule
op_rules i e o s = (not (well_formed o) ⇒ Malformed i) ∷ state_rules i e o s
