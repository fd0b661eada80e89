-- What an operation's verdict rests on: the entries of its table, the held vector ids, the counts, the names and the next ids. Assumes nothing.
use Rattle.std.specs.Prelude.{◌≡◌, List, ℕ, length}
use Rattle.lists.specs.Keyed.{keep}
use Rattle.ids.specs.Verdicts.{judged}
use Rattle.manifest.specs.Operations.{Operation}
use Rattle.manifest.specs.Edits.{table_of}
use Rattle.snapshot.specs.Entries.{of_table}
use Rattle.snapshot.specs.Tables.{name_taken}
use Rattle.version_state.specs.State.{State}
use Rattle.operations.specs.Judge.{is_live, vector_held, op_rules}

-- two states that an operation on the table t cannot tell apart
pub record Alike (t : ℕ) (s u : State) : Type 0 where
  pub live : is_live t s ≡ is_live t u
  pub pairs : keep (of_table t) s.pairs ≡ keep (of_table t) u.pairs
  pub vectors : keep (of_table t) s.vectors ≡ keep (of_table t) u.vectors
  pub held : (v : ℕ) → vector_held v s.vectors ≡ vector_held v u.vectors
  pub names : (n : List ℕ) → name_taken n s.tables ≡ name_taken n u.tables
  pub table_count : length s.tables ≡ length u.tables
  pub pair_count : length s.pairs ≡ length u.pairs
  pub vector_count : length s.vectors ≡ length u.vectors
  pub next_table : s.next_table ≡ u.next_table
  pub next_rowset : s.next_rowset ≡ u.next_rowset
  pub next_vector : s.next_vector ≡ u.next_vector

abbrev pub JudgedAlike : Type 0
JudgedAlike = (i e : ℕ) (o : Operation) (s u : State) → Alike (table_of o) s u → judged (op_rules i e o s) ≡ judged (op_rules i e o u)
