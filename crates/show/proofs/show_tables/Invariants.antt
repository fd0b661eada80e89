-- `show::show_tables` meets its contract.
use lib.ListN.{length, get_or}
use Rattle.snapshot.specs.Tables.{no_table}
use Rattle.snapshot.proofs.Filled.{Filling}
use Rattle.version_state.specs.State.{state_of}
use Rattle.show.proofs.Names.{Naming}
use Rattle.show.proofs.show_tables.Given as goal

abbrev pub invariant-loop-i : goal.invariant-loop-i
invariant-loop-i l =
    let m = (state_of l.state.inner.now).tables in
    Filling (λ j. (get_or m j no_table).table) l.count l.initial.ids l.i l.ids
    × Filling (λ j. (get_or m j no_table).shape) l.count l.initial.shapes l.i l.shapes
    × Filling (λ j. length (get_or m j no_table).name) l.count l.initial.lengths l.i l.lengths
    × Naming (λ j. (get_or m j no_table).name) l.count l.initial.names l.i l.names
