-- `compaction::Compaction::put` meets its contract.
use mathlib.Core.Path.{ap}
use mathlib.Core.List.{map}
use native.Mathlib.Omega.{arith}
use lib.ListN.{length}
use Rattle.lists.specs.Keyed.{keep}
use Rattle.manifest.specs.Operations.{add_rowset, delete_rowset}
use Rattle.version_state.specs.State.{state_of, vectors_at}
use Rattle.table.specs.Made.{is_over, delete_vector_of}
use Rattle.compaction.specs.New.{new_of}
use Rattle.compaction.proofs.Lines.{all-added}
use Rattle.compaction.proofs.Whole.{counted}
use Rattle.compaction.proofs.Compaction.put.Goals as goal

pub put_new-requires : goal.put_new-requires
put_new-requires c =
    let a = c.args.self.now in
    omega (arith, counted a.state.inner.now a.table.0 (new_of a.new) a.taken.now, c.requires, ap length c.clear.ensures)

pub put_over-requires : goal.put_over-requires
put_over-requires c =
    let a = c.args.self.now in
    omega (arith, counted a.state.inner.now a.table.0 (new_of a.new) a.taken.now, c.requires, ap length c.clear.ensures, c.put_new.ensures.short)

pub put_taken-requires : goal.put_taken-requires
put_taken-requires c =
    let a = c.args.self.now in
    omega (arith, counted a.state.inner.now a.table.0 (new_of a.new) a.taken.now, c.requires, ap length c.clear.ensures, c.put_new.ensures.short, c.put_over.ensures.short)

pub returns : goal.returns
returns c =
    let a = c.args.self.now in
    let m = a.state.inner.now in
    let new = map (add_rowset a.table.0) (new_of a.new) in
    let w = map delete_vector_of (keep (is_over a.table.0 a.taken.now) (vectors_at m.epoch (state_of m))) in
    let d = map (delete_rowset a.table.0) a.taken.now in
    all-added new w d _ _ _ _ c.clear.ensures c.put_new.ensures.added c.put_over.ensures.added c.put_taken.ensures
