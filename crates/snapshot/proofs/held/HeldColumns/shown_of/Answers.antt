-- `snapshot::held::HeldColumns::shown_of` meets its contract.
use native.Mathlib.Omega.{arith}
use Prim.Native.Nat.{◌+◌}
use Rattle.lists.proofs.Keyed.{ascend-to}
use Rattle.snapshot.specs.Entries.{by_ids, shown_by}
use Rattle.snapshot.specs.Found.{BeforeTable}
use Rattle.snapshot.proofs.ByPlace.{one-run}
use Rattle.snapshot.proofs.Listed.{all-by-place}
use Rattle.snapshot.proofs.held.HeldColumns.shown_of.Goals as goal

pub returns : goal.returns
returns g c =
    let s = c.args.self.now in
    let l = g.Self.Counted.entries s in
    let t = c.args.table.0 in
    let zs = g.Self.Ids.HeldIds.zeros in
    let z = g.met.Self.HeldColumns.sized s in
    rw (c.place-next.ensures.told, c.place-end.ensures.told, c.first_of.ensures, c.first_of-2.ensures)
    (one-run t zs (shown_by c.args.epoch) l (ascend-to by_ids l c.requires.rises)
    (all-by-place (BeforeTable t zs) l (λ i h. g.met.Self.HeldColumns.before_table s t i (omega arith)))
    (all-by-place (BeforeTable (t + 1) zs) l (λ i h. g.met.Self.HeldColumns.before_table s (t + 1) i (omega arith))))
