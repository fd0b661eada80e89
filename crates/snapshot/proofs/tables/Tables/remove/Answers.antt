-- `snapshot::tables::Tables::remove` meets its contract.
use mathlib.Core.Path.{refl, sym, ap, ◌∙◌, subst}
use mathlib.Core.Bool.{not, and-true}
use mathlib.Core.List.{List, [], ◌∷◌}
use Prim.Native.Nat.{◌+◌}
use native.Mathlib.Omega.{arith}
use Rattle.lists.specs.Keyed.{is_at}
use Rattle.columns.proofs.Rows.{rows-length}
use Rattle.snapshot.specs.Tables.{TableEntry, by_table, no_table, table_at}
use Rattle.snapshot.specs.Views.{tables_of, table_of}
use Rattle.snapshot.proofs.Packed.{Packing, pack-start, pack-take, pack-pass, pack-done, rows-front}
use Rattle.snapshot.proofs.tables.Tables.remove.Goals.{then-ne, else-ne}
use Rattle.snapshot.proofs.tables.Tables.remove.Goals as goal

pub loop-i-init : goal.loop-i-init
loop-i-init c = record { count = refl; behind = omega arith; packed = pack-start _ _ }

pub loop-i-preserved : goal.loop-i-preserved
loop-i-preserved c =
    let s = c.args.self.now in
    let n = c.loop-i.self in
    let i = c.loop-i.i in
    let h = c.loop-i-test.true in
    let e = c.loop-i.invariant.count in
    let p = λ (x : TableEntry). not (is_at by_table (c.args.table.0 ∷ []) x) in
    let z = rows-length (table_at n.ids n.shapes n.lengths n.names n.locked) n.count in
    elim c.if-ne.branch [
      | then-ne w ↦ rw (w.self-is, w.left-is) (record {
        count = w.set.ensures.count ∙ e;
        behind = omega arith;
        packed = subst (λ (l : List TableEntry). Packing p (tables_of s) (i + 1) (c.loop-i.left + 1) l) (sym w.set.ensures.told)
            (pack-take p (tables_of s) i c.loop-i.left (tables_of n) no_table (omega arith) c.loop-i.invariant.packed (table_of c.get-held.result) c.get-held.ensures (ap not (and-true _) ∙ sym c.ne.ensures ∙ w.if-ne.true));
      })
      | else-ne w ↦ rw (w.self-is, w.left-is) (record {
        count = e;
        behind = omega arith;
        packed = pack-pass p (tables_of s) i c.loop-i.left (tables_of n) no_table (omega arith) c.loop-i.invariant.packed (ap p (sym c.get-held.ensures) ∙ ap not (and-true _) ∙ sym c.ne.ensures ∙ w.if-ne.false);
      })
    ]

pub returns-clause-told : goal.returns-clause-told
returns-clause-told c =
    let n = c.loop-i.self in
    let h = c.loop-i-test.false in
    let e = c.loop-i.invariant.count in
    let v = c.loop-i.invariant.behind in
    let z = rows-length (table_at n.ids n.shapes n.lengths n.names n.locked) n.count in
    rows-front (table_at n.ids n.shapes n.lengths n.names n.locked) n.count c.loop-i.left (omega arith)
    ∙ pack-done _ (tables_of c.args.self.now) c.loop-i.i c.loop-i.left (tables_of n) (omega arith) c.loop-i.invariant.packed
