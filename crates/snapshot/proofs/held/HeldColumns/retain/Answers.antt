-- `snapshot::held::HeldColumns::retain` meets its contract.
use mathlib.Core.Path.{refl, sym, ap, ◌∙◌, subst}
use mathlib.Core.List.{List}
use Prim.Native.Nat.{◌+◌}
use native.Mathlib.Omega.{arith}
use Rattle.snapshot.specs.Entries.{Entry, nothing}
use Rattle.snapshot.specs.Views.{entry_of}
use Rattle.snapshot.proofs.Packed.{Packing, pack-start, pack-take, pack-pass, pack-done}
use Rattle.snapshot.proofs.held.HeldColumns.retain.Goals as goal

pub loop-i-init : goal.loop-i-init
loop-i-init g c = record { callable = c.requires.calls; count = refl; behind = omega arith; packed = λ p h. pack-start p (g.Self.Counted.entries c.args.self.now) }

pub loop-i-preserved : goal.loop-i-preserved
loop-i-preserved g c =
    let s = c.args.self.now in
    let n = c.loop-i.self in
    let i = c.loop-i.i in
    let l = g.Self.Counted.entries n in
    let h = c.loop-i-test.true in
    let e = c.loop-i.invariant.count in
    let z = g.met.Self.HeldColumns.sized n in
    let u = c.count-i-end.ensures in
    elim c.if-test.branch [
      | goal.then-test w ↦ rw (w.self-is, w.left-is) (record {
        callable = c.requires.calls;
        count = w.set.ensures.count ∙ e;
        behind = omega arith;
        packed = λ p t. subst (λ (m : List Entry). Packing p (g.Self.Counted.entries s) (i + 1) (c.loop-i.left + 1) m) (sym w.set.ensures.told)
            (pack-take p (g.Self.Counted.entries s) i c.loop-i.left l nothing (omega arith) (c.loop-i.invariant.packed p t) (entry_of g.Self.Ids.HeldIds.numbers c.get-held.result) c.get-held.ensures (sym (t c.get-held.result c.test.result c.test.ensures) ∙ w.if-test.true));
      })
      | goal.else-test w ↦ rw (w.self-is, w.left-is) (record {
        callable = c.requires.calls;
        count = e;
        behind = omega arith;
        packed = λ p t. pack-pass p (g.Self.Counted.entries s) i c.loop-i.left l nothing (omega arith) (c.loop-i.invariant.packed p t) (ap p (sym c.get-held.ensures) ∙ sym (t c.get-held.result c.test.result c.test.ensures) ∙ w.if-test.false);
      })
    ]

pub returns-clause-told : goal.returns-clause-told
returns-clause-told g c p t =
    let n = c.loop-i.self in
    let h = c.loop-i-test.false in
    let e = c.loop-i.invariant.count in
    let z = g.met.Self.HeldColumns.sized n in
    let u = c.count-i-end.ensures in
    c.truncate.ensures.told ∙ pack-done p (g.Self.Counted.entries c.args.self.now) c.loop-i.i c.loop-i.left (g.Self.Counted.entries n) (omega arith) (c.loop-i.invariant.packed p t)
