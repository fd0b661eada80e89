-- `manifest::printer::put_fields` meets its contract.
use mathlib.Core.Path.{◌≡◌}
use mathlib.Core.List.{[], ◌∷◌}
use native.Mathlib.Omega.{arith}
use lib.ListN.{length}
use Rattle.lists.proofs.Written.{wrote_on}
use Rattle.manifest.proofs.Texts.{fields_none, fields_more, fields-text-room}
use Rattle.manifest.proofs.printer.put_fields.Goals as goal

pub loop-n-init : goal.loop-n-init
loop-n-init c = (omega (arith, c.requires, c.put_byte-i.auto.out), rw fields_none c.put_byte-i.ensures)

pub put_byte-i-requires-in-loop-n : goal.put_byte-i-requires-in-loop-n
put_byte-i-requires-in-loop-n c =
    let i = c.loop-n.invariant in
    omega (arith, i.0, i.1.next, fields-text-room c.args.fields.now c.loop-n.n-index c.loop-n-test.true)

pub put_number-i-requires : goal.put_number-i-requires
put_number-i-requires c =
    let i = c.loop-n.invariant in
    let p = c.put_byte-i-in-loop-n in
    omega (arith, i.0, i.1.next, p.ensures.next, p.auto.out, fields-text-room c.args.fields.now c.loop-n.n-index c.loop-n-test.true)

pub loop-n-preserved : goal.loop-n-preserved
loop-n-preserved c =
    let i = c.loop-n.invariant in
    let p = c.put_byte-i-in-loop-n in
    let q = c.put_number-i in
    let r = fields-text-room c.args.fields.now c.loop-n.n-index c.loop-n-test.true in
    let room : length c.loop-n.out ≡ length c.args.out.now = omega (arith, c.loop-n.auto.out, c.put_byte-i.auto.out) in (
      omega (arith, i.0, p.auto.out, q.auto.out),
      rw (fields_more c.args.fields.now c.loop-n.n-index c.loop-n-test.true)
          (wrote_on _ _ _ _ _ _ _ _ (omega (arith, i.0, room, r)) i.1
          (wrote_on _ _ (44 ∷ []) _ _ _ _ _ (omega (arith, i.0, i.1.next, r)) p.ensures q.ensures)),
    )
