-- `host::arguments::handles` meets its contract.
use Rattle.std.proofs.Common.{◌≡◌, ◌<◌, refl, ap, ◌∙◌, arith, length-set, length-take}
use Rattle.std.proofs.lemmas.List.{get_or-take}
use Rattle.host.specs.Arguments.{handle_in}
use Rattle.host.proofs.Lent.{handles-more, handles-done}
use Rattle.host.proofs.arguments.handles.Goals as goal

pub loop-i-preserved : goal.loop-i-preserved
loop-i-preserved c =
    let inv = c.loop-i.invariant in
    let full = inv.full in
    let m = c.min.ensures in
    let ns = c.args.numbers.now in
    let k : c.loop-i.i < c.min.result = omega (arith, length-take c.min.result ns, c.loop-i-test.true) in
    let given = c.handle.ensures ∙ ap handle_in (get_or-take c.min.result ns c.loop-i.i 0 k) in
    record {
      full = simp length-set full;
      handled = handles-more c.loop-i.items ns c.loop-i.i c.handle.result (omega arith) (omega arith) given inv.handled;
    }

pub returns : goal.returns
returns c =
    let inv = c.loop-i.invariant in
    let m = c.min.ensures in
    let e : c.loop-i.i ≡ c.min.result = omega (arith, length-take c.min.result c.args.numbers.now, c.loop-i.auto.i-end, c.loop-i-test.false) in
    record {
      count = refl;
      handles = handles-done c.loop-i.items c.args.numbers.now c.loop-i.i (e ∙ m) inv.full inv.handled;
    }
