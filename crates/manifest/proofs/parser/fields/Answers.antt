-- `manifest::parser::fields` meets its contract.
use mathlib.Core.Path.{sym, ◌∙◌}
use lib.ListN.{length-set}
use native.Mathlib.Omega.{arith}
use Rattle.manifest.proofs.Fields.{fields-more, fields-end, fields_small}
use Rattle.manifest.proofs.parser.fields.Goals as goal

pub loop-i-preserved : goal.loop-i-preserved
loop-i-preserved g c =
    let i = c.loop-i.invariant in
    (simp length-set i.0, i.1 ∙ fields-more c.args.s.now c.args.limits c.loop-i.values c.loop-i.i _ _ _ (omega arith) (omega arith) (sym c.field.ensures ∙ c.in_ok-values.was))

pub returns-then-at-s-clause-small : goal.returns-then-at-s-clause-small
returns-then-at-s-clause-small g c k h =
    let i = c.loop-i.invariant in
    fields_small c.args.limits c.args.s.now 1 c.loop-i.values k
    (i.1 ∙ fields-end c.args.s.now c.args.limits c.loop-i.values c.loop-i.i c.loop-i.at (omega arith) (omega arith) c.if-at-s.true)
    (omega arith)
