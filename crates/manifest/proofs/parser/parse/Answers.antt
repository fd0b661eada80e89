-- `manifest::parser::parse` meets its contract.
use mathlib.Core.Path.{◌≡◌, sym, ap, ◌∙◌}
use mathlib.Core.Bool.{false}
use Rattle.std.proofs.Common.{arith}
use Rattle.std.proofs.lemmas.Grind.{common_steps}
use Rattle.manifest.specs.Operations.{line_said, add_rowset, delete_rowset, add_vector, delete_vector, next_ids}
use Rattle.manifest.specs.Lines.{is_torn}
use Rattle.manifest.specs.Fields.{of_two, of_three}
use Rattle.manifest.proofs.Fields.{line-add, line-delete, line-add-vector, line-delete-vector, line-next}
use Rattle.manifest.proofs.parser.parse.Goals as goal

pub returns-in_err-t-in-65 : goal.returns-in_err-t-in-65
returns-in_err-t-in-65 c =
    let t : is_torn c.args.s.now ≡ false = grind (arith, common_steps) in
    ap line_said c.from_residual-in_err-t-in-65.ensures ∙ ap (of_two add_rowset) (sym c.in_err-t-in-65.was) ∙ line-add _ t _ c.pair.ensures c.in-65.is

pub returns-in_ok-t-in-65 : goal.returns-in_ok-t-in-65
returns-in_ok-t-in-65 c =
    let t : is_torn c.args.s.now ≡ false = grind (arith, common_steps) in
    c.epoch.ensures ∙ ap (of_two add_rowset) (sym c.in_ok-t-in-65.was) ∙ line-add _ t _ c.pair.ensures c.in-65.is

pub returns-in_err-t-in-68 : goal.returns-in_err-t-in-68
returns-in_err-t-in-68 c =
    let t : is_torn c.args.s.now ≡ false = grind (arith, common_steps) in
    ap line_said c.from_residual-in_err-t-in-68.ensures ∙ ap (of_two delete_rowset) (sym c.in_err-t-in-68.was) ∙ line-delete _ t _ c.pair-in-68.ensures c.in-68.is

pub returns-in_ok-t-in-68 : goal.returns-in_ok-t-in-68
returns-in_ok-t-in-68 c =
    let t : is_torn c.args.s.now ≡ false = grind (arith, common_steps) in
    c.epoch-in-68.ensures ∙ ap (of_two delete_rowset) (sym c.in_ok-t-in-68.was) ∙ line-delete _ t _ c.pair-in-68.ensures c.in-68.is

pub returns-in_err-t-in-86 : goal.returns-in_err-t-in-86
returns-in_err-t-in-86 c =
    let t : is_torn c.args.s.now ≡ false = grind (arith, common_steps) in
    ap line_said c.from_residual-in_err-t-in-86.ensures ∙ ap (of_three add_vector) (sym c.in_err-t-in-86.was) ∙ line-add-vector _ t _ c.vector.ensures c.in-86.is

pub returns-in_ok-t-in-86 : goal.returns-in_ok-t-in-86
returns-in_ok-t-in-86 c =
    let t : is_torn c.args.s.now ≡ false = grind (arith, common_steps) in
    c.epoch-in-86.ensures ∙ ap (of_three add_vector) (sym c.in_ok-t-in-86.was) ∙ line-add-vector _ t _ c.vector.ensures c.in-86.is

pub returns-in_err-t-in-87 : goal.returns-in_err-t-in-87
returns-in_err-t-in-87 c =
    let t : is_torn c.args.s.now ≡ false = grind (arith, common_steps) in
    ap line_said c.from_residual-in_err-t-in-87.ensures ∙ ap (of_three delete_vector) (sym c.in_err-t-in-87.was) ∙ line-delete-vector _ t _ c.vector-in-87.ensures c.in-87.is

pub returns-in_ok-t-in-87 : goal.returns-in_ok-t-in-87
returns-in_ok-t-in-87 c =
    let t : is_torn c.args.s.now ≡ false = grind (arith, common_steps) in
    c.epoch-in-87.ensures ∙ ap (of_three delete_vector) (sym c.in_ok-t-in-87.was) ∙ line-delete-vector _ t _ c.vector-in-87.ensures c.in-87.is

pub returns-in_err-t-in-78 : goal.returns-in_err-t-in-78
returns-in_err-t-in-78 c =
    let t : is_torn c.args.s.now ≡ false = grind (arith, common_steps) in
    ap line_said c.from_residual-in_err-t-in-78.ensures ∙ ap (of_three next_ids) (sym c.in_err-t-in-78.was) ∙ line-next _ t _ c.vector-in-78.ensures c.in-78.is

pub returns-in_ok-t-in-78 : goal.returns-in_ok-t-in-78
returns-in_ok-t-in-78 c =
    let t : is_torn c.args.s.now ≡ false = grind (arith, common_steps) in
    c.epoch-in-78.ensures ∙ ap (of_three next_ids) (sym c.in_ok-t-in-78.was) ∙ line-next _ t _ c.vector-in-78.ensures c.in-78.is
