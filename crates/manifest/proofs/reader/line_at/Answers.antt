-- `manifest::reader::line_at` meets its contract.
use mathlib.Core.Path.{◌≡◌, sym, ap, ◌∙◌}
use lib.ListN.{drop}
use Rattle.std.proofs.Common.{rules, tests, arith}
use Rattle.std.proofs.lemmas.Grind.{common_steps}
use Rattle.std.proofs.lemmas.Iterator.{YieldsList-from_slice}
use Rattle.std.proofs.lemmas.Iterator.Search.{position_from_yields_List}
use Rattle.text.specs.Class.{is_newline}
use Rattle.manifest.proofs.Split.{line_found, line-at, line-past}
use Rattle.manifest.proofs.reader.line_at.Goals as goal

pub returns-in_err-rest : goal.returns-in_err-rest
returns-in_err-rest c = grind (arith, common_steps, line-past)

pub returns-in_err-end : goal.returns-in_err-end
returns-in_err-end c =
    let s = c.args.s.now in
    let at = c.args.at in
    let rest = c.in_ok-rest.rest.now in
    let d : rest ≡ drop at s = grind (arith, common_steps) in
    let p = position_from_yields_List {all = rest} is_newline _ _ _ c.position.ensures.ran (YieldsList-from_slice rest cc) (λ x b q k. search (rules, tests)) in
    c.from_residual-in_err-end.ensures ∙ ap (line_found at at) (sym c.in_err-end.was) ∙ sym (line-at s at _ (rw d at p))

pub returns : goal.returns
returns c =
    let s = c.args.s.now in
    let at = c.args.at in
    let rest = c.in_ok-rest.rest.now in
    let d : rest ≡ drop at s = grind (arith, common_steps) in
    let p = position_from_yields_List {all = rest} is_newline _ _ _ c.position.ensures.ran (YieldsList-from_slice rest cc) (λ x b q k. search (rules, tests)) in
    ap (line_found at at) (sym c.in_ok-end.was) ∙ sym (line-at s at _ (rw d at p))
