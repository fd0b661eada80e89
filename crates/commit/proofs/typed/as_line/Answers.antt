-- `commit::typed::as_line` meets its contract.
use mathlib.Core.Path.{sym, ◌∙◌}
use Rattle.manifest.specs.Operations.{operation_of}
use Rattle.commit.proofs.AsLines.{as-line-same, as-line-none}
use Rattle.commit.proofs.typed.as_line.Goals as goal

pub returns-then-well_formed : goal.returns-then-well_formed
returns-then-well_formed c = as-line-same (operation_of c.args.change) (sym c.well_formed-2.ensures ∙ c.if-well_formed.true)

pub returns : goal.returns
returns c = c.none.ensures ∙ as-line-none (operation_of c.args.change) (sym c.well_formed-2.ensures ∙ c.if-well_formed.false)
