-- `manifest_lines::ManifestLines::next` meets its contract: each line takes the reader further.
use mathlib.Core.Path.{sym, ◌∙◌}
use Rattle.std.proofs.Common.{arith}
use Rattle.std.proofs.lemmas.Grind.{common_steps}
use Rattle.manifest.proofs.Split.{line-further}
use Rattle.manifest_lines.proofs.ManifestLinesIterator.next.Goals as goal

pub returns-clause-goes : goal.returns-clause-goes
returns-clause-goes c =
    let further = line-further _ _ _ (sym c.line_at.ensures ∙ c.in_ok-line.was) in
    grind (arith, common_steps)
