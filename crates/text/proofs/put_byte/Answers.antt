-- `text::put_byte` meets its contract.
use mathlib.Core.Path.{refl}
use Rattle.lists.proofs.Written.{written_one}
use Rattle.text.proofs.put_byte.Goals as goal

pub returns : goal.returns
returns c = record { content = written_one _ _ _ c.requires; next = refl }
