-- `compaction::Compaction::takes` meets its contract.
use mathlib.Core.Path.{◌∙◌}
use Rattle.compaction.proofs.Searched.{among}
use Rattle.compaction.proofs.Compaction.takes.Goals as goal

pub returns : goal.returns
returns c = c.is_ok.ensures.value ∙ among c.args.rowset.0 c.args.self.now.taken.now c.binary_search.result c.binary_search.ensures.position c.args.self.now.rises
