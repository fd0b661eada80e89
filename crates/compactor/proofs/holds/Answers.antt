-- `compactor::holds` meets its contract: the laws of what is taken and selected. Assumes nothing.
use Rattle.compactor.proofs.Laws.{taken-within, taken-fitting, taken-unfitting, taken-later, part-on}
use Rattle.compactor.proofs.Rising.{selected-rises}
use Rattle.compactor.proofs.holds.Goals as goal

pub returns : goal.returns
returns c =
    record {
      within = taken-within;
      fitting = taken-fitting;
      unfitting = taken-unfitting;
      later = taken-later;
      part = λ t l. part-on t 0 l;
      rising = selected-rises;
    }
