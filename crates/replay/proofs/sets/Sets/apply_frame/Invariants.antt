use Rattle.replay.specs.Sets.{state_in}
use Rattle.replay.proofs.Reading.{Going}
use Rattle.replay.proofs.sets.Sets.apply_frame.Given as goal

abbrev pub invariant-loop-number : goal.invariant-loop-number
invariant-loop-number l = Going l.manifest.src (state_in l.initial.self) l.fn.begun l.self l.number-iterator
