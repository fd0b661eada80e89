use Rattle.replay.proofs.Turns.{Reading}
use Rattle.replay.proofs.sets.Sets.read.Given as goal

abbrev pub invariant-loop-i : goal.invariant-loop-i
invariant-loop-i l = Reading l.manifest.src l.self l.begun l.i-iterator
