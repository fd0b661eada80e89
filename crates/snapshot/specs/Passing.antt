-- What is left to come of what passes a test of epochs. Assumes nothing.
use Rattle.std.specs.Prelude.{List, take, drop}
use Rattle.lists.specs.Keyed.{keep}
use Rattle.snapshot.specs.Entries.{Entry, passes}
use Rattle.snapshot.specs.declared.counted.Counted as counted
use Rattle.snapshot.specs.declared.epoch.EpochTest as epochs
use Rattle.snapshot.specs.declared.passing.Passing.{Passing}

-- those of what is held that pass a test, from one place on and before another
abbrev pub to_come : {H T : Type 0} {h : counted.Ghosts H} {t : epochs.Ghosts T} → Passing H T h t → List Entry
to_come {h = h} {t = t} s = keep (passes (t.test s.test)) (drop s.next (take s.end (h.entries s.columns.now)))
