-- A state that operations alter. All here is internal. Assumes nothing.
use Rattle.std.specs.Prelude.{◌≡◌}
use Rattle.operations.specs.declared.working.Working.{Working}

-- the same state, lent for the same epoch, whatever became of it
abbrev pub Same : Working → Working → Type 0
Same w u = (u.inner.ghost_name ≡ w.inner.ghost_name) × (u.epoch ≡ w.epoch)
