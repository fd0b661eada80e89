-- What a program's exit status is.
use Rattle.std.specs.Prelude.{ℕ}
use Rattle.status.specs.declared.Status.{Status}
use Rattle.status.specs.declared.Status.TheVariants.{Done, Refused, Failed}

abbrev pub code : Status → ℕ
code Done = 0
code Refused = 1
code Failed = 2
