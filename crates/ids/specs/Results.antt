-- What follows a computation that may be refused. Assumes nothing.
use Rattle.std.specs.Prelude.{Result, Ok, Err}
use Rattle.ids.specs.declared.refusal.Refusal.{Refusal}

module _ {A B : Type 0} where
  abbrev pub and_then : Result A Refusal → (A → Result B Refusal) → Result B Refusal
  and_then (Err k) f = Err k
  and_then (Ok a) f = f a
