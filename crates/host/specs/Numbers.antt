-- What the numbers that cross the border say of the library's answer. Assumes nothing.
use Rattle.std.specs.Prelude.{◌≡◌, ℕ, List, [], take, Result, Ok, Err}
use Rattle.ids.specs.declared.refusal.Refusal.{Refusal}
use Rattle.ids.specs.Answers.{Told, told}
use Rattle.host.specs.declared.answers.Answer.{Answer}

-- the number, the place, and the first `count` values
abbrev pub said_by : Answer → Told
said_by a = record { number = a.number; place = a.place; values = take a.count a.values }

-- what an answer tells, where the numbers are those of what an accepted call gives
abbrev pub told_by : {A : Type 0} → (A → List ℕ) → Result A Refusal → Told
told_by numbers (Ok a) = told (Ok tt) (numbers a)
told_by numbers (Err r) = told (Err r) []

-- an answer of the library of which its entry point's own proposition holds, and whose number, place and values are those of a
pub record Tells (A : Type 0) (told_of : A → Told) (Says : A → Type 0) (a : Answer) : Type 0 where
  pub answer : A
  pub says : Says answer
  pub told : said_by a ≡ told_of answer
