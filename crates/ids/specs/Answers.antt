-- What an answer tells: the specification's number (0 where the call is accepted), place and values. Assumes nothing.
use Rattle.std.specs.Prelude.{ℕ, List, [], Ok, Err}
use Rattle.ids.specs.Refusals.{number_of, place_of}
use Rattle.ids.specs.Verdicts.{Verdict}

pub record Told : Type 0 where
  pub number : ℕ
  pub place : ℕ
  pub values : List ℕ

-- what a verdict tells: its refusal, or the values of an accepted call
abbrev pub told : Verdict → List ℕ → Told
told (Ok _) vs = record { number = 0; place = 0; values = vs }
told (Err r) vs = record { number = number_of r; place = place_of r; values = [] }

-- what a lent buffer holds afterwards: a refusal leaves it as it was
abbrev pub after : {A : Type 0} → Verdict → A → A → A
after (Ok _) new old = new
after (Err r) new old = old
