-- The first condition that holds decides: how each call's ordered list of (condition, refusal) is read. Assumes nothing.
use Rattle.std.specs.Prelude.{Bool, cond, List, [], ◌∷◌, Result, Ok, Err}
use Rattle.ids.specs.declared.refusal.Refusal.{Refusal}

-- what judging finds: nothing to object to, or the refusal
abbrev pub Verdict : Type 0
Verdict = Result Unit Refusal

infix 20 ◌⇒◌
-- a condition, and the refusal that it gives
pub data Rule : Type 0 where
  ◌⇒◌ : Bool → Refusal → Rule

-- the verdict of an ordered list of rules
abbrev pub judged : List Rule → Verdict
judged [] = Ok tt
judged ((b ⇒ r) ∷ l) = cond b (Err r) (judged l)
