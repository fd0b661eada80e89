-- Laws of ordered lists of rules. Assumes nothing.
use mathlib.Core.Path.{◌≡◌, refl}
use mathlib.Core.Bool.{Bool, true, false}
use mathlib.Core.List.{List, [], ◌∷◌, ◌++◌}
use Rattle.lists.proofs.Keyed.{All}
use Rattle.ids.specs.declared.refusal.Refusal.{Refusal}
use Rattle.std.specs.Prelude.{Ok, Err}
use Rattle.std.specs.Result.{result_and}
use Rattle.ids.specs.Verdicts.{Rule, ◌⇒◌, judged, Verdict}

-- the rule's condition does not hold
abbrev pub Passed : Rule → Type 0
Passed (b ⇒ r) = b ≡ false

pub judged-append : (l m : List Rule) → judged (l ++ m) ≡ result_and (judged l) (judged m)
judged-append [] m = refl
judged-append ((true ⇒ r) ∷ l) m = refl
judged-append ((false ⇒ r) ∷ l) m = judged-append l m

-- accepted exactly where no condition holds
pub judged-none : (l : List Rule) → All Passed l → judged l ≡ Ok tt
judged-none [] h = refl
judged-none ((b ⇒ r) ∷ l) h = rw h.0 (judged-none l h.1)

pub none-judged : (l : List Rule) → judged l ≡ Ok tt → All Passed l
none-judged [] h = tt
none-judged ((true ⇒ r) ∷ l) h = absurd (cc)
none-judged ((false ⇒ r) ∷ l) h = (refl, none-judged l h)

-- refused by the first rule whose condition holds: none before it does
pub refused-at : (before : List Rule) (b : Bool) (r : Refusal) (after : List Rule) → All Passed before → b ≡ true → judged (before ++ ((b ⇒ r) ∷ after)) ≡ Err r
refused-at [] b r after p h = rw h
refused-at ((c ⇒ q) ∷ before) b r after p h = rw p.0 (refused-at before b r after p.1 h)

-- an answer that a verdict decides
pub accepted-with : {A : Type 0} (v : Verdict) (a b : A) → result_and v (Ok a) ≡ Ok b → (v ≡ Ok tt) × (a ≡ b)
accepted-with (Ok _) a b h = (refl, cc)
accepted-with (Err k) a b h = absurd (cc)

pub refused-with : {A : Type 0} (v : Verdict) (a : A) (k : Refusal) → result_and v (Ok a) ≡ Err k → v ≡ Err k
refused-with (Ok _) a k h = absurd (cc)
refused-with (Err j) a k h = cc
