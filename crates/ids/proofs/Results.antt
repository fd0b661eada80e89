-- Results taken apart, and what follows them. Assumes nothing.
use mathlib.Core.Path.{◌≡◌, refl}
use Prim.Native.Nat.{ℕ}
use native.Mathlib.Omega.{arith}
use Rattle.std.specs.Prelude.{Result, Ok, Err}
use Rattle.ids.specs.declared.refusal.Refusal.{Refusal}
use Rattle.ids.specs.Results.{and_then}

pub not-given : {A : Type 0} {k : Refusal} {a : A} → ◌≡◌ {A = Result A Refusal} (Err k) (Ok a) → ⊥
not-given h = let z : ◌≡◌ {A = ℕ} 0 1 = cc in omega arith

pub same-given : {A : Type 0} {a b : A} → ◌≡◌ {A = Result A Refusal} (Ok a) (Ok b) → a ≡ b
same-given h = cc

pub then_same : {A B : Type 0} (x : Result A Refusal) (f g : A → Result B Refusal) → ((a : A) → f a ≡ g a) → and_then x f ≡ and_then x g
then_same (Err k) f g h = refl
then_same (Ok a) f g h = h a
