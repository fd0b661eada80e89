-- Hash maps and hash sets of the Rust's, and calls of it that may fail. Its names stand here with `-` for `_`. Assumes nothing.
use Rattle.std.specs.Prelude.{Bool, true, false, cond, not, List, [], ◌∷◌, map, ℕ, eqb}
use Rattle.std.proofs.Math.Option.{Option, none, some}
use Rattle.lists.specs.Keyed.{keep, any_of}

-- what a call ends with: a value, or an error or a panic
pub data Outcome (A : Type 0) : Type 0 where
  fails : Outcome A
  ok : A → Outcome A

module _ {A B : Type 0} where
  abbrev pub and_then : Outcome A → (A → Outcome B) → Outcome B
  and_then fails f = fails
  and_then (ok a) f = f a

module _ {A : Type 0} where
  abbrev pub unwrap : Option A → Outcome A
  unwrap none = fails
  unwrap (some a) = ok a

  abbrev pub unwrap_or : A → Option A → A
  unwrap_or d none = d
  unwrap_or d (some a) = a

-- `HashSet` of numbers: in what order they stand means nothing
abbrev pub contains : ℕ → List ℕ → Bool
contains x s = any_of (λ y. eqb y x) s

abbrev pub without_number : ℕ → List ℕ → List ℕ
without_number x s = keep (λ y. not (eqb y x)) s

abbrev pub with_number : ℕ → List ℕ → List ℕ
with_number x s = x ∷ without_number x s

abbrev pub is_empty : {A : Type 0} → List A → Bool
is_empty [] = true
is_empty (x ∷ l) = false

-- `HashMap` by a number: no two bindings have one key, and their order means nothing
pub record Binding (X : Type 0) : Type 0 where
  pub key : ℕ
  pub value : X

module _ {X : Type 0} where
  abbrev pub binding : ℕ → X → Binding X
  binding k v = record { key = k; value = v }

  abbrev pub get : ℕ → List (Binding X) → Option X
  get k [] = none
  get k (b ∷ m) = cond (eqb b.key k) (some b.value) (get k m)

  abbrev pub remove : ℕ → List (Binding X) → List (Binding X)
  remove k m = keep (λ b. not (eqb b.key k)) m

  abbrev pub insert : ℕ → X → List (Binding X) → List (Binding X)
  insert k v m = binding k v ∷ remove k m

  abbrev pub keys : List (Binding X) → List ℕ
  keys m = map (λ b. b.key) m
