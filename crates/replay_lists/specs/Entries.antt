-- Where an entry stands in a list that ascends by keys, which are lists of numbers. Assumes nothing.
use Rattle.std.specs.Prelude.{◌≡◌, true, false, List, ℕ, ◌<◌, length}
use Rattle.lists.specs.Keyed.{has, rank}

-- by the numbers of its key
abbrev pub by : {A K : Type 0} → (K → List ℕ) → (A → K) → A → List ℕ
by numbers key x = numbers (key x)

module _ {A : Type 0} (key : A → List ℕ) (k : List ℕ) (l : List A) where
  -- an entry of the key k stands at a place
  pub record StandsAt (at : ℕ) : Type 0 where
    pub place : at ≡ rank key k l
    pub within : at < length l
    pub there : has key k l ≡ true

  -- no entry has the key k; one would stand at a place
  pub record MissingAt (at : ℕ) : Type 0 where
    pub place : at ≡ rank key k l
    pub absent : has key k l ≡ false
