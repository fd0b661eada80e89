-- What searches among entries answer: where a key stands, the first that passes a test, and what is left of a list that is walked along another. Assumes nothing.
use Rattle.std.specs.Prelude.{◌≡◌, Bool, true, false, cond, ◌&&◌, List, [], ◌∷◌, ℕ, ◌+◌, ◌<◌, ◌≤◌, Option, Some, None, Result, Ok, Err, get_or, take, drop, ltb}
use Rattle.lists.specs.Order.{less, same}
use Rattle.lists.specs.Keyed.{keep, has, rank}
use Rattle.snapshot.specs.Entries.{Entry, by_ids, nothing}

-- of n entries, the one of the key k stands at a place, or would be put in there
abbrev pub FoundAt : List ℕ → List Entry → ℕ → Result ℕ ℕ → Type 0
FoundAt k l n (Ok at) = (at ≡ rank by_ids k l) × (at < n) × (has by_ids k l ≡ true)
FoundAt k l n (Err at) = (at ≡ rank by_ids k l) × (at ≤ n) × (has by_ids k l ≡ false)

-- of those that pass a test from one place on and before another, the first, which stands at a place, or none
abbrev pub FirstPassing : (Entry → Bool) → List Entry → ℕ → ℕ → Option ℕ → Type 0
FirstPassing p l from end None = keep p (drop from (take end l)) ≡ []
FirstPassing p l from end (Some i) = (i < end) × (keep p (drop from (take end l)) ≡ get_or l i nothing ∷ keep p (drop (i + 1) (take end l)))

-- an entry stands before the least ids of the table t, which are t and zeros, just where its own table is below t
abbrev pub BeforeTable : ℕ → List ℕ → Entry → Type 0
BeforeTable t zs x = less x.ids (t ∷ zs) ≡ ltb (get_or x.ids 0 0) t

-- what is answered of a row is what a test of its entry says
abbrev pub Tests : {R E : Type 0} → (R → Bool → Type 0) → (R → E) → (E → Bool) → Type 0
Tests {R} answers entry p = (x : R) (b : Bool) → answers x b → b ≡ p (entry x)

module _ {A : Type 0} (key : A → List ℕ) where
  -- without the first ones that are below the key k
  abbrev pub drop_below : List ℕ → List A → List A
  drop_below k [] = []
  drop_below k (x ∷ l) = cond (less (key x) k) (drop_below k l) (x ∷ l)

  -- the first one has the key k, and passes a test
  abbrev pub leads : (A → Bool) → List ℕ → List A → Bool
  leads p k [] = false
  leads p k (x ∷ l) = same (key x) k && p x
