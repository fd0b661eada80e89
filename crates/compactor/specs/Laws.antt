-- What is taken of entries in order, before it is asked whether that is enough; and the order of what is selected. Assumes nothing.
use Rattle.std.specs.Prelude.{◌≡◌, true, false, List, [], ◌∷◌, ◌++◌, ℕ, ◌+◌, ◌≤◌, ◌<◌, length, take}
use Rattle.lists.specs.Keyed.{ascending}
use Rattle.version_state.specs.declared.VersionManagerInner.{VersionManagerInner}
use Rattle.version_state.specs.State.{state_of}
use Rattle.version_state.specs.Sound.{bad_inner}
use Rattle.compactor.specs.Selection.{Sized, taken, selected}

-- the sum of the sizes
abbrev pub total : List Sized → ℕ
total [] = 0
total (x ∷ l) = x.size + total l

-- some of the entries, in their order
pub data Part : List Sized → List Sized → Type 0 where
  none : Part [] []
  more : {x : Sized} {k l : List Sized} → Part k l → Part (x ∷ k) (x ∷ l)
  past : {x : Sized} {k l : List Sized} → Part k l → Part k (x ∷ l)

abbrev pub by_rowset : ℕ → List ℕ
by_rowset r = r ∷ []

pub record TakenLaws : Type 0 where
  -- the sizes of what is taken never pass the target
  pub within : (target : ℕ) (l : List Sized) → total (taken target l) ≤ target
  -- when its turn comes, after the entries a, an entry is taken if it fits, and left out if it does not
  pub fitting : (target : ℕ) (a : List Sized) (x : Sized) → total (taken target a) + x.size ≤ target → taken target (a ++ (x ∷ [])) ≡ taken target a ++ (x ∷ [])
  pub unfitting : (target : ℕ) (a : List Sized) (x : Sized) → target < total (taken target a) + x.size → taken target (a ++ (x ∷ [])) ≡ taken target a
  -- and later entries change nothing of it
  pub later : (target : ℕ) (a b : List Sized) → take (length (taken target a)) (taken target (a ++ b)) ≡ taken target a
  -- it is some of the entries, in their order
  pub part : (target : ℕ) (l : List Sized) → Part (taken target l) l
  -- what is selected of a state that passes 29 rises strictly
  pub rising : (m : VersionManagerInner) → bad_inner m ≡ false → (t target : ℕ) (ns : List ℕ) → ascending by_rowset (selected t target ns (state_of m)) ≡ true
