-- Internal: vectors in arrays, without their files, and how they are handed out. Assumes nothing.
use Rattle.std.specs.Prelude.{◌≡◌, true, false, List, ℕ, length, take, Result, Ok, Err}
use Rattle.ids.specs.declared.refusal.Refusal.{Refusal}
use Rattle.ids.specs.declared.refusal.Refusal.TheVariants.{OutputTooShort}
use Rattle.transaction.specs.declared.vectors.Vectors.{Vectors}
use Rattle.transaction.specs.Groups.{Vector, rowsets_in, lengths_in, counts_in, memories_in}
use Rattle.transaction.specs.Says.{HandedOut}

-- v has the vectors vs
pub record Holds (vs : List Vector) (v : Vectors) : Type 0 where
  pub count : v.count ≡ length vs
  pub rowsets : take v.count v.rowsets ≡ rowsets_in vs
  pub lengths : take v.count v.lengths ≡ lengths_in vs
  pub counts : take v.count v.counts ≡ counts_in vs
  pub memories : take v.kept v.held ≡ memories_in vs

-- the vectors vs go to the lent slices, or one of these is too short, and that is the refusal
abbrev pub Handed : List Vector → Result Unit Refusal → List ℕ → List ℕ → List ℕ → List ℕ → List ℕ → List ℕ → List ℕ → List ℕ → List ℕ → List ℕ → Type 0
Handed vs (Err k) rs ls cs fs ms rs' ls' cs' fs' ms' = (k ≡ OutputTooShort) × HandedOut vs true rs ls cs fs ms rs' ls' cs' fs' ms'
Handed vs (Ok u) rs ls cs fs ms rs' ls' cs' fs' ms' = HandedOut vs false rs ls cs fs ms rs' ls' cs' fs' ms'
