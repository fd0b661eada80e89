-- Internal: the lines of the commit that a call makes, under the call's own verdict. Assumes nothing.
use Rattle.std.specs.Prelude.{◌≡◌, List, ℕ, Ok}
use Rattle.ids.specs.Verdicts.{Verdict}
use Rattle.manifest.specs.Operations.{Operation}
use Rattle.frames.specs.Frames.{texts_of}

-- what is answered under the verdict v: where it accepts, the lines are those of os
pub record MadeIs (v : Verdict) (os : List Operation) (r : Verdict) (lines : List ℕ) : Type 0 where
  pub answer : r ≡ v
  pub made : v ≡ Ok tt → lines ≡ texts_of os
