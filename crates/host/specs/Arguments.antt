-- What the numbers that cross the border stand for in a call's arguments. Assumes nothing.
use Rattle.std.specs.Prelude.{◌≡◌, Bool, cond, List, [], ◌∷◌, map, ℕ, ◌/◌, ◌%◌, leb, length, take}
use Rattle.ids.specs.Names.{longest_name}
use Rattle.transaction.specs.declared.Handles.{Handles}
use Rattle.transaction.specs.Groups.{Handle, handles_of}
use Rattle.transaction.specs.Says.{most_handles}

-- the name that is handed on: what is longer than any name becomes the name without bytes
abbrev pub name_in : List ℕ → List ℕ
name_in bytes = cond (leb (length bytes) longest_name) bytes []

-- the new rowset of a compaction, if there is one
abbrev pub new_in : Bool → ℕ → List ℕ
new_in some new = cond some (new ∷ []) []

-- a handle as one number: the rowset above, the row in the lower 32 bits
abbrev pub handle_in : ℕ → Handle
handle_in n = record { rowset = n / 4294967296; row = n % 4294967296 }

-- h has the handles that the numbers say, up to the most, and the count of all
pub record HandlesIn (numbers : List ℕ) (h : Handles) : Type 0 where
  pub count : h.count ≡ length numbers
  pub handles : handles_of h ≡ map handle_in (take most_handles numbers)
