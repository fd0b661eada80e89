-- What a grouping for a state that 29 let pass is: its answer and the lent slices. Assumes nothing.
use Rattle.std.specs.Prelude.{◌≡◌, Bool, cond, not, ◌||◌, List, [], ◌∷◌, map, ℕ, ◌+◌, ltb, length, Ok, Result}
use Rattle.std.specs.Result.{result_and}
use Rattle.lists.specs.Keyed.{all_of}
use Rattle.lists.specs.Written.{over}
use Rattle.ids.specs.Ids.{is_id32, largest64}
use Rattle.ids.specs.declared.refusal.Refusal.{Refusal}
use Rattle.ids.specs.declared.refusal.Refusal.TheVariants.{Malformed, WrongCount, IdsUsedUp, OutputTooShort}
use Rattle.ids.specs.Verdicts.{Rule, ◌⇒◌, judged, Verdict}
use Rattle.ids.specs.Answers.{after}
use Rattle.transaction.specs.Groups.{Handle, Vector, vectors_of, rowsets_in, lengths_in, counts_in, files_in, memories_in}

-- the most handles of a transaction
abbrev pub most_handles : ℕ
most_handles = 4096

-- 2: a rowset is no id
abbrev pub no_id : List Handle → Bool
no_id hs = not (all_of is_id32 (map (λ (h : Handle). h.rowset) hs))

-- 26: of the vectors' ids, from next on, not all are below the largest value
abbrev pub used_up : ℕ → List Vector → Bool
used_up next vs = ltb largest64 (next + length vs)

-- 9: a slice, lent with so many places, is too short
abbrev pub too_short : List Vector → ℕ → ℕ → ℕ → ℕ → ℕ → Bool
too_short vs rs ls cs fs ms =
    ltb rs (length vs) || (ltb ls (length vs) || (ltb cs (length vs) || (ltb fs (length (files_in vs)) || ltb ms (length (memories_in vs)))))

-- 2, 8, 26, 9; before them 29
abbrev pub group_rules : List Handle → ℕ → ℕ → ℕ → ℕ → ℕ → ℕ → ℕ → List Rule
group_rules hs count next rs ls cs fs ms =
    (no_id hs ⇒ Malformed 0)
    ∷ (ltb most_handles count ⇒ WrongCount)
    ∷ (used_up next (vectors_of hs) ⇒ IdsUsedUp)
    ∷ (too_short (vectors_of hs) rs ls cs fs ms ⇒ OutputTooShort)
    ∷ []

-- the vectors go to the fronts of the lent slices rs, ls, cs, fs and ms, unless one of these is too short
pub record HandedOut (vs : List Vector) (short : Bool) (rs ls cs fs ms rs' ls' cs' fs' ms' : List ℕ) : Type 0 where
  pub told : short ≡ too_short vs (length rs) (length ls) (length cs) (length fs) (length ms)
  pub rowsets : rs' ≡ cond short rs (over (rowsets_in vs) rs)
  pub lengths : ls' ≡ cond short ls (over (lengths_in vs) ls)
  pub counts : cs' ≡ cond short cs (over (counts_in vs) cs)
  pub files : fs' ≡ cond short fs (over (files_in vs) fs)
  pub memories : ms' ≡ cond short ms (over (memories_in vs) ms)

-- with the verdict v, the vectors vs go to the fronts of the lent slices rs, ls, cs, fs and ms, and the answer g is how many they are
pub record Grouped (v : Verdict) (vs : List Vector) (rs ls cs fs ms : List ℕ) (g : Result ℕ Refusal) (rs' ls' cs' fs' ms' : List ℕ) : Type 0 where
  pub answer : g ≡ result_and v (Ok (length vs))
  pub rowsets : rs' ≡ after v (over (rowsets_in vs) rs) rs
  pub lengths : ls' ≡ after v (over (lengths_in vs) ls) ls
  pub counts : cs' ≡ after v (over (counts_in vs) cs) cs
  pub files : fs' ≡ after v (over (files_in vs) fs) fs
  pub memories : ms' ≡ after v (over (memories_in vs) ms) ms

-- a grouping of the handles hs, n by what the call says, with vector ids from next on, lent the slices rs, ls, cs, fs and ms,
-- returns g and leaves rs', ls', cs', fs' and ms' in them
abbrev pub GroupIs : List Handle → ℕ → ℕ → List ℕ → List ℕ → List ℕ → List ℕ → List ℕ → Result ℕ Refusal → List ℕ → List ℕ → List ℕ → List ℕ → List ℕ → Type 0
GroupIs hs n next rs ls cs fs ms g rs' ls' cs' fs' ms' =
    Grouped (judged (group_rules hs n next (length rs) (length ls) (length cs) (length fs) (length ms))) (vectors_of hs) rs ls cs fs ms g rs' ls' cs' fs' ms'
