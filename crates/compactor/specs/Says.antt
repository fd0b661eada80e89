-- What a selection of a state that 29 let pass is: its verdict, its answer and the lent slice. Assumes nothing.
use Rattle.std.specs.Prelude.{◌≡◌, not, List, [], ◌∷◌, ℕ, ltb, eqb, length, Ok, Err, Result}
use Rattle.lists.specs.Written.{over}
use Rattle.ids.specs.Ids.{is_id32}
use Rattle.ids.specs.declared.refusal.Refusal.{Refusal}
use Rattle.ids.specs.declared.refusal.Refusal.TheVariants.{Malformed, WrongCount, OutputTooShort, TableNotLive}
use Rattle.ids.specs.Verdicts.{Rule, ◌⇒◌, judged, Verdict}
use Rattle.ids.specs.Answers.{Told, told, after}
use Rattle.version_state.specs.State.{State}
use Rattle.operations.specs.Judge.{is_live}
use Rattle.compactor.specs.Selection.{rowsets_now, selected}

-- how many rowsets are to be compacted
abbrev pub SelectAnswer : Type 0
SelectAnswer = Result ℕ Refusal

abbrev pub select_told : SelectAnswer → Told
select_told (Ok n) = told (Ok tt) (n ∷ [])
select_told (Err k) = told (Err k) []

-- selection among the rowsets of table t of s, their sizes lent as ns
module _ (s : State) (t target : ℕ) (ns : List ℕ) where
  -- 2, 8, 11, 9, the slice lent with so many places; before them 29
  abbrev pub select_rules : ℕ → List Rule
  select_rules room =
      (not (is_id32 t) ⇒ Malformed 0)
      ∷ (not (eqb (length ns) (length (rowsets_now t s))) ⇒ WrongCount)
      ∷ (not (is_live t s) ⇒ TableNotLive 0)
      ∷ (ltb room (length (selected t target ns s)) ⇒ OutputTooShort)
      ∷ []

  -- under a verdict v, lent the slice out, it returns r and leaves out' in it
  pub record Selected (v : Verdict) (out : List ℕ) (r : SelectAnswer) (out' : List ℕ) : Type 0 where
    pub answer : select_told r ≡ told v (length (selected t target ns s) ∷ [])
    pub rowsets : out' ≡ after v (over (selected t target ns s) out) out

  abbrev pub SelectIs : List ℕ → SelectAnswer → List ℕ → Type 0
  SelectIs out r out' = Selected (judged (select_rules (length out))) out r out'
