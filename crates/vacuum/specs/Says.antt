-- What a vacuum of a state that 29 let pass is: its answer, the lent slices, and the state that it leaves. Assumes nothing.
use Rattle.std.specs.Prelude.{◌≡◌, Bool, ◌||◌, List, [], ◌∷◌, ℕ, ltb, length, Result, Ok}
use Rattle.std.specs.Result.{result_and}
use Rattle.lists.specs.Written.{over}
use Rattle.ids.specs.declared.refusal.Refusal.{Refusal}
use Rattle.ids.specs.declared.refusal.Refusal.TheVariants.{BadPinBook, OutputTooShort}
use Rattle.ids.specs.Verdicts.{Rule, ◌⇒◌, judged}
use Rattle.ids.specs.Answers.{after}
use Rattle.snapshot.specs.Entries.{Entry, field}
use Rattle.version_state.specs.declared.VersionManagerInner.{VersionManagerInner}
use Rattle.version_state.specs.State.{State, Hands}
use Rattle.pins.specs.declared.PinBook.{PinBook}
use Rattle.pins.specs.Book.{bad_book}
use Rattle.pins.specs.Guards.{guards_of, bound}
use Rattle.vacuum.specs.LetGo.{vacuum_list, vacuumed}

module _ (s : State) (b : PinBook) where
  -- the epoch up to which this vacuum lets go
  abbrev pub bound_of : ℕ
  bound_of = bound (guards_of s b)

  -- the deletions that it lists
  abbrev pub list_of : List Entry
  list_of = vacuum_list bound_of s

  -- 9: the slices, lent with t and r places, are too short for the list
  abbrev pub too_short : ℕ → ℕ → Bool
  too_short t r = ltb t (length list_of) || ltb r (length list_of)

  -- 28, 9; before them 29
  abbrev pub vacuum_rules : ℕ → ℕ → List Rule
  vacuum_rules t r = (bad_book s.epoch b ⇒ BadPinBook) ∷ (too_short t r ⇒ OutputTooShort) ∷ []

-- vacuum of s and b, lent the slices ts and rs, returns r, and leaves m, and ts' and rs' in the slices
pub record VacuumIs (s : State) (b : PinBook) (ts rs : List ℕ) (r : Result ℕ Refusal) (m : VersionManagerInner) (ts' rs' : List ℕ) : Type 0 where
  pub answer : r ≡ result_and (judged (vacuum_rules s b (length ts) (length rs))) (Ok (length (list_of s b)))
  pub tables : ts' ≡ after (judged (vacuum_rules s b (length ts) (length rs))) (over (field 0 (list_of s b)) ts) ts
  pub rowsets : rs' ≡ after (judged (vacuum_rules s b (length ts) (length rs))) (over (field 1 (list_of s b)) rs) rs
  pub inner : Hands m (after (judged (vacuum_rules s b (length ts) (length rs))) (vacuumed (bound_of s b) s) s)
