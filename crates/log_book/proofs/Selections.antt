-- The entries on selection: by computing on the state, and from there to managers. Assumes nothing.
use mathlib.Core.Path.{◌≡◌, refl, ◌∙◌}
use mathlib.Core.Bool.{Bool, false}
use mathlib.Core.List.{List, [], ◌∷◌}
use Prim.Native.Nat.{ℕ}
use lib.ListN.{length}
use Rattle.lists.specs.Written.{over}
use Rattle.ids.specs.declared.refusal.Refusal.TheVariants.{BadManager}
use Rattle.ids.specs.Verdicts.{◌⇒◌, judged, Verdict}
use Rattle.ids.specs.Answers.{Told, told, after}
use Rattle.text.specs.Class.{is_digit, is_lower, is_capital, class_of}
use Rattle.text.specs.Decimal.{digits_by, digits}
use Rattle.text.specs.Name.{is_name_byte, is_name}
use Rattle.manifest.specs.Lines.{fields_text, text_of}
use Rattle.snapshot.specs.Entries.{gone_at, shown_at}
use Rattle.version_state.specs.State.{State}
use Rattle.operations.specs.Steps.{step_of}
use Rattle.compactor.specs.Selection.{selected}
use Rattle.compactor.specs.Says.{select_rules}
use Rattle.version_manager.specs.Managers.{held_by, bad_manager}
use Rattle.log_book.specs.Selections.{three, lone, waiting, beside, Selects, selects, too_short, SelectionCases}
use Rattle.log_book.proofs.Vacuums.{is_bad, passes}

module _ (target : ℕ) (ns out : List ℕ) where
  -- of a manager that 29 refuses or not, and of any state and table
  abbrev verdict : Bool → State → ℕ → Verdict
  verdict b s t = judged ((b ⇒ BadManager) ∷ select_rules s t target ns (length out))

  abbrev tells : Bool → State → ℕ → Told
  tells b s t = told (verdict b s t) (length (selected t target ns s) ∷ [])

  abbrev leaves : Bool → State → ℕ → List ℕ
  leaves b s t = after (verdict b s t) (over (selected t target ns s) out) out

  of-state : (s : State) → is_bad s ≡ false → (x : Told) (l : List ℕ) → tells false s 0 ≡ x → leaves false s 0 ≡ l → Selects s target ns out x l
  of-state s g x l a b m t h f e r out' w =
      (w.answer ∙ same tells x a (bad_manager m) (held_by m) t.0 (passes s m h f g) h.state e, w.rowsets ∙ same leaves l b (bad_manager m) (held_by m) t.0 (passes s m h f g) h.state e)
    where
      same : {A : Type 0} (q : Bool → State → ℕ → A) (y : A) → q false s 0 ≡ y → (c : Bool) (z : State) (u : ℕ) → c ≡ false → z ≡ s → u ≡ 0 → q c z u ≡ y
      same q y k c z u f g j = rw (f, g, j) k

pub selection-cases : SelectionCases
unfolding is_digit is_lower is_capital class_of digits_by digits is_name_byte is_name fields_text text_of gone_at shown_at step_of
selection-cases =
    record {
      adds = refl;
      target60 = of-state 60 (40 ∷ 70 ∷ 20 ∷ []) (9 ∷ 9 ∷ 9 ∷ []) three refl (selects 2) (0 ∷ 2 ∷ 9 ∷ []) refl refl;
      target59 = of-state 59 (40 ∷ 70 ∷ 20 ∷ []) (9 ∷ 9 ∷ 9 ∷ []) three refl (selects 0) (9 ∷ 9 ∷ 9 ∷ []) refl refl;
      adds_lone = refl;
      lone40 = of-state 40 (40 ∷ []) (9 ∷ []) lone refl (selects 1) (0 ∷ []) refl refl;
      lone_short = of-state 40 (40 ∷ []) [] lone refl too_short [] refl refl;
      lone39 = of-state 39 (40 ∷ []) (9 ∷ []) lone refl (selects 0) (9 ∷ []) refl refl;
      deletes = refl;
      waiting40 = of-state 40 (40 ∷ []) (9 ∷ []) waiting refl (selects 0) (9 ∷ []) refl refl;
      adds_beside = refl;
      beside40 = of-state 40 (40 ∷ []) (9 ∷ []) beside refl (selects 0) (9 ∷ []) refl refl;
    }
