-- Show: what the calls say of their answers and the lent slices; 29, 28, 24, 9. Assumes nothing.
use Rattle.std.specs.Prelude.{List, ◌∷◌, ℕ, length}
use Rattle.ids.specs.declared.refusal.Refusal.TheVariants.{BadManager}
use Rattle.ids.specs.Verdicts.{Rule, ◌⇒◌, judged, Verdict}
use Rattle.pins.specs.declared.PinBook.{PinBook}
use Rattle.show.specs.Says.{show_pairs_rules, show_vectors_rules, show_tables_rules, PairsShown, VectorsShown, TablesShown, ShowAnswer}
use Rattle.version_manager.specs.declared.VersionManager.{VersionManager}
use Rattle.version_manager.specs.Managers.{held_by, bad_manager}

-- 29 before the others
abbrev pub show_verdict : VersionManager → List Rule → Verdict
show_verdict m rules = judged ((bad_manager m ⇒ BadManager) ∷ rules)

module _ (m : VersionManager) (b : PinBook) (e : ℕ) where
  abbrev pub ShowPairsSays : List ℕ → List ℕ → ShowAnswer → List ℕ → List ℕ → Type 0
  ShowPairsSays ts rs r ts' rs' = PairsShown (held_by m) e (show_verdict m (show_pairs_rules (held_by m) b e (length ts) (length rs))) ts rs r ts' rs'

  abbrev pub ShowVectorsSays : List ℕ → List ℕ → List ℕ → ShowAnswer → List ℕ → List ℕ → List ℕ → Type 0
  ShowVectorsSays ts rs vs r ts' rs' vs' = VectorsShown (held_by m) e (show_verdict m (show_vectors_rules (held_by m) b e (length ts) (length rs) (length vs))) ts rs vs r ts' rs' vs'

  abbrev pub ShowTablesSays : List ℕ → List ℕ → List ℕ → List ℕ → ShowAnswer → List ℕ → List ℕ → List ℕ → List ℕ → Type 0
  ShowTablesSays is hs ls ns r is' hs' ls' ns' =
      TablesShown (held_by m) e (show_verdict m (show_tables_rules (held_by m) b e (length is) (length hs) (length ls) (length ns))) is hs ls ns r is' hs' ls' ns'
