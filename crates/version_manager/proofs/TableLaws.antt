-- What create and drop hand out passes 29, and a refused create changes nothing. Assumes nothing.
use mathlib.Core.Path.{◌≡◌, refl, subst}
use mathlib.Core.Bool.{Bool, true, false}
use mathlib.Core.List.{List, ◌∷◌}
use Prim.Native.Nat.{ℕ}
use native.Mathlib.Omega.{arith}
use lib.ListN.{length}
use Rattle.std.specs.Prelude.{Ok, Err}
use Rattle.ids.specs.declared.refusal.Refusal.{Refusal}
use Rattle.ids.specs.declared.refusal.Refusal.TheVariants.{BadManager}
use Rattle.ids.specs.Verdicts.{Rule, ◌⇒◌, judged, Verdict}
use Rattle.ids.specs.Answers.{Told}
use Rattle.manifest.specs.Operations.{Operation}
use Rattle.commit.specs.Commit.{append_of}
use Rattle.table.specs.Made.{committed}
use Rattle.table.specs.Create.{created_by, create_rules}
use Rattle.table.specs.Drop.{dropped_by, drop_rules}
use Rattle.table.specs.Laws.{Accepts}
use Rattle.table.proofs.Laws.{made-laws}
use Rattle.version_manager.specs.declared.VersionManager.{VersionManager}
use Rattle.version_manager.specs.Managers.{held_by, bad_manager, HandsOn}
use Rattle.version_manager.specs.Made.{MadeSays}
use Rattle.version_manager.specs.TableLaws.{TableLaws}
use Rattle.version_manager.proofs.Managers.{inner-passes}
use Rattle.version_manager.proofs.Laws.{commit-passes}

-- 29 passes, and then the call's own rules
pub passed : (b : Bool) (r : Refusal) (l : List Rule) → judged ((b ⇒ r) ∷ l) ≡ Ok tt → (b ≡ false) × (judged l ≡ Ok tt)
passed true r l h = absurd (let z : ◌≡◌ {A = ℕ} 0 1 = cc in omega arith)
passed false r l h = (refl, h)

pub made-sound : (v : Verdict) (os : List Operation) (values : List ℕ) (m : VersionManager) (out : List ℕ) (t : Told) (n : VersionManager) (out' : List ℕ)
    → MadeSays v os values m out t n out' → v ≡ Ok tt → bad_manager m ≡ false → Accepts (held_by m) os (length out) → bad_manager n ≡ false
made-sound v os values m out t n out' h e b a =
    commit-passes m n (length os) os (length out) (committed os (held_by m)) b a (subst (λ (d : Verdict). HandsOn d m (committed os (held_by m)) (length (append_of os)) n) e h.manager)

made-refused : (v : Verdict) (os : List Operation) (values : List ℕ) (m : VersionManager) (out : List ℕ) (t : Told) (n : VersionManager) (out' : List ℕ) (k : Refusal)
    → MadeSays v os values m out t n out' → v ≡ Err k → (n ≡ m) × (out' ≡ out)
made-refused (Ok _) os values m out t n out' k h e = absurd (let z : ◌≡◌ {A = ℕ} 0 1 = cc in omega arith)
made-refused (Err j) os values m out t n out' k h e = (h.manager, h.bytes)

pub table-laws : TableLaws
table-laws =
    record {
      create = λ m shape name out r out' w h e.
          let p = passed (bad_manager m) BadManager (create_rules (held_by m) shape name (length out)) e in
          made-sound _ (created_by (held_by m) shape name) _ m out _ r.manager out' h e p.0 (made-laws.create m.inner shape name (length out) (inner-passes m p.0) w p.1);
      drop = λ m t out r out' w h e.
          let p = passed (bad_manager m) BadManager (drop_rules (held_by m) t (length out)) e in
          made-sound _ (dropped_by (held_by m) t) _ m out _ r.manager out' h e p.0 (made-laws.drop m.inner t (length out) (inner-passes m p.0) w p.1);
      create_refused = λ m shape name out r out' k h e. made-refused _ (created_by (held_by m) shape name) _ m out _ r.manager out' k h e;
    }
