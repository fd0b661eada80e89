-- Where a call's own rules pass, the commit by lines does what the call says. Assumes nothing.
use mathlib.Core.Path.{◌≡◌, refl, ap, subst, ◌∙◌}
use mathlib.Core.Bool.{false}
use mathlib.Core.List.{List, [], ◌∷◌}
use Prim.Native.Nat.{ℕ, ◌+◌}
use native.Mathlib.Omega.{arith}
use lib.ListN.{length}
use Rattle.std.specs.Prelude.{Result, Ok, Err, get_or}
use Rattle.ids.specs.declared.refusal.Refusal.{Refusal}
use Rattle.ids.specs.Verdicts.{Verdict}
use Rattle.ids.specs.Answers.{Told, told}
use Rattle.manifest.specs.Operations.{Operation}
use Rattle.version_state.specs.State.{State}
use Rattle.frames.specs.Frames.{texts_of}
use Rattle.commit.specs.Lent.{operations_in}
use Rattle.commit.proofs.AsLines.{lines-read, commit-lines-same}
use Rattle.ids.specs.declared.TableNo.{TableNo}
use Rattle.commit.specs.Commit.{append_of}
use Rattle.table.specs.Made.{committed}
use Rattle.table.specs.Says.{MadeIs}
use Rattle.table.specs.Laws.{Accepts}
use Rattle.version_manager.specs.declared.VersionManager.{VersionManager}
use Rattle.version_manager.specs.declared.Appended.{Appended}
use Rattle.version_manager.specs.Answered.{Committed, CommitAnswer, CreateAnswer}
use Rattle.version_manager.specs.Managers.{held_by, bad_manager}
use Rattle.version_manager.specs.Commit.{outcome_of, commit_told, CommitEnds, CommitSays}
use Rattle.version_manager.specs.Create.{create_told}
use Rattle.version_manager.specs.Made.{MadeSays, AppendsMade}
use Rattle.version_manager.proofs.Calls.{says_same}

-- a commit of operations that are read from the lines is what the call made of os
made-commit : (m : VersionManager) (os : List Operation) (out : List ℕ) (r : Committed) (out' : List ℕ) → bad_manager m ≡ false → Accepts (held_by m) os (length out)
    → CommitSays m (length os) os out r out' → CommitEnds (Ok (committed os (held_by m))) m os out r out'
made-commit m os out r out' b a h = subst (λ (x : Result State Refusal). CommitEnds x m os out r out') accepted h
  where
    accepted : outcome_of m (length os) os (length out) ≡ Ok (committed os (held_by m))
    accepted = rw b a

-- the lines of os
module _ (os : List Operation) (l : List ℕ) (w : l ≡ texts_of os) where
  -- they read back as os, which the commit accepts
  made-read : (s : State) (room : ℕ) → Accepts s os room → operations_in l ≡ os
  made-read s room a =
      ap operations_in w ∙ subst (λ (ps : List Operation). operations_in (texts_of ps) ≡ ps) (commit-lines-same s (length os) os room (committed os s) a) (lines-read os)

  made_ends : (m : VersionManager) (out : List ℕ) (r : Committed) (out' : List ℕ) → bad_manager m ≡ false → Accepts (held_by m) os (length out)
      → CommitSays m (length (operations_in l)) (operations_in l) out r out' → CommitEnds (Ok (committed os (held_by m))) m os out r out'
  made_ends m out r out' b a h =
      let e = made-read (held_by m) (length out) a in
      made-commit m os out r out' b a (says_same m (length (operations_in l)) (operations_in l) out r out' (length os) os (ap length e) e h)

-- the answer of a commit that is accepted
told-appended : (a : CommitAnswer) (e n : ℕ) → commit_told a ≡ told (Ok tt) (e ∷ n ∷ []) → (d : Appended) × (a ≡ Ok d) × (d.epoch ≡ e) × (d.length ≡ n)
told-appended (Ok d) e n h = (d, refl, ap (λ (z : Told). get_or z.values 0 0) h, ap (λ (z : Told). get_or z.values 1 0) h)
told-appended (Err k) e n h = let z : ◌≡◌ {A = ℕ} 0 2 = ap (λ (d : Told). length d.values) h in absurd (omega arith)

-- what a call made of os under its verdict: the lines l
module _ (os : List Operation) (l : List ℕ) where
  -- a manager that passed 29 appends it
  module _ (m : VersionManager) (out : List ℕ) (r : Committed) (out' : List ℕ) (b : bad_manager m ≡ false) where
    abbrev epoch : ℕ
    epoch = (held_by m).epoch + 1

    abbrev size : ℕ
    size = length (append_of os)

    appended : (v made : Verdict) → MadeIs v os made l → v ≡ Ok tt → Accepts (held_by m) os (length out) → AppendsMade made m l out r out'
        → CommitEnds (Ok (committed os (held_by m))) m os out r out'
    appended v made i e a h = made_ends os l (i.made e) m out r out' b a (subst (λ (x : Verdict). AppendsMade x m l out r out') (i.answer ∙ e) h)

    pub made-says : (v made : Verdict) → MadeIs v os made l → (v ≡ Ok tt → Accepts (held_by m) os (length out)) → AppendsMade made m l out r out'
        → MadeSays v os (epoch ∷ size ∷ []) m out (commit_told r.answer) r.manager out'
    made-says (Ok _) made i a h = let d = appended (Ok tt) made i refl (a refl) h in record { answer = d.0; manager = d.1; bytes = d.2 }
    made-says (Err k) made i a h =
        let d = subst (λ (x : Verdict). AppendsMade x m l out r out') i.answer h in
        record { answer = ap commit_told d.0; manager = d.1; bytes = d.2 }

    -- the same of a new table, whose id the call answers too
    pub create-says : (v made : Verdict) → MadeIs v os made l → (v ≡ Ok tt → Accepts (held_by m) os (length out)) → AppendsMade made m l out r out'
        → (t : TableNo) (q : CreateAnswer) → ((d : Appended) → r.answer ≡ Ok d → q ≡ Ok (record { table = t; epoch = d.epoch; length = d.length })) → ((k : Refusal) → r.answer ≡ Err k → q ≡ Err k)
        → MadeSays v os (t.0 ∷ epoch ∷ size ∷ []) m out (create_told q) r.manager out'
    create-says (Ok _) made i a h t q given none =
        let d = appended (Ok tt) made i refl (a refl) h in
        let x = told-appended r.answer epoch size d.0 in
        record { answer = ap create_told (given x.0 x.1) ∙ rw (x.2, x.3); manager = d.1; bytes = d.2 }
    create-says (Err k) made i a h t q given none =
        let d = subst (λ (x : Verdict). AppendsMade x m l out r out') i.answer h in
        record { answer = ap create_told (none k d.0); manager = d.1; bytes = d.2 }
