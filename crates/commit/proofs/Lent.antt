-- Operations lent as lines: one after another, and the frame of those that are accepted. Assumes nothing.
use mathlib.Core.Path.{◌≡◌, refl, sym, ap, ap₂, ◌∙◌}
use mathlib.Core.Bool.{true}
use mathlib.Core.List.{List, [], ◌∷◌, ◌++◌, map, append-nil}
use Prim.Native.Nat.{ℕ, ◌+◌, ◌*◌, ◌≤◌}
use native.Mathlib.Omega.{arith}
use lib.ListN.{length, length-append}
use borrow.Author.Tests.{not-false}
use Rattle.std.specs.Prelude.{Result, Ok, Err}
use Rattle.lists.proofs.Tests.{clash}
use Rattle.lists.proofs.Keyed.{All}
use Rattle.ids.specs.Limits.{most_operations, longest_line, longest_manifest}
use Rattle.ids.specs.declared.refusal.Refusal.{Refusal}
use Rattle.ids.specs.Verdicts.{judged}
use Rattle.ids.specs.Results.{and_then}
use Rattle.ids.proofs.Verdicts.{none-judged}
use Rattle.manifest.specs.Operations.{Operation, next_ids, Line, begin, end, torn, operation, bad, well_formed}
use Rattle.manifest.specs.Lines.{line_of, text_of, line_text}
use Rattle.manifest.specs.Split.{lines, lines_on, rest_on, joined}
use Rattle.manifest.proofs.Lines.{text-parse}
use Rattle.manifest.proofs.Texts.{text-room}
use Rattle.manifest.proofs.Split.{joined-lines}
use Rattle.version_state.specs.State.{State}
use Rattle.operations.specs.Judge.{op_rules}
use Rattle.operations.specs.Steps.{step_of, steps_of}
use Rattle.frames.specs.Frames.{texts_of}
use Rattle.commit.specs.Commit.{append_of}
use Rattle.frames.proofs.Texts.{joined-append, frame-long, texts-cons}
use Rattle.commit.specs.Lent.{operation_said, unended, operations_in}
use Rattle.commit.proofs.Stepwise.{halt, step_given}

-- what a line is read as is well formed
pub said-well : (l : List ℕ) → well_formed (operation_said (line_of l)) ≡ true
said-well l = go (line_of l) refl
  where
    go : (x : Line) → line_of l ≡ x → well_formed (operation_said x) ≡ true
    go begin h = refl
    go end h = refl
    go torn h = refl
    go (operation o) h = (text-parse l o h).0
    go bad h = refl

pub none_lent : operations_in [] ≡ []
unfolding operations_in lines lines_on rest_on
none_lent = refl

-- A commit accepts no `N`, so no operation that stands for what is no operation.
abbrev Whole : Operation → Type 0
Whole o = o ≡ next_ids 0 0 0 → ⊥

accepted-whole : (i e : ℕ) (o : Operation) (s : State) → judged (op_rules i e o s) ≡ Ok tt → Whole o
accepted-whole i e o s a h = clash refl (none-judged (op_rules i e (next_ids 0 0 0) s) (rw h at a)).1.0

-- what holds of each operation that is accepted holds of all
pub accepted-all : (P : Operation → Type 0) → ((i e : ℕ) (o : Operation) (s : State) → judged (op_rules i e o s) ≡ Ok tt → P o)
    → (i e : ℕ) (os : List Operation) (s t : State) → steps_of i e os s ≡ Ok t → All P os
accepted-all P f i e [] s t h = tt
accepted-all P f i e (o ∷ os) s t h = go (step_of i e o s) refl h (λ u. accepted-all P f (i + 1) e os u t)
  where
    go : (x : Result State Refusal) → step_of i e o s ≡ x → and_then x (λ u. steps_of (i + 1) e os u) ≡ Ok t → ((u : State) → steps_of (i + 1) e os u ≡ Ok t → All P os) → All P (o ∷ os)
    go (Ok u) a h ih = (f i e o s (step_given i e o s u a).0, ih u h)
    go (Err r) a h ih = absurd (halt h)

-- So all that is lent is whole lines of operations.
module _ (P : Operation → Type 0) where
  all_first : (l m : List Operation) → All P (l ++ m) → All P l
  all_first [] m a = tt
  all_first (x ∷ l) m a = (a.0, all_first l m a.1)

  all-last : (l m : List Operation) → All P (l ++ m) → All P m
  all-last [] m a = a
  all-last (x ∷ l) m a = all-last l m a.1

whole-rest : (r : List ℕ) → All Whole (unended r) → r ≡ []
whole-rest [] a = refl
whole-rest (b ∷ r) a = absurd (a.0 refl)

whole-line : (x : Line) → Whole (operation_said x) → x ≡ operation (operation_said x)
whole-line begin a = absurd (a refl)
whole-line end a = absurd (a refl)
whole-line torn a = absurd (a refl)
whole-line (operation o) a = refl
whole-line bad a = absurd (a refl)

texts : (ls : List (List ℕ)) → All Whole (map (λ l. operation_said (line_of l)) ls) → map text_of (map (λ l. operation_said (line_of l)) ls) ≡ ls
texts [] a = refl
texts (l ∷ ls) a = ap₂ ◌∷◌ (sym (text-parse l (operation_said (line_of l)) (whole-line (line_of l) a.0)).1) (texts ls a.1)

-- what is appended of operations that were lent as lines: `!`, `B`, the lent bytes, `E`
abbrev pub lent_append : List ℕ → List ℕ
lent_append s = 33 ∷ 10 ∷ 66 ∷ 10 ∷ (s ++ (69 ∷ 10 ∷ []))

pub append-lent : (s : List ℕ) (e : ℕ) (u t : State) → steps_of 0 e (operations_in s) u ≡ Ok t → append_of (operations_in s) ≡ lent_append s
unfolding operations_in lines
append-lent s e u t h =
    let said = map (λ l. operation_said (line_of l)) (lines s) in
    let a = accepted-all Whole accepted-whole 0 e (said ++ unended (rest_on [] s)) u t h in
    let r = whole-rest (rest_on [] s) (all-last _ said (unended (rest_on [] s)) a) in
    let whole : joined (lines s) ≡ s = sym (append-nil (joined (lines s))) ∙ (rw r at (joined-lines [] s)) in
    rw (r, append-nil said) (ap (λ (x : List ℕ). 33 ∷ 10 ∷ 66 ∷ 10 ∷ x)
    (joined-append (map text_of said) (line_text end ∷ []) ∙ ap (λ (x : List ℕ). x ++ (69 ∷ 10 ∷ [])) (ap joined (texts (lines s) (all_first _ said (unended (rest_on [] s)) a)) ∙ whole)))

pub append-size : (s : List ℕ) → length (lent_append s) ≡ length s + 6
append-size s = omega (arith, length-append s (69 ∷ 10 ∷ []))

-- operations that are accepted have short lines
pub texts-short : (os : List Operation) → All (λ o. well_formed o ≡ true) os → length (texts_of os) ≤ longest_line * length os
texts-short [] a = omega arith
texts-short (o ∷ os) a = omega (arith, texts-cons o os, text-room o a.0, texts-short os a.1)

pub append-short : (e : ℕ) (os : List Operation) (u t : State) → length os ≤ most_operations → steps_of 0 e os u ≡ Ok t → length (append_of os) ≤ longest_manifest
append-short e os u t few h =
    let a = accepted-all (λ o. well_formed o ≡ true) (λ i e o s j. not-false _ (none-judged (op_rules i e o s) j).0) 0 e os u t h in
    omega (arith, frame-long os, texts-short os a)
