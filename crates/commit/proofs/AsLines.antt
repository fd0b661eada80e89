-- A typed batch as lines: they read back as its operations, `N` for one that is not well formed, and a commit of either is the same.
-- Assumes nothing.
use mathlib.Core.Path.{◌≡◌, refl, sym, ap, ap₂, ◌∙◌}
use mathlib.Core.Bool.{true, false}
use mathlib.Core.List.{List, [], ◌∷◌, ◌++◌, map, append-nil}
use Prim.Native.Nat.{ℕ, suc, ◌+◌, ◌*◌, ◌<◌, ◌≤◌}
use native.Mathlib.Omega.{arith}
use native.Mathlib.Numerals.{add-one}
use lib.ListN.{length, get_or, drop, length-map}
use lib.Seq.{append_snoc, drop-cons}
use borrow.Author.Tests.{not-false}
use Rattle.std.specs.Prelude.{Result, Ok, Err}
use Rattle.std.specs.Result.{result_and}
use Rattle.lists.specs.Keyed.{all_of}
use Rattle.lists.proofs.Tests.{by_cases}
use Rattle.lists.proofs.Keyed.{All}
use Rattle.lists.proofs.Views.{map-drop}
use Rattle.ids.specs.Limits.{most_operations, longest_line}
use Rattle.ids.specs.declared.refusal.Refusal.{Refusal}
use Rattle.ids.specs.declared.refusal.Refusal.TheVariants.{Malformed}
use Rattle.ids.specs.Verdicts.{judged}
use Rattle.ids.specs.Results.{and_then}
use Rattle.ids.proofs.Verdicts.{none-judged}
use Rattle.manifest.specs.declared.operation.EpochOp.{EpochOp}
use Rattle.manifest.specs.Operations.{Operation, next_ids, operation, well_formed, well_line, operation_of}
use Rattle.manifest.specs.Lines.{line_of, text_of, line_text}
use Rattle.manifest.specs.Split.{lines, rest_on, joined}
use Rattle.manifest.proofs.Lines.{read_back}
use Rattle.manifest.proofs.Split.{rest-none, rest-on-append, rest_ended}
use Rattle.version_state.specs.State.{State}
use Rattle.operations.specs.Judge.{op_rules}
use Rattle.operations.specs.Steps.{step_of, steps_of}
use Rattle.frames.specs.Frames.{texts_of}
use Rattle.commit.specs.Commit.{first_rules, finish_of, commit_of}
use Rattle.commit.specs.Lent.{operation_said, as_line, operations_in}
use Rattle.commit.proofs.Lent.{accepted-all, texts-short}
use Rattle.commit.proofs.Sounds.{accepts}

pub as-line-same : (o : Operation) → well_formed o ≡ true → o ≡ as_line o
as-line-same o w = rw w

pub as-line-none : (o : Operation) → well_formed o ≡ false → next_ids 0 0 0 ≡ as_line o
as-line-none o w = rw w

as-line-well : (o : Operation) → well_formed (as_line o) ≡ true
as-line-well o = by_cases (well_formed o) (λ w. rw w w) (λ w. rw w refl)

all-well : (os : List Operation) → All (λ o. well_formed o ≡ true) (map as_line os)
all-well [] = tt
all-well (o ∷ os) = (as-line-well o, all-well os)

-- there is room for all lines
pub lines-room : (os : List Operation) → length os ≤ most_operations → length (texts_of (map as_line os)) ≤ most_operations * longest_line
lines-room os h = omega (arith, texts-short (map as_line os) (all-well os), length-map os as_line)

-- a turn of a loop over changes
pub line-turn : (l : List EpochOp) (i : ℕ) (d : EpochOp) → i < length l
    → drop i (map as_line (map operation_of l)) ≡ as_line (operation_of (get_or l i d)) ∷ drop (i + 1) (map as_line (map operation_of l))
line-turn l i d h =
    let on : (k : ℕ) → drop k (map as_line (map operation_of l)) ≡ map as_line (map operation_of (drop k l)) =
    λ k. map-drop as_line k (map operation_of l) ∙ ap (map as_line) (map-drop operation_of k l) in
    rw add-one (on i ∙ ap (λ (m : List EpochOp). map as_line (map operation_of m)) (drop-cons l i d h) ∙ ap (λ (os : List Operation). as_line (operation_of (get_or l i d)) ∷ os) (sym (on (suc i))))

-- Read back.
texts-of : (os : List Operation) → map line_text (map operation os) ≡ map text_of os
texts-of [] = refl
texts-of (o ∷ os) = ap (λ (r : List (List ℕ)). text_of o ∷ r) (texts-of os)

well-lines : (os : List Operation) → All (λ o. well_formed o ≡ true) os → all_of well_line (map operation os) ≡ true
well-lines [] a = refl
well-lines (o ∷ os) a = rw a.0 (well-lines os a.1)

said_of : (ls : List (List ℕ)) (os : List Operation) → map line_of ls ≡ map operation os → map (λ l. operation_said (line_of l)) ls ≡ os
said_of [] [] h = refl
said_of [] (o ∷ os) h = absurd (let z : ◌≡◌ {A = ℕ} 0 (suc (length (map operation os))) = ap length h in omega arith)
said_of (l ∷ ls) [] h = absurd (let z : ◌≡◌ {A = ℕ} (suc (length (map line_of ls))) 0 = ap length h in omega arith)
said_of (l ∷ ls) (o ∷ os) h =
    let x : line_of l ≡ operation o = cc h in
    let y : map line_of ls ≡ map operation os = cc h in
    ap₂ ◌∷◌ (ap operation_said x) (said_of ls os y)

none_left : (ls : List (List ℕ)) → rest_on [] (joined ls) ≡ []
none_left [] = rest-none
none_left (l ∷ ls) =
    ap (rest_on []) (sym (append_snoc l 10 (joined ls)))
    ∙ rest-on-append [] (l ++ (10 ∷ [])) (joined ls)
    ∙ ap (λ (r : List ℕ). rest_on r (joined ls)) (rest_ended l)
    ∙ none_left ls

pub read-lines : (os : List Operation) → All (λ o. well_formed o ≡ true) os → operations_in (texts_of os) ≡ os
unfolding operations_in
read-lines os a =
    let b : map line_of (lines (joined (map text_of os))) ≡ map operation os = rw (texts-of os) at (read_back (map operation os) (well-lines os a)) in
    rw (none_left (map text_of os)) (append-nil _ ∙ said_of (lines (joined (map text_of os))) os b)

pub lines-read : (os : List Operation) → operations_in (texts_of (map as_line os)) ≡ map as_line os
lines-read os = read-lines (map as_line os) (all-well os)

-- A commit of the lines is that of the operations.
malformed : (i e : ℕ) (o : Operation) (s : State) → well_formed o ≡ false → step_of i e o s ≡ Err (Malformed i)
unfolding step_of
malformed i e o s w = rw w refl

refused_none : (i e : ℕ) (s : State) → step_of i e (next_ids 0 0 0) s ≡ Err (Malformed i)
unfolding step_of
refused_none i e s = refl

step_same : (i e : ℕ) (o : Operation) (s : State) → step_of i e (as_line o) s ≡ step_of i e o s
step_same i e o s =
    by_cases (well_formed o)
    (λ w. ap (λ (x : Operation). step_of i e x s) (sym (as-line-same o w)))
    (λ w. ap (λ (x : Operation). step_of i e x s) (sym (as-line-none o w)) ∙ refused_none i e s ∙ sym (malformed i e o s w))

steps-same : (i e : ℕ) (os : List Operation) (s : State) → steps_of i e (map as_line os) s ≡ steps_of i e os s
steps-same i e [] s = refl
steps-same i e (o ∷ os) s =
    ap (λ (x : Result State Refusal). and_then x (λ t. steps_of (i + 1) e (map as_line os) t)) (step_same i e o s) ∙ go (step_of i e o s) (λ t. steps-same (i + 1) e os t)
  where
    go : (x : Result State Refusal) → ((t : State) → steps_of (i + 1) e (map as_line os) t ≡ steps_of (i + 1) e os t)
        → and_then x (λ t. steps_of (i + 1) e (map as_line os) t) ≡ and_then x (λ t. steps_of (i + 1) e os t)
    go (Ok t) h = h t
    go (Err k) h = refl

-- operations that are accepted stand as they are
all_same : (os : List Operation) → All (λ o. well_formed o ≡ true) os → map as_line os ≡ os
all_same [] a = refl
all_same (o ∷ os) a = ap₂ ◌∷◌ (sym (as-line-same o a.0)) (all_same os a.1)

accepted-same : (i e : ℕ) (os : List Operation) (s t : State) → steps_of i e os s ≡ Ok t → map as_line os ≡ os
accepted-same i e os s t h = all_same os (accepted-all (λ o. well_formed o ≡ true) (λ i e o s j. not-false _ (none-judged (op_rules i e o s) j).0) i e os s t h)

module _ (s : State) (n : ℕ) (os : List Operation) (room : ℕ) where
  pub commit-same : commit_of s n (map as_line os) room ≡ commit_of s n os room
  commit-same =
      ap (λ (x : Result State Refusal). result_and (judged (first_rules s n)) (and_then x (finish_of (s.epoch + 1) (map as_line os) room))) (steps-same 0 (s.epoch + 1) os s)
      ∙ ap (result_and (judged (first_rules s n))) (go (steps_of 0 (s.epoch + 1) os s) refl)
    where
      go : (x : Result State Refusal) → steps_of 0 (s.epoch + 1) os s ≡ x → and_then x (finish_of (s.epoch + 1) (map as_line os) room) ≡ and_then x (finish_of (s.epoch + 1) os room)
      go (Ok t) h = ap (λ (l : List Operation). finish_of (s.epoch + 1) l room t) (accepted-same 0 (s.epoch + 1) os s t h)
      go (Err k) h = refl

  pub commit-lines-same : (u : State) → commit_of s n os room ≡ Ok u → map as_line os ≡ os
  commit-lines-same u h = let a = accepts s n os room u h in accepted-same 0 (s.epoch + 1) os s a.done a.steps
