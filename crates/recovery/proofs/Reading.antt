-- Reading lines: lines after others, a whole frame, a proper first part of one. Assumes nothing.
use mathlib.Core.Path.{◌≡◌, refl, sym, ap, ◌∙◌}
use mathlib.Core.Bool.{Bool, true, false, cond}
use mathlib.Core.List.{List, [], ◌∷◌, ◌++◌, map, append-nil, append_assoc}
use Prim.Native.Nat.{ℕ, zero, suc, ◌+◌, ◌≤◌, ◌<◌}
use native.Mathlib.Omega.{arith}
use native.Mathlib.Nat.{add-zero, not-suc-le-zero, le_of_suc-le-suc}
use borrow.Author.Tests.{lt-leb}
use lib.ListN.{length, take, length-append, length-take}
use Rattle.std.specs.Prelude.{Result, Ok, Err}
use Rattle.ids.specs.Limits.{most_operations}
use Rattle.ids.specs.declared.refusal.Refusal.{Refusal}
use Rattle.ids.specs.Results.{and_then}
use Rattle.ids.proofs.Results.{then_same}
use Rattle.lists.proofs.Tests.{by_cases, clash}
use Rattle.manifest.specs.Operations.{Operation, Line, begin, end, operation}
use Rattle.manifest.specs.Lines.{line_of}
use Rattle.version_state.specs.State.{State}
use Rattle.operations.specs.Effect.{applied, applied_all}
use Rattle.replay.specs.Replay.{Frame, none, opened, Carried, carried, reopened, conflicts, framed, settled, over_limit, line_read, lines_read}
use Rattle.replay.proofs.Turns.{said_read}

then-then : {A B C : Type 0} (x : Result A Refusal) (f : A → Result B Refusal) (g : B → Result C Refusal) → and_then (and_then x f) g ≡ and_then x (λ a. and_then (f a) g)
then-then (Err k) f g = refl
then-then (Ok a) f g = refl

-- (1) lines after lines
pub said-append : (a b : List Line) (c : Carried) → said_read (a ++ b) c ≡ and_then (said_read a c) (said_read b)
said-append [] b c = refl
said-append (l ∷ a) b c =
    then_same (line_read l c) (said_read (a ++ b)) (λ d. and_then (said_read a d) (said_read b)) (said-append a b)
    ∙ sym (then-then (line_read l c) (said_read a) (said_read b))

pub read-append : (a b : List (List ℕ)) (c : Carried) → lines_read (a ++ b) c ≡ and_then (lines_read a c) (lines_read b)
read-append [] b c = refl
read-append (l ∷ a) b c =
    then_same (line_read (line_of l) c) (lines_read (a ++ b)) (λ d. and_then (lines_read a d) (lines_read b)) (read-append a b)
    ∙ sym (then-then (line_read (line_of l) c) (lines_read a) (lines_read b))

-- no operation conflicts
abbrev pub conflict_free : List Operation → State → Bool
conflict_free [] s = true
conflict_free (o ∷ os) s = cond (conflicts o s) false (conflict_free os (applied reopened o s))

framed-all : (n : ℕ) (os : List Operation) (s : State) → conflict_free os s ≡ true → framed n os s ≡ Ok (applied_all reopened os s)
framed-all n [] s h = refl
framed-all n (o ∷ os) s h =
    by_cases (conflicts o s)
    (λ t. clash h (rw t))
    (λ t. rw t (framed-all (n + 1) os (applied reopened o s) (rw t at h)))

ops-noted : (os done : List Operation) (s : State) (m n : ℕ) → length done + length os ≤ most_operations
    → said_read (map operation os) (carried s (opened m done) n) ≡ Ok (carried s (opened m (done ++ os)) (n + length os))
ops-noted [] done s m n h = rw (append-nil, add-zero)
ops-noted (o ∷ os) done s m n h =
    let few : length done < most_operations = omega arith in
    let more : length (done ++ (o ∷ [])) + length os ≤ most_operations = let e = length-append done (o ∷ []) in omega arith in
    let k : n + 1 + length os ≡ n + length (o ∷ os) = omega arith in
    rw (lt-leb most_operations (length done) few) (ops-noted os (done ++ (o ∷ [])) s m (n + 1) more ∙ rw (append_assoc, k))

-- (2) a whole append; its `B` drops what an open frame held
pub whole_append : (os : List Operation) (s : State) (f : Frame) (n : ℕ) → length os ≤ most_operations → conflict_free os s ≡ true → over_limit (settled (applied_all reopened os s)) ≡ false
    → said_read (begin ∷ (map operation os ++ (end ∷ []))) (carried s f n) ≡ Ok (carried (settled (applied_all reopened os s)) none (n + 1 + length os + 1))
whole_append os s f n h c o =
    said-append (map operation os) (end ∷ []) (carried s (opened (n + 1) []) (n + 1))
    ∙ ap (λ (x : Result Carried Refusal). and_then x (said_read (end ∷ []))) (ops-noted os [] s (n + 1) (n + 1) (omega arith))
    ∙ rw (framed-all (n + 1) os s c, o)

take-ops : (k : ℕ) (os : List Operation) (l : List Line) → k ≤ length os → take k (map operation os ++ l) ≡ map operation (take k os)
take-ops zero os l h = refl
take-ops (suc k) [] l h = absurd (not-suc-le-zero h)
take-ops (suc k) (o ∷ os) l h = ap (λ (t : List Line). operation o ∷ t) (take-ops k os l (le_of_suc-le-suc h))

-- (3) a proper first part of it leaves the state
pub torn-append : (os : List Operation) (k : ℕ) (s : State) (f : Frame) (n : ℕ) → length os ≤ most_operations → k ≤ length os + 1
    → (g : Frame) × (m : ℕ) × (said_read (take k (begin ∷ (map operation os ++ (end ∷ [])))) (carried s f n) ≡ Ok (carried s g m))
torn-append os zero s f n h q = (f, n, refl)
torn-append os (suc k) s f n h q =
    let short : k ≤ length os = omega arith in
    let few : length (take k os) ≤ most_operations = let e = length-take k os in omega arith in
    (opened (n + 1) (take k os), n + 1 + length (take k os), rw (take-ops k os (end ∷ []) short) (ops-noted (take k os) [] s (n + 1) (n + 1) (omega arith)))
