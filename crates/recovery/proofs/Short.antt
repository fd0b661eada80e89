-- An append after any text, whole or cut: its `!` ends what stands there, and an append that was cut changes no state. Assumes nothing.
use mathlib.Core.Path.{◌≡◌, refl, ap, ◌∙◌}
use mathlib.Core.Bool.{true}
use mathlib.Core.List.{List, [], ◌∷◌, ◌++◌, map}
use Prim.Native.Nat.{ℕ, zero, suc, ◌+◌, ◌≤◌, ◌<◌}
use native.Mathlib.Nat.{le_of_suc-le-suc}
use lib.Dec.{leb}
use lib.ListN.{length, take}
use Rattle.std.specs.Prelude.{Result, Ok, Err}
use Rattle.lists.specs.Keyed.{all_of}
use Rattle.lists.proofs.Tests.{by_cases}
use Rattle.lists.proofs.Views.{map-append}
use Rattle.ids.specs.Limits.{most_operations}
use Rattle.ids.specs.declared.refusal.Refusal.{Refusal}
use Rattle.ids.specs.Results.{and_then}
use Rattle.manifest.specs.Operations.{Operation, Line, begin, end, torn, operation, bad, well_formed}
use Rattle.manifest.specs.Lines.{line_of}
use Rattle.manifest.specs.Split.{lines_on, rest_on, lines}
use Rattle.manifest.proofs.Split.{lines-on-append}
use Rattle.manifest.proofs.Lines.{parse-torn}
use Rattle.frames.specs.Frames.{frame_of}
use Rattle.version_state.specs.State.{State}
use Rattle.operations.specs.Effect.{applied}
use Rattle.commit.specs.Commit.{append_of}
use Rattle.replay.specs.Replay.{Frame, none, opened, Carried, carried, reopened, at_start, conflicts, framed, settled, over_limit, limited, ended, noted, line_read, lines_read, finished, lines_replayed}
use Rattle.replay.proofs.Turns.{said_read, said-read}
use Rattle.recovery.specs.Laws.{Alike}
use Rattle.recovery.proofs.Reading.{said-append, read-append, torn-append}
use Rattle.recovery.proofs.Framed.{torn-lines}

-- what the complete lines of the text say that follows `so`, the start of a line
abbrev said_on : List ℕ → List ℕ → List Line
said_on so text = map line_of (lines_on so text)

-- a text after src
pub read-over : (src more : List ℕ) → lines_read (lines (src ++ more)) at_start ≡ and_then (lines_read (lines src) at_start) (said_read (said_on (rest_on [] src) more))
unfolding lines
read-over src more =
    ap (λ (ls : List (List ℕ)). lines_read ls at_start) (lines-on-append [] src more)
    ∙ read-append (lines_on [] src) (lines_on (rest_on [] src) more) at_start
    ∙ then-said (lines_read (lines_on [] src) at_start)
  where
    then-said : (x : Result Carried Refusal) → and_then x (lines_read (lines_on (rest_on [] src) more)) ≡ and_then x (said_read (said_on (rest_on [] src) more))
    then-said (Err k) = refl
    then-said (Ok c) = said-read (lines_on (rest_on [] src) more) c

-- whatever line was begun, `!` ends it, and no frame is open after it
pub marked-read : (so text : List ℕ) (c : Carried) → said_read (said_on so (33 ∷ 10 ∷ text)) c ≡ said_read (map line_of (lines text)) (carried c.state none (c.line + 1))
unfolding lines lines_on
marked-read so text c = rw (parse-torn so)

-- a mark without its newline ends no line
unmarked : (so : List ℕ) → said_on so (33 ∷ []) ≡ []
unfolding lines_on
unmarked so = refl

nothing-on : (so : List ℕ) → said_on so [] ≡ []
unfolding lines_on
nothing-on so = refl

-- a proper first part of an append is read to the same state
module _ (os : List Operation) (w : all_of well_formed os ≡ true) (few : length os ≤ most_operations) where
  pub cut-read : (k : ℕ) → k < length (append_of os) → (so : List ℕ) (s : State) (f : Frame) (n : ℕ)
      → (g : Frame) × (m : ℕ) × (said_read (said_on so (take k (append_of os))) (carried s f n) ≡ Ok (carried s g m))
  cut-read zero h so s f n = (f, n, ap (λ (ls : List Line). said_read ls (carried s f n)) (nothing-on so))
  cut-read (suc zero) h so s f n = (f, n, ap (λ (ls : List Line). said_read ls (carried s f n)) (unmarked so))
  cut-read (suc (suc k)) h so s f n =
      let r = torn-lines os k w (le_of_suc-le-suc (le_of_suc-le-suc h)) in
      let t = torn-append os r.0 s none (n + 1) few r.1 in
      (t.0, t.1, marked-read so (take k (frame_of os)) (carried s f n) ∙ ap (λ (ls : List Line). said_read ls (carried s none (n + 1))) r.2 ∙ t.2)

-- Two readings that differ in the numbers of lines.

then-alike : {A B : Type 0} (R : A → A → Type 0) (Q : B → B → Type 0) (x y : Result A Refusal) (f g : A → Result B Refusal) → Alike R x y → ((a b : A) → R a b → Alike Q (f a) (g b))
    → Alike Q (and_then x f) (and_then y g)
then-alike R Q (Ok a) (Ok b) f g r h = h a b r
then-alike R Q (Ok a) (Err k) f g r h = absurd r
then-alike R Q (Err k) (Ok b) f g r h = absurd r
then-alike R Q (Err j) (Err k) f g r h = r

alike_same : (x : Result State Refusal) → Alike ◌≡◌ x x
alike_same (Ok s) = refl
alike_same (Err k) = refl

abbrev FramesAlike : Frame → Frame → Type 0
FramesAlike none none = Unit {0}
FramesAlike none (opened m os) = ⊥
FramesAlike (opened m os) none = ⊥
FramesAlike (opened m os) (opened n bs) = os ≡ bs

record CarriedAlike (c d : Carried) : Type 0 where
  state : c.state ≡ d.state
  frame : FramesAlike c.frame d.frame

framed_alike : (m n : ℕ) (os : List Operation) (s : State) → Alike ◌≡◌ (framed m os s) (framed n os s)
framed_alike m n [] s = refl
framed_alike m n (o ∷ os) s = by_cases (conflicts o s) (λ e. rw e refl) (λ e. rw e (framed_alike (m + 1) (n + 1) os (applied reopened o s)))

limited-alike : (m n : ℕ) (s : State) → Alike ◌≡◌ (limited m s) (limited n s)
limited-alike m n s = by_cases (over_limit s) (λ e. rw e refl) (λ e. rw e refl)

ended-alike : (m n : ℕ) (f g : Frame) (s : State) → FramesAlike f g → Alike ◌≡◌ (ended m f s) (ended n g s)
ended-alike m n none none s r = refl
ended-alike m n none (opened b bs) s r = absurd r
ended-alike m n (opened a os) none s r = absurd r
ended-alike m n (opened a os) (opened b bs) s r =
    rw r
    (then-alike ◌≡◌ ◌≡◌ (framed a bs s) (framed b bs s) (λ u. limited m (settled u)) (λ u. limited n (settled u)) (framed_alike a b bs s)
    (λ u v q. rw q (limited-alike m n (settled v))))

noted-alike : (m n : ℕ) (o : Operation) (f g : Frame) → FramesAlike f g → Alike FramesAlike (noted m o f) (noted n o g)
noted-alike m n o none none r = tt
noted-alike m n o none (opened b bs) r = absurd r
noted-alike m n o (opened a os) none r = absurd r
noted-alike m n o (opened a os) (opened b bs) r = rw r (by_cases (leb most_operations (length bs)) (λ e. rw e refl) (λ e. rw e refl))

line-alike : (l : Line) (c d : Carried) → CarriedAlike c d → Alike CarriedAlike (line_read l c) (line_read l d)
line-alike begin c d i = record { state = i.state; frame = refl }
line-alike end c d i =
    then-alike ◌≡◌ CarriedAlike (ended c.line c.frame c.state) (ended d.line d.frame d.state) (λ s. Ok (carried s none (c.line + 1))) (λ s. Ok (carried s none (d.line + 1)))
    (rw i.state (ended-alike c.line d.line c.frame d.frame d.state i.frame))
    (λ s t q. record { state = q; frame = tt })
line-alike torn c d i = record { state = i.state; frame = tt }
line-alike (operation o) c d i =
    then-alike FramesAlike CarriedAlike (noted c.line o c.frame) (noted d.line o d.frame) (λ f. Ok (carried c.state f (c.line + 1))) (λ f. Ok (carried d.state f (d.line + 1)))
    (noted-alike c.line d.line o c.frame d.frame i.frame)
    (λ f g q. record { state = i.state; frame = q })
line-alike bad c d i = refl

said-alike : (ls : List Line) (c d : Carried) → CarriedAlike c d → Alike CarriedAlike (said_read ls c) (said_read ls d)
said-alike [] c d i = i
said-alike (l ∷ ls) c d i = then-alike CarriedAlike CarriedAlike (line_read l c) (line_read l d) (said_read ls) (said_read ls) (line-alike l c d i) (said-alike ls)

abbrev at_end : Carried → Result State Refusal
at_end c = finished c.state

ends-alike : (x y : Result Carried Refusal) → Alike CarriedAlike x y → Alike ◌≡◌ (and_then x at_end) (and_then y at_end)
ends-alike x y r = then-alike CarriedAlike ◌≡◌ x y at_end at_end r (λ c d i. rw i.state (alike_same (finished d.state)))

-- an append, whole or cut, after two readings of the same state
append-alike : (bs : List Operation) (j : ℕ) (so to : List ℕ) (s : State) (f g : Frame) (m n : ℕ)
    → Alike ◌≡◌ (and_then (said_read (said_on so (take j (append_of bs))) (carried s f m)) at_end) (and_then (said_read (said_on to (take j (append_of bs))) (carried s g n)) at_end)
append-alike bs zero so to s f g m n = rw (nothing-on so, nothing-on to) (alike_same (finished s))
append-alike bs (suc zero) so to s f g m n = rw (unmarked so, unmarked to) (alike_same (finished s))
append-alike bs (suc (suc j)) so to s f g m n =
    let ls = map line_of (lines (take j (frame_of bs))) in
    let c = carried s none (m + 1) in
    let d = carried s none (n + 1) in
    rw (marked-read so (take j (frame_of bs)) (carried s f m), marked-read to (take j (frame_of bs)) (carried s g n))
    (ends-alike (said_read ls c) (said_read ls d) (said-alike ls c d (record { state = refl; frame = tt })))

module _ (src : List ℕ) (os : List Operation) (k : ℕ) (bs : List Operation) (j : ℕ) (w : all_of well_formed os ≡ true) (few : length os ≤ most_operations) (h : k < length (append_of os)) where
  abbrev p : List ℕ
  p = take k (append_of os)

  abbrev a : List ℕ
  a = take j (append_of bs)

  abbrev so : List ℕ
  so = rest_on [] src

  both-said : said_on so (p ++ a) ≡ said_on so p ++ said_on (rest_on so p) a
  both-said = ap (map line_of) (lines-on-append so p a) ∙ map-append line_of (lines_on so p) (lines_on (rest_on so p) a)

  over : (x : Result Carried Refusal) → Alike ◌≡◌ (and_then (and_then x (said_read (said_on so (p ++ a)))) at_end) (and_then (and_then x (said_read (said_on so a))) at_end)
  over (Err r) = refl
  over (Ok c) =
      let r = cut-read os w few k h so c.state c.frame c.line in
      rw (both-said, said-append (said_on so p) (said_on (rest_on so p) a) c, r.2)
      (append-alike bs j (rest_on so p) so c.state r.0 c.frame r.1 c.line)

  pub passed : Alike ◌≡◌ (lines_replayed (lines (src ++ (p ++ a)))) (lines_replayed (lines (src ++ a)))
  passed = rw (read-over src (p ++ a), read-over src a) (over (lines_read (lines src) at_start))
