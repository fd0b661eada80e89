-- Laws of lines. Assumes nothing.
use Rattle.std.specs.Prelude.{Option, Some, None}
use mathlib.Core.Path.{◌≡◌, refl, sym, ap, ◌∙◌}
use mathlib.Core.Bool.{Bool, true, false, cond}
use mathlib.Core.List.{List, [], ◌∷◌, ◌++◌, append_assoc, append-nil}
use Prim.Native.Nat.{ℕ, zero, suc, ◌+◌, ◌-◌, ◌<◌, ◌≤◌}
use native.Mathlib.Nat.{zero-add, suc-add}
use native.Mathlib.Omega.{arith}
use lib.ListN.{length, take, drop, drop_of_length-le, length-append, length-drop}
use lib.Seq.{take-append-le, take-append_seam}
use borrow.Author.Tests.{eqb-true, leb-true, leb-false}
use lib.Dec.{leb}
use Rattle.std.specs.List.{position, position_from}
use Rattle.std.proofs.lemmas.Iterator.Adapters.{position_from-zero}
use Rattle.lists.specs.Keyed.{any_of}
use Rattle.lists.proofs.Keyed.{All}
use Rattle.lists.proofs.Tests.{by_cases, either, neither}
use Rattle.text.specs.Class.{is_newline}
use Rattle.manifest.specs.declared.reader.LineAt.{LineAt}
use Rattle.manifest.specs.Split.{lines_on, rest_on, lines, lines_from, joined, line_in, line_at}
use Rattle.manifest.proofs.Fields.{drop_past}

-- s has no newline
abbrev pub OneLine : List ℕ → Type 0
OneLine s = any_of is_newline s ≡ false

-- a text after another: no condition, with the unfinished line that the first leaves
pub lines-on-append : (so a b : List ℕ) → lines_on so (a ++ b) ≡ lines_on so a ++ lines_on (rest_on so a) b
unfolding lines_on rest_on
lines-on-append so [] b = refl
lines-on-append so (x ∷ a) b = go (is_newline x) (lines-on-append [] a b) (lines-on-append (so ++ (x ∷ [])) a b)
  where
    go : (t : Bool) → lines_on [] (a ++ b) ≡ lines_on [] a ++ lines_on (rest_on [] a) b
        → lines_on (so ++ (x ∷ [])) (a ++ b) ≡ lines_on (so ++ (x ∷ [])) a ++ lines_on (rest_on (so ++ (x ∷ [])) a) b
        → cond t (so ∷ lines_on [] (a ++ b)) (lines_on (so ++ (x ∷ [])) (a ++ b))
        ≡ cond t (so ∷ lines_on [] a) (lines_on (so ++ (x ∷ [])) a) ++ lines_on (cond t (rest_on [] a) (rest_on (so ++ (x ∷ [])) a)) b
    go true p q = ap (λ (ls : List (List ℕ)). so ∷ ls) p
    go false p q = q

-- the unfinished line of both is that of the second, begun by that of the first
pub rest-on-append : (so a b : List ℕ) → rest_on so (a ++ b) ≡ rest_on (rest_on so a) b
unfolding rest_on
rest-on-append so [] b = refl
rest-on-append so (x ∷ a) b =
    by_cases (is_newline x) (λ e. rw e (rest-on-append [] a b)) (λ e. rw e (rest-on-append (so ++ (x ∷ [])) a b))

pub rest-newline : (so a : List ℕ) → rest_on so (a ++ (10 ∷ [])) ≡ []
unfolding rest_on
rest-newline so [] = refl
rest-newline so (x ∷ a) = either (λ (r : List ℕ). r ≡ []) (is_newline x) _ _ (rest-newline [] a) (rest-newline (so ++ (x ∷ [])) a)

-- a text that leaves no unfinished line, and a text after it
pub lines-append : (a b : List ℕ) → rest_on [] a ≡ [] → lines (a ++ b) ≡ lines a ++ lines b
unfolding lines
lines-append a b e = lines-on-append [] a b ∙ rw e

-- a text leaves none where it is empty or ends in a newline
pub rest-none : rest_on [] [] ≡ []
unfolding rest_on
rest-none = refl

pub rest_ended : (a : List ℕ) → rest_on [] (a ++ (10 ∷ [])) ≡ []
rest_ended a = rest-newline [] a

on_one : (so l : List ℕ) → OneLine l → lines_on so l ≡ []
unfolding lines_on
on_one so [] o = refl
on_one so (b ∷ l) o = let n = neither (is_newline b) (any_of is_newline l) o in rw n.0 (on_one (so ++ (b ∷ [])) l n.1)

one-take : (k : ℕ) (l : List ℕ) → OneLine l → OneLine (take k l)
one-take zero l o = refl
one-take (suc k) [] o = refl
one-take (suc k) (b ∷ l) o = let n = neither (is_newline b) (any_of is_newline l) o in rw n.0 (one-take k l n.1)

-- a text without a newline has no line, and is an unfinished one
pub lines-unfinished : (l : List ℕ) → OneLine l → lines l ≡ []
unfolding lines
lines-unfinished l o = on_one [] l o

-- a proper first part of a line with its newline has no line
pub lines-prefix : (l : List ℕ) (k : ℕ) → OneLine l → k < length (l ++ (10 ∷ [])) → lines (take k (l ++ (10 ∷ []))) ≡ []
lines-prefix l k o h =
    rw (take-append-le k l (10 ∷ []) (omega (arith, length-append l (10 ∷ [])))) (lines-unfinished (take k l) (one-take k l o))

on_line : (so l s : List ℕ) → OneLine l → lines_on so (l ++ (10 ∷ s)) ≡ (so ++ l) ∷ lines_on [] s
unfolding lines_on
on_line so [] s o = rw append-nil
on_line so (b ∷ l) s o =
    let n = neither (is_newline b) (any_of is_newline l) o in
    rw n.0 (on_line (so ++ (b ∷ [])) l s n.1 ∙ rw append_assoc)

-- a line with its newline, and text after it
pub lines_cons : (l s : List ℕ) → OneLine l → lines (l ++ (10 ∷ s)) ≡ l ∷ lines s
unfolding lines
lines_cons l s o = on_line [] l s o

take_past : (l t : List ℕ) (j : ℕ) → take (length l + j) (l ++ t) ≡ l ++ take j t
take_past [] t j = rw zero-add
take_past (b ∷ l) t j = rw suc-add (ap (λ (u : List ℕ). b ∷ u) (take_past l t j))

-- lines that are written are the lines that are read
pub lines-joined : (ls : List (List ℕ)) → All OneLine ls → lines (joined ls) ≡ ls
unfolding lines lines_on
lines-joined [] o = refl
lines-joined (l ∷ ls) o = lines_cons l (joined ls) o.0 ∙ ap (λ (r : List (List ℕ)). l ∷ r) (lines-joined ls o.1)

-- a proper first part of written lines has some of the first lines, and never all
pub lines-torn : (ls : List (List ℕ)) (k : ℕ) → All OneLine ls → k < length (joined ls) → (m : ℕ) × (m < length ls) × (lines (take k (joined ls)) ≡ take m ls)
lines-torn [] k o h = absurd (omega arith)
lines-torn (l ∷ ls) k o h =
    by_cases (leb k (length l))
    (λ e. let q = leb-true k (length l) e in
    (0, omega arith, rw (take-append-le k l (10 ∷ joined ls) q) (lines-unfinished (take k l) (one-take k l o.0))))
    (λ e. let q = leb-false k (length l) e in
    let j : ℕ = k - suc (length l) in
    let n : k ≡ length l + suc j = omega arith in
    let r = lines-torn ls j o.1 (omega (arith, length-append l (10 ∷ joined ls))) in
    let t : take k (l ++ (10 ∷ joined ls)) ≡ l ++ (10 ∷ take j (joined ls)) = ap (λ (i : ℕ). take i (l ++ (10 ∷ joined ls))) n ∙ take_past l (10 ∷ joined ls) (suc j) in
    (suc r.0, omega (arith, r.1), rw t (lines_cons l (take j (joined ls)) o.0 ∙ ap (λ (u : List (List ℕ)). l ∷ u) r.2)))

-- and a text is its lines with what stands after the last newline
pub joined-lines : (so s : List ℕ) → joined (lines_on so s) ++ rest_on so s ≡ so ++ s
unfolding lines_on rest_on
joined-lines so [] = sym (append-nil so)
joined-lines so (b ∷ s) = go (is_newline b) refl (joined-lines [] s) (joined-lines (so ++ (b ∷ [])) s)
  where
    go : (t : Bool) → is_newline b ≡ t → joined (lines_on [] s) ++ rest_on [] s ≡ s → joined (lines_on (so ++ (b ∷ [])) s) ++ rest_on (so ++ (b ∷ [])) s ≡ (so ++ (b ∷ [])) ++ s
        → joined (cond t (so ∷ lines_on [] s) (lines_on (so ++ (b ∷ [])) s)) ++ cond t (rest_on [] s) (rest_on (so ++ (b ∷ [])) s) ≡ so ++ (b ∷ s)
    go true e p q = rw (append_assoc, p, eqb-true b 10 e)
    go false e p q = q ∙ rw append_assoc

-- The line at a place.

-- where `position` finds the newline k bytes after i, the line is there
abbrev pub line_found : ℕ → ℕ → Option ℕ → Option LineAt
line_found at i (Some k) = Some (record { start = at; end = i + k; next = i + k + 1 })
line_found at i None = None

line-in : (at : ℕ) (w : List ℕ) (i j : ℕ) → line_in at w (i + j) ≡ line_found at i (position_from is_newline j w)
unfolding line_in
line-in at [] i j = refl
line-in at (b ∷ w) i j =
    let k : i + j + 1 ≡ i + (j + 1) = omega arith in
    by_cases (is_newline b) (λ e. rw e) (λ e. rw (e, k) (line-in at w i (j + 1)))

pub line-at : (s : List ℕ) (at : ℕ) (r : Option ℕ) → r ≡ position is_newline (drop at s) → line_at s at ≡ line_found at at r
unfolding line_at
line-at s at r e =
    let z : at + 0 ≡ at = omega arith in
    let p = rw z at (line-in at (drop at s) at 0) in
    p ∙ ap (line_found at at) (sym (e ∙ position_from-zero is_newline (drop at s)))

pub line-past : (s : List ℕ) (at : ℕ) → length s < at → line_at s at ≡ None
unfolding line_at line_in
line-past s at h = rw (drop_of_length-le s {i = at} (omega arith))

-- the first newline ends the first line
record Ended (w : List ℕ) (i at : ℕ) (l : LineAt) : Type 0 where
  line : List ℕ
  rest : List ℕ
  text : w ≡ line ++ (10 ∷ rest)
  one : OneLine line
  from : l.start ≡ at
  end : l.end ≡ i + length line
  on : l.next ≡ l.end + 1

never : {l : LineAt} → ◌≡◌ {A = Option LineAt} None (Some l) → ⊥
never h = let z : ◌≡◌ {A = ℕ} 0 1 = cc in omega arith

ended : (w : List ℕ) (i at : ℕ) (l : LineAt) → line_in at w i ≡ Some l → Ended w i at l
unfolding line_in
ended [] i at l h = absurd (never h)
ended (b ∷ w) i at l h =
    by_cases (is_newline b)
    (λ d. let m : LineAt = record { start = at; end = i; next = i + 1 } in
    let q : ◌≡◌ {A = Option LineAt} (Some m) (Some l) = rw d at h in
    let e : m ≡ l = cc in
    record {
      line = [];
      rest = w;
      text = ap (λ (x : ℕ). x ∷ w) (eqb-true b 10 d);
      one = refl;
      from = sym (ap (λ (x : LineAt). x.start) e);
      end = omega (arith, ap (λ (x : LineAt). x.end) e);
      on = omega (arith, ap (λ (x : LineAt). x.end) e, ap (λ (x : LineAt). x.next) e);
    })
    (λ d. let r = ended w (i + 1) at l (rw d at h) in
    record { line = b ∷ r.line; rest = r.rest; text = ap (λ (x : List ℕ). b ∷ x) r.text; one = rw d r.one; from = r.from; end = omega (arith, r.end); on = r.on })

endless : (w : List ℕ) (at i : ℕ) → line_in at w i ≡ None → OneLine w
unfolding line_in
endless [] at i h = refl
endless (b ∷ w) at i h =
    by_cases (is_newline b) (λ d. absurd (never (sym (rw d at h)))) (λ d. rw d (endless w at (i + 1) (rw d at h)))

at_split : (s : List ℕ) (i : ℕ) (line rest : List ℕ) → drop i s ≡ line ++ (10 ∷ rest) → OneLine line
    → lines_from s i ≡ take ((i + length line) - i) (drop i s) ∷ lines_from s ((i + length line) + 1)
unfolding lines_from
at_split s i line rest text one =
    let k : (i + length line) - i ≡ length line = omega arith in
    let d : drop ((i + length line) + 1) s ≡ rest = drop_past s (i + length line) (10 ∷ []) rest (drop_past s i line (10 ∷ rest) text) in
    rw (k, d, text, take-append_seam) (lines_cons line rest one)

placed-split : (s : List ℕ) (i : ℕ) (line rest : List ℕ) (start e next : ℕ) → drop i s ≡ line ++ (10 ∷ rest) → OneLine line
    → start ≡ i → e ≡ i + length line → next ≡ e + 1 → lines_from s i ≡ take (e - start) (drop start s) ∷ lines_from s next
placed-split s i line rest start e next text one p q r = rw (r, q, p) (at_split s i line rest text one)

-- where a line starts, ends and goes on
pub record Placed (s : List ℕ) (at : ℕ) (l : LineAt) : Type 0 where
  pub from : l.start ≡ at
  pub within : at ≤ l.end
  pub on : l.next ≡ l.end + 1
  pub inside : l.next ≤ length s

module _ (s : List ℕ) (at : ℕ) (l : LineAt) (h : line_at s at ≡ Some l) where
  pub line-placed : Placed s at l
  unfolding line_at
  line-placed =
      let r = ended (drop at s) at at l h in
      let n = ap length r.text ∙ length-append r.line (10 ∷ r.rest) in
      record { from = r.from; within = omega (arith, r.end); on = r.on; inside = omega (arith, r.end, r.on, length-drop at s) }

  -- a walk goes on
  pub line-further : (at < l.next) × (l.next ≤ length s)
  line-further = let p = line-placed in (omega arith, p.inside)

  -- the lines from a place on are the line there and the lines from the next place on
  pub lines_at : lines_from s at ≡ take (l.end - l.start) (drop l.start s) ∷ lines_from s l.next
  unfolding line_at
  lines_at =
      let r = ended (drop at s) at at l h in
      placed-split s at r.line r.rest l.start l.end l.next r.text r.one r.from r.end r.on

-- and where there is none there are no lines
pub lines_none : (s : List ℕ) (at : ℕ) → line_at s at ≡ None → lines_from s at ≡ []
unfolding line_at lines_from lines
lines_none s at h = on_one [] (drop at s) (endless (drop at s) at at h)

-- the lines from the start on are all lines
pub lines-from-start : (s : List ℕ) → lines_from s 0 ≡ lines s
unfolding lines_from
lines-from-start s = refl
