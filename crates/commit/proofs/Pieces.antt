-- Lent bytes in pieces, each up to a newline: one operation each. Assumes nothing.
use mathlib.Core.Path.{◌≡◌, refl, sym, ap, ap₂, subst, ◌∙◌}
use mathlib.Core.Bool.{Bool, true, false}
use mathlib.Core.List.{List, [], ◌∷◌, ◌++◌, map, append-nil}
use Prim.Native.Nat.{ℕ, zero, suc, ◌+◌, ◌-◌, ◌<◌, min}
use native.Mathlib.Omega.{arith}
use native.Mathlib.Numerals.{add-one}
use lib.Dec.{eqb}
use lib.ListN.{length, get_or, take, drop, length-append, length-take, take-append-drop, drop_of_length-le}
use lib.Seq.{take_all, take-append_seam, append_snoc, drop-cons, get_or-append_seam}
use borrow.Author.Tests.{eqb-true}
use mathlib.Core.Logic.{⊎_elim}
use denote.Ref.{Bor}
use denote.Param.Members.{Mut}
use Rattle.std.specs.declared.iter.Enumerate.{Enumerate}
use Rattle.std.specs.declared.slice.SplitInclusive.{SplitInclusive}
use Rattle.std.specs.Iterator.{Yields}
use Rattle.std.specs.Iterator.Adapters.{enumerate_source, enumerate_count, enumerate_steps}
use Rattle.std.specs.Prelude.{Option, Some, None}
use Rattle.std.specs.Option.{MatchOption}
use Rattle.std.specs.Fn.{ComputesKey, CalledAt}
use Rattle.std.specs.List.{AllWithin, IsFirstMatchOrLen, enumerate_from}
use Rattle.std.specs.Slice.Iter.{split_inclusive_rest, split_inclusive_callee}
use Rattle.std.proofs.lemmas.Iterator.{YieldsList}
use Rattle.std.proofs.lemmas.Iterator.Splits.{YieldsList-from_shown_while}
use Rattle.std.proofs.lemmas.Iterator.Consumers.{YieldsList-from_enumerate, YieldsList-turn, YieldsList-end}
use Rattle.std.proofs.lemmas.Fn.{always_returns_same}
use Rattle.std.proofs.lemmas.Bool.{cases_lt}
use Rattle.std.proofs.lemmas.List.{nil_from_length, append_cancel_left}
use Rattle.std.proofs.lemmas.List.FromFn.{get_or-enumerate_from, length-enumerate_from}
use Rattle.lists.proofs.Tests.{by_cases}
use Rattle.text.specs.Class.{is_newline}
use Rattle.manifest.specs.Operations.{Operation, next_ids, well_formed}
use Rattle.manifest.specs.Lines.{line_of}
use Rattle.manifest.specs.Split.{lines, rest_on}
use Rattle.manifest.proofs.Split.{OneLine, joined-lines, rest-on-append, rest_ended, lines_cons, lines-unfinished}
use Rattle.commit.specs.Lent.{operation_said, piece_said, unended, operations_in}
use Rattle.commit.proofs.Lent.{none_lent, said-well}

-- no newline before a place
one-before : (s : List ℕ) (i : ℕ) → AllWithin (λ b. eqb b 10 ≡ false) s 0 i → OneLine (take i s)
one-before s zero a = refl
one-before [] (suc i) a = refl
one-before (b ∷ s) (suc i) a =
    let h : is_newline b ≡ false = a 0 0 (omega arith) (omega arith) in
    rw h (one-before s i (λ k d l u. a (suc k) d (omega arith) (omega arith)))

-- a line with its newline, and what is left after it
line-first : (l t : List ℕ) → OneLine l → operations_in (l ++ (10 ∷ t)) ≡ operation_said (line_of l) ∷ operations_in t
unfolding operations_in
line-first l t o =
    ap₂ (λ (ls : List (List ℕ)) (r : List ℕ). map (λ x. operation_said (line_of x)) ls ++ unended r) (lines_cons l t o)
    (ap (rest_on []) (sym (append_snoc l 10 t)) ∙ rest-on-append [] (l ++ (10 ∷ [])) t ∙ ap (λ (r : List ℕ). rest_on r t) (rest_ended l))

-- bytes without a newline
rest-whole : (s : List ℕ) → lines s ≡ [] → rest_on [] s ≡ s
unfolding lines
rest-whole s n = rw n at (joined-lines [] s)

rest-alone : (s : List ℕ) → OneLine s → 0 < length s → operations_in s ≡ next_ids 0 0 0 ∷ []
unfolding operations_in
rest-alone [] o h = absurd (omega arith)
rest-alone (b ∷ s) o h =
    let n = lines-unfinished (b ∷ s) o in
    let r = rest-whole (b ∷ s) n in
    rw (n, r)

-- what a piece is read as
piece-ended : (l : List ℕ) → piece_said (l ++ (10 ∷ [])) ≡ operation_said (line_of l)
piece-ended l =
    let n : length (l ++ (10 ∷ [])) - 1 ≡ length l = omega (arith, length-append l (10 ∷ [])) in
    rw (n, get_or-append_seam l 10 [] 0, take-append_seam l (10 ∷ []))

piece-alone : (s : List ℕ) → is_newline (get_or s (length s - 1) 0) ≡ false → piece_said s ≡ next_ids 0 0 0
piece-alone s h = rw h

pub piece-well : (l : List ℕ) → well_formed (piece_said l) ≡ true
piece-well l =
    by_cases (is_newline (get_or l (length l - 1) 0))
    (λ e. rw e (said-well (take (length l - 1) l)))
    (λ e. rw e refl)

-- the first piece, and what is left after it
piece-first : (s x t : List ℕ) (i : ℕ) → s ≡ x ++ t → length x ≡ min (i + 1) (length s) → IsFirstMatchOrLen (λ b. eqb b 10) s i → 0 < length s → operations_in s ≡ piece_said x ∷ operations_in t
piece-first s x t i e n h z =
    ⊎_elim
    (λ w.
    let l = take i s in
    let r = drop (suc i) s in
    let hit : get_or s i 0 ≡ 10 = eqb-true (get_or s i 0) 10 (h.1 w 0) in
    let d : s ≡ (l ++ (10 ∷ [])) ++ r = sym (take-append-drop i s) ∙ ap (λ (y : List ℕ). l ++ y) (drop-cons s i 0 w ∙ ap (λ (b : ℕ). b ∷ r) hit) ∙ sym (append_snoc l 10 r) in
    let m : length x ≡ length (l ++ (10 ∷ [])) = simp (length-append, length-take) (omega (arith, n)) in
    let a : x ≡ l ++ (10 ∷ []) = sym (take-append_seam x t) ∙ ap (take (length x)) (sym e ∙ d) ∙ ap (λ (k : ℕ). take k ((l ++ (10 ∷ [])) ++ r)) m ∙ take-append_seam (l ++ (10 ∷ [])) r in
    let b : t ≡ r = append_cancel_left x t r (sym e ∙ d ∙ ap (λ (y : List ℕ). y ++ r) (sym a)) in
    let o = one-before s i h.0 in
    ap operations_in (d ∙ append_snoc l 10 r) ∙ line-first l r o ∙ ap₂ (λ (y : Operation) (ys : List ℕ). y ∷ operations_in ys) (sym (ap piece_said a ∙ piece-ended l)) (sym b))
    (λ w.
    let m : length s ≡ length x + length t = ap length e ∙ length-append x t in
    let k : t ≡ [] = nil_from_length t (omega (arith, n)) in
    let a : s ≡ x = e ∙ ap (λ (y : List ℕ). x ++ y) k ∙ append-nil x in
    let o : OneLine s = subst OneLine (take_all i s w) (one-before s i h.0) in
    rest-alone s o z ∙ ap₂ ◌∷◌ (sym (piece-alone s (h.0 (length s - 1) 0 (omega arith) (omega arith))) ∙ ap piece_said a) (sym (ap operations_in k ∙ none_lent)))
    (cases_lt i (length s))

abbrev pub Split : {F : Type 0} → Mut F (Bor ℕ × Unit {0}) Bool → SplitInclusive ℕ F → Option (Bor (List ℕ)) → SplitInclusive ℕ F → Type 0
Split g s r t =
    MatchOption r ((length (split_inclusive_rest s) ≡ 0) × (t ≡ s))
    (λ x. (split_inclusive_rest s ≡ x.now ++ split_inclusive_rest t)
    × ((i : ℕ) × (length x.now ≡ min (i + 1) (length (split_inclusive_rest s)))
    × ((p : ℕ → Bool) → ComputesKey g p (split_inclusive_callee s) → ComputesKey g p (split_inclusive_callee t) × IsFirstMatchOrLen p (split_inclusive_rest s) i))
    × (0 < length (split_inclusive_rest s)))

-- a chain proof that begins where lent bytes are split
pub YieldsList-from_pieces : {F : Type 0} {s : _} (g : Mut F (Bor ℕ × Unit {0}) Bool) {f : F} (xs : List ℕ) → split_inclusive_rest s ≡ xs → split_inclusive_callee s ≡ f
    → ((x : ℕ) (b : Bool) (q : F) → CalledAt g f x b q → (q ≡ f) × (b ≡ eqb x 10)) → YieldsList (Split g) (λ x. piece_said x.now) s (operations_in xs)
YieldsList-from_pieces {s = s} g {f} xs rest closure tests =
    let shown = λ (t : _). operations_in (split_inclusive_rest t) in
    subst (λ (ys : List ℕ). YieldsList (Split g) (λ x. piece_said x.now) s (operations_in ys)) rest
    (YieldsList-from_shown_while (Split g) (λ x. piece_said x.now) shown (λ t. ComputesKey g (λ b. eqb b 10) (split_inclusive_callee t))
    (λ t u h k. ap length (ap operations_in (nil_from_length _ k.0) ∙ none_lent))
    (λ t x u h k. let m = k.1.2 (λ b. eqb b 10) h in (m.0, piece-first _ x.now _ k.1.0 k.0 k.1.1 m.1 k.2))
    s (subst (ComputesKey g (λ b. eqb b 10)) (sym closure) (always_returns_same g (λ a r. r ≡ eqb a.0.now 10) f (λ a r q k. let m = tests a.0.now r q (record { shown = a.0; shows = refl; called = k }) in (m.1, m.0)))))

-- a turn over numbered operations
numbered-turn : (os : List Operation) (k i : ℕ) (o : Operation) → k < length (enumerate_from 0 os) → ◌≡◌ {A = ℕ × Operation} (i, o) (get_or (enumerate_from 0 os) k (i, o)) → (i ≡ k) × (drop k os ≡ o ∷ drop (k + 1) os)
numbered-turn os k i o h e =
    let w : k < length os = rw (length-enumerate_from 0 os) at h in
    let q = e ∙ get_or-enumerate_from 0 os k (i, o) w in
    let b : o ≡ get_or os k o = ap (λ (p : ℕ × Operation). p.1) q in
    (ap (λ (p : ℕ × Operation). p.0) q ∙ omega arith, rw add-one (drop-cons os k o w ∙ ap (λ (x : Operation). x ∷ drop (suc k) os) (sym b)))

-- a walk over numbered pieces of b, which began at s and has come to t
module _ {F : Type 0} where
  abbrev pub EndsAtNewline : Mut F (Bor ℕ × Unit {0}) Bool → F → Type 0
  EndsAtNewline g f = (x : ℕ) (b : Bool) (q : F) → CalledAt g f x b q → (q ≡ f) × (b ≡ eqb x 10)

  module _ (s : Enumerate (SplitInclusive ℕ F)) (g : Mut F (Bor ℕ × Unit {0}) Bool) (b : List ℕ) (rest : split_inclusive_rest (enumerate_source s) ≡ b) (start : enumerate_count s ≡ 0) where
    road : EndsAtNewline g (split_inclusive_callee (enumerate_source s)) → YieldsList (enumerate_steps (Split g)) (λ p. (p.0, piece_said p.1.now)) s (enumerate_from 0 (operations_in b))
    road h = YieldsList-from_enumerate {s = s} (YieldsList-from_pieces {s = enumerate_source s} g b rest refl h) start

    module _ (ys : List (ℕ × Bor (List ℕ))) (t : Enumerate (SplitInclusive ℕ F)) (y : Yields (enumerate_steps (Split g)) s ys t) (r : Option (ℕ × Bor (List ℕ))) (u : Enumerate (SplitInclusive ℕ F)) (n : enumerate_steps (Split g) t r u) where
      pub pieces-turn : (x : ℕ × Bor (List ℕ)) → r ≡ Some x → EndsAtNewline g (split_inclusive_callee (enumerate_source s)) → (x.0 ≡ length ys) × (drop (length ys) (operations_in b) ≡ piece_said x.1.now ∷ drop (length ys + 1) (operations_in b))
      pieces-turn x e h =
          let m = YieldsList-turn (road h) ys t y r u x e n in
          numbered-turn (operations_in b) (length ys) x.0 (piece_said x.1.now) m.0 m.1

      pub pieces-end : r ≡ None → EndsAtNewline g (split_inclusive_callee (enumerate_source s)) → drop (length ys) (operations_in b) ≡ []
      pieces-end e h =
          let m = YieldsList-end (road h) ys t y r u e n in
          drop_of_length-le (operations_in b) {i = length ys} (omega (arith, m.1, length-enumerate_from 0 (operations_in b)))
