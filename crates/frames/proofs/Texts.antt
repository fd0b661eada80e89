-- A frame: its length, and its first lines. Assumes nothing.
use mathlib.Core.Path.{◌≡◌, refl, sym, ap, ◌∙◌}
use mathlib.Core.List.{List, [], ◌∷◌, ◌++◌, map, append_assoc}
use Prim.Native.Nat.{ℕ, zero, suc, ◌+◌, ◌≤◌}
use native.Mathlib.Omega.{arith}
use native.Mathlib.Numerals.{add-one}
use lib.ListN.{length, take, drop, length-append}
use Rattle.lists.proofs.Views.{map-append}
use Rattle.manifest.specs.Operations.{Operation}
use Rattle.manifest.specs.Lines.{text_of}
use Rattle.manifest.specs.Split.{joined}
use Rattle.frames.specs.Frames.{texts_of, frame_of}

-- lines, and lines after them
pub joined-append : (ls ms : List (List ℕ)) → joined (ls ++ ms) ≡ joined ls ++ joined ms
joined-append [] ms = refl
joined-append (l ∷ ls) ms = rw (joined-append ls ms) (sym (append_assoc l (10 ∷ joined ls) (joined ms)))

pub frame_is : (os : List Operation) → frame_of os ≡ (66 ∷ 10 ∷ texts_of os) ++ (69 ∷ 10 ∷ [])
frame_is os = ap (λ (l : List ℕ). 66 ∷ 10 ∷ l) (joined-append (map text_of os) ((69 ∷ []) ∷ []))

pub frame-long : (os : List Operation) → length (frame_of os) ≡ 4 + length (texts_of os)
frame-long os = ap length (frame_is os) ∙ length-append (66 ∷ 10 ∷ texts_of os) (69 ∷ 10 ∷ []) ∙ omega arith

pub texts-cons : (o : Operation) (os : List Operation) → length (texts_of (o ∷ os)) ≡ length (text_of o) + 1 + length (texts_of os)
texts-cons o os = length-append (text_of o) (10 ∷ texts_of os) ∙ omega arith

pub texts-append : (os ps : List Operation) → texts_of (os ++ ps) ≡ texts_of os ++ texts_of ps
texts-append os ps = ap joined (map-append text_of os ps) ∙ joined-append (map text_of os) (map text_of ps)

pub texts-snoc : (os : List Operation) (o : Operation) → texts_of (os ++ (o ∷ [])) ≡ texts_of os ++ (text_of o ++ (10 ∷ []))
texts-snoc os o = texts-append os (o ∷ [])

pub texts-split : (i : ℕ) (os : List Operation) → length (texts_of os) ≡ length (texts_of (take i os)) + length (texts_of (drop i os))
texts-split zero os = omega arith
texts-split (suc i) [] = refl
texts-split (suc i) (o ∷ os) = omega (arith, texts-cons o os, texts-cons o (take i os), texts-split i os)

-- what is left from i on, where o stands there
pub texts-next : (os : List Operation) (i : ℕ) (o : Operation) (rest : List Operation) → drop i os ≡ o ∷ rest → length (texts_of (drop i os)) ≡ length (text_of o) + 1 + length (texts_of rest)
texts-next os i o rest e = rw e (texts-cons o rest)

-- the first i + 1 lines
pub texts-turn : (os : List Operation) (i : ℕ) (o : Operation) (rest : List Operation) → drop i os ≡ o ∷ rest → texts_of (take (i + 1) os) ≡ texts_of (take i os) ++ (text_of o ++ (10 ∷ []))
texts-turn os i o rest e = rw add-one (ap texts_of (taken os i e) ∙ texts-snoc (take i os) o)
  where
    taken : (os : List Operation) (i : ℕ) → drop i os ≡ o ∷ rest → take (suc i) os ≡ take i os ++ (o ∷ [])
    taken [] zero e = absurd (let z : ◌≡◌ {A = ℕ} 0 1 = cc in omega arith)
    taken [] (suc i) e = absurd (let z : ◌≡◌ {A = ℕ} 0 1 = cc in omega arith)
    taken (p ∷ os) zero e = let q : p ≡ o = cc in ap (λ (x : Operation). x ∷ []) q
    taken (p ∷ os) (suc i) e = ap (λ (l : List Operation). p ∷ l) (taken os i e)

-- room for the line of o after the first i
pub texts-room : (os : List Operation) (i : ℕ) (o : Operation) (rest : List Operation) → drop i os ≡ o ∷ rest → length (texts_of (take i os)) + length (text_of o ++ (10 ∷ [])) ≤ length (texts_of os)
texts-room os i o rest e = omega (arith, texts-split i os, texts-next os i o rest e, length-append (text_of o) (10 ∷ []))

pub texts-le : (os : List Operation) (i : ℕ) → length (texts_of (take i os)) ≤ length (texts_of os)
texts-le os i = omega (arith, texts-split i os)
