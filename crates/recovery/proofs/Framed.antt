-- The bytes of a frame, whole or torn, and what their lines say. Assumes nothing.
use mathlib.Core.Path.{◌≡◌, refl, sym, ap, ◌∙◌}
use mathlib.Core.Bool.{true}
use mathlib.Core.List.{List, [], ◌∷◌, ◌++◌, map}
use Prim.Native.Nat.{ℕ, zero, suc, ◌+◌, ◌≤◌, ◌<◌}
use native.Mathlib.Omega.{arith}
use lib.ListN.{length, take, length-append, length-map}
use Rattle.lists.specs.Keyed.{all_of}
use Rattle.lists.proofs.Tests.{both, join}
use Rattle.manifest.specs.Operations.{Operation, Line, begin, end, operation, well_formed, well_line}
use Rattle.manifest.specs.Lines.{line_of, text_of, line_text}
use Rattle.manifest.specs.Split.{lines, joined}
use Rattle.manifest.proofs.Split.{lines-joined, lines-torn}
use Rattle.manifest.proofs.Lines.{all-one-line, read_back, parse-all}
use Rattle.frames.specs.Frames.{frame_of}

-- what the lines of a frame say
abbrev pub said : List Operation → List Line
said os = begin ∷ (map operation os ++ (end ∷ []))

frame-texts : (os : List Operation) → map line_text (map operation os ++ (end ∷ [])) ≡ map text_of os ++ (line_text end ∷ [])
frame-texts [] = refl
frame-texts (o ∷ os) = ap (λ (l : List (List ℕ)). text_of o ∷ l) (frame-texts os)

frame-said : (os : List Operation) → frame_of os ≡ joined (map line_text (said os))
frame-said os = ap (λ (l : List (List ℕ)). joined (line_text begin ∷ l)) (sym (frame-texts os))

well-ops : (os : List Operation) → all_of well_formed os ≡ true → all_of well_line (map operation os ++ (end ∷ [])) ≡ true
well-ops [] w = refl
well-ops (o ∷ os) w = let d = both (well_formed o) (all_of well_formed os) w in join d.0 (well-ops os d.1)

well-said : (os : List Operation) → all_of well_formed os ≡ true → all_of well_line (said os) ≡ true
well-said os w = well-ops os w

pub frame-lines : (os : List Operation) → all_of well_formed os ≡ true → map line_of (lines (frame_of os)) ≡ said os
frame-lines os w = ap (λ (s : List ℕ). map line_of (lines s)) (frame-said os) ∙ read_back (said os) (well-said os w)

map-take : {A B : Type 0} (f : A → B) (k : ℕ) (l : List A) → map f (take k l) ≡ take k (map f l)
map-take f zero l = refl
map-take f (suc k) [] = refl
map-take f (suc k) (x ∷ l) = ap (λ (m : List _). f x ∷ m) (map-take f k l)

length-said : (os : List Operation) → length (map line_text (said os)) ≡ length os + 2
length-said os =
    let a = length-map (said os) line_text in
    let b = length-append (map operation os) (end ∷ []) in
    let c = length-map os operation in
    omega arith

-- a proper first part of a frame's bytes says some of its first lines, and never all
pub torn-lines : (os : List Operation) (k : ℕ) → all_of well_formed os ≡ true → k < length (frame_of os)
    → (j : ℕ) × (j ≤ length os + 1) × (map line_of (lines (take k (frame_of os))) ≡ take j (said os))
torn-lines os k w h =
    let ls = map line_text (said os) in
    let e = frame-said os in
    let q : k < length (joined ls) = omega (arith, h, ap length e) in
    let r = lines-torn ls k (all-one-line (said os) (well-said os w)) q in
    let j = r.0 in (
      j,
      omega (arith, r.1, length-said os),
      ap (λ (s : List ℕ). map line_of (lines (take k s))) e
          ∙ ap (map line_of) r.2
          ∙ map-take line_of j ls
          ∙ ap (take j) (parse-all (said os) (well-said os w)),
    )
