-- The lines of a list's elements, added one after another: how a loop starts, goes on and ends. Assumes nothing.
use mathlib.Core.Path.{◌≡◌, sym, ap, ◌∙◌}
use mathlib.Core.Bool.{Bool}
use mathlib.Core.List.{List, [], ◌∷◌, ◌++◌, map, append_assoc, append-nil}
use Prim.Native.Nat.{ℕ, suc, ◌+◌, ◌*◌, ◌≤◌, ◌<◌}
use native.Mathlib.Nat.{mul-le-mul_left}
use native.Mathlib.Omega.{arith}
use lib.ListN.{length, get_or, take, drop, length-append, length-map}
use lib.Seq.{drop-cons, take_all}
use Rattle.lists.specs.Keyed.{keep}
use Rattle.lists.proofs.Keyed.{length-keep}
use Rattle.lists.proofs.Views.{map-drop}
use Rattle.columns.specs.Rows.{rows}
use Rattle.columns.proofs.Rows.{rows-length}
use Rattle.manifest.specs.Operations.{Operation}
use Rattle.frames.specs.Frames.{texts_of}
use Rattle.frames.proofs.Texts.{texts-turn, texts-append}

pub texts-length : (os ps : List Operation) → length (texts_of (os ++ ps)) ≡ length (texts_of os) + length (texts_of ps)
texts-length os ps = ap length (texts-append os ps) ∙ length-append (texts_of os) (texts_of ps)

-- of n rows no more than n pass a test
pub kept-few : {A : Type 0} (p : A → Bool) (f : ℕ → A) (n k : ℕ) → n ≤ k → length (keep p (rows f n)) ≤ k
kept-few p f n k h = omega (arith, h, length-keep p (rows f n), rows-length f n)

-- The lines of the first i elements were added to s, which made it t. There are at most `most` elements, a line has at most k bytes, and there
-- is room for `room` bytes.
pub record Writing {A : Type 0} (g : A → Operation) (l : List A) (k most room : ℕ) (s : List ℕ) (i : ℕ) (t : List ℕ) : Type 0 where
  pub few : length l ≤ most
  pub holds : length s + k * most ≤ room
  pub short : length t ≤ length s + k * i
  pub added : t ≡ s ++ texts_of (take i (map g l))

pub write-start : {A : Type 0} {g : A → Operation} {l : List A} {k most room : ℕ} {s : List ℕ} → length l ≤ most → length s + k * most ≤ room → Writing g l k most room s 0 s
write-start {s = s} h r = record { few = h; holds = r; short = omega arith; added = sym (append-nil s) }

module _ {A : Type 0} {g : A → Operation} {l : List A} {k most room : ℕ} {s : List ℕ} {i : ℕ} {t : List ℕ} (w : Writing g l k most room s i t) where
  module _ (h : i < length l) where
    -- there is room for the line at i
    pub write-room : (n : ℕ) → n ≤ k → length t + n ≤ room
    write-room n b =
        let z : k * (i + 1) ≤ k * most = mul-le-mul_left k (omega (arith, h, w.few)) in
        let y : k * (i + 1) ≡ k * i + k = omega arith in
        omega (arith, b, w.short, w.holds, z, y)

    -- the line at i was added
    pub write-more : (x : A) → x ≡ get_or l i x → length (texts_of (g x ∷ [])) ≤ k → (u : List ℕ) → u ≡ t ++ texts_of (g x ∷ []) → Writing g l k most room s (i + 1) u
    write-more x e b u v =
        let here : drop i (map g l) ≡ g x ∷ map g (drop (suc i) l) = map-drop g i l ∙ ap (map g) (drop-cons l i x h) ∙ ap (λ (y : A). g y ∷ map g (drop (suc i) l)) (sym e) in
        let y : k * (i + 1) ≡ k * i + k = omega arith in
        record {
          few = w.few;
          holds = w.holds;
          short = omega (arith, w.short, b, ap length v, length-append t (texts_of (g x ∷ [])), y);
          added =
              rw (texts-turn (map g l) i (g x) (map g (drop (suc i) l)) here)
              (v ∙ ap (λ (r : List ℕ). r ++ texts_of (g x ∷ [])) w.added ∙ append_assoc s (texts_of (take i (map g l))) (texts_of (g x ∷ [])));
        }

  pub write_done : i ≡ length l → (t ≡ s ++ texts_of (map g l)) × (length t ≤ length s + k * most)
  write_done h =
      let z : k * i ≤ k * most = mul-le-mul_left k (omega (arith, h, w.few)) in
      (rw (take_all i (map g l) (omega (arith, h, length-map l g))) at w.added, omega (arith, w.short, z))
