-- Lines that are added one after another, each as long as the longest at most. Assumes nothing.
use mathlib.Core.Path.{◌≡◌, refl, sym, ap, ◌∙◌}
use mathlib.Core.Bool.{true}
use mathlib.Core.List.{List, [], ◌∷◌, ◌++◌, map, append_assoc, append-nil}
use Prim.Native.Nat.{ℕ, zero, suc, ◌+◌, ◌*◌, ◌≤◌, ◌<◌}
use native.Mathlib.Omega.{arith}
use native.Mathlib.Numerals.{add-one}
use borrow.Author.Tests.{ltb-true}
use lib.ListN.{length, get_or, take, drop, length-append, length-drop, length-take}
use lib.Seq.{drop-cons, take_all}
use Rattle.lists.specs.Keyed.{all_of}
use Rattle.lists.proofs.Tests.{both}
use Rattle.lists.proofs.Views.{map-drop}
use Rattle.ids.specs.Ids.{largest32, is_id32}
use Rattle.ids.specs.Limits.{longest_line}
use Rattle.manifest.specs.Operations.{Operation, add_rowset, delete_rowset, delete_vector}
use Rattle.manifest.specs.Lines.{text_of}
use Rattle.manifest.proofs.Texts.{add-room, delete-room, delete-vector-room}
use Rattle.frames.specs.Frames.{texts_of}
use Rattle.frames.proofs.Texts.{texts-turn}
use Rattle.frames.proofs.Texts.{texts-append}

-- each line of a compaction is short
pub add-line : (t r : ℕ) → is_id32 t ≡ true → is_id32 r ≡ true → length (text_of (add_rowset t r)) + 1 ≤ longest_line
add-line t r a b = omega (arith, add-room t r (omega (arith, ltb-true t largest32 a)) (omega (arith, ltb-true r largest32 b)))

pub delete-line : (t r : ℕ) → is_id32 t ≡ true → is_id32 r ≡ true → length (text_of (delete_rowset t r)) + 1 ≤ longest_line
delete-line t r a b = omega (arith, delete-room t r (omega (arith, ltb-true t largest32 a)) (omega (arith, ltb-true r largest32 b)))

pub delete-vector-line : (t r v : ℕ) → t < 4294967296 → r < 4294967296 → v < 18446744073709551616 → length (text_of (delete_vector t r v)) + 1 ≤ longest_line
delete-vector-line t r v a b d = omega (arith, delete-vector-room t r (omega (arith, a)) (omega (arith, b)) v (omega (arith, d)))

-- each of the ids is one
pub id-at : (l : List ℕ) (i : ℕ) → all_of is_id32 l ≡ true → is_id32 (get_or l i 0) ≡ true
id-at [] i h = refl
id-at (x ∷ l) zero h = (both (is_id32 x) (all_of is_id32 l) h).0
id-at (x ∷ l) (suc i) h = id-at l i (both (is_id32 x) (all_of is_id32 l) h).1

-- the operation at i, and those after it
pub turn : {A : Type 0} (f : A → Operation) (l : List A) (i : ℕ) (d : A) → i < length l → drop i (map f l) ≡ f (get_or l i d) ∷ drop (i + 1) (map f l)
turn f l i d h =
    let here : drop i l ≡ get_or l i d ∷ drop (i + 1) l = rw add-one (drop-cons l i d h) in
    map-drop f i l ∙ ap (map f) here ∙ ap (λ (r : List Operation). f (get_or l i d) ∷ r) (sym (map-drop f (i + 1) l))

-- the first i lines of os were added to s, which made it t, and the longest lines of all have room
pub record Writing (os : List Operation) (room : ℕ) (s : List ℕ) (i : ℕ) (t : List ℕ) : Type 0 where
  pub holds : length s + longest_line * length os ≤ room
  pub added : t ≡ s ++ texts_of (take i os)
  pub short : length t ≤ length s + longest_line * length (take i os)

module _ (os : List Operation) (room : ℕ) (s : List ℕ) where
  pub write-start : length s + longest_line * length os ≤ room → Writing os room s 0 s
  write-start h = record { holds = h; added = sym (append-nil s); short = omega arith }

  module _ (i : ℕ) (t : List ℕ) (w : Writing os room s i t) where
    pub write-done : length os ≤ i → (t ≡ s ++ texts_of os) × (length t ≤ length s + longest_line * length os)
    write-done h =
        let e = take_all i os h in
        (rw e at w.added, omega (arith, w.short, ap length e))

    -- o is the operation at i
    module _ (o : Operation) (here : drop i os ≡ o ∷ drop (i + 1) os) (line : length (text_of o) + 1 ≤ longest_line) where
      inside : (i < length os) × (length (take i os) ≡ i) × (length (take (i + 1) os) ≡ i + 1)
      inside =
          let h : i < length os = omega (arith, ap length here, length-drop i os) in
          (h, rw length-take (omega arith), rw length-take (omega arith))

      pub write-room : length t + length (text_of o ++ (10 ∷ [])) ≤ room
      write-room = omega (arith, w.short, w.holds, inside.0, inside.1, line, length-append (text_of o) (10 ∷ []))

      pub write-more : (u : List ℕ) → u ≡ t ++ (text_of o ++ (10 ∷ [])) → Writing os room s (i + 1) u
      write-more u a =
          record {
            holds = w.holds;
            added =
                rw (texts-turn os i o (drop (i + 1) os) here)
                (a ∙ ap (λ (l : List ℕ). l ++ (text_of o ++ (10 ∷ []))) w.added ∙ append_assoc s (texts_of (take i os)) (text_of o ++ (10 ∷ [])));
            short = omega (arith, w.short, ap length a, length-append t (text_of o ++ (10 ∷ [])), line, length-append (text_of o) (10 ∷ []), inside.1, inside.2);
          }

-- three runs, one after another
pub all-added : (a w d : List Operation) (s t u v : List ℕ) → s ≡ [] → t ≡ s ++ texts_of a → u ≡ t ++ texts_of w → v ≡ u ++ texts_of d → v ≡ texts_of (a ++ (w ++ d))
all-added a w d s t u v e x y z =
    rw (z, y, x, e)
    (append_assoc (texts_of a) (texts_of w) (texts_of d) ∙ ap (λ (r : List ℕ). texts_of a ++ r) (sym (texts-append w d)) ∙ sym (texts-append a (w ++ d)))
