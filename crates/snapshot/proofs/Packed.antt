-- A list packed in its own room: what passes a test is put to the front, in order. Assumes nothing.
use mathlib.Core.Path.{◌≡◌, refl, sym, ap, ◌∙◌}
use mathlib.Core.Bool.{Bool, true, false}
use mathlib.Core.List.{List, [], ◌∷◌, ◌++◌, append-nil}
use Prim.Native.Nat.{ℕ, ◌+◌, ◌≤◌, ◌<◌}
use native.Mathlib.Omega.{arith}
use native.Mathlib.Numerals.{add-one}
use lib.ListN.{length, get_or, take, drop, set, length-set, drop_of_length-le}
use lib.Seq.{drop-cons, take-suc-set, append_snoc, drop-set-lt, get_or-take, length-take-le}
use Rattle.lists.specs.Keyed.{keep}
use Rattle.columns.specs.Rows.{rows}
use Rattle.columns.proofs.Rows.{rows-length, rows_at, rows_are}

-- of l₀, the ones before i were looked at, and those of them that pass are the first k of l
pub record Packing {A : Type 0} (p : A → Bool) (l₀ : List A) (i k : ℕ) (l : List A) : Type 0 where
  pub behind : k ≤ i
  pub full : length l ≡ length l₀
  pub same : take k l ++ keep p (drop i l) ≡ keep p l₀

module _ {A : Type 0} (p : A → Bool) (l₀ : List A) where
  pub pack-start : Packing p l₀ 0 0 l₀
  pack-start = record { behind = omega arith; full = refl; same = refl }

  module _ (i k : ℕ) (l : List A) (d : A) (h : i < length l) (s : Packing p l₀ i k l) where
    pub pack-take : (x : A) → x ≡ get_or l i d → p x ≡ true → Packing p l₀ (i + 1) (k + 1) (set l k x)
    pack-take x e t =
        let r = s.behind in
        let rest = keep p (drop (i + 1) l) in
        let grown : take (k + 1) (set l k x) ≡ take k l ++ (x ∷ []) = rw add-one (take-suc-set l k x (omega arith)) in
        let after : drop (i + 1) (set l k x) ≡ drop (i + 1) l = drop-set-lt (i + 1) l k x (omega arith) in
        let yes : keep p (drop i l) ≡ x ∷ rest = rw (drop-cons l i d h, ← e, t, add-one) in
        record {
          behind = omega arith;
          full = length-set l k x ∙ s.full;
          same = rw (after, grown) (append_snoc (take k l) x rest ∙ ap (λ (m : List A). take k l ++ m) (sym yes) ∙ s.same);
        }

    pub pack-pass : p (get_or l i d) ≡ false → Packing p l₀ (i + 1) k l
    pack-pass t =
        let r = s.behind in
        let no : keep p (drop i l) ≡ keep p (drop (i + 1) l) = rw (drop-cons l i d h, t, add-one) in
        record { behind = omega arith; full = s.full; same = ap (λ (m : List A). take k l ++ m) (sym no) ∙ s.same }

  pub pack-done : (i k : ℕ) (l : List A) → length l ≤ i → Packing p l₀ i k l → take k l ≡ keep p l₀
  pack-done i k l h s =
      let none : drop i l ≡ [] = drop_of_length-le l {i = i} h in
      sym (append-nil (take k l)) ∙ ap (λ (m : List A). take k l ++ keep p m) (sym none) ∙ s.same

-- the first rows of some rows
pub rows-front : {A : Type 0} (f : ℕ → A) (n k : ℕ) → k ≤ n → rows f k ≡ take k (rows f n)
rows-front f n k h =
    let z = rows-length f n in
    rows_are f k (take k (rows f n)) (f 0) (length-take-le k (rows f n) (omega arith)) (λ i q. get_or-take k (rows f n) i (f 0) q ∙ rows_at f n i (f 0) (omega arith))
