-- Rowsets taken by their sizes, one after another, and moved to the front of their own room. Assumes nothing.
use mathlib.Core.Path.{◌≡◌, refl, sym, ap, ◌∙◌}
use mathlib.Core.List.{List, [], ◌∷◌, ◌++◌, map, append-nil}
use Prim.Native.Nat.{ℕ, ◌+◌, ◌-◌, ◌≤◌, ◌<◌}
use native.Mathlib.Omega.{arith}
use lib.ListN.{length, get_or, take, drop, set, length-set}
use lib.Seq.{append_snoc, drop-set-lt}
use borrow.Author.Tests.{le-leb, lt-leb}
use Rattle.std.proofs.lemmas.List.{drop_more, drop_all, take_more_set}
use Rattle.snapshot.specs.Entries.{Entry}
use Rattle.compactor.specs.Selection.{Sized, sized_as, taken_on, taken, sized}

abbrev pub rowset_in : Sized → ℕ
rowset_in x = x.rowset

abbrev pub rowset_at : Entry → ℕ
rowset_at x = get_or x.ids 1 0

sized_none : (rs : List ℕ) → sized rs [] ≡ []
sized_none [] = refl
sized_none (r ∷ rs) = refl

-- Taking: of the rowsets rs with the sizes ns, those before i were looked at, so much is left of the target, and those of them that are taken are the
-- first k of l.
pub record Taking (target : ℕ) (rs ns : List ℕ) (i k left : ℕ) (l : List ℕ) : Type 0 where
  pub behind : k ≤ i
  pub full : length l ≡ length rs
  pub within : left ≤ target
  pub same : take k l ++ map rowset_in (taken_on target (target - left) (sized (drop i l) (drop i ns))) ≡ map rowset_in (taken target (sized rs ns))

module _ (target : ℕ) (rs ns : List ℕ) where
  pub taking-start : Taking target rs ns 0 0 target rs
  taking-start = let z : target - target ≡ 0 = omega arith in record { behind = omega arith; full = refl; within = omega arith; same = rw z }

  module _ (i k left : ℕ) (l : List ℕ) (h : i < length ns) (room : length ns ≤ length rs) (s : Taking target rs ns i k left l) where
    -- what is left begins with the rowset and the size at i
    first : sized (drop i l) (drop i ns) ≡ sized_as (get_or l i 0) (get_or ns i 0) ∷ sized (drop (i + 1) l) (drop (i + 1) ns)
    first = let f = s.full in rw (drop_more l i 0 (omega arith), drop_more ns i 0 h)

    pub taking-one : get_or ns i 0 ≤ left → Taking target rs ns (i + 1) (k + 1) (left - get_or ns i 0) (set l k (get_or l i 0))
    taking-one t =
        let b = s.behind in
        let f = s.full in
        let w = s.within in
        let x = get_or l i 0 in
        let n = get_or ns i 0 in
        let rest = taken_on target (target - left + n) (sized (drop (i + 1) l) (drop (i + 1) ns)) in
        let more : target - (left - n) ≡ target - left + n = omega arith in
        let grown : take (k + 1) (set l k x) ≡ take k l ++ (x ∷ []) = take_more_set l k x (omega arith) in
        let after : drop (i + 1) (set l k x) ≡ drop (i + 1) l = drop-set-lt (i + 1) l k x (omega arith) in
        let yes : taken_on target (target - left) (sized (drop i l) (drop i ns)) ≡ sized_as x n ∷ rest = rw (first, le-leb (target - left + n) target (omega arith)) in
        record {
          behind = omega arith;
          full = length-set l k x ∙ f;
          within = omega arith;
          same = rw (more, after, grown) (append_snoc (take k l) x (map rowset_in rest) ∙ ap (λ (m : List Sized). take k l ++ map rowset_in m) (sym yes) ∙ s.same);
        }

    pub taking-none : left < get_or ns i 0 → Taking target rs ns (i + 1) k left l
    taking-none t =
        let b = s.behind in
        let w = s.within in
        let n = get_or ns i 0 in
        let no : taken_on target (target - left) (sized (drop i l) (drop i ns)) ≡ taken_on target (target - left) (sized (drop (i + 1) l) (drop (i + 1) ns)) =
        rw (first, lt-leb (target - left + n) target (omega arith)) in
        record { behind = omega arith; full = s.full; within = w; same = ap (λ (m : List Sized). take k l ++ map rowset_in m) (sym no) ∙ s.same }

  pub taking-done : (i k left : ℕ) (l : List ℕ) → length ns ≤ i → Taking target rs ns i k left l → take k l ≡ map rowset_in (taken target (sized rs ns))
  taking-done i k left l h s =
      let none : sized (drop i l) (drop i ns) ≡ [] = ap (sized (drop i l)) (drop_all i ns h) ∙ sized_none (drop i l) in
      sym (append-nil (take k l)) ∙ ap (λ (m : List Sized). take k l ++ map rowset_in (taken_on target (target - left) m)) (sym none) ∙ s.same
