-- Laws of padded names, and of their writing. Assumes nothing.
use mathlib.Core.Path.{◌≡◌, refl, sym, ap, ◌∙◌}
use mathlib.Core.List.{List, [], ◌∷◌, ◌++◌, append_assoc, append-nil}
use Prim.Native.Nat.{ℕ, zero, suc, ◌+◌, ◌-◌, ◌*◌, ◌≤◌, ◌<◌}
use native.Mathlib.Omega.{arith}
use native.Mathlib.Numerals.{add-one}
use lib.ListN.{length, take, drop, length-append}
use lib.Seq.{take-suc, take_all, drop-drop}
use borrow.Rule.Slice.PartMut.{put_mid}
use Rattle.std.specs.Prelude.{replicate}
use Rattle.std.proofs.lemmas.List.{drop-replicate}
use Rattle.lists.specs.Written.{written, over}
use Rattle.lists.proofs.Written.{written-length, written_on, written_over}
use Rattle.ids.specs.Names.{longest_name}
use Rattle.columns.specs.Rows.{rows}
use Rattle.columns.proofs.Rows.{rows-length, rows_at}
use Rattle.show.specs.Names.{zeros, padded, padded_run}

zeros-length : (n : ℕ) → length (zeros n) ≡ n
zeros-length zero = refl
zeros-length (suc n) = ap suc (zeros-length n)

padded-length : (w : List ℕ) → length w ≤ longest_name → length (padded w) ≡ longest_name
padded-length w h = length-append w (zeros (longest_name - length w)) ∙ rw zeros-length (omega arith)

zeros-are : (n : ℕ) → replicate n 0 ≡ zeros n
zeros-are zero = refl
zeros-are (suc n) = ap (λ (l : List ℕ). 0 ∷ l) (zeros-are n)

-- a name over the front of zeros
pub padded-over : (w t z : List ℕ) (n : ℕ) → t ≡ w → z ≡ replicate n 0 → n ≡ longest_name → t ++ drop (length w) z ≡ padded w
padded-over w t z n e f k = rw (e, f, k, drop-replicate {X = ℕ} (length w) longest_name 0, zeros-are) refl

run-append : (l m : List (List ℕ)) → padded_run (l ++ m) ≡ padded_run l ++ padded_run m
run-append [] m = refl
run-append (w ∷ l) m = ap (λ (r : List ℕ). padded w ++ r) (run-append l m) ∙ sym (append_assoc (padded w) (padded_run l) (padded_run m))

-- a padded name put between what stands before and after it
pub name-put : (t w v out : List ℕ) (at k : ℕ) → k ≡ longest_name → length w ≤ longest_name → out ≡ padded w → w ≡ v → put_mid at k t out ≡ written t at (padded v)
unfolding written
name-put t w v out at k e h p q = let z = padded-length w h in rw (p, ← q, z, e) (ap (λ (r : List ℕ). take at t ++ (padded w ++ r)) (drop-drop longest_name at t))

-- Writing n padded names to the front of s, which is t after i of them.
pub record Naming (f : ℕ → List ℕ) (n : ℕ) (s : List ℕ) (i : ℕ) (t : List ℕ) : Type 0 where
  pub within : i ≤ n
  pub room : longest_name * n ≤ length s
  pub size : length t ≡ length s
  pub long : length (padded_run (take i (rows f n))) ≡ longest_name * i
  pub same : t ≡ over (padded_run (take i (rows f n))) s

module _ (f : ℕ → List ℕ) (n : ℕ) (s : List ℕ) where
  pub naming-start : longest_name * n ≤ length s → Naming f n s 0 s
  naming-start h = record { within = omega arith; room = h; size = refl; long = refl; same = refl }

  module _ (i : ℕ) (t : List ℕ) (so : Naming f n s i t) where
    pub naming-more : (u : List ℕ) → i < n → length (f i) ≤ longest_name → u ≡ written t (longest_name * i) (padded (f i)) → Naming f n s (i + 1) u
    naming-more u h short w =
        let z = rows-length f n in
        let x = padded_run (take i (rows f n)) in
        let l = so.long in
        let r = so.room in
        let p = padded-length (f i) short in
        let one : take (i + 1) (rows f n) ≡ take i (rows f n) ++ (f i ∷ []) = rw (add-one, take-suc (rows f n) i [] (omega arith), rows_at f n i [] h) in
        let grown : padded_run (take (i + 1) (rows f n)) ≡ x ++ padded (f i) =
        ap padded_run one ∙ run-append (take i (rows f n)) (f i ∷ []) ∙ ap (λ (r : List ℕ). x ++ r) (append-nil (padded (f i))) in
        let place : longest_name * i ≡ 0 + length x = omega arith in
        record {
          within = omega arith;
          room = r;
          size = ap length w ∙ written-length t (longest_name * i) (padded (f i)) (omega (arith, so.size)) ∙ so.size;
          long = ap length grown ∙ length-append x (padded (f i)) ∙ omega arith;
          same =
              w
              ∙ ap (λ (k : ℕ). written t k (padded (f i))) place
              ∙ ap (λ (y : List ℕ). written y (0 + length x) (padded (f i))) (so.same ∙ sym (written_over s x))
              ∙ written_on s 0 x (padded (f i)) (omega arith)
              ∙ written_over s (x ++ padded (f i))
              ∙ ap (λ (y : List ℕ). over y s) (sym grown);
        }

    pub naming-done : n ≤ i → t ≡ over (padded_run (rows f n)) s
    naming-done h =
        let z = rows-length f n in
        so.same ∙ ap (λ (l : List (List ℕ)). over (padded_run l) s) (take_all i (rows f n) (omega arith))
