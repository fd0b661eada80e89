-- Keyed lists under a map that keeps the order of the keys. Assumes nothing.
use mathlib.Core.Path.{◌≡◌, refl, ap, ◌∙◌}
use mathlib.Core.Bool.{true}
use mathlib.Core.List.{List, [], ◌∷◌, map}
use Prim.Native.Nat.{ℕ}
use Rattle.lists.specs.Order.{less, same}
use Rattle.lists.specs.Keyed.{put, without}
use Rattle.lists.proofs.Tests.{by_cases}
use Rattle.lists.proofs.Keyed.{Ascending, all_map, all-mapped}

module _ {X A : Type 0} (f : X → A) (kx : X → List ℕ) (ka : A → List ℕ) (below : (x y : X) → less (ka (f x)) (ka (f y)) ≡ less (kx x) (kx y)) (alike : (x y : X) → same (ka (f x)) (ka (f y)) ≡ same (kx x) (kx y)) where
  pub map-put : (x : X) (l : List X) → put ka (f x) (map f l) ≡ map f (put kx x l)
  map-put x [] = refl
  map-put x (y ∷ l) =
      let b = below y x in
      let s = alike y x in
      by_cases (less (kx y) (kx x))
      (λ t. rw (b, t) (ap (λ (m : List A). f y ∷ m) (map-put x l)))
      (λ t. by_cases (same (kx y) (kx x)) (λ u. rw (b, t, s, u)) (λ u. rw (b, t, s, u)))

pub ascending-mapped : {X A : Type 0} (f : X → A) (kx : X → List ℕ) (ka : A → List ℕ) → ((x y : X) → less (ka (f x)) (ka (f y)) ≡ less (kx x) (kx y)) → (l : List X) → Ascending kx l → Ascending ka (map f l)
ascending-mapped f kx ka below [] h = tt
ascending-mapped f kx ka below (x ∷ l) h =
    (all-mapped (λ z. less (ka (f x)) (ka z) ≡ true) f l (all_map l (λ y t. below x y ∙ t) h.0), ascending-mapped f kx ka below l h.1)

-- the entries with the key k, under a map
pub map-without : {X A : Type 0} (f : X → A) (kx : X → List ℕ) (ka : A → List ℕ) (jx ja : List ℕ) → ((x : X) → same (ka (f x)) ja ≡ same (kx x) jx) → (l : List X) → without ka ja (map f l) ≡ map f (without kx jx l)
map-without f kx ka jx ja alike [] = refl
map-without f kx ka jx ja alike (y ∷ l) =
    let s = alike y in
    by_cases (same (kx y) jx)
    (λ u. rw (s, u) (map-without f kx ka jx ja alike l))
    (λ u. rw (s, u) (ap (λ (m : List _). f y ∷ m) (map-without f kx ka jx ja alike l)))
