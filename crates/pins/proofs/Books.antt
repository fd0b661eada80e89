-- Books that pass 28 and still do. Assumes nothing.
use mathlib.Core.Path.{◌≡◌, subst, sym}
use mathlib.Core.Bool.{true, false, not, ◌&&◌}
use mathlib.Core.List.{List}
use Prim.Native.Nat.{ℕ, ◌≤◌, ◌<◌}
use native.Mathlib.Omega.{arith}
use borrow.Author.Tests.{lt-ltb, le-leb, leb-true, eqb-false}
use lib.Dec.{leb, ltb, eqb}
use Rattle.lists.specs.Keyed.{all_of, is_at, put, without, ascending}
use Rattle.lists.proofs.Tests.{by_cases, both}
use Rattle.lists.proofs.Keyed.{all_of-all, all-all_of, all_map, all_keep, all-put, ascend-to, ascend-from, ascending-keep, ascending-put}
use Rattle.pins.specs.declared.PinBook.{PinBook}
use Rattle.pins.specs.declared.Place.{Place}
use Rattle.pins.specs.Book.{PinEntry, pins_of, place_key, by_place, valid_pin, bad_book, GoodBook, Keeps}
use Rattle.pins.proofs.Facts.{good_book, book-good}
use Rattle.pins.specs.Counts.{pins_on, recounted}

-- a list that rises does so after a count was changed
recounted-rises : (k : Place) (n : ℕ) (l : List PinEntry) → ascending by_place l ≡ true → ascending by_place (recounted k n l) ≡ true
recounted-rises k n l o =
    let s = ascend-to by_place l o in
    by_cases (eqb n 0)
    (λ t. rw t (ascend-from by_place (without by_place (place_key k) l) (ascending-keep by_place (λ (p : PinEntry). not (is_at by_place (place_key k) p)) l s)))
    (λ t. rw t (ascend-from by_place (put by_place (pins_on k n) l) (ascending-put by_place (pins_on k n) l s)))

-- and its places stay valid
recounted-valid : (c : ℕ) (k : Place) (n : ℕ) (l : List PinEntry) → 0 < k.epoch → k.epoch ≤ c → all_of (valid_pin c) l ≡ true → all_of (valid_pin c) (recounted k n l) ≡ true
recounted-valid c k n l x y v =
    let a = all_of-all (valid_pin c) l v in
    by_cases (eqb n 0)
    (λ t. rw t (all-all_of (valid_pin c) (without by_place (place_key k) l) (all_keep (λ (p : PinEntry). valid_pin c p ≡ true) (λ (p : PinEntry). not (is_at by_place (place_key k) p)) l a)))
    (λ t.
    let z : 0 < n = let w = eqb-false n 0 t in omega arith in
    rw t (all-all_of (valid_pin c) (put by_place (pins_on k n) l) (all-put by_place (λ (p : PinEntry). valid_pin c p ≡ true) (pins_on k n) l (rw (lt-ltb 0 n z, lt-ltb 0 k.epoch x, le-leb k.epoch c y)) a)))

pub good-recounted : (c : ℕ) (k : Place) (n : ℕ) (b b' : PinBook) → 0 < k.epoch → k.epoch ≤ c → GoodBook c b → Keeps b' (recounted k n (pins_of b)) → GoodBook c b'
good-recounted c k n b b' x y g h =
    let q = sym h.pins in
    record {
      fits = h.fits;
      valid = subst (λ (l : List PinEntry). all_of (valid_pin c) l ≡ true) q (recounted-valid c k n (pins_of b) x y g.valid);
      ordered = subst (λ (l : List PinEntry). ascending by_place l ≡ true) q (recounted-rises k n (pins_of b) g.ordered);
    }

valid-later : (c d : ℕ) (p : PinEntry) → c ≤ d → valid_pin c p ≡ true → valid_pin d p ≡ true
valid-later c d p h v =
    let x = both (ltb 0 p.count) (ltb 0 p.epoch && leb p.epoch c) v in
    let y = both (ltb 0 p.epoch) (leb p.epoch c) x.1 in
    rw (x.0, y.0, le-leb p.epoch d (omega (arith, leb-true p.epoch c y.1)))

-- a book that passes 28 passes it at every later epoch
pub book-later : (c d : ℕ) (b : PinBook) → c ≤ d → bad_book c b ≡ false → bad_book d b ≡ false
book-later c d b h f =
    let g = good_book c b f in
    book-good d b (record {
      fits = g.fits;
      valid = all-all_of (valid_pin d) (pins_of b) (all_map (pins_of b) (λ p. valid-later c d p h) (all_of-all (valid_pin c) (pins_of b) g.valid));
      ordered = g.ordered;
    })
