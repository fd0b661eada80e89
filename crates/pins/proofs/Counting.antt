-- Laws of counts: as a loop reads them, in a list that rises, and after one of them was changed. Assumes nothing.
use mathlib.Core.Path.{◌≡◌, refl, sym, ap, ◌∙◌}
use mathlib.Core.Bool.{Bool, true, false, cond, not, ◌&&◌}
use mathlib.Core.List.{List, [], ◌∷◌}
use Prim.Native.Nat.{ℕ, ◌≤◌, ◌<◌}
use native.Mathlib.Omega.{arith}
use borrow.Author.Tests.{ne_eqb, ltb-true, ltb-false, leb-true, leb-false, eqb-true}
use lib.Dec.{leb, ltb, eqb}
use lib.ListN.{length, get_or}
use Rattle.lists.specs.Order.{less, same}
use Rattle.lists.specs.Keyed.{keep, all_of, is_at, put, without, ascending, rank}
use Rattle.lists.proofs.Tests.{by_cases, clash, both, neither, past}
use Rattle.lists.proofs.Order.{same_refl, same_true, same-sym, more_same}
use Rattle.lists.proofs.Keyed.{all_map, none-any_of, kept-all, ascend-to, has-put}
use Rattle.lists.proofs.Places.{has_end, has_here}
use Rattle.pins.specs.declared.Place.{Place}
use Rattle.pins.specs.Book.{PinEntry, place_on, place_key, by_place, most_pinned, valid_pin, has_place, pinned}
use Rattle.pins.specs.Counts.{pins_on, pins_at, recounted, places_full}
use Rattle.pins.proofs.Bound.{held-pinned}

-- a place that does not stand where it would is not held
pub absent : (q : Place) (l : List PinEntry) (d : PinEntry) → ascending by_place l ≡ true → ltb (rank by_place (place_key q) l) (length l) && is_at by_place (place_key q) (get_or l (rank by_place (place_key q) l) d) ≡ false → has_place q l ≡ false
absent q l d o h =
    by_cases (ltb (rank by_place (place_key q) l) (length l))
    (λ t. has_here by_place (place_key q) l d (ascend-to by_place l o) (ltb-true _ _ t) ∙ past (ltb (rank by_place (place_key q) l) (length l)) (is_at by_place (place_key q) (get_or l (rank by_place (place_key q) l) d)) h t)
    (λ t. has_end by_place (place_key q) l (ascend-to by_place l o) (ltb-false _ _ t))

-- where 19 does not refuse it, there is room for it
pub room : (q : Place) (l : List PinEntry) (d : PinEntry) → ascending by_place l ≡ true → places_full q l ≡ false → ltb (rank by_place (place_key q) l) (length l) && is_at by_place (place_key q) (get_or l (rank by_place (place_key q) l) d) ≡ false → length l < most_pinned
room q l d o f h = leb-false most_pinned (length l) (past (not (has_place q l)) (leb most_pinned (length l)) f (rw (absent q l d o h)))

-- a place that is held needs none
pub place-had : (q : Place) (l : List PinEntry) → has_place q l ≡ true → places_full q l ≡ false
place-had q l h = rw h

-- a place that is held, in a list that 28 lets pass at epoch c
pub record Counted (c : ℕ) (q : Place) (l : List PinEntry) : Type 0 where
  pub some : 0 < pins_at q l
  pub first : 0 < q.epoch
  pub last : q.epoch ≤ c

pub counted : (c : ℕ) (q : Place) (l : List PinEntry) → all_of (valid_pin c) l ≡ true → has_place q l ≡ true → Counted c q l
counted c q [] v h = clash h refl
counted c q (p ∷ l) v h =
    let a = both (valid_pin c p) (all_of (valid_pin c) l) v in
    by_cases (is_at by_place (place_key q) p)
    (λ t.
    let x = both (ltb 0 p.count) (ltb 0 p.epoch && leb p.epoch c) a.0 in
    let y = both (ltb 0 p.epoch) (leb p.epoch c) x.1 in
    let z : p.epoch ≡ q.epoch = ap (λ (a : List ℕ). get_or a 0 0) (same_true (by_place p) (place_key q) t) in
    record { some = rw t (ltb-true 0 p.count x.0); first = omega (arith, ltb-true 0 p.epoch y.0); last = omega (arith, leb-true p.epoch c y.1) })
    (λ t.
    let r = counted c q l a.1 (rw t at h) in
    record { some = rw t r.some; first = r.first; last = r.last })

-- a place has no pins where it is not held, and only there
pub not-held : (q : Place) (l : List PinEntry) → has_place q l ≡ false → pins_at q l ≡ 0
not-held q [] h = refl
not-held q (p ∷ l) h =
    let a = neither (is_at by_place (place_key q) p) (has_place q l) h in
    rw a.0 (not-held q l a.1)

pub no_pins : (c : ℕ) (q : Place) (l : List PinEntry) → all_of (valid_pin c) l ≡ true → eqb (pins_at q l) 0 ≡ not (has_place q l)
no_pins c q l v =
    by_cases (has_place q l)
    (λ t. let k = (counted c q l v t).some in rw (t, ne_eqb (pins_at q l) 0 (λ z. omega arith)))
    (λ t. rw (t, not-held q l t))

-- the count of the place j after the place k was taken out, after an entry was put in, and after a count was changed
pins-without : (k j : Place) (l : List PinEntry) → pins_at j (without by_place (place_key k) l) ≡ cond (same (place_key k) (place_key j)) 0 (pins_at j l)
pins-without k j [] = by_cases (same (place_key k) (place_key j)) (λ u. rw u) (λ u. rw u)
pins-without k j (y ∷ l) =
    let ih = pins-without k j l in
    by_cases (same (by_place y) (place_key k))
    (λ t.
    let e : same (by_place y) (place_key j) ≡ same (place_key k) (place_key j) = ap (λ (a : List ℕ). same a (place_key j)) (same_true (by_place y) (place_key k) t) in
    by_cases (same (place_key k) (place_key j)) (λ u. rw (t, ih, u)) (λ u. rw (t, ih, u, e ∙ u)))
    (λ t. by_cases (same (by_place y) (place_key j))
    (λ v.
    let n : same (place_key k) (place_key j) ≡ false = ap (same (place_key k)) (sym (same_true (by_place y) (place_key j) v)) ∙ same-sym (place_key k) (by_place y) ∙ t in
    rw (t, v, n))
    (λ v. rw (t, v, ih)))

pins-put : (j : Place) (x : PinEntry) (l : List PinEntry) → pins_at j (put by_place x l) ≡ cond (same (by_place x) (place_key j)) x.count (pins_at j l)
pins-put j x [] = by_cases (same (by_place x) (place_key j)) (λ u. rw u) (λ u. rw u)
pins-put j x (y ∷ l) =
    let ih = pins-put j x l in
    by_cases (less (by_place y) (by_place x))
    (λ t. by_cases (same (by_place y) (place_key j))
    (λ v.
    let n : same (by_place x) (place_key j) ≡ false = ap (same (by_place x)) (sym (same_true (by_place y) (place_key j) v)) ∙ more_same (by_place y) (by_place x) t in
    rw (t, v, n))
    (λ v. rw (t, v, ih)))
    (λ t. by_cases (same (by_place y) (by_place x))
    (λ u. by_cases (same (by_place x) (place_key j))
    (λ v. rw (t, u, v))
    (λ v. rw (t, u, v, ap (λ (a : List ℕ). same a (place_key j)) (same_true (by_place y) (by_place x) u) ∙ v)))
    (λ u. by_cases (same (by_place x) (place_key j)) (λ v. rw (t, u, v)) (λ v. rw (t, u, v))))

pub pins-recounted : (k j : Place) (n : ℕ) (l : List PinEntry) → pins_at j (recounted k n l) ≡ cond (same (place_key k) (place_key j)) n (pins_at j l)
pins-recounted k j n l =
    by_cases (eqb n 0)
    (λ t. rw (t, pins-without k j l, eqb-true n 0 t))
    (λ t. rw (t, pins-put j (pins_on k n) l))

-- an epoch is pinned after a change of its place's count if it has pins left
pub pinned-after : (e n : ℕ) (l : List PinEntry) → pinned e (recounted (place_on e) n l) ≡ not (eqb n 0)
pinned-after e n l =
    let k = place_on e in
    let other : PinEntry → Bool = λ y. not (is_at by_place (place_key k) y) in
    by_cases (eqb n 0)
    (λ t. rw t (none-any_of (λ (p : PinEntry). eqb p.epoch e) (keep other l) (all_map (keep other l) (λ p h. elsewhere (eqb p.epoch e) h) (kept-all other l))))
    (λ t. rw t (held-pinned k (put by_place (pins_on k n) l) (has-put by_place (place_key k) (pins_on k n) l ∙ rw (same_refl (place_key k)))))
  where
    elsewhere : (x : Bool) → not (x && true) ≡ true → x ≡ false
    elsewhere true h = clash refl (sym h)
    elsewhere false h = refl
