-- Reference counts beside the pins: the same numbers, and the same smallest epoch. Assumes nothing.
use mathlib.Core.Path.{◌≡◌, refl, sym, ap, ◌∙◌}
use mathlib.Core.Bool.{Bool, true, false, not, ◌&&◌}
use mathlib.Core.List.{List, [], ◌∷◌}
use mathlib.Core.Option.{Option, none, some}
use Prim.Native.Nat.{ℕ, zero, suc, ◌≤◌, ◌<◌}
use native.Mathlib.Omega.{arith}
use lib.Dec.{eqb, leb, ltb}
use borrow.Author.Tests.{eqb-true, eq-eqb, ne_eqb, leb-true, leb-false, le-leb, ltb-true, ltb-false}
use Rattle.lists.specs.Keyed.{all_of, any_of, is_at}
use Rattle.lists.proofs.Tests.{by_cases, clash, both, neither, join}
use Rattle.lists.proofs.Keyed.{All}
use Rattle.pins.specs.Book.{PinEntry, place_on, place_key, by_place, pinned}
use Rattle.pins.specs.Guards.{guards_by, blocked}
use Rattle.pins.specs.Counts.{pins_at}
use Rattle.risinglight.specs.Maps.{unwrap_or, Binding, get, keys}
use Rattle.risinglight.specs.VersionManager.{Inner, smallest, minimum, vacuum_epoch}

-- a count of 0 is none
abbrev pub counted : ℕ → Option ℕ
counted zero = none
counted (suc n) = some (suc n)

pub counted_back : (n : ℕ) → unwrap_or 0 (counted n) ≡ n
counted_back zero = refl
counted_back (suc n) = refl

pub counted-some : (n : ℕ) → 1 ≤ n → counted n ≡ some n
counted-some zero h = absurd (omega arith)
counted-some (suc n) h = refl

abbrev pub is_some : {A : Type 0} → Option A → Bool
is_some none = false
is_some (some a) = true

some-counted : (n : ℕ) → is_some (counted n) ≡ not (eqb n 0)
some-counted zero = refl
some-counted (suc n) = rw (ne_eqb (suc n) 0 (omega arith))

-- Every place has pins.
abbrev pub Pinning : List PinEntry → Type 0
Pinning l = All (λ (p : PinEntry). 1 ≤ p.count) l

at_place : (d : ℕ) (p : PinEntry) → is_at by_place (place_key (place_on d)) p ≡ eqb p.epoch d
at_place d p = by_cases (eqb p.epoch d) (λ e. rw e) (λ e. rw e)

-- an epoch is pinned where it has pins
pub pinned-at : (d : ℕ) (l : List PinEntry) → Pinning l → pinned d l ≡ not (eqb (pins_at (place_on d) l) 0)
pinned-at d [] h = refl
pinned-at d (p ∷ l) h =
    by_cases (eqb p.epoch d)
    (λ e. rw (at_place d p, e, ne_eqb p.count 0 (omega (arith, h.0))))
    (λ e. rw (at_place d p, e) (pinned-at d l h.1))

-- none below w: an epoch below it has no pins
none_below : (w d : ℕ) (l : List PinEntry) → any_of (λ (p : PinEntry). ltb p.epoch w) l ≡ false → d < w → pins_at (place_on d) l ≡ 0
none_below w d [] h k = refl
none_below w d (p ∷ l) h k =
    let n = neither (ltb p.epoch w) (any_of (λ (p : PinEntry). ltb p.epoch w) l) h in
    by_cases (eqb p.epoch d)
    (λ e. absurd (omega (arith, eqb-true p.epoch d e, ltb-false p.epoch w n.0)))
    (λ e. rw (at_place d p, e) (none_below w d l n.1 k))

record Below (w : ℕ) (l : List PinEntry) : Type 0 where
  epoch : ℕ
  below : epoch < w
  pins : eqb (pins_at (place_on epoch) l) 0 ≡ false

some_below : (w : ℕ) (l : List PinEntry) → Pinning l → any_of (λ (p : PinEntry). ltb p.epoch w) l ≡ true → Below w l
some_below w [] a h = clash h refl
some_below w (p ∷ l) a h =
    by_cases (ltb p.epoch w)
    (λ t. record {
      epoch = p.epoch;
      below = ltb-true p.epoch w t;
      pins = rw (at_place p.epoch p, eq-eqb p.epoch p.epoch refl) (ne_eqb p.count 0 (omega (arith, a.0)));
    })
    (λ t.
    let b = some_below w l a.1 (rw t at h) in
    record {
      epoch = b.epoch;
      below = b.below;
      pins = rw (at_place b.epoch p, ne_eqb p.epoch b.epoch (omega (arith, ltb-false p.epoch w t, b.below))) b.pins;
    })

-- Keys of a map.

keys-least : (w d : ℕ) (m : List (Binding ℕ)) → all_of (leb w) (keys m) ≡ true → is_some (get d m) ≡ true → w ≤ d
keys-least w d [] a h = clash h refl
keys-least w d (b ∷ m) a h =
    let k = both (leb w b.key) (all_of (leb w) (keys m)) a in
    by_cases (eqb b.key d)
    (λ e. omega (arith, eqb-true b.key d e, leb-true w b.key k.0))
    (λ e. keys-least w d m k.1 (rw e at h))

least-keys : (w : ℕ) (m : List (Binding ℕ)) → ((d : ℕ) → is_some (get d m) ≡ true → w ≤ d) → all_of (leb w) (keys m) ≡ true
least-keys w [] h = refl
least-keys w (b ∷ m) h =
    join (le-leb w b.key (h b.key (rw (eq-eqb b.key b.key refl))))
    (least-keys w m (λ d k. h d (by_cases (eqb b.key d) (λ e. rw e) (λ e. rw e k))))

smallest-least : (w x : ℕ) (l : List ℕ) → leb w (smallest x l) ≡ leb w x && all_of (leb w) l
smallest-least w x [] = by_cases (leb w x) (λ e. rw e) (λ e. rw e)
smallest-least w x (y ∷ l) =
    let q = smallest-least w y l in
    by_cases (leb w x)
    (λ e. by_cases (leb w (smallest y l))
    (λ f. rw e (le-leb w (smallest x (y ∷ l)) (omega (arith, leb-true w x e, leb-true w (smallest y l) f)) ∙ sym f ∙ q))
    (λ f. rw e (ne-leb w (smallest x (y ∷ l)) (omega (arith, leb-false w (smallest y l) f)) ∙ sym f ∙ q)))
    (λ e. rw e (ne-leb w (smallest x (y ∷ l)) (omega (arith, leb-false w x e))))
  where
    ne-leb : (a b : ℕ) → b < a → leb a b ≡ false
    ne-leb a b h = by_cases (leb a b) (λ e. absurd (omega (arith, leb-true a b e))) (λ e. e)

least-of : (w e : ℕ) (m : List (Binding ℕ)) → w ≤ e → leb w (unwrap_or e (minimum (keys m))) ≡ all_of (leb w) (keys m)
least-of w e [] h = le-leb w e h
least-of w e (b ∷ m) h = smallest-least w b.key (keys m)

-- what the vacuum may apply is what no pin keeps
pub applies : (m : Inner) (l : List PinEntry) (w : ℕ) → Pinning l → ((d : ℕ) → get d m.ref_cnt ≡ counted (pins_at (place_on d) l)) → w ≤ m.epoch
    → leb w (vacuum_epoch m) ≡ not (blocked (guards_by m.epoch l) w)
applies m l w a c h =
    least-of w m.epoch m.ref_cnt h
    ∙ by_cases (any_of (λ (p : PinEntry). ltb p.epoch w) l)
    (λ t. rw t (by_cases (all_of (leb w) (keys m.ref_cnt))
    (λ f.
    let b = some_below w l a t in
    let k = keys-least w b.epoch m.ref_cnt f (ap is_some (c b.epoch) ∙ some-counted (pins_at (place_on b.epoch) l) ∙ ap not b.pins) in
    absurd (omega (arith, b.below)))
    (λ f. f)))
    (λ t. rw t (least-keys w m.ref_cnt
    (λ d k. by_cases (leb w d)
    (λ f. leb-true w d f)
    (λ f.
    let z = none_below w d l t (omega (arith, leb-false w d f)) in
    clash k (ap is_some (c d) ∙ some-counted (pins_at (place_on d) l) ∙ ap (λ n. not (eqb n 0)) z)))))
