-- What each show is where it refuses and where it accepts. Assumes nothing.
use mathlib.Core.Path.{◌≡◌, refl, sym, ap, ◌∙◌}
use mathlib.Core.Bool.{Bool, true, false, ◌||◌, or_assoc}
use mathlib.Core.List.{List, [], ◌∷◌, map}
use Prim.Native.Nat.{ℕ, ◌+◌, ◌*◌, ◌/◌, ◌≤◌, ◌<◌, min}
use native.Mathlib.Omega.{arith}
use native.Mathlib.Nat.{zero-add}
use lib.Dec.{ltb}
use lib.ListN.{length, get_or, set, length-map}
use borrow.Author.Tests.{lt-ltb, le-ltb, ltb-true, ltb-false}
use Rattle.std.specs.Prelude.{Ok, Err, Option, Some, None}
use Rattle.std.specs.Iterator.{Yields}
use Rattle.std.specs.List.{enumerate_from}
use Rattle.std.specs.Result.{IsErrAnd, result_and}
use Rattle.std.proofs.lemmas.Iterator.{YieldsList}
use Rattle.std.proofs.lemmas.Iterator.Consumers.{YieldsList-turn, YieldsList-end}
use Rattle.std.proofs.lemmas.List.{get_or-map, get_or_default}
use Rattle.std.proofs.lemmas.List.FromFn.{length-enumerate_from, get_or-enumerate_from}
use Rattle.lists.specs.Written.{over}
use Rattle.lists.proofs.Tests.{by_cases}
use Rattle.ids.specs.declared.refusal.Refusal.{Refusal}
use Rattle.ids.specs.declared.refusal.Refusal.TheVariants.{BadPinBook, EpochNotPinned, OutputTooShort}
use Rattle.ids.specs.Names.{longest_name}
use Rattle.ids.specs.Verdicts.{◌⇒◌, judged, Verdict}
use Rattle.ids.proofs.Verdicts.{judged-append, none-judged}
use Rattle.columns.specs.Rows.{rows}
use Rattle.columns.proofs.Rows.{rows_are}
use Rattle.snapshot.specs.Tables.{TableEntry, no_table}
use Rattle.snapshot.specs.declared.held.Held.{Held}
use Rattle.snapshot.proofs.Filled.{Filling, fill_more, fill_done}
use Rattle.version_state.specs.State.{State, pairs_at, vectors_at}
use Rattle.pins.specs.declared.PinBook.{PinBook}
use Rattle.pins.specs.Book.{bad_book}
use Rattle.show.specs.Names.{names_run}
use Rattle.show.specs.Says.{shown_field, show_rules, unseen, not_current, show_pairs_rules, show_vectors_rules, show_tables_rules, ShowAnswer, ShowPairsIs, ShowVectorsIs, ShowTablesIs}

or_all : (a b c d : Bool) → ((a || b) || c) || d ≡ a || (b || (c || d))
or_all true b c d = refl
or_all false b c d = or_assoc b c d

-- One value of each element of a list, by places.
pub picked : {A B : Type 0} (l : List A) (d : A) (e : B) (g : A → B) → rows (λ i. g (get_or l i d)) (length l) ≡ map g l
picked l d e g = rows_are (λ i. g (get_or l i d)) (length l) (map g l) e (length-map l g) (λ i h. get_or-map g l i d e h)

pub rows-of : {B : Type 0} {n : ℕ} (l : List TableEntry) (k : n ≡ length l) (e : B) (g : TableEntry → B) → rows (λ i. g (get_or l i no_table)) n ≡ map g l
rows-of l k e g = rw k (picked l no_table e g)

-- What an iterator that numbers its items hands out next.
module _ {S A B : Type 0} {steps : S → Option (ℕ × A) → S → Type 0} (v : A → B) {s : S} (all : List B) (e : YieldsList {B = ℕ × B} steps (λ p. (p.0, v p.1)) s (enumerate_from 0 all)) (xs : List (ℕ × A)) (t : S) (y : Yields steps s xs t) where
  pub numbered-turn : (r : Option (ℕ × A)) (u : S) (p : ℕ × A) (d : B) → r ≡ Some p → steps t r u → (length xs < length all) × (p.0 ≡ length xs) × (v p.1 ≡ get_or all (length xs) d)
  numbered-turn r u p d is st =
      let w = YieldsList-turn e xs t y r u p is st in
      let n : length xs < length all = omega (arith, w.0, length-enumerate_from 0 all) in
      let q = w.1 ∙ get_or-enumerate_from 0 all (length xs) (p.0, v p.1) n in
      (n, ap (λ (k : ℕ × B). k.0) q ∙ zero-add (length xs), ap (λ (k : ℕ × B). k.1) q ∙ get_or_default all (length xs) (v p.1) d n)

  pub numbered-end : (r : Option (ℕ × A)) (u : S) → r ≡ None → steps t r u → length xs ≡ length all
  numbered-end r u is st = (YieldsList-end e xs t y r u is st).1 ∙ length-enumerate_from 0 all

-- the ids of what is held
abbrev pub ids_in : {I : Type 0} → Held I → I
ids_in x = x.ids

-- One field of each of the ids l written to the front of s, which is t after i of them.
abbrev pub Fronts : List (List ℕ) → ℕ → List ℕ → ℕ → List ℕ → Type 0
Fronts l n s i t = Filling (λ j. get_or (get_or l j []) n 0) (length l) s i t

-- the ids l, as they were gathered
module _ {I : Type 0} (numbers : I → List ℕ) (xs : List I) (l : List (List ℕ)) (e : map numbers xs ≡ l) where
  pub as_many : length xs ≡ length l
  as_many = sym (length-map xs numbers) ∙ ap length e

  pub fronts-more : (n : ℕ) (s t : List ℕ) (i : ℕ) (d : I) (w : ℕ) → i < length xs → w ≡ get_or (numbers (get_or xs i d)) n 0 → Fronts l n s i t → Fronts l n s (i + 1) (set t i w)
  fronts-more n s t i d w h same f =
      let at : get_or l i [] ≡ numbers (get_or xs i d) = ap (λ (m : List (List ℕ)). get_or m i []) (sym e) ∙ get_or-map numbers xs i d [] h in
      rw (same, ← at) (fill_more (λ j. get_or (get_or l j []) n 0) (length l) s i t (omega (arith, h, as_many)) f)

  pub fronts-done : (n : ℕ) (s t : List ℕ) (i : ℕ) → length xs ≤ i → Fronts l n s i t → t ≡ over (shown_field n l) s
  fronts-done n s t i h f =
      fill_done (λ j. get_or (get_or l j []) n 0) (length l) s i t (omega (arith, h, as_many)) f
      ∙ ap (λ (r : List ℕ). over r s) (picked l [] 0 (λ k. get_or k n 0))

-- The room of slices that are lent together.
pub lesser-short : (a b n : ℕ) → ltb (min a b) n ≡ ltb a n || ltb b n
lesser-short a b n =
    by_cases (ltb a n)
    (λ e. let h = ltb-true a n e in rw e (lt-ltb (min a b) n (omega arith)))
    (λ e.
    let h = ltb-false a n e in
    by_cases (ltb b n)
    (λ f. let k = ltb-true b n f in rw (e, f) (lt-ltb (min a b) n (omega arith)))
    (λ f. let k = ltb-false b n f in rw (e, f) (le-ltb (min a b) n (omega arith))))

pub names-short : (a n : ℕ) → ltb (a / longest_name) n ≡ ltb a (longest_name * n)
names-short a n =
    by_cases (ltb (a / longest_name) n)
    (λ e. let h = ltb-true (a / longest_name) n e in rw e (sym (lt-ltb a (longest_name * n) (omega arith))))
    (λ e. let h = ltb-false (a / longest_name) n e in rw e (sym (le-ltb a (longest_name * n) (omega arith))))

-- Room enough, where judging accepts.
pub roomy : (s : State) (b : PinBook) (u : Bool) (r n : ℕ) → judged (show_rules s b u (ltb r n)) ≡ Ok tt → n ≤ r
roomy s b u r n h = ltb-false r n (none-judged (show_rules s b u (ltb r n)) h).1.1.0

-- and where 9, judged alone, does not hold
pub room-judged : (r n : ℕ) → judged ((ltb r n ⇒ OutputTooShort) ∷ []) ≡ Ok tt → n ≤ r
room-judged r n h = ltb-false r n (none-judged ((ltb r n ⇒ OutputTooShort) ∷ []) h).0

-- 28 and 24 are judged first, and 9 where they let pass
pub in-turn : (s : State) (b : PinBook) (u w : Bool) (v t : Verdict) → v ≡ judged ((bad_book s.epoch b ⇒ BadPinBook) ∷ (u ⇒ EpochNotPinned) ∷ []) → v ≡ t
    → judged (show_rules s b u w) ≡ result_and t (judged ((w ⇒ OutputTooShort) ∷ []))
in-turn s b u w v t first h =
    judged-append ((bad_book s.epoch b ⇒ BadPinBook) ∷ (u ⇒ EpochNotPinned) ∷ []) ((w ⇒ OutputTooShort) ∷ [])
    ∙ ap (λ (k : Verdict). result_and k (judged ((w ⇒ OutputTooShort) ∷ []))) (sym first ∙ h)

module _ (s : State) (b : PinBook) (e : ℕ) (u : Bool) where
  module _ (ts rs : List ℕ) (n r : ℕ) (seen : u ≡ unseen s b e) (counted : n ≡ length (pairs_at e s)) (room : r ≡ min (length ts) (length rs)) where
    pub pairs-judged : judged (show_rules s b u (ltb r n)) ≡ judged (show_pairs_rules s b e (length ts) (length rs))
    pairs-judged = rw (seen, room, counted, lesser-short) refl

  module _ (ts rs vs : List ℕ) (n r : ℕ) (seen : u ≡ unseen s b e) (counted : n ≡ length (vectors_at e s)) (room : r ≡ min (min (length ts) (length rs)) (length vs)) where
    pub vectors-judged : judged (show_rules s b u (ltb r n)) ≡ judged (show_vectors_rules s b e (length ts) (length rs) (length vs))
    vectors-judged = rw (seen, room, counted, lesser-short, lesser-short, or_assoc) refl

  module _ (is hs ls ns : List ℕ) (n r : ℕ) (seen : u ≡ not_current s b e) (counted : n ≡ length s.tables) (room : r ≡ min (min (min (length is) (length hs)) (length ls)) (length ns / longest_name)) where
    pub tables-judged : judged (show_rules s b u (ltb r n)) ≡ judged (show_tables_rules s b e (length is) (length hs) (length ls) (length ns))
    tables-judged = rw (seen, room, counted, lesser-short, lesser-short, lesser-short, names-short, or_all) refl

module _ (s : State) (b : PinBook) (e : ℕ) where
  module _ (ts rs : List ℕ) where
    pub pairs-refuse : (r : ShowAnswer) (q : Refusal) → IsErrAnd r (λ k. k ≡ q) → judged (show_pairs_rules s b e (length ts) (length rs)) ≡ Err q → ShowPairsIs s b e ts rs r ts rs
    pairs-refuse (Ok n) q h d = absurd h
    pairs-refuse (Err k) q h d = record { answer = rw (h, d); tables = rw d; rowsets = rw d }

    pub pairs-accept : (n : ℕ) (ts' rs' : List ℕ) → judged (show_pairs_rules s b e (length ts) (length rs)) ≡ Ok tt → n ≡ length (pairs_at e s)
        → ts' ≡ over (shown_field 0 (pairs_at e s)) ts → rs' ≡ over (shown_field 1 (pairs_at e s)) rs → ShowPairsIs s b e ts rs (Ok n) ts' rs'
    pairs-accept n ts' rs' d c x y = record { answer = rw (d, c); tables = rw d x; rowsets = rw d y }

  module _ (ts rs vs : List ℕ) where
    pub vectors-refuse : (r : ShowAnswer) (q : Refusal) → IsErrAnd r (λ k. k ≡ q) → judged (show_vectors_rules s b e (length ts) (length rs) (length vs)) ≡ Err q → ShowVectorsIs s b e ts rs vs r ts rs vs
    vectors-refuse (Ok n) q h d = absurd h
    vectors-refuse (Err k) q h d = record { answer = rw (h, d); tables = rw d; rowsets = rw d; vectors = rw d }

    pub vectors-accept : (n : ℕ) (ts' rs' vs' : List ℕ) → judged (show_vectors_rules s b e (length ts) (length rs) (length vs)) ≡ Ok tt → n ≡ length (vectors_at e s)
        → ts' ≡ over (shown_field 0 (vectors_at e s)) ts → rs' ≡ over (shown_field 1 (vectors_at e s)) rs → vs' ≡ over (shown_field 2 (vectors_at e s)) vs
        → ShowVectorsIs s b e ts rs vs (Ok n) ts' rs' vs'
    vectors-accept n ts' rs' vs' d c x y z = record { answer = rw (d, c); tables = rw d x; rowsets = rw d y; vectors = rw d z }

  module _ (is hs ls ns : List ℕ) where
    pub tables-refuse : (r : ShowAnswer) (q : Refusal) → IsErrAnd r (λ k. k ≡ q) → judged (show_tables_rules s b e (length is) (length hs) (length ls) (length ns)) ≡ Err q → ShowTablesIs s b e is hs ls ns r is hs ls ns
    tables-refuse (Ok n) q h d = absurd h
    tables-refuse (Err k) q h d = record { answer = rw (h, d); ids = rw d; shapes = rw d; lengths = rw d; names = rw d }

    pub tables-accept : (n : ℕ) (is' hs' ls' ns' : List ℕ) → judged (show_tables_rules s b e (length is) (length hs) (length ls) (length ns)) ≡ Ok tt → n ≡ length s.tables
        → is' ≡ over (map (λ (t : TableEntry). t.table) s.tables) is → hs' ≡ over (map (λ (t : TableEntry). t.shape) s.tables) hs
        → ls' ≡ over (map (λ (t : TableEntry). length t.name) s.tables) ls → ns' ≡ over (names_run s.tables) ns
        → ShowTablesIs s b e is hs ls ns (Ok n) is' hs' ls' ns'
    tables-accept n is' hs' ls' ns' d c x y z w = record { answer = rw (d, c); ids = rw d x; shapes = rw d y; lengths = rw d z; names = rw d w }
