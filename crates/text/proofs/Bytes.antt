-- What the class of a byte says. Assumes nothing.
use mathlib.Core.Path.{◌≡◌, refl, sym, ◌∙◌}
use mathlib.Core.Bool.{Bool, true, false, false≢true, cond}
use mathlib.Core.List.{List, [], ◌∷◌}
use Prim.Native.Nat.{ℕ, ◌+◌, ◌<◌, ◌≤◌}
use native.Mathlib.Omega.{arith}
use lib.Dec.{leb, ltb, eqb}
use borrow.Author.Tests.{leb-true, ltb-true, le-leb, lt-ltb, ne_eqb, eqb-true}
use Rattle.lists.proofs.Tests.{both, by_cases}
use Rattle.lists.specs.Keyed.{all_of, any_of}
use Rattle.text.specs.Class.{class_of, is_digit, is_lower, is_capital, is_comma, is_newline, is_mark}
use Rattle.text.specs.Name.{is_name_byte}

pub digit-bounds : (b : ℕ) → is_digit b ≡ true → (48 ≤ b) × (b < 58)
unfolding is_digit
digit-bounds b h =
    let t = both (leb 48 b) (ltb b 58) h in
    (leb-true 48 b t.0, ltb-true b 58 t.1)

pub digit-of : (d : ℕ) → d < 10 → is_digit (48 + d) ≡ true
unfolding is_digit
digit-of d h = rw (le-leb 48 (48 + d) (omega arith), lt-ltb (48 + d) 58 (omega arith))

-- Which test a class answers.
first : (a b c d e f : Bool) → eqb (cond a 1 (cond b 2 (cond c 3 (cond d 4 (cond e 5 (cond f 6 0)))))) 1 ≡ a
first true b c d e f = refl
first false true c d e f = refl
first false false true d e f = refl
first false false false true e f = refl
first false false false false true f = refl
first false false false false false true = refl
first false false false false false false = refl

second : (b c d e f : Bool) → eqb (cond b 2 (cond c 3 (cond d 4 (cond e 5 (cond f 6 0))))) 2 ≡ b
second true c d e f = refl
second false true d e f = refl
second false false true e f = refl
second false false false true f = refl
second false false false false true = refl
second false false false false false = refl

-- a byte that is no comma has another class, and so for a newline and a mark
fourth : (a b c e f : Bool) → eqb (cond a 1 (cond b 2 (cond c 3 (cond e 5 (cond f 6 0))))) 4 ≡ false
fourth true b c e f = refl
fourth false true c e f = refl
fourth false false true e f = refl
fourth false false false true f = refl
fourth false false false false true = refl
fourth false false false false false = refl

fifth : (a b c d f : Bool) → eqb (cond a 1 (cond b 2 (cond c 3 (cond d 4 (cond f 6 0))))) 5 ≡ false
fifth true b c d f = refl
fifth false true c d f = refl
fifth false false true d f = refl
fifth false false false true f = refl
fifth false false false false true = refl
fifth false false false false false = refl

sixth : (a b c d e : Bool) → eqb (cond a 1 (cond b 2 (cond c 3 (cond d 4 (cond e 5 0))))) 6 ≡ false
sixth true b c d e = refl
sixth false true c d e = refl
sixth false false true d e = refl
sixth false false false true e = refl
sixth false false false false true = refl
sixth false false false false false = refl

pub class-comma : (b : ℕ) → eqb (class_of b) 4 ≡ is_comma b
unfolding class_of is_digit is_lower is_capital
class-comma b =
    by_cases (eqb b 44)
    (λ e. let q : b ≡ 44 = eqb-true b 44 e in rw q)
    (λ e. rw e (fourth (is_digit b) (is_lower b) (is_capital b) (is_newline b) (is_mark b)))

pub class-newline : (b : ℕ) → eqb (class_of b) 5 ≡ is_newline b
unfolding class_of is_digit is_lower is_capital
class-newline b =
    by_cases (eqb b 10)
    (λ e. let q : b ≡ 10 = eqb-true b 10 e in rw q)
    (λ e. rw e (fifth (is_digit b) (is_lower b) (is_capital b) (is_comma b) (is_mark b)))

pub class-mark : (b : ℕ) → eqb (class_of b) 6 ≡ is_mark b
unfolding class_of is_digit is_lower is_capital
class-mark b =
    by_cases (eqb b 33)
    (λ e. let q : b ≡ 33 = eqb-true b 33 e in rw q)
    (λ e. rw e (sixth (is_digit b) (is_lower b) (is_capital b) (is_comma b) (is_newline b)))

pub class-digit : (b : ℕ) → eqb (class_of b) 1 ≡ is_digit b
unfolding class_of
class-digit b = first (is_digit b) (is_lower b) (is_capital b) (is_comma b) (is_newline b) (is_mark b)

pub name-digit : (b : ℕ) → class_of b ≡ 1 → is_name_byte b ≡ true
unfolding is_name_byte
name-digit b h = rw (← class-digit b, h)

pub name-other : (b : ℕ) → (class_of b ≡ 1 → ⊥) → is_name_byte b ≡ eqb (class_of b) 2
unfolding is_name_byte class_of
name-other b h =
    let d : is_digit b ≡ false = sym (class-digit b) ∙ ne_eqb (class_of b) 1 h in
    rw d (sym (second (is_lower b) (is_capital b) (is_comma b) (is_newline b) (is_mark b)))

-- what a test of the class says
pub ruleset class_tests = (class-digit, class-comma, class-newline, class-mark, name-digit, name-other)

-- Bytes of names and digits are none of those that part fields and lines.
pub name-byte-digit : (b : ℕ) → is_digit b ≡ true → is_name_byte b ≡ true
unfolding is_name_byte
name-byte-digit b h = rw h

pub name-bytes-without : (c : ℕ) (s : List ℕ) → is_name_byte c ≡ false → all_of is_name_byte s ≡ true → any_of (λ b. eqb b c) s ≡ false
name-bytes-without c [] n h = refl
name-bytes-without c (b ∷ s) n h =
    let t = both (is_name_byte b) (all_of is_name_byte s) h in
    let k = t.0 in
    rw (ne_eqb b c (λ e. false≢true (sym n ∙ rw (← e) k))) (name-bytes-without c s n t.1)
