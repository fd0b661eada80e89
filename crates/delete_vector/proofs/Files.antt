-- What the loops over a file's records need. Assumes nothing.
use Rattle.std.proofs.Common.{◌≡◌, ℕ, ◌+◌, ◌<◌, ◌≤◌, min, true, false, List, [], ◌∷◌, ◌++◌, length, get_or, take, drop, set, ◌-◌, suc, sym, refl, ap, ◌∙◌, add-one, arith, length-append, length-drop, drop_of_length-le, drop-cons, take-suc, take-suc-set, take_all, drop-drop, ap₂, Result, le-ltb, lt-ltb, Ok, Err}
use Rattle.std.proofs.lemmas.List.{drop-set-lt, take-append-drop}
use Rattle.std.proofs.lemmas.Slice.{between_to_end}
use Rattle.lists.specs.Written.{written, over, Wrote}
use Rattle.lists.proofs.Tests.{by_cases, clash}
use Rattle.lists.proofs.Written.{written_on}
use Rattle.delete_vector.specs.Records.{row_limit, record_of, records_of, starts_with, row_in, is_record, size_in, Records, Rows, Bad, and_row, records_at, is_bad, rows_in}
use Rattle.delete_vector.specs.Answers.{scanned_of}
use Rattle.delete_vector.proofs.Records.{good, read-end, read_more, read-bad}

-- the records of the rows from i on
pub rows_more : (rows : List ℕ) (i : ℕ) → i < length rows → records_of (drop i rows) ≡ record_of (get_or rows i 0) ++ records_of (drop (i + 1) rows)
rows_more rows i h = rw (drop-cons rows i 0 h, add-one)

pub rows-length : (rows : List ℕ) (i : ℕ) → i < length rows → length (records_of (drop i rows)) ≡ length (record_of (get_or rows i 0)) + length (records_of (drop (i + 1) rows))
rows-length rows i h = ap length (rows_more rows i h) ∙ length-append (record_of (get_or rows i 0)) (records_of (drop (i + 1) rows))

pub rows_end : (rows : List ℕ) (i : ℕ) → length rows ≤ i → records_of (drop i rows) ≡ []
rows_end rows i h = ap records_of (drop_of_length-le rows {i = i} h)

pub rows_written : (s : List ℕ) (at : ℕ) (rows : List ℕ) (i : ℕ) (t : List ℕ) (j : ℕ) → i < length rows → at + length (records_of (drop i rows)) ≤ length s
    → Wrote s at (record_of (get_or rows i 0)) t j → written t j (records_of (drop (i + 1) rows)) ≡ written s at (records_of (drop i rows))
rows_written s at rows i t j h l w =
    let x = record_of (get_or rows i 0) in
    let y = records_of (drop (i + 1) rows) in
    let n = rows-length rows i h in
    ap (λ (k : ℕ). written t k y) w.next
    ∙ ap (λ (m : List ℕ). written m (at + length x) y) w.content
    ∙ written_on s at x y (omega arith)
    ∙ ap (λ (p : List ℕ). written s at p) (sym (rows_more rows i h))

-- a record's row, by the value that is read
pub in-limit : (s : List ℕ) (v : ℕ) → v ≡ min (row_in s) row_limit → v < row_limit → row_in s ≡ v
in-limit s v e h = omega arith

pub over-limit : (s : List ℕ) (v : ℕ) → v ≡ min (row_in s) row_limit → row_limit ≤ v → is_record s ≡ false
unfolding is_record
over-limit s v e h = rw (le-ltb (row_in s) row_limit (omega arith))

pub judge : (s : List ℕ) (v : ℕ) → v ≡ min (row_in s) row_limit → v < row_limit → is_record s ≡ starts_with (record_of v) s
unfolding is_record
judge s v e h =
    let q = in-limit s v e h in
    rw (lt-ltb (row_in s) row_limit (omega arith)) (ap (λ (k : ℕ). starts_with (record_of k) s) q)

pub value_of : (s : List ℕ) (v : ℕ) → v ≡ min (row_in s) row_limit → is_record s ≡ true → (row_in s ≡ v) × (v < row_limit)
value_of s v e h = let g = (good s h).small in (omega arith, omega arith)

-- The records of a file from `at` on, where s is left.
module _ (s : List ℕ) (at : ℕ) (l : 0 < length s) where
  pub scan-bad : (n : ℕ) → is_record s ≡ false → scanned_of n (records_at s at) ≡ Err at
  scan-bad n e = ap (scanned_of n) (read-bad s at l e)

  on : (k : ℕ) → is_record s ≡ true → size_in s ≡ k → records_at s at ≡ and_row (row_in s) (records_at (drop k s) (at + k))
  on k e z = read_more s at l e ∙ ap (λ (j : ℕ). and_row (row_in s) (records_at (drop j s) (at + j))) z

  pub scan-more : (n k : ℕ) → is_record s ≡ true → size_in s ≡ k → scanned_of n (records_at s at) ≡ scanned_of (n + 1) (records_at (drop k s) (at + k))
  scan-more n k e z = ap (scanned_of n) (on k e z) ∙ counted n (row_in s) (records_at (drop k s) (at + k))
    where
      counted : (n row : ℕ) (r : Records) → scanned_of n (and_row row r) ≡ scanned_of (n + 1) r
      counted n row (Rows rows) = ap Ok (omega arith)
      counted n row (Bad place) = refl

  pub good-here : is_bad (records_at s at) ≡ false → is_record s ≡ true
  good-here h = by_cases (is_record s) (λ e. e) (λ e. clash (ap is_bad (read-bad s at l e)) h)

  bad-row : (row : ℕ) (r : Records) → is_bad (and_row row r) ≡ is_bad r
  bad-row row (Rows rows) = refl
  bad-row row (Bad place) = refl

  row_of : (row : ℕ) (r : Records) → is_bad r ≡ false → rows_in (and_row row r) ≡ row ∷ rows_in r
  row_of row (Rows rows) h = refl
  row_of row (Bad place) h = clash refl h

  pub good-next : (k : ℕ) → size_in s ≡ k → is_bad (records_at s at) ≡ false → is_bad (records_at (drop k s) (at + k)) ≡ false
  good-next k z h = sym (bad-row (row_in s) (records_at (drop k s) (at + k))) ∙ sym (ap is_bad (on k (good-here h) z)) ∙ h

  pub rows-here : (k : ℕ) → size_in s ≡ k → is_bad (records_at s at) ≡ false → rows_in (records_at s at) ≡ row_in s ∷ rows_in (records_at (drop k s) (at + k))
  rows-here k z h = ap rows_in (on k (good-here h) z) ∙ row_of (row_in s) (records_at (drop k s) (at + k)) (good-next k z h)

pub scan-end : (s : List ℕ) (at n : ℕ) → length s ≡ 0 → scanned_of n (records_at s at) ≡ Ok n
scan-end [] at n h = ap (scanned_of n) (read-end at) ∙ ap Ok (omega arith)
scan-end (b ∷ s) at n h = absurd (omega arith)

pub end-rows : (s : List ℕ) (at : ℕ) → length s ≡ 0 → rows_in (records_at s at) ≡ []
end-rows [] at h = ap rows_in (read-end at)
end-rows (b ∷ s) at h = absurd (omega arith)

-- What is left of the file after a record.
abbrev pub after : List ℕ → ℕ → List ℕ
after s k = take (length s - k) (drop k s)

left : (file s : List ℕ) (k : ℕ) → length s ≤ length file → k ≤ length s → (after s k ≡ drop k s) × (length file - length (after s k) ≡ length file - length s + k)
left file s k h l = let e = between_to_end s k (length s) (omega arith) in (e, rw e (omega (arith, length-drop k s)))

pub after-less : (s : List ℕ) (k : ℕ) → is_record s ≡ true → size_in s ≡ k → length (after s k) < length s
after-less s k g z =
    let o = good s g in
    let f = o.fits in
    let q = o.positive in
    rw ((left s s k (omega arith) (omega arith)).0) (omega (arith, length-drop k s))

pub scan-turn : (file s : List ℕ) (n k : ℕ) (r : Result ℕ ℕ) → 0 < length s → is_record s ≡ true → size_in s ≡ k → n + length s ≤ length file → scanned_of n (records_at s (length file - length s)) ≡ r
    → (n + 1 + length (after s k) ≤ length file) × (scanned_of (n + 1) (records_at (after s k) (length file - length (after s k))) ≡ r)
scan-turn file s n k r p g z h e =
    let o = good s g in
    let f = o.fits in
    let q = o.positive in
    let t = left file s k (omega arith) (omega arith) in
    (rw t.0 (omega (arith, length-drop k s)), rw (t.1, t.0) (sym (scan-more s (length file - length s) p n k g z) ∙ e))

-- Rows put into their places: i are put, and those of s are to come; what is lent beyond them stands as it was.
pub record Placing (file rows s : List ℕ) (i : ℕ) (old out : List ℕ) : Type 0 where
  pub within : length s ≤ length file
  pub good : is_bad (records_at s (length file - length s)) ≡ false
  pub at : i ≤ length rows
  pub put : take i out ≡ take i rows
  pub kept : drop i out ≡ drop i old
  pub left : rows_in (records_at s (length file - length s)) ≡ drop i rows

module _ (file rows s : List ℕ) (i : ℕ) (old out : List ℕ) (some : 0 < length s) (w : Placing file rows s i old out) where
  pub placing-record : is_record s ≡ true
  placing-record = good-here s (length file - length s) some w.good

  module _ (k : ℕ) (z : size_in s ≡ k) where
    pub placing-room : k ≤ length s
    placing-room = let f = (good s placing-record).fits in omega arith

    there : row_in s ∷ rows_in (records_at (drop k s) (length file - length s + k)) ≡ drop i rows
    there = sym (rows-here s (length file - length s) some k z w.good) ∙ w.left

    less : i < length rows
    less = let n = ap length there in omega (arith, length-drop i rows)

    next : row_in s ∷ rows_in (records_at (drop k s) (length file - length s + k)) ≡ get_or rows i 0 ∷ drop (suc i) rows
    next = there ∙ drop-cons rows i 0 less

    pub placing-more : (v : ℕ) → row_in s ≡ v → i < length out → Placing file rows (after s k) (i + 1) old (set out i v)
    placing-more v q l =
        let b = w.within in
        let t = left file s k b placing-room in
        let e = next in
        let h = less in
        let r : v ≡ get_or rows i 0 = cc in
        let m : rows_in (records_at (drop k s) (length file - length s + k)) ≡ drop (suc i) rows = cc in
        let d : drop (i + 1) out ≡ drop (i + 1) old = sym (drop-drop 1 i out) ∙ ap (drop 1) w.kept ∙ drop-drop 1 i old in
        record {
          within = rw t.0 (omega (arith, length-drop k s));
          good = rw (t.1, t.0) (good-next s (length file - length s) some k z w.good);
          at = omega arith;
          put = rw (add-one, take-suc-set out i v l, take-suc rows i 0 h, w.put, r);
          kept = drop-set-lt (i + 1) out i v (omega arith) ∙ d;
          left = rw (t.1, t.0, add-one) m;
        }

pub placing-start : (file out : List ℕ) → is_bad (records_at file 0) ≡ false → Placing file (rows_in (records_at file 0)) file 0 out out
placing-start file out h =
    let z : length file - length file ≡ 0 = omega arith in
    record { within = omega arith; good = rw z h; at = omega arith; put = refl; kept = refl; left = rw z }

-- all are put where no byte is left, and where no place is left
pub placing-done : (file rows s : List ℕ) (i : ℕ) (old out : List ℕ) → length rows ≤ i → Placing file rows s i old out → out ≡ over rows old
placing-done file rows s i old out h w =
    let b = w.at in
    let n : i ≡ length rows = omega arith in
    sym (take-append-drop i out) ∙ ap₂ ◌++◌ (w.put ∙ take_all i rows h) w.kept ∙ ap (λ (k : ℕ). rows ++ drop k old) n

pub placing-end : (file rows s : List ℕ) (i : ℕ) (old out : List ℕ) → length s ≡ 0 → Placing file rows s i old out → length rows ≤ i
placing-end file rows s i old out h w =
    let n = ap length (sym w.left ∙ end-rows s (length file - length s) h) in
    omega (arith, length-drop i rows)
