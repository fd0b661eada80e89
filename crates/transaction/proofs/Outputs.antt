-- What is handed out of the vectors, and what a grouping is where it refuses and where it accepts. Assumes nothing.
use mathlib.Core.Path.{◌≡◌, refl, sym, ap, ◌∙◌}
use mathlib.Core.Bool.{Bool, true, false, not, cond, ◌&&◌, ◌||◌}
use mathlib.Core.List.{List, [], ◌∷◌, ◌++◌, map, append_assoc}
use Prim.Native.Nat.{ℕ, ◌+◌, ◌≤◌, ◌<◌, min}
use native.Mathlib.Omega.{arith}
use lib.Dec.{ltb}
use lib.ListN.{length, take, drop}
use lib.Seq.{length-take-le, take_all}
use borrow.Author.Tests.{lt-ltb, le-ltb, ltb-true, ltb-false}
use Rattle.lists.proofs.Tests.{by_cases}
use Rattle.std.specs.List.{list_all}
use Rattle.std.specs.Prelude.{Ok, Err}
use Rattle.lists.specs.Keyed.{all_of}
use Rattle.lists.specs.Written.{over}
use Rattle.ids.specs.Ids.{is_id32, largest64}
use Rattle.ids.specs.declared.SecondaryRowHandler.{SecondaryRowHandler}
use Rattle.ids.specs.declared.refusal.Refusal.{Refusal}
use Rattle.ids.specs.declared.refusal.Refusal.TheVariants.{Malformed, WrongCount, IdsUsedUp, OutputTooShort}
use Rattle.ids.specs.Verdicts.{judged}
use Rattle.delete_vector.specs.Records.{record_of, records_of}
use Rattle.transaction.specs.declared.vectors.Vectors.{Vectors}
use Rattle.transaction.specs.Made.{Holds}
use Rattle.transaction.specs.Groups.{Handle, handle_of, Vector, vector_of, vectors_of, rowsets_in, files_in, memories_in}
use Rattle.transaction.specs.Says.{most_handles, no_id, too_short, group_rules, HandedOut, GroupIs}

pub records-append : (l m : List ℕ) → records_of (l ++ m) ≡ records_of l ++ records_of m
records-append [] m = refl
records-append (x ∷ l) m = ap (λ (t : List ℕ). record_of x ++ t) (records-append l m) ∙ sym (append_assoc (record_of x) (records_of l) (records_of m))

pub named-rowsets : (rs : List ℕ) (hs : List Handle) → rs ≡ rowsets_in (map (vector_of hs) rs)
named-rowsets [] hs = refl
named-rowsets (r ∷ rs) hs = ap (λ (t : List ℕ). r ∷ t) (named-rowsets rs hs)

-- a run copied to the front of a slice
pub copied : (x y s : List ℕ) (n : ℕ) → y ≡ x → length y ≡ length (take n s) → n ≤ length s → y ++ drop n s ≡ over x s
copied x y s n e l h = let k : length x ≡ n = sym (ap length e) ∙ l ∙ length-take-le n s h in rw (e, k)

-- What is handed out of vectors in arrays, whose rows are os.
module _ (vs : List Vector) (v : Vectors) (s : Holds vs v) (os : List ℕ) (q : records_of os ≡ files_in vs) (whole : v.kept ≤ length v.held) (b : ℕ) (eb : b ≡ length (records_of os)) (r l c f m : List ℕ) where
  kept-told : v.kept ≡ length (memories_in vs)
  kept-told = sym (length-take-le v.kept v.held whole) ∙ ap length s.memories

  judged-short : ltb (length r) v.count || (ltb (length l) v.count || (ltb (length c) v.count || (ltb (length f) b || ltb (length m) v.kept))) ≡ too_short vs (length r) (length l) (length c) (length f) (length m)
  judged-short = rw (← s.count, ← kept-told, ← (eb ∙ ap length q)) refl

  pub out-done : (r' l' c' f' m' : List ℕ) → v.count ≤ length r → v.count ≤ length l → v.count ≤ length c → b ≤ length f → v.kept ≤ length m
      → r' ≡ over (take v.count v.rowsets) r → l' ≡ over (take v.count v.lengths) l → c' ≡ over (take v.count v.counts) c → f' ≡ over (records_of os) f → m' ≡ over (take v.kept v.held) m
      → HandedOut vs false r l c f m r' l' c' f' m'
  out-done r' l' c' f' m' z0 z1 z2 z3 z4 w0 w1 w2 w3 w4 = record {
    told = sym (rw (le-ltb (length r) v.count z0, le-ltb (length l) v.count z1, le-ltb (length c) v.count z2, le-ltb (length f) b z3) (le-ltb (length m) v.kept z4)) ∙ judged-short;
    rowsets = w0 ∙ ap (λ (x : List ℕ). over x r) s.rowsets;
    lengths = w1 ∙ ap (λ (x : List ℕ). over x l) s.lengths;
    counts = w2 ∙ ap (λ (x : List ℕ). over x c) s.counts;
    files = w3 ∙ ap (λ (x : List ℕ). over x f) q;
    memories = w4 ∙ ap (λ (x : List ℕ). over x m) s.memories;
  }

-- the first handles of a call
pub first_handles : (l : List SecondaryRowHandler) (n m : ℕ) → length l ≡ most_handles → m ≡ min n most_handles → take m l ≡ take n l
first_handles l n m e q =
    by_cases (ltb n most_handles)
    (λ t. ap (λ (k : ℕ). take k l) (let h = ltb-true n most_handles t in omega arith))
    (λ t. let h = ltb-false n most_handles t in take_all m l (omega arith) ∙ sym (take_all n l (omega arith)))

-- the test of ids
pub ids-told : (l : List SecondaryRowHandler) → no_id (map handle_of l) ≡ not (list_all (λ (h : SecondaryRowHandler). is_id32 h.0.0) l)
ids-told l = ap not (all l)
  where
    all : (l : List SecondaryRowHandler) → all_of is_id32 (map (λ (h : Handle). h.rowset) (map handle_of l)) ≡ list_all (λ (h : SecondaryRowHandler). is_id32 h.0.0) l
    all [] = refl
    all (x ∷ l) = ap (λ (b : Bool). is_id32 x.0.0 && b) (all l)

-- Groupings of handles hs, n by what the call says, lent the slices rs, ls, cs, fs and ms.
module _ (hs : List Handle) (n next : ℕ) (rs ls cs fs ms : List ℕ) where
  refuses : (q : Refusal) → judged (group_rules hs n next (length rs) (length ls) (length cs) (length fs) (length ms)) ≡ Err q → GroupIs hs n next rs ls cs fs ms (Err q) rs ls cs fs ms
  refuses q d = record { answer = rw d; rowsets = rw d; lengths = rw d; counts = rw d; files = rw d; memories = rw d }

  pub no-id : no_id hs ≡ true → GroupIs hs n next rs ls cs fs ms (Err (Malformed 0)) rs ls cs fs ms
  no-id h = refuses (Malformed 0) (rw h)

  module _ (ids : no_id hs ≡ false) where
    pub too_many : most_handles < n → GroupIs hs n next rs ls cs fs ms (Err WrongCount) rs ls cs fs ms
    too_many h = refuses WrongCount (rw (ids, lt-ltb most_handles n h))

    module _ (few : n ≤ most_handles) where
      pub used-up : largest64 < next + length (vectors_of hs) → GroupIs hs n next rs ls cs fs ms (Err IdsUsedUp) rs ls cs fs ms
      used-up h = refuses IdsUsedUp (rw (ids, le-ltb most_handles n few, lt-ltb largest64 (next + length (vectors_of hs)) h))

      module _ (left : next + length (vectors_of hs) ≤ largest64) (t : Bool) (rs' ls' cs' fs' ms' : List ℕ) (w : HandedOut (vectors_of hs) t rs ls cs fs ms rs' ls' cs' fs' ms') where
        short-judged : judged (group_rules hs n next (length rs) (length ls) (length cs) (length fs) (length ms)) ≡ cond t (Err OutputTooShort) (Ok tt)
        short-judged = rw (ids, le-ltb most_handles n few, le-ltb largest64 (next + length (vectors_of hs)) left, ← w.told)

        pub no_room : t ≡ true → GroupIs hs n next rs ls cs fs ms (Err OutputTooShort) rs' ls' cs' fs' ms'
        no_room q =
            let d : judged (group_rules hs n next (length rs) (length ls) (length cs) (length fs) (length ms)) ≡ Err OutputTooShort = short-judged ∙ rw q refl in
            record {
              answer = rw d;
              rowsets = rw d (rw q at w.rowsets);
              lengths = rw d (rw q at w.lengths);
              counts = rw d (rw q at w.counts);
              files = rw d (rw q at w.files);
              memories = rw d (rw q at w.memories);
            }

        pub accepts : t ≡ false → (k : ℕ) → k ≡ length (vectors_of hs) → GroupIs hs n next rs ls cs fs ms (Ok k) rs' ls' cs' fs' ms'
        accepts q k e =
            let d : judged (group_rules hs n next (length rs) (length ls) (length cs) (length fs) (length ms)) ≡ Ok tt = short-judged ∙ rw q refl in
            record {
              answer = rw (d, e);
              rowsets = rw d (rw q at w.rowsets);
              lengths = rw d (rw q at w.lengths);
              counts = rw d (rw q at w.counts);
              files = rw d (rw q at w.files);
              memories = rw d (rw q at w.memories);
            }
