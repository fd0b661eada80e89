-- Lines and frames: what the loops over them keep. Assumes nothing.
use Rattle.std.proofs.Common.{◌≡◌, refl, sym, ap, true, ◌∙◌, List, [], ◌∷◌, map, ℕ, zero, suc, ◌+◌, ◌-◌, ◌<◌, ◌≤◌, length, take, drop, arith, Result, Ok, Err}
use Rattle.std.specs.Prelude.{not, Option, Some, None}
use denote.Ref.{Bor}
use mathlib.Core.Logic.{⊎_elim}
use Rattle.std.specs.declared.ops.Range.{Range}
use Rattle.std.specs.declared.iter.Zip.{Zip}
use Rattle.std.specs.Iterator.Adapters.{zip_first, zip_second, zip_steps}
use Rattle.std.proofs.iter.Yields.{nat_range_steps}
use Rattle.std.proofs.lemmas.Option.{none-some}
use Rattle.std.proofs.Math.ListN.{length-map}
use Rattle.lists.specs.Keyed.{is_at}
use Rattle.lists.proofs.Tests.{by_cases}
use Rattle.lists.proofs.Keyed.{length-put, length-keep}
use Rattle.ids.specs.Results.{and_then}
use Rattle.ids.specs.declared.refusal.Refusal.{Refusal}
use Rattle.ids.proofs.Results.{not-given, same-given}
use Rattle.manifest.specs.Operations.{Operation, Line, begin, end, torn, operation, bad, well_formed}
use Rattle.manifest.specs.Edits.{Edit, leaves, adds, deletes, edits_of}
use Rattle.manifest.specs.Lines.{line_of}
use Rattle.manifest.specs.Split.{line_at}
use Rattle.manifest.specs.declared.reader.LineAt.{LineAt}
use Rattle.manifest.proofs.Split.{line-placed, lines_at, lines_none, line-further}
use Rattle.manifest.proofs.Lines.{text-parse}
use Rattle.manifest_lines.specs.declared.ManifestLines.{ManifestLines}
use Rattle.manifest_lines.specs.Reader.{NextLine}
use Rattle.snapshot.specs.Entries.{added_at, by_ids}
use Rattle.snapshot.specs.Tables.{by_table}
use Rattle.version_state.specs.State.{State}
use Rattle.operations.specs.Effect.{edited, as_entry}
use Rattle.replay.specs.declared.frame.Begun.{Begun}
use Rattle.replay.specs.declared.sets.Sets.{Sets}
use Rattle.replay.specs.Replay.{reopened, conflicts}
use Rattle.replay.specs.Sets.{table_entry, rowset_entry, vector_entry, state_in, RoomFor, lightly, one_of, framed_lightly}
use Rattle.replay.specs.Reading.{said_from, said_at, operation_on, leading, Lies}

-- A line stands at a place.
pub record Says (src : List ℕ) (at : ℕ) (l : LineAt) : Type 0 where
  pub said : said_from src at ≡ said_at src l ∷ said_from src l.next
  pub well : (o : Operation) → said_at src l ≡ operation o → well_formed o ≡ true
  pub lies : Lies src l
  pub after : at < l.next

-- The next line.
module _ (src : Bor (List ℕ)) (s t : ManifestLines) (lent : s.src ≡ src) (r : Option LineAt) (n : NextLine s r t) where
  here : r ≡ line_at src.now s.at
  here = rw lent at n.line

  pub next-none : r ≡ None → said_from src.now s.at ≡ []
  next-none e = ap (map line_of) (lines_none src.now s.at (sym here ∙ e))

  pub next-line : (l : LineAt) → r ≡ Some l → Says src.now s.at l × (t.src ≡ src) × (t.at ≡ l.next)
  next-line l e =
      let found : line_at src.now s.at ≡ Some l = sym here ∙ e in
      let p = line-placed src.now s.at l found in (
        record {
          said = ap (map line_of) (lines_at src.now s.at l found);
          well = λ o h. (text-parse (take (l.end - l.start) (drop l.start src.now)) o h).0;
          lies = record { start = omega (arith, p.from, p.within); end = omega (arith, p.on); inside = p.inside };
          after = (line-further src.now s.at l found).0;
        },
        n.src ∙ lent,
        rw e at n.at,
      )

-- what stands first is no operation
leads-none : (l : Line) (m : List Line) → None ≡ operation_on l → leading (l ∷ m) ≡ []
unfolding leading
leads-none begin m h = refl
leads-none end m h = refl
leads-none torn m h = refl
leads-none (operation o) m h = absurd (none-some o h)
leads-none bad m h = refl

-- or it is one
leads-on : (l : Line) (m : List Line) (o : Operation) → Some o ≡ operation_on l → (l ≡ operation o) × (leading (l ∷ m) ≡ o ∷ leading m)
unfolding leading
leads-on begin m o h = absurd (none-some o (sym h))
leads-on end m o h = absurd (none-some o (sym h))
leads-on torn m o h = absurd (none-some o (sym h))
leads-on (operation p) m o h = let e : o ≡ p = cc in rw e (refl, refl)
leads-on bad m o h = absurd (none-some o (sym h))

leads-empty : leading [] ≡ []
unfolding leading
leads-empty = refl

-- room that one operation leaves
length-edited : {A B : Type 0} (key : B → List ℕ) (f : A → B) (d : Edit A) (l : List B) → length (edited key f d l) ≤ length l + 1
length-edited key f leaves l = omega arith
length-edited key f (adds x) l = omega (arith, length-put key (f x) l)
length-edited key f (deletes k) l = omega (arith, length-keep (λ y. not (is_at key k y)) l)

one-fits : (n : ℕ) (o : Operation) (l m : Sets) (k j : ℕ) → one_of n o (state_in l) ≡ Ok (state_in m) → RoomFor k l → k ≡ j + 1 → RoomFor j m
one-fits n o l m k j e r h =
    by_cases (conflicts o (state_in l))
    (λ t. absurd (not-given (rw t at e)))
    (λ t. let same = same-given (rw t at e) in
    let lt = length-map l.tables table_entry in
    let lr = length-map l.rowsets rowset_entry in
    let lv = length-map l.vectors vector_entry in
    let mt : length m.tables ≡ length (lightly o (state_in l)).tables = sym (length-map m.tables table_entry) ∙ ap (λ (s : State). length s.tables) (sym same) in
    let mr : length m.rowsets ≡ length (lightly o (state_in l)).pairs = sym (length-map m.rowsets rowset_entry) ∙ ap (λ (s : State). length s.pairs) (sym same) in
    let mv : length m.vectors ≡ length (lightly o (state_in l)).vectors = sym (length-map m.vectors vector_entry) ∙ ap (λ (s : State). length s.vectors) (sym same) in
    let et = length-edited by_table as_entry (edits_of o).tables (state_in l).tables in
    let er = length-edited by_ids (added_at reopened) (edits_of o).pairs (state_in l).pairs in
    let ev = length-edited by_ids (added_at reopened) (edits_of o).vectors (state_in l).vectors in
    record { tables = omega (arith, r.tables); rowsets = omega (arith, r.rowsets); vectors = omega (arith, r.vectors) })

-- the numbers and the lines of a frame that are left
abbrev pub Left : Type 0
Left = Zip (Range ℕ) ManifestLines

abbrev pub place : Left → ℕ
place z = (zip_second z).at

abbrev pub number : Left → ℕ
number z = (zip_first z).start

abbrev pub count : Left → ℕ
count z = (zip_first z).end - (zip_first z).start

-- A frame's operations, one after another.
pub record Going (src : Bor (List ℕ)) (s : State) (b : Begun) (l : Sets) (z : Left) : Type 0 where
  pub lent : (zip_second z).src ≡ src
  pub same : framed_lightly b.line (take b.count (leading (said_from src.now b.place))) s ≡ framed_lightly (number z) (take (count z) (leading (said_from src.now (place z)))) (state_in l)
  pub room : RoomFor (count z) l

module _ (src : Bor (List ℕ)) (s : State) (b : Begun) (l : Sets) (z : Left) (g : Going src s b l z) where
  abbrev whole : Result State Refusal
  whole = framed_lightly b.line (take b.count (leading (said_from src.now b.place))) s

  going-none : leading (said_from src.now (place z)) ≡ [] → whole ≡ Ok (state_in l)
  going-none h = g.same ∙ rw h (none (count z))
    where
      none : (k : ℕ) → framed_lightly (number z) (take k []) (state_in l) ≡ Ok (state_in l)
      none zero = refl
      none (suc k) = refl

  -- what comes next
  module _ (r : Option (ℕ × LineAt)) (t : Left) (w : zip_steps nat_range_steps NextLine z r t) where
    pub going-end : r ≡ None → whole ≡ Ok (state_in l)
    going-end e =
        ⊎_elim
        (λ u. let k : count z ≡ 0 = u.1.1.0 in g.same ∙ rw k refl)
        (λ u. going-none (ap leading (next-none src (zip_second z) u.0 g.lent None u.1 refl) ∙ leads-empty))
        (rw e at w)

    module _ (p : ℕ × LineAt) (is : r ≡ Some p) where
      turn : nat_range_steps (zip_first z) (Some p.0) (zip_first t) × NextLine (zip_second z) (Some p.1) (zip_second t)
      turn = rw is at w

      line : Says src.now (place z) p.1 × ((zip_second t).src ≡ src) × (place t ≡ p.1.next)
      line = next-line src (zip_second z) (zip_second t) g.lent (Some p.1) turn.1 p.1 refl

      pub going-lies : Lies src.now p.1
      going-lies = line.0.lies

      pub going-other : None ≡ operation_on (said_at src.now p.1) → whole ≡ Ok (state_in l)
      going-other h = going-none (ap leading line.0.said ∙ leads-none (said_at src.now p.1) (said_from src.now p.1.next) h)

      -- an operation
      module _ (o : Operation) (h : Some o ≡ operation_on (said_at src.now p.1)) where
        on : (said_at src.now p.1 ≡ operation o) × (leading (said_at src.now p.1 ∷ said_from src.now p.1.next) ≡ o ∷ leading (said_from src.now p.1.next))
        on = leads-on (said_at src.now p.1) (said_from src.now p.1.next) o h

        pub going-well : well_formed o ≡ true
        going-well = line.0.well o on.0

        step : whole ≡ and_then (one_of p.0 o (state_in l)) (framed_lightly (number t) (take (count t) (leading (said_from src.now (place t)))))
        step =
            let k : count z ≡ suc (count t) = omega (arith, turn.0.0, turn.0.1) in
            let e : leading (said_from src.now (place z)) ≡ o ∷ leading (said_from src.now (place t)) = ap leading line.0.said ∙ on.1 ∙ ap (λ (i : ℕ). o ∷ leading (said_from src.now i)) (sym line.2) in
            g.same ∙ rw (e, k, turn.0.1.1, turn.0.1.2) refl

        pub going-stop : (e : Refusal) → one_of p.0 o (state_in l) ≡ Err e → whole ≡ Err e
        going-stop e q = step ∙ rw q refl

        pub going-on : (m : Sets) → one_of p.0 o (state_in l) ≡ Ok (state_in m) → Going src s b m t
        going-on m q = record {
          lent = line.1;
          same = step ∙ rw q refl;
          room = one-fits p.0 o l m (count z) (count t) q g.room (omega (arith, turn.0.0, turn.0.1));
        }
