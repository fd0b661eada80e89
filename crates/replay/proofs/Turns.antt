-- One line, and all of them. Assumes nothing.
use Rattle.std.proofs.Common.{◌≡◌, refl, ap, ◌∙◌, true, false, List, [], ◌∷◌, ◌++◌, map, ℕ, ◌+◌, ◌^◌, ◌≤◌, ◌<◌, ltb, ◌||◌, length, take, arith, Result, Ok, Err, Option, Some, None}
use borrow.Author.Tests.{ltb-false}
use lib.Seq.{take-length}
use denote.Ref.{Bor}
use Rattle.std.specs.declared.iter.Enumerate.{Enumerate}
use Rattle.std.specs.Iterator.Adapters.{enumerate_source, enumerate_count, enumerate_steps}
use Rattle.std.proofs.Math.ListN.{length-map}
use Rattle.lists.specs.Keyed.{keep}
use Rattle.lists.proofs.Tests.{by_cases, neither}
use Rattle.lists.proofs.Keyed.{ascend-to}
use Rattle.ids.specs.Results.{and_then}
use Rattle.ids.specs.Limits.{most_operations, most_tables, most_held}
use Rattle.ids.specs.declared.refusal.Refusal.{Refusal}
use Rattle.ids.proofs.Results.{not-given, same-given, then_same}
use Rattle.manifest.specs.Operations.{Operation, Line, end, operation}
use Rattle.manifest.specs.Lines.{line_of}
use Rattle.manifest.specs.Split.{lines}
use Rattle.manifest.specs.declared.reader.LineAt.{LineAt}
use Rattle.manifest.proofs.Split.{lines-from-start}
use Rattle.manifest_lines.specs.declared.ManifestLines.{ManifestLines}
use Rattle.manifest_lines.specs.Reader.{NextLine}
use Rattle.snapshot.specs.Entries.{Entry, by_ids}
use Rattle.snapshot.specs.Views.{pair_ids, vector_ids}
use Rattle.version_state.specs.State.{State, with_pairs, with_vectors}
use Rattle.replay.specs.declared.frame.Begun.{Begun}
use Rattle.replay.specs.declared.sets.Sets.{Sets}
use Rattle.replay.specs.Replay.{Frame, none, Carried, carried, at_start, framed, stands, settled, over_limit, limited, ended, line_read, lines_read}
use Rattle.replay.specs.Sets.{table_entry, rowset_entry, vector_entry, state_in, RoomFor, framed_lightly}
use Rattle.replay.specs.Reading.{said_from, said_at, leading, Lies, Opened, FrameIs, OpenWithin, Carrying, Carries, Ended}
use Rattle.replay.proofs.Reading.{Says, next-none, next-line}
use Rattle.replay.proofs.Maps.{ascending-mapped}
use Rattle.replay.proofs.Light.{Rising, frame-light}

keep-mapped : {X : Type 0} (f : X → Entry) → ((x : X) → stands (f x) ≡ true) → (l : List X) → keep stands (map f l) ≡ map f l
keep-mapped f h [] = refl
keep-mapped f h (x ∷ l) = rw (h x) (ap (λ (m : List Entry). f x ∷ m) (keep-mapped f h l))

-- What the sets hold rises, and stands.
module _ (l : Sets) where
  rising-in : Rising (state_in l)
  rising-in = record {
    pairs = ascending-mapped rowset_entry pair_ids by_ids (λ x y. refl) l.rowsets (ascend-to pair_ids l.rowsets l.rowsets_rise);
    vectors = ascending-mapped vector_entry vector_ids by_ids (λ x y. refl) l.vectors (ascend-to vector_ids l.vectors l.vectors_rise);
  }

  settled-in : settled (state_in l) ≡ state_in l
  settled-in =
      ap (λ (m : List Entry). with_vectors (with_pairs (state_in l) (keep stands (state_in l).pairs)) m) (keep-mapped vector_entry (λ x. refl) l.vectors)
      ∙ ap (λ (m : List Entry). with_pairs (state_in l) m) (keep-mapped rowset_entry (λ x. refl) l.rowsets)

  -- a frame of the definition is one of the code
  frame-in : (n : ℕ) (os : List Operation) (f : State → Result State Refusal) → and_then (framed n os (state_in l)) (λ u. f (settled u)) ≡ and_then (framed_lightly n os (state_in l)) f
  frame-in n os f = frame-light f n os (state_in l) rising-in ∙ ap (λ (s : State). and_then (framed_lightly n os s) f) settled-in

leading-ops : (os : List Operation) (m : List Line) → leading (map operation os ++ (end ∷ m)) ≡ os
unfolding leading
leading-ops [] m = refl
leading-ops (o ∷ os) m = ap (λ (t : List Operation). o ∷ t) (leading-ops os m)

-- An `E` where a frame is open.
module _ (src : List ℕ) (l : Sets) (at next n : ℕ) (b : Begun) (f : Frame) (w : Opened src at b f) (s : said_from src at ≡ end ∷ said_from src next) where
  pub frame-ended : ended n f (state_in l) ≡ and_then (framed_lightly b.line (take b.count (leading (said_from src b.place))) (state_in l)) (limited n)
  frame-ended =
      let t : take b.count (leading (said_from src b.place)) ≡ w.ops = rw (w.count, w.said, s) (ap (take (length w.ops)) (leading-ops w.ops (said_from src next)) ∙ take-length w.ops) in
      rw (w.frame, t) (frame-in l b.line w.ops (limited n))

-- what was within the limits has room for a frame
within-limits : (m : Sets) → over_limit (state_in m) ≡ false → RoomFor most_operations m
within-limits m h =
    let t = neither (ltb most_tables (length (state_in m).tables)) (ltb most_held (length (state_in m).pairs) || ltb most_held (length (state_in m).vectors)) h in
    let u = neither (ltb most_held (length (state_in m).pairs)) (ltb most_held (length (state_in m).vectors)) t.1 in
    record {
      tables = omega (arith, length-map m.tables table_entry, ltb-false _ _ t.0);
      rowsets = omega (arith, length-map m.rowsets rowset_entry, ltb-false _ _ u.0);
      vectors = omega (arith, length-map m.vectors vector_entry, ltb-false _ _ u.1);
    }

limited-room : (n : ℕ) (x : Result State Refusal) (m : Sets) → and_then x (limited n) ≡ Ok (state_in m) → RoomFor most_operations m
limited-room n (Err k) m h = absurd (not-given h)
limited-room n (Ok s) m h =
    by_cases (over_limit s)
    (λ t. absurd (not-given (rw t at h)))
    (λ t. let e = same-given (rw t at h) in within-limits m (rw e at t))

-- An `E`, and what is carried after it.
module _ (src : List ℕ) (l : Sets) (at next n : ℕ) (b : Begun) (f : Frame) (w : Opened src at b f) (s : said_from src at ≡ end ∷ said_from src next) where
  pub end-refused : (k : Refusal) → and_then (framed_lightly b.line (take b.count (leading (said_from src b.place))) (state_in l)) (limited n) ≡ Err k
      → line_read end (carried (state_in l) f n) ≡ Err k
  end-refused k e = ap (λ (x : Result State Refusal). and_then x (λ s. Ok (carried s none (n + 1)))) (frame-ended src l at next n b f w s ∙ e)

  pub end-carries : (m : Sets) → and_then (framed_lightly b.line (take b.count (leading (said_from src b.place))) (state_in l)) (limited n) ≡ Ok (state_in m)
      → Carrying (line_read end (carried (state_in l) f n)) src next (n + 1) m None
  end-carries m e =
      record {
        frame = none;
        same = ap (λ (x : Result State Refusal). and_then x (λ s. Ok (carried s none (n + 1)))) (frame-ended src l at next n b f w s ∙ e);
        known = refl;
        within = tt;
        room = limited-room n (framed_lightly b.line (take b.count (leading (said_from src b.place))) (state_in l)) m e;
      }

-- All lines, by what they say.
abbrev pub said_read : List Line → Carried → Result Carried Refusal
said_read [] c = Ok c
said_read (l ∷ ls) c = and_then (line_read l c) (said_read ls)

pub said-read : (ls : List (List ℕ)) (c : Carried) → lines_read ls c ≡ said_read (map line_of ls) c
said-read [] c = refl
said-read (l ∷ ls) c = then_same (line_read (line_of l) c) (lines_read ls) (said_read (map line_of ls)) (said-read ls)

-- the lines before those that are left are read, and that is carried on
pub record Reading (src : Bor (List ℕ)) (l : Sets) (b : Option Begun) (z : Enumerate ManifestLines) : Type 0 where
  pub lent : (enumerate_source z).src ≡ src
  pub frame : Frame
  pub same : lines_read (lines src.now) at_start ≡ said_read (said_from src.now (enumerate_source z).at) (carried (state_in l) frame (enumerate_count z + 1))
  pub known : FrameIs src.now (enumerate_source z).at b frame
  pub within : OpenWithin src.now b
  pub room : RoomFor most_operations l
  pub line : enumerate_count z ≤ (enumerate_source z).at

pub reading-start : (src : Bor (List ℕ)) (l : Sets) (z : Enumerate ManifestLines) → (enumerate_source z).src ≡ src → (enumerate_source z).at ≡ 0 → enumerate_count z ≡ 0 → state_in l ≡ at_start.state → RoomFor most_operations l
    → Reading src l None z
reading-start src l z s p n e r =
    record {
      lent = s;
      frame = none;
      same = said-read (lines src.now) at_start ∙ rw (p, n, e, lines-from-start) refl;
      known = refl;
      within = tt;
      room = r;
      line = omega (arith, n);
    }

reading-next : (src : Bor (List ℕ)) (l : Sets) (b : Option Begun) (z : Enumerate ManifestLines) (at n : ℕ) (x : Result Carried Refusal)
    → (enumerate_source z).src ≡ src → (enumerate_source z).at ≡ at → enumerate_count z + 1 ≡ n → n ≤ at + 1
    → lines_read (lines src.now) at_start ≡ and_then x (said_read (said_from src.now at)) → Carrying x src.now at n l b → Reading src l b z
reading-next src l b z at n x s p q h e c =
    record { lent = s; frame = c.frame; same = e ∙ rw (c.same, p, q) refl; known = rw p c.known; within = c.within; room = c.room; line = omega (arith, p, q, h) }

module _ (src : Bor (List ℕ)) (l : Sets) (b : Option Begun) (z : Enumerate ManifestLines) (g : Reading src l b z) where
  -- what comes next
  module _ (r : Option (ℕ × LineAt)) (t : Enumerate ManifestLines) (w : enumerate_steps NextLine z r t) where
    pub reading-end : r ≡ None → Ended (lines_read (lines src.now) at_start) l
    reading-end e =
        let u = rw e at w in
        let h = next-none src (enumerate_source z) (enumerate_source t) g.lent None u.0 refl in
        record { frame = g.frame; line = enumerate_count z + 1; same = g.same ∙ rw h refl; room = g.room }

    module _ (p : ℕ × LineAt) (is : r ≡ Some p) where
      turn : NextLine (enumerate_source z) (Some p.1) (enumerate_source t) × (p.0 ≡ enumerate_count z) × (enumerate_count t ≡ enumerate_count z + 1) × (p.0 + 1 < 2 ^ 64)
      turn = rw is at w

      next : Says src.now (enumerate_source z).at p.1 × ((enumerate_source t).src ≡ src) × ((enumerate_source t).at ≡ p.1.next)
      next = next-line src (enumerate_source z) (enumerate_source t) g.lent (Some p.1) turn.0 p.1 refl

      pub reading-lies : Lies src.now p.1
      reading-lies = next.0.lies

      reading-place : p.0 + 1 ≤ p.1.next
      reading-place = omega (arith, g.line, turn.1, next.0.after)

      -- what the line leaves
      abbrev Leaves : Sets → Result (Option Begun) Refusal → Type 0
      Leaves m o = (at : ℕ) (f : Frame) → said_from src.now at ≡ said_at src.now p.1 ∷ said_from src.now p.1.next → FrameIs src.now at b f
          → Carries (line_read (said_at src.now p.1) (carried (state_in l) f (p.0 + 1))) src.now p.1.next (p.0 + 1 + 1) m o

      step : lines_read (lines src.now) at_start ≡ and_then (line_read (said_at src.now p.1) (carried (state_in l) g.frame (p.0 + 1))) (said_read (said_from src.now p.1.next))
      step = g.same ∙ rw (next.0.said, ← turn.1) refl

      pub reading-stop : (m : Sets) (k : Refusal) → Leaves m (Err k) → lines_read (lines src.now) at_start ≡ Err k
      reading-stop m k c = let e = c (enumerate_source z).at g.frame next.0.said g.known in step ∙ rw e refl

      pub reading-on : (m : Sets) (o : Option Begun) → Leaves m (Ok o) → Reading src m o t
      reading-on m o c =
          reading-next src m o t p.1.next (p.0 + 1 + 1) _ next.1 next.2 (omega (arith, turn.1, turn.2)) (omega (arith, reading-place)) step (c (enumerate_source z).at g.frame next.0.said g.known)
