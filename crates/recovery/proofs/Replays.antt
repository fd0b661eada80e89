-- The states of a replay: at its epoch and in order, each entry added then, and deleted then or not at all. Assumes nothing.
use mathlib.Core.Path.{◌≡◌, refl, sym, ap, subst, ◌∙◌}
use mathlib.Core.Bool.{◌&&◌}
use mathlib.Core.List.{List, [], ◌∷◌, map}
use Prim.Native.Nat.{ℕ, ◌+◌, ◌≤◌}
use native.Mathlib.Omega.{arith}
use lib.Dec.{eqb}
use borrow.Author.Tests.{le-leb}
use Rattle.std.specs.Prelude.{Result, Ok, Err}
use Rattle.lists.specs.Keyed.{keep}
use Rattle.lists.proofs.Tests.{by_cases}
use Rattle.lists.proofs.Keyed.{All, all_map, all_keep, keep-keep, keep_same, ascend-to, ascend-from, ascending-keep}
use Rattle.ids.specs.declared.refusal.Refusal.{Refusal}
use Rattle.ids.specs.Results.{and_then}
use Rattle.manifest.specs.Operations.{Operation, Line, begin, end, torn, operation, bad}
use Rattle.manifest.specs.Edits.{Edit, edits_of}
use Rattle.manifest.specs.Lines.{line_of}
use Rattle.manifest.specs.Split.{lines}
use Rattle.snapshot.specs.Entries.{Entry, gone_at, shown_at, shown_by, shown, by_ids}
use Rattle.version_state.specs.State.{State, pairs_at, vectors_at}
use Rattle.version_state.specs.Sets.{sets, unlocked, sets_of}
use Rattle.version_state.proofs.Facts.{Ordered}
use Rattle.operations.specs.Effect.{marked, applied}
use Rattle.operations.proofs.Edits.{adds-any, all-marked}
use Rattle.operations.proofs.Keeps.{ordered-applied}
use Rattle.replay.specs.Replay.{Frame, none, opened, Carried, carried, reopened, at_start, conflicts, framed, stands, settled, over_limit, limited, ended, noted, line_read, lines_read}
use Rattle.recovery.specs.Holds.{Holds}
use Rattle.recovery.proofs.Effects.{sets_at}

abbrev pub Plain : Entry → Type 0
Plain x = (x.added ≤ reopened) × (x.deleted ≤ reopened)

pub record Read (s : State) : Type 0 where
  pub epoch : s.epoch ≡ reopened
  pub ordered : Ordered s
  pub pairs : All Plain s.pairs
  pub vectors : All Plain s.vectors

plain-marked : (d : Edit (List ℕ)) (l : List Entry) → All Plain l → All Plain (marked reopened d l)
plain-marked d l a = all-marked reopened Plain d l (adds-any d (λ k. (omega arith, omega arith))) (λ x p. (p.0, omega arith)) a

pub read-applied : (o : Operation) (s : State) → Read s → Read (applied reopened o s)
read-applied o s r =
    record {
      epoch = r.epoch;
      ordered = ordered-applied reopened o s r.ordered;
      pairs = plain-marked (edits_of o).pairs s.pairs r.pairs;
      vectors = plain-marked (edits_of o).vectors s.vectors r.vectors;
    }

read-settled : (s : State) → Read s → Read (settled s)
read-settled s r =
    record {
      epoch = r.epoch;
      ordered =
          record {
            tables = r.ordered.tables;
            pairs = ascend-from by_ids (keep stands s.pairs) (ascending-keep by_ids stands s.pairs (ascend-to by_ids s.pairs r.ordered.pairs));
            vectors = ascend-from by_ids (keep stands s.vectors) (ascending-keep by_ids stands s.vectors (ascend-to by_ids s.vectors r.ordered.vectors));
          };
      pairs = all_keep Plain stands s.pairs r.pairs;
      vectors = all_keep Plain stands s.vectors r.vectors;
    }

-- what is given, if anything, has the property
abbrev Given : {A : Type 0} → (A → Type 0) → Result A Refusal → Type 0
Given P (Err k) = Unit {0}
Given P (Ok a) = P a

given-then : {A B : Type 0} (P : A → Type 0) (Q : B → Type 0) (x : Result A Refusal) (f : A → Result B Refusal) → Given P x → ((a : A) → P a → Given Q (f a)) → Given Q (and_then x f)
given-then P Q (Err k) f p g = tt
given-then P Q (Ok a) f p g = g a p

framed-read : (n : ℕ) (os : List Operation) (s : State) → Read s → Given Read (framed n os s)
framed-read n [] s r = r
framed-read n (o ∷ os) s r =
    by_cases (conflicts o s) (λ t. rw t tt) (λ t. rw t (framed-read (n + 1) os (applied reopened o s) (read-applied o s r)))

limited-read : (n : ℕ) (s : State) → Read s → Given Read (limited n s)
limited-read n s r = by_cases (over_limit s) (λ t. rw t tt) (λ t. rw t r)

ended-read : (n : ℕ) (f : Frame) (s : State) → Read s → Given Read (ended n f s)
ended-read n none s r = r
ended-read n (opened m os) s r = given-then Read Read (framed m os s) (λ u. limited n (settled u)) (framed-read m os s r) (λ u q. limited-read n (settled u) (read-settled u q))

abbrev Carries : Carried → Type 0
Carries c = Read c.state

line-read : (l : Line) (c : Carried) → Carries c → Given Carries (line_read l c)
line-read begin c r = r
line-read end c r = given-then Read Carries (ended c.line c.frame c.state) (λ s. Ok (carried s none (c.line + 1))) (ended-read c.line c.frame c.state r) (λ s q. q)
line-read (operation o) c r = go (noted c.line o c.frame)
  where
    go : (x : Result Frame Refusal) → Given Carries (and_then x (λ f. Ok (carried c.state f (c.line + 1))))
    go (Err k) = tt
    go (Ok f) = r
line-read torn c r = r
line-read bad c r = tt

lines-read : (ls : List (List ℕ)) (c : Carried) → Carries c → Given Carries (lines_read ls c)
lines-read [] c r = r
lines-read (l ∷ ls) c r = given-then Carries Carries (line_read (line_of l) c) (lines_read ls) (line-read (line_of l) c r) (lines-read ls)

start-read : Carries at_start
start-read = record { epoch = refl; ordered = record { tables = refl; pairs = refl; vectors = refl }; pairs = tt; vectors = tt }

-- the state that a manifest holds is one
pub holds_read : (src : List ℕ) (s : State) → Holds src s → Read s
holds_read src s h = subst (Given Carries) h.read (lines-read (lines src) at_start start-read)

-- What stands is what the replay's epoch shows.
stands-shown : (x : Entry) → Plain x → (stands x && shown_by reopened x ≡ stands x) × (stands x && shown_by reopened x ≡ shown_by reopened x)
unfolding shown_at gone_at
stands-shown x p =
    let a = le-leb x.added 1 p.0 in
    let d = le-leb x.deleted 1 p.1 in
    by_cases (eqb x.deleted 0) (λ t. (rw (t, a), rw (t, a))) (λ t. (rw t, rw (t, a, d)))

shown-standing : (l : List Entry) → All Plain l → keep (shown_by reopened) (keep stands l) ≡ keep (shown_by reopened) l
shown-standing l a = keep-keep (shown_by reopened) stands l ∙ keep_same _ (shown_by reopened) l (all_map l (λ x p. (stands-shown x p).1) a)

pub ids-standing : (l : List Entry) → All Plain l → map by_ids (keep stands l) ≡ shown reopened l
ids-standing l a =
    let e = sym (keep_same _ stands l (all_map l (λ x p. (stands-shown x p).0) a)) ∙ sym (keep-keep (shown_by reopened) stands l) in
    ap (map by_ids) (e ∙ shown-standing l a)

pub sets-settled : (s : State) → Read s → sets_of (settled s) ≡ sets_at reopened s
sets-settled s r =
    ap (λ (e : ℕ). sets_at e (settled s)) r.epoch
    ∙ ap (λ (l : List Entry). sets (map unlocked s.tables) (map by_ids l) (vectors_at reopened (settled s))) (shown-standing s.pairs r.pairs)
    ∙ ap (λ (l : List Entry). sets (map unlocked s.tables) (pairs_at reopened s) (map by_ids l)) (shown-standing s.vectors r.vectors)
