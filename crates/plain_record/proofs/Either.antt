-- That a reopen finds the same sets from either manifest of a checkpoint follows from the claim. Assumes nothing.
use mathlib.Core.Path.{◌≡◌, refl, sym, ap, subst, ◌∙◌}
use mathlib.Core.Bool.{Bool, true, false, cond}
use mathlib.Core.List.{List, [], ◌∷◌, ◌++◌}
use Prim.Native.Nat.{ℕ, ◌≤◌}
use lib.ListN.{length, take}
use Rattle.rewrite.specs.Rewritten.{longest_rewritten}
use Rattle.storage.specs.declared.Reopened.{Reopened}
use Rattle.storage.specs.Reopen.{reopen_told}
use Rattle.plain_record.specs.Calls.{Call, checkpoint, reopen}
use Rattle.plain_record.specs.Plain.{Plain, kept, Record, at_start}
use Rattle.plain_record.specs.Run.{Steps, World, Event, is_accepted, value, port, LinkBy, DidCheckpoint, after_checkpoint, after_reopen, Chain, last_of, Starts}
use Rattle.plain_record.specs.Claim.{Agrees, Answers, next_record, record_of, Claim}
use Rattle.plain_record.specs.Either.{Finds, EitherStands}
use Rattle.plain_record.proofs.Story.{chain-front, chain_back, last-append, record-append}

-- a run that goes on
chain-on : (S : Steps) (w : World) (es fs : List Event) → Chain S w es → Chain S (last_of w es) fs → Chain S w (es ++ fs)
chain-on S w [] fs k l = l
chain-on S w (e ∷ es) fs k l = (k.0, k.1, chain-on S e.after es fs k.2 l)

answers-back : (r : Record) (es fs : List Event) → Answers r (es ++ fs) → Answers (record_of r es) fs
answers-back r [] fs a = a
answers-back r (e ∷ es) fs a = answers-back (next_record r e) es fs a.1

-- After the events es an accepted checkpoint d, after which the old manifest stands or not, and a reopen that is lent enough.
module _ (claim : Claim port) (w : World) (es : List Event) (s : Starts port w) (k : Chain port w es) (c : Event) (out : List ℕ) (stale : Bool) (before : c.before ≡ last_of w es) (d : DidCheckpoint port c.before c.told c.listed c.after out stale) (took : is_accepted c.told ≡ true) where
  abbrev p : Plain
  p = (record_of at_start es).whole

  abbrev new : List ℕ
  new = take (value 0 c.told) d.left

  module _ (old : Bool) (lent : List ℕ) (r : Reopened) (left : List ℕ) (h : longest_rewritten ≤ length lent) (says : port.reopen (cond old c.before.file new) lent r left) where
    -- the same checkpoint, and what stands after it
    abbrev checked : Event
    checked =
        record {
          before = c.before;
          call = checkpoint out old;
          told = c.told;
          listed = c.listed;
          after = after_checkpoint d.result.manager c.told d.left old c.before;
        }

    abbrev opens : Event
    opens =
        record {
          before = checked.after;
          call = reopen lent false;
          told = reopen_told r.answer;
          listed = [];
          after = after_reopen r.manager r.book (reopen_told r.answer) left false checked.after;
        }

    stands : checked.after.torn ≡ cond old c.before.file new
    stands = rw took

    chain : Chain port w (es ++ (checked ∷ opens ∷ []))
    chain =
        chain-on port w es (checked ∷ opens ∷ []) k (
          before,
          record { narrow = d.narrow; result = d.result; left = d.left; says = d.says; told = d.told; none = d.none; after = refl },
          (
            refl,
            record { result = r; left = left; says = subst (λ (f : List ℕ). port.reopen f lent r left) (sym stands) says; told = refl; none = refl; after = refl },
            tt,
          ),
        )

    abbrev u : Record
    u = next_record (record_of at_start es) checked

    accepted : is_accepted (reopen_told r.answer) ≡ true
    accepted = (answers-back at_start es (checked ∷ opens ∷ []) (claim w (es ++ (checked ∷ opens ∷ [])) s chain).answers).1.0 h

    settled : u.torn ≡ p
    settled = rw took

    last : (record_of at_start (es ++ (checked ∷ opens ∷ []))).whole ≡ kept p
    last = ap (λ (x : Record). x.whole) (record-append at_start es (checked ∷ opens ∷ [])) ∙ rw accepted (ap kept settled)

    agrees : Agrees port opens.after (kept p)
    agrees =
        subst (Agrees port opens.after) last
        (subst (λ (x : World). Agrees port x (record_of at_start (es ++ (checked ∷ opens ∷ []))).whole) (last-append w es (checked ∷ opens ∷ [])) (claim w (es ++ (checked ∷ opens ∷ [])) s chain).agrees)

    found : Finds port r p.now p.added
    found =
        let a = rw accepted at agrees in
        record { accepted = accepted; tables = a.tables; pairs = a.pairs 1 refl; vectors = a.vectors 1 refl; next = a.next }

pub either : Claim port → EitherStands port
either claim w es c out stale s k was took =
    let rest : List Event = c ∷ [] in
    let b = chain_back port w es rest k in
    let d : DidCheckpoint port c.before c.told c.listed c.after out stale = subst (λ (x : Call). LinkBy port c.before c.told c.listed c.after x) was b.1 in
    let front = chain-front port w es rest k in
    let file : c.after.file ≡ take (value 0 c.told) d.left = ap (λ (x : World). x.file) d.after ∙ rw took in (
      (λ lent r left h says. found claim w es s front c out stale b.0 d took true lent r left h says),
      (λ lent r left h says. found claim w es s front c out stale b.0 d took false lent r left h (subst (λ (f : List ℕ). port.reopen f lent r left) file says)),
    )
