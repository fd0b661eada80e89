-- The manifest after an accepted commit, whole and with its last bytes missing. Assumes nothing.
use mathlib.Core.Path.{◌≡◌, sym, ap, ◌∙◌}
use mathlib.Core.Bool.{false, cond}
use mathlib.Core.List.{List, ◌++◌}
use Prim.Native.Nat.{ℕ, ◌+◌, ◌-◌, ◌≤◌, ◌<◌}
use native.Mathlib.Omega.{arith}
use lib.Dec.{eqb}
use lib.ListN.{length, take, drop, length-append, length-take}
use lib.Seq.{take-append-le, take_all}
use borrow.Author.Tests.{eqb-true, eqb-false}
use Rattle.std.specs.Prelude.{Ok}
use Rattle.ids.specs.Limits.{longest_manifest}
use Rattle.lists.specs.Written.{over}
use Rattle.lists.proofs.Tests.{by_cases}
use Rattle.manifest.specs.Operations.{Operation}
use Rattle.frames.proofs.Texts.{frame-long}
use Rattle.version_state.specs.declared.VersionManagerInner.{VersionManagerInner}
use Rattle.version_state.specs.State.{State, state_of, with_epoch, Hands}
use Rattle.version_state.specs.Sets as shows
use Rattle.version_state.specs.Sound.{bad_inner}
use Rattle.commit.specs.Commit.{append_of, commit_of}
use Rattle.recovery.specs.Holds as manifest
use Rattle.recovery.proofs.Appending.{holds-replayed, cut_holds, whole-appended}
use Rattle.plain_record.specs.Sets.{apply_all}
use Rattle.plain_record.specs.Plain.{Plain, counted}
use Rattle.plain_record.proofs.Invariant.{plain_sets, Filed, Torn}
use Rattle.plain_record.proofs.Landed.{sets-plain}
use Rattle.plain_record.proofs.CommitIds.{followed-next}
use Rattle.plain_record.proofs.CommitState.{commit-manifest, commit-fits, commit-few, commit-well}

-- what a commit lends back begins with the append
pub append-taken : (f out : List ℕ) (n : ℕ) → n ≤ length f → take n (over f out) ≡ take n f
append-taken f out n h = take-append-le n f (drop (length f) out) h

module _ (f : List ℕ) (p : Plain) (m n : VersionManagerInner) (z : ℕ) (os : List Operation) (room : ℕ) (s : State) (b : bad_inner m ≡ false) (few : length os ≤ z) (h : commit_of (state_of m) z os room ≡ Ok s) (k : Hands n s) (c : ℕ) (i : Filed f (state_of m) p) where
  appended : manifest.Holds (f ++ append_of os) (manifest.followed os i.state) × (shows.sets_of (manifest.followed os i.state) ≡ shows.sets_of s)
  appended = whole-appended f i.state m z os room s i.holds i.same b few h

  long_after : length (f ++ append_of os) ≡ n.manifest
  long_after =
      length-append f (append_of os)
      ∙ ap (λ (x : ℕ). x + length (append_of os)) i.long
      ∙ sym (commit-manifest m z os room s b h)
      ∙ sym (ap (λ (x : State). x.manifest) k.state)

  pub filed_after : Filed (f ++ append_of os) (state_of n) (counted c os p)
  filed_after =
      record {
        state = manifest.followed os i.state;
        holds = appended.0;
        same = ap shows.sets_of k.state ∙ sym appended.1;
        long = long_after;
        next = followed-next os i.state p.added i.next;
      }

  short-after : length (f ++ append_of os) ≤ longest_manifest
  short-after = omega (arith, length-append f (append_of os), i.long, commit-fits m z os room s b h)

  torn-whole : plain_sets (state_of n) ≡ apply_all os p.now → Torn (f ++ append_of os) (counted c os p)
  torn-whole q =
      record {
        state = filed_after.state;
        replayed = holds-replayed (f ++ append_of os) filed_after.state filed_after.holds short-after;
        sets = sym (sets-plain (state_of n) filed_after.state filed_after.same) ∙ q;
        next = filed_after.next;
      }

  short_cut : (j : ℕ) → length (f ++ take j (append_of os)) ≤ longest_manifest
  short_cut j =
      omega (arith, length-append f (take j (append_of os)), length-take j (append_of os), i.long, commit-fits m z os room s b h)

  cut : (j : ℕ) → j < length (append_of os) → manifest.Holds (f ++ take j (append_of os)) i.state
  cut j l = cut_holds f i.state i.holds os j (commit-well m z os room s b h f i.state i.holds i.same) (commit-few m z os room s b h few) l

  -- with fewer bytes of the append than all
  pub filed-cut : (j : ℕ) → j < length (append_of os) → Filed (f ++ take j (append_of os)) (with_epoch (state_of m) m.epoch (m.manifest + j)) p
  filed-cut j l =
      record {
        state = i.state;
        holds = cut j l;
        same = i.same;
        long = omega (arith, length-append f (take j (append_of os)), length-take j (append_of os), i.long);
        next = i.next;
      }

  torn-cut : (j : ℕ) → j < length (append_of os) → plain_sets (state_of m) ≡ p.now → Torn (f ++ take j (append_of os)) p
  torn-cut j l q =
      record {
        state = i.state;
        replayed = holds-replayed (f ++ take j (append_of os)) i.state (cut j l) (short_cut j);
        sets = sym (sets-plain (state_of m) i.state i.same) ∙ q;
        next = i.next;
      }

  -- with the last bytes missing
  pub torn-after : (missing : ℕ) → plain_sets (state_of m) ≡ p.now → plain_sets (state_of n) ≡ apply_all os p.now
      → Torn (f ++ take (length (append_of os) - missing) (append_of os)) (cond (eqb missing 0) (counted c os p) p)
  torn-after missing q r =
      by_cases (eqb missing 0)
      (λ t.
      let none : missing ≡ 0 = eqb-true missing 0 t in
      let w : take (length (append_of os) - missing) (append_of os) ≡ append_of os = take_all (length (append_of os) - missing) (append_of os) (omega arith) in
      rw (t, w) (torn-whole r))
      (λ t.
      let some = eqb-false missing 0 t in
      rw t (torn-cut (length (append_of os) - missing) (omega (arith, frame-long os, some)) q))
