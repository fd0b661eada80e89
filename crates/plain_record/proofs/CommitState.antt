-- The state that an accepted commit leaves, beside the record's sets, waiting deletions and ids. Assumes nothing.
use mathlib.Core.Path.{◌≡◌, sym, ap, subst, ◌∙◌}
use mathlib.Core.Bool.{true, false}
use mathlib.Core.List.{List, ◌++◌, map}
use Prim.Native.Nat.{ℕ, ◌+◌, ◌≤◌}
use native.Mathlib.Omega.{arith}
use lib.ListN.{length}
use Rattle.std.specs.Prelude.{Ok}
use Rattle.ids.specs.Limits.{most_operations, longest_manifest}
use Rattle.lists.specs.Keyed.{all_of}
use Rattle.lists.proofs.Keyed.{all_map, all_of-all}
use Rattle.manifest.specs.Operations.{Operation, well_formed}
use Rattle.version_state.specs.declared.VersionManagerInner.{VersionManagerInner}
use Rattle.version_state.specs.State.{State, state_of, with_epoch}
use Rattle.version_state.specs.Sets.{sets_of}
use Rattle.version_state.specs.Sound.{bad_inner}
use Rattle.version_state.proofs.Within.{within_of}
use Rattle.version_state.proofs.Facts.{Sound, sound-of}
use Rattle.commit.specs.Commit.{append_of, commit_of}
use Rattle.commit.proofs.Stepwise.{steps-manifest}
use Rattle.commit.proofs.Sounds.{Accepts, accepts}
use Rattle.recovery.specs.Holds as manifest
use Rattle.recovery.proofs.Replays.{holds_read}
use Rattle.recovery.proofs.Besides.{beside-start, beside-steps}
use Rattle.plain_record.specs.Sets.{Sets, apply_all}
use Rattle.plain_record.specs.Plain.{Id, Waiting, by_epoch_and_pair, deletions, await, ids_of}
use Rattle.plain_record.specs.Claim.{waiting_in, below_next}
use Rattle.plain_record.proofs.CommitSets.{plain_at, steps-sets}
use Rattle.plain_record.proofs.CommitIds.{next-rise, steps_next}
use Rattle.plain_record.proofs.CommitWaits.{Late, steps-waits}

late-sound : (m : VersionManagerInner) → Sound m → Late (m.epoch + 1) (state_of m).pairs
late-sound m s = all_map (state_of m).pairs (λ x h. omega (arith, (within_of m.epoch _ x h).deleted)) (all_of-all _ (state_of m).pairs s.pairs)

module _ (m : VersionManagerInner) (n : ℕ) (os : List Operation) (room : ℕ) (s : State) (b : bad_inner m ≡ false) (h : commit_of (state_of m) n os room ≡ Ok s) where
  a : Accepts (state_of m) n os room s
  a = accepts (state_of m) n os room s h

  pub commit-epoch : s.epoch ≡ m.epoch + 1
  commit-epoch = sym (ap (λ (t : State). t.epoch) a.state)

  pub commit-manifest : s.manifest ≡ m.manifest + length (append_of os)
  commit-manifest =
      sym (ap (λ (t : State). t.manifest) a.state)
      ∙ ap (λ (k : ℕ). k + length (append_of os)) (steps-manifest (m.epoch + 1) os (state_of m) a.done a.steps)

  pub commit-sets : (z : Sets) → plain_at (m.epoch + 1) (state_of m) ≡ z → plain_at (m.epoch + 1) s ≡ apply_all os z
  commit-sets z q =
      let e = m.epoch + 1 in
      ap (plain_at e) (sym a.state)
      ∙ steps-sets e os (state_of m) a.done (omega arith) (sound-of m b).ordered a.steps
      ∙ ap (apply_all os) q

  pub commit-waits : (c : ℕ) (ws : List Waiting) → waiting_in (state_of m) ≡ map by_epoch_and_pair ws → waiting_in s ≡ map by_epoch_and_pair (await (deletions c (m.epoch + 1) 0 os) ws)
  commit-waits c ws q =
      let g = sound-of m b in
      ap waiting_in (sym a.state)
      ∙ steps-waits c (m.epoch + 1) os (state_of m) a.done ws (omega arith) g.ordered (late-sound m g) q a.steps

  pub commit-next : (l : List Id) → all_of (below_next (state_of m)) l ≡ true → all_of (below_next s) (l ++ ids_of os) ≡ true
  commit-next l q =
      let t = a.done in
      let u = with_epoch t (m.epoch + 1) (t.manifest + length (append_of os)) in
      subst (λ (x : State). all_of (below_next x) (l ++ ids_of os) ≡ true) a.state
      (next-rise t u (l ++ ids_of os) (record { table = omega arith; rowset = omega arith; vector = omega arith })
      (steps_next (m.epoch + 1) os (state_of m) t l q a.steps))

  pub commit-few : length os ≤ n → length os ≤ most_operations
  commit-few q = omega (arith, q, a.short)

  pub commit-well : (src : List ℕ) (u : State) → manifest.Holds src u → sets_of (state_of m) ≡ sets_of u → all_of well_formed os ≡ true
  commit-well src u k q =
      let start = beside-start m u (sound-of m b) (holds_read src u k) q in
      (beside-steps (m.epoch + 1) 0 os (state_of m) a.done u (omega arith) start a.steps).well

  pub commit-fits : m.manifest + length (append_of os) ≤ longest_manifest
  commit-fits =
      let q = steps-manifest (m.epoch + 1) os (state_of m) a.done a.steps in
      omega (arith, a.fits, q)
