-- 17 and the specification's limits, of a commit's state and of the replayed one with the same sets. Assumes nothing.
use mathlib.Core.Path.{◌≡◌, refl, sym, ap, ◌∙◌}
use mathlib.Core.Bool.{Bool, true, false}
use mathlib.Core.List.{List, [], ◌∷◌, map}
use Prim.Native.Nat.{ℕ, ◌≤◌}
use native.Mathlib.Omega.{arith}
use lib.ListN.{length, take, length-map}
use borrow.Author.Tests.{le-ltb, not-false}
use Rattle.lists.specs.Keyed.{keep, all_of, has, is_at}
use Rattle.lists.proofs.Tests.{both}
use Rattle.lists.proofs.Keyed.{all_of-all, any_of-map, keep_all, length-keep}
use Rattle.columns.specs.Rows.{plain}
use Rattle.snapshot.specs.Entries.{Entry, shown_by, by_ids}
use Rattle.snapshot.specs.Tables.{TableEntry, by_table}
use Rattle.version_state.specs.State.{State, with_vectors}
use Rattle.version_state.specs.Sets.{Sets, unlocked}
use Rattle.version_state.specs.Sound.{left_behind}
use Rattle.replay.specs.Replay.{settled, over_limit, tableless, without_orphans}
use Rattle.recovery.specs.Rewritable.{housed, owned}
use Rattle.recovery.proofs.Replays.{ids-standing}
use Rattle.recovery.proofs.Besides.{Beside}

pub all_of-map : {A B : Type 0} (f : A → B) (p : B → Bool) (q : A → Bool) → ((x : A) → p (f x) ≡ q x) → (l : List A) → all_of p (map f l) ≡ all_of q l
all_of-map f p q h [] = refl
all_of-map f p q h (x ∷ l) = rw (h x, all_of-map f p q h l)

pub housed-of : (ts : List TableEntry) (l : List Entry) → housed (map unlocked ts) (map by_ids l) ≡ all_of (λ p. has by_table (take 1 (by_ids p)) ts) l
housed-of ts l = all_of-map by_ids _ _ (λ x. any_of-map unlocked (is_at by_table (take 1 (by_ids x))) ts) l

pub owned-of : (ps vs : List Entry) → owned (map by_ids ps) (map by_ids vs) ≡ all_of (λ v. has by_ids (take 2 (by_ids v)) ps) vs
owned-of ps vs = all_of-map by_ids _ _ (λ x. any_of-map by_ids (is_at plain (take 2 (by_ids x))) ps) vs

-- w is what a commit at e left, v what the replay of its operations did
module _ (e : ℕ) (w v : State) (b : Beside e w v) where
  tables-of : map unlocked v.tables ≡ map unlocked w.tables
  tables-of = ap (λ (z : Sets). z.tables) (sym b.same)

  pairs_of : map by_ids (settled v).pairs ≡ map by_ids (keep (shown_by e) w.pairs)
  pairs_of = ids-standing v.pairs b.read.pairs ∙ ap (λ (z : Sets). z.pairs) (sym b.same)

  vectors-of : map by_ids (settled v).vectors ≡ map by_ids (keep (shown_by e) w.vectors)
  vectors-of = ids-standing v.vectors b.read.vectors ∙ ap (λ (z : Sets). z.vectors) (sym b.same)

  housed-same : all_of (λ p. has by_table (take 1 (by_ids p)) (settled v).tables) (settled v).pairs ≡ all_of (λ p. has by_table (take 1 (by_ids p)) w.tables) (keep (shown_by e) w.pairs)
  housed-same =
      sym (housed-of v.tables (settled v).pairs)
      ∙ ap (λ (ts : List TableEntry). housed ts (map by_ids (settled v).pairs)) tables-of
      ∙ ap (housed (map unlocked w.tables)) pairs_of
      ∙ housed-of w.tables (keep (shown_by e) w.pairs)

  owned-same : all_of (λ x. has by_ids (take 2 (by_ids x)) (settled v).pairs) (settled v).vectors ≡ all_of (λ x. has by_ids (take 2 (by_ids x)) (keep (shown_by e) w.pairs)) (keep (shown_by e) w.vectors)
  owned-same =
      sym (owned-of (settled v).pairs (settled v).vectors)
      ∙ ap (λ (ps : List (List ℕ)). owned ps (map by_ids (settled v).vectors)) pairs_of
      ∙ ap (owned (map by_ids (keep (shown_by e) w.pairs))) vectors-of
      ∙ owned-of (keep (shown_by e) w.pairs) (keep (shown_by e) w.vectors)

  none-behind : left_behind e w ≡ false
      → (all_of (λ x. has by_ids (take 2 (by_ids x)) (keep (shown_by e) w.pairs)) (keep (shown_by e) w.vectors) ≡ true)
      × (all_of (λ p. has by_table (take 1 (by_ids p)) w.tables) (keep (shown_by e) w.pairs) ≡ true)
  none-behind h = both _ _ (not-false _ h)

  pub none-tableless : left_behind e w ≡ false → tableless (settled v) ≡ false
  none-tableless h = rw (housed-same, (none-behind h).1)

  pub none-orphaned : left_behind e w ≡ false → without_orphans (settled v) ≡ settled v
  none-orphaned h = ap (with_vectors (settled v)) (keep_all _ (settled v).vectors (all_of-all _ (settled v).vectors (owned-same ∙ (none-behind h).0)))

  pub none_over : over_limit (settled v) ≡ false
  none_over =
      let t : length v.tables ≤ 16 = omega (arith, sym (length-map v.tables unlocked), ap length tables-of, length-map w.tables unlocked, b.few.tables) in
      let p = held (settled v).pairs w.pairs pairs_of b.few.pairs in
      let q = held (settled v).vectors w.vectors vectors-of b.few.vectors in
      rw (le-ltb 16 (length v.tables) t, le-ltb 256 (length (settled v).pairs) p, le-ltb 256 (length (settled v).vectors) q)
    where
      held : (l m : List Entry) → map by_ids l ≡ map by_ids (keep (shown_by e) m) → length m ≤ 256 → length l ≤ 256
      held l m h f = omega (arith, sym (length-map l by_ids), ap length h, length-map (keep (shown_by e) m) by_ids, length-keep (shown_by e) m, f)
