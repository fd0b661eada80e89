-- The story of a compaction and a reopen follows from the claim. Assumes nothing.
use mathlib.Core.Path.{◌≡◌, refl, sym, ap, subst, ◌∙◌}
use mathlib.Core.Bool.{Bool, true, false, cond, not, ◌&&◌, ◌||◌}
use mathlib.Core.List.{List, [], ◌∷◌, ◌++◌, map}
use Prim.Native.Nat.{ℕ}
use native.Mathlib.Omega.{arith}
use lib.Dec.{eqb}
use lib.ListN.{length}
use borrow.Author.Tests.{eq-eqb}
use Rattle.lists.specs.Order.{same}
use Rattle.lists.specs.Keyed.{keep, all_of, any_of}
use Rattle.lists.proofs.Tests.{by_cases, clash, both, not_or}
use Rattle.lists.proofs.Keyed.{all_any, keep-keep, keep_same, keep_all}
use Rattle.manifest.specs.Operations.{Operation, add_rowset, delete_rowset}
use Rattle.std.specs.Prelude.{Some, None}
use Rattle.compaction.specs.New.{NewRowset, new_of}
use Rattle.table.specs.Made.{delete_vector_of, is_over, compact_operations}
use Rattle.table.specs.Laws.{pairs_with, put_all}
use Rattle.version_manager.specs.Managers.{held_by}
use Rattle.plain_record.specs.Sets.{Sets, apply_all}
use Rattle.plain_record.specs.Calls.{Call, Kind, quiet, as_commit, as_pin, as_unpin, as_vacuum, as_report, as_checkpoint, as_reopen, kind_of}
use Rattle.plain_record.specs.Plain.{Plain, epoch_of, Record, at_start, turn}
use Rattle.plain_record.specs.Run.{Steps, World, Event, is_accepted, value, port, Chain, last_of}
use Rattle.plain_record.specs.Shows.{ShowsPairs}
use Rattle.plain_record.specs.Claim.{Agrees, next_record, record_of, Claim}
use Rattle.plain_record.specs.Story.{merged, is_still, commits_nothing, Story}
use Rattle.plain_record.proofs.CommitShows.{shows-now}

-- Runs cut in two.

pub chain-front : (S : Steps) (w : World) (es fs : List Event) → Chain S w (es ++ fs) → Chain S w es
chain-front S w [] fs k = tt
chain-front S w (e ∷ es) fs k = (k.0, k.1, chain-front S e.after es fs k.2)

pub chain_back : (S : Steps) (w : World) (es fs : List Event) → Chain S w (es ++ fs) → Chain S (last_of w es) fs
chain_back S w [] fs k = k
chain_back S w (e ∷ es) fs k = chain_back S e.after es fs k.2

pub last-append : (w : World) (es fs : List Event) → last_of w (es ++ fs) ≡ last_of (last_of w es) fs
last-append w [] fs = refl
last-append w (e ∷ es) fs = last-append e.after es fs

pub record-append : (r : Record) (es fs : List Event) → record_of r (es ++ fs) ≡ record_of (record_of r es) fs
record-append r [] fs = refl
record-append r (e ∷ es) fs = record-append (next_record r e) es fs

-- What a compaction does to pairs.

all_append : (os ps : List Operation) (s : Sets) → apply_all (os ++ ps) s ≡ apply_all ps (apply_all os s)
all_append [] ps s = refl
all_append (o ∷ os) ps s = all_append os ps _

pairs-added : (t : ℕ) (n : NewRowset) (s : Sets) → (apply_all (map (add_rowset t) (new_of n)) s).pairs ≡ put_all (pairs_with t (new_of n)) s.pairs
pairs-added t None s = refl
pairs-added t (Some r) s = refl

pairs-stay : (ks : List (List ℕ)) (s : Sets) → (apply_all (map delete_vector_of ks) s).pairs ≡ s.pairs
pairs-stay [] s = refl
pairs-stay (k ∷ ks) s = pairs-stay ks _

pairs-taken : (t : ℕ) (rs : List ℕ) (s : Sets) → (apply_all (map (delete_rowset t) rs) s).pairs ≡ keep (λ k. not (any_of (same k) (pairs_with t rs))) s.pairs
pairs-taken t [] s = sym (keep_all (λ k. true) s.pairs (all_any s.pairs (λ k. refl)))
pairs-taken t (r ∷ rs) s =
    pairs-taken t rs _
    ∙ keep-keep (λ k. not (any_of (same k) (pairs_with t rs))) (λ k. not (same k (t ∷ r ∷ []))) s.pairs
    ∙ keep_same _ (λ k. not (any_of (same k) (pairs_with t (r ∷ rs)))) s.pairs (all_any s.pairs (λ k. not_or (same k (t ∷ r ∷ [])) (any_of (same k) (pairs_with t rs))))

pairs-merged : (t : ℕ) (n : NewRowset) (rs : List ℕ) (s : Sets) → (apply_all (compact_operations t (new_of n) rs s.vectors) s).pairs ≡ merged t (new_of n) rs s.pairs
pairs-merged t n rs s =
    let vs = map delete_vector_of (keep (is_over t rs) s.vectors) in
    let a = apply_all (map (add_rowset t) (new_of n)) s in
    let q : List (List ℕ) → List (List ℕ) = keep (λ k. not (any_of (same k) (pairs_with t rs))) in
    ap (λ (z : Sets). z.pairs) (all_append (map (add_rowset t) (new_of n)) (vs ++ map (delete_rowset t) rs) s ∙ all_append vs (map (delete_rowset t) rs) a)
    ∙ pairs-taken t rs (apply_all vs a)
    ∙ ap q (pairs-stay (keep (is_over t rs) s.vectors) a)
    ∙ ap q (pairs-added t n s)

-- Between the compaction and the reopen: the last sets are z, and a reopen would find z or b.
record Between (b z : Sets) (r : Record) : Type 0 where
  whole : r.whole.now ≡ z
  landed : Bool
  torn : r.torn.now ≡ cond landed z b

settled : (b z : Sets) (r u : Record) → Between b z r → u.whole.now ≡ r.whole.now → u.torn.now ≡ r.whole.now → Between b z u
settled b z r u h p q = record { whole = p ∙ h.whole; landed = true; torn = q ∙ h.whole }

still-turn : (b z : Sets) (k : Kind) (a : Bool) (id : ℕ) (r : Record) → not a || is_still k ≡ true → Between b z r → Between b z (turn k a id r)
still-turn b z quiet true id r s h = settled b z r _ h refl refl
still-turn b z (as_commit made missing) true id r s h = clash s refl
still-turn b z as_pin true id r s h = settled b z r _ h refl refl
still-turn b z (as_unpin e) true id r s h = settled b z r _ h refl refl
still-turn b z as_vacuum true id r s h = settled b z r _ h refl refl
still-turn b z (as_report n) true id r s h = clash s refl
still-turn b z (as_checkpoint lent) true id r s h = settled b z r _ h refl refl
still-turn b z (as_reopen lent) true id r s h = clash s refl
still-turn b z k false id r s h = record { whole = h.whole; landed = h.landed; torn = h.torn }

still-turns : (b z : Sets) (r : Record) (qs : List Event) → all_of commits_nothing qs ≡ true → Between b z r → Between b z (record_of r qs)
still-turns b z r [] s h = h
still-turns b z r (q ∷ qs) s h =
    let d = both (commits_nothing q) (all_of commits_nothing qs) s in
    still-turns b z (next_record r q) qs d.1 (still-turn b z (kind_of q.call) (is_accepted q.told) (value 0 q.told) r d.0 h)

counted-between : (made : ℕ → Sets → List Operation) (missing id : ℕ) (r : Record) → Between r.whole.now (apply_all (made id r.whole.now) r.whole.now) (turn (as_commit made missing) true id r)
counted-between made missing id r =
    by_cases (eqb missing 0)
    (λ e. record { whole = refl; landed = true; torn = rw e })
    (λ e. record { whole = refl; landed = false; torn = rw e })

-- the pairs that the current epoch shows are the record's last ones
shows-last : (w : World) (p : Plain) → Agrees port w p → ShowsPairs port w (epoch_of p) p.now.pairs
shows-last w p a =
    subst (λ (z : Sets). ShowsPairs port w (epoch_of p) z.pairs) (shows-now p.past p.now (epoch_of p) (omega arith))
    (a.pairs (epoch_of p) (rw (eq-eqb (epoch_of p) (epoch_of p) refl)))

pub story : Claim port → Story port
story claim w es c qs o t n taken out missing lent stale s k was took quiet-calls o-call opens =
    let rest = c ∷ (qs ++ (o ∷ [])) in
    let r = record_of at_start es in
    let b = r.whole.now in
    let before : c.before ≡ last_of w es = (chain_back port w es rest k).0 in
    let first = (claim w es s (chain-front port w es rest k)).agrees in
    let shown = shows-last (last_of w es) r.whole first in
    let l = b.pairs in
    let one : ShowsPairs port c.before (held_by c.before.manager).epoch l =
    rw before (subst (λ (d : ℕ). ShowsPairs port (last_of w es) d l) (sym first.epoch) shown) in
    let z = apply_all (compact_operations t (new_of n) taken b.vectors) b in
    let made : Between b z (next_record r c) =
    subst (λ (x : Call). Between b z (turn (kind_of x) (is_accepted c.told) (value 0 c.told) r)) (sym was)
    (subst (λ (y : Bool). Between b z (turn (as_commit (λ id s. compact_operations t (new_of n) taken s.vectors) missing) y (value 0 c.told) r)) (sym took)
    (counted-between (λ id s. compact_operations t (new_of n) taken s.vectors) missing (value 0 c.told) r)) in
    let u = record_of (next_record r c) qs in
    let kept = still-turns b z (next_record r c) qs quiet-calls made in
    let all = (claim w (es ++ rest) s k).agrees in
    let ends : last_of w (es ++ rest) ≡ o.after = last-append w es rest ∙ last-append c.after qs (o ∷ []) in
    let last : record_of at_start (es ++ rest) ≡ next_record u o = record-append at_start es rest ∙ record-append (next_record r c) qs (o ∷ []) in
    let opened : next_record u o ≡ turn (as_reopen (length lent)) true (value 0 o.told) u =
    ap (λ (x : Call). turn (kind_of x) (is_accepted o.told) (value 0 o.told) u) o-call ∙ ap (λ (y : Bool). turn (as_reopen (length lent)) y (value 0 o.told) u) opens in
    let two = shows-last o.after (turn (as_reopen (length lent)) true (value 0 o.told) u).whole (subst (λ (x : World). Agrees port x (turn (as_reopen (length lent)) true (value 0 o.told) u).whole) ends (subst (λ (x : Record). Agrees port (last_of w (es ++ rest)) x.whole) (last ∙ opened) all)) in
    (l, one, (kept.landed, subst (λ (m : List (List ℕ)). ShowsPairs port o.after 1 m) (ap (λ (x : Sets). x.pairs) kept.torn ∙ choose kept.landed b z (pairs-merged t n taken b)) two))
  where
    choose : (a : Bool) (b z : Sets) {m : List (List ℕ)} → z.pairs ≡ m → (cond a z b).pairs ≡ cond a m b.pairs
    choose true b z h = h
    choose false b z h = refl
