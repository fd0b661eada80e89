-- Vectors over a rowset, among those of a table that are shown. Assumes nothing.
use mathlib.Core.Path.{◌≡◌, refl, sym, ◌∙◌}
use mathlib.Core.Bool.{Bool}
use mathlib.Core.List.{List, [], ◌∷◌}
use Prim.Native.Nat.{ℕ}
use lib.Dec.{eqb}
use Rattle.lists.specs.Keyed.{keep, any_of}
use Rattle.lists.proofs.Tests.{by_cases}
use Rattle.lists.proofs.Keyed.{any_of-map}
use Rattle.snapshot.specs.Entries.{Entry, by_ids, shown_by, of_table}
use Rattle.version_state.specs.State.{State}
use Rattle.table.specs.Made.{is_over}
use Rattle.compactor.specs.Selection.{any_over}
use Rattle.compactor.proofs.Taking.{rowset_at}

-- its rowset is r
abbrev pub over_rowset : ℕ → Entry → Bool
over_rowset r x = eqb (rowset_at x) r

any-kept : (t r : ℕ) (l : List Entry) → any_of (over_rowset r) (keep (of_table t) l) ≡ any_of (λ x. is_over t (r ∷ []) (by_ids x)) l
any-kept t r [] = refl
any-kept t r (x ∷ l) =
    by_cases (of_table t x) (λ e. by_cases (over_rowset r x) (λ f. rw (e, f)) (λ f. rw (e, f) (any-kept t r l))) (λ e. rw e (any-kept t r l))

pub any-shown : (t r : ℕ) (s : State) → any_of (over_rowset r) (keep (of_table t) (keep (shown_by s.epoch) s.vectors)) ≡ any_over t (r ∷ []) s
any-shown t r s = any-kept t r (keep (shown_by s.epoch) s.vectors) ∙ sym (any_of-map by_ids (is_over t (r ∷ [])) (keep (shown_by s.epoch) s.vectors))
