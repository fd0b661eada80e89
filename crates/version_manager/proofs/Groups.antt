-- What a grouping tells of the method's own proposition. Assumes nothing.
use mathlib.Core.Path.{◌≡◌, refl, sym, ap, subst, ◌∙◌}
use mathlib.Core.Bool.{false}
use mathlib.Core.List.{List, [], ◌∷◌}
use Prim.Native.Nat.{ℕ, ◌+◌, ◌≤◌}
use lib.ListN.{length}
use borrow.Author.Tests.{ltb-false}
use Rattle.std.specs.Prelude.{Ok, Err, Result}
use Rattle.lists.specs.Written.{over}
use Rattle.ids.specs.Ids.{largest64}
use Rattle.ids.specs.declared.refusal.Refusal.{Refusal}
use Rattle.ids.specs.Verdicts.{judged, Verdict}
use Rattle.ids.specs.Answers.{told, after}
use Rattle.ids.proofs.Verdicts.{none-judged, accepted-with, refused-with}
use Rattle.transaction.specs.declared.Handles.{Handles}
use Rattle.transaction.specs.Groups.{handles_of, rowsets_in, lengths_in, counts_in, files_in, memories_in}
use Rattle.transaction.specs.Says.{group_rules, GroupIs}
use Rattle.version_manager.specs.declared.VersionManager.{VersionManager}
use Rattle.version_manager.specs.Answered.{Grouped}
use Rattle.version_manager.specs.Managers.{held_by, bad_manager, Manages, HandsBack}
use Rattle.version_manager.specs.Group.{group_told, vectors_drawn, grouped_by, group_verdict, GroupSays}

-- a grouping for a manager that passed 29
module _ (m : VersionManager) (h : Handles) (rs ls cs fs ms : List ℕ) (d : Result ℕ Refusal) (rs' ls' cs' fs' ms' : List ℕ)
    (b : bad_manager m ≡ false) (i : GroupIs (handles_of h) h.count (held_by m).next_vector rs ls cs fs ms d rs' ls' cs' fs' ms') where
  abbrev own : Verdict
  own = judged (group_rules (handles_of h) h.count (held_by m).next_vector (length rs) (length ls) (length cs) (length fs) (length ms))

  verdict-is : own ≡ group_verdict m h rs ls cs fs ms
  verdict-is = rw b refl

  -- the ids that are drawn fit
  pub group-fits : (n : ℕ) → d ≡ Ok n → (held_by m).next_vector + n ≤ largest64
  group-fits n a =
      let q = accepted-with own (length (grouped_by h)) n (sym i.answer ∙ a) in
      let z = none-judged (group_rules (handles_of h) h.count (held_by m).next_vector (length rs) (length ls) (length cs) (length fs) (length ms)) q.0 in
      rw (sym q.1) (ltb-false largest64 ((held_by m).next_vector + length (grouped_by h)) z.1.1.0)

  module _ (r : Grouped) where
    buffers : group_told r.answer ≡ told (group_verdict m h rs ls cs fs ms) (length (grouped_by h) ∷ (held_by m).next_vector ∷ [])
        → HandsBack (group_verdict m h rs ls cs fs ms) m (vectors_drawn (length (grouped_by h)) (held_by m)) r.manager → GroupSays m h rs ls cs fs ms r rs' ls' cs' fs' ms'
    buffers a k = record {
      answer = a;
      rowsets = i.rowsets ∙ ap (λ (v : Verdict). after v (over (rowsets_in (grouped_by h)) rs) rs) verdict-is;
      lengths = i.lengths ∙ ap (λ (v : Verdict). after v (over (lengths_in (grouped_by h)) ls) ls) verdict-is;
      counts = i.counts ∙ ap (λ (v : Verdict). after v (over (counts_in (grouped_by h)) cs) cs) verdict-is;
      files = i.files ∙ ap (λ (v : Verdict). after v (over (files_in (grouped_by h)) fs) fs) verdict-is;
      memories = i.memories ∙ ap (λ (v : Verdict). after v (over (memories_in (grouped_by h)) ms) ms) verdict-is;
      manager = k;
    }

    pub group-no : (k : Refusal) → d ≡ Err k → r.manager ≡ m → r.answer ≡ Err k → GroupSays m h rs ls cs fs ms r rs' ls' cs' fs' ms'
    group-no k v p a =
        let q : Err k ≡ group_verdict m h rs ls cs fs ms = sym (refused-with own (length (grouped_by h)) k (sym i.answer ∙ v)) ∙ verdict-is in
        buffers
        (rw a (ap (λ (x : Verdict). told x (length (grouped_by h) ∷ (held_by m).next_vector ∷ [])) q))
        (subst (λ (x : Verdict). HandsBack x m (vectors_drawn (length (grouped_by h)) (held_by m)) r.manager) q p)

    pub group-yes : (n : ℕ) → d ≡ Ok n → Manages r.manager (vectors_drawn n (held_by m)) → group_told r.answer ≡ told (Ok tt) (n ∷ (held_by m).next_vector ∷ [])
        → GroupSays m h rs ls cs fs ms r rs' ls' cs' fs' ms'
    group-yes n v p a =
        let w = accepted-with own (length (grouped_by h)) n (sym i.answer ∙ v) in
        let q : Ok tt ≡ group_verdict m h rs ls cs fs ms = sym w.0 ∙ verdict-is in
        buffers
        (a ∙ ap (λ (k : ℕ). told (Ok tt) (k ∷ (held_by m).next_vector ∷ [])) (sym w.1) ∙ ap (λ (x : Verdict). told x (length (grouped_by h) ∷ (held_by m).next_vector ∷ [])) q)
        (subst (λ (x : Verdict). HandsBack x m (vectors_drawn (length (grouped_by h)) (held_by m)) r.manager) q (subst (λ (k : ℕ). Manages r.manager (vectors_drawn k (held_by m))) (sym w.1) p))
