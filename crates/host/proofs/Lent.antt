-- What is handed on in the place of the numbers that crossed says the same. Assumes nothing.
use mathlib.Core.Path.{◌≡◌, refl, sym, ap, subst, ◌∙◌}
use mathlib.Core.Bool.{false}
use mathlib.Core.List.{List, [], map}
use Prim.Native.Nat.{ℕ, ◌+◌, ◌<◌, min}
use native.Mathlib.Omega.{arith}
use native.Mathlib.Numerals.{add-one}
use lib.Dec.{leb, ltb}
use lib.ListN.{length, take, get_or, set, length-map, get_or-map}
use lib.Seq.{take-suc, take-suc-set, take_all}
use borrow.Author.Tests.{leb-true, leb-false}
use Rattle.std.specs.Prelude.{Err}
use Rattle.lists.proofs.Tests.{by_cases}
use Rattle.lists.proofs.Views.{map-take, map-set}
use Rattle.ids.specs.declared.SecondaryRowHandler.{SecondaryRowHandler}
use Rattle.ids.specs.declared.refusal.Refusal.{Refusal}
use Rattle.ids.specs.declared.refusal.Refusal.TheVariants.{BadManager, Malformed}
use Rattle.ids.specs.Verdicts.{Verdict}
use Rattle.ids.specs.Answers.{Told}
use Rattle.ids.specs.Names.{longest_name}
use Rattle.text.specs.Name.{is_name}
use Rattle.manifest.specs.Operations.{Operation}
use Rattle.transaction.specs.Groups.{handle_of}
use Rattle.transaction.specs.Says.{most_handles}
use Rattle.version_manager.specs.declared.VersionManager.{VersionManager}
use Rattle.version_manager.specs.Answered.{Committed, Created}
use Rattle.version_manager.specs.Managers.{bad_manager}
use Rattle.version_manager.specs.Made.{MadeSays}
use Rattle.version_manager.specs.Create.{create_verdict, CreateSays}
use Rattle.version_manager.specs.Compact.{CompactSays}
use Rattle.host.specs.Arguments.{name_in, handle_in}

-- where the refusal is the same, what was to be committed makes no difference
refused-alike : (v w : Verdict) (k : Refusal) (os ps : List Operation) (is js : List ℕ) (m : VersionManager) (out : List ℕ) (t : Told) (n : VersionManager) (out' : List ℕ)
    → v ≡ Err k → w ≡ Err k → MadeSays v os is m out t n out' → MadeSays w ps js m out t n out'
refused-alike v w k os ps is js m out t n out' e f s =
    let z : MadeSays (Err k) os is m out t n out' = subst (λ (d : Verdict). MadeSays d os is m out t n out') e s in
    subst (λ (d : Verdict). MadeSays d ps js m out t n out') (sym f) (record { answer = z.answer; manager = z.manager; bytes = z.bytes })

no_name : (name : List ℕ) → leb (length name) longest_name ≡ false → is_name name ≡ false
unfolding is_name
no_name name h = by_cases (ltb 0 (length name)) (λ e. rw (e, h)) (λ e. rw e)

no_bytes : is_name [] ≡ false
unfolding is_name
no_bytes = refl

-- what is longer than any name is refused as the name without bytes is
module _ (m : VersionManager) (shape : ℕ) (name out : List ℕ) (r : Created) (out' : List ℕ) where
  long : leb (length name) longest_name ≡ false → CreateSays m shape [] out r out' → CreateSays m shape name out r out'
  long h s =
      by_cases (bad_manager m)
      (λ b. refused-alike (create_verdict m shape [] (length out)) (create_verdict m shape name (length out)) BadManager _ _ _ _ m out _ _ out' (rw b) (rw b) s)
      (λ b. refused-alike (create_verdict m shape [] (length out)) (create_verdict m shape name (length out)) (Malformed 0) _ _ _ _ m out _ _ out' (rw (b, no_bytes)) (rw (b, no_name name h)) s)

  pub created-named : (x : List ℕ) → x ≡ name_in name → CreateSays m shape x out r out' → CreateSays m shape name out r out'
  created-named x e s =
      by_cases (leb (length name) longest_name)
      (λ b. let i : name_in name ≡ name = rw b in subst (λ (y : List ℕ). CreateSays m shape y out r out') (e ∙ i) s)
      (λ b. let i : name_in name ≡ [] = rw b in long b (subst (λ (y : List ℕ). CreateSays m shape y out r out') (e ∙ i) s))

pub compacted-with : (m : VersionManager) (t : ℕ) (x y taken out : List ℕ) (r : Committed) (out' : List ℕ) → x ≡ y → CompactSays m t x taken out r out' → CompactSays m t y taken out r out'
compacted-with m t x y taken out r out' e s = subst (λ (z : List ℕ). CompactSays m t z taken out r out') e s

module _ (items : List SecondaryRowHandler) (ns : List ℕ) where
  -- one handle more: the first i are there
  pub handles-more : (i : ℕ) (h : SecondaryRowHandler) → i < length items → i < length ns → handle_of h ≡ handle_in (get_or ns i 0)
      → take i (map handle_of items) ≡ take i (map handle_in ns) → take (i + 1) (map handle_of (set items i h)) ≡ take (i + 1) (map handle_in ns)
  handles-more i h a b e s =
      let p : i < length (map handle_of items) = omega (arith, length-map items handle_of) in
      let q : i < length (map handle_in ns) = omega (arith, length-map ns handle_in) in
      rw (add-one, map-set handle_of i h items, take-suc-set (map handle_of items) i (handle_of h) p, take-suc (map handle_in ns) i (handle_in 0) q, get_or-map handle_in ns i 0, e, s)

  pub handles-done : (n : ℕ) → n ≡ min (length ns) most_handles → length items ≡ most_handles
      → take n (map handle_of items) ≡ take n (map handle_in ns) → map handle_of (take (length ns) items) ≡ map handle_in (take most_handles ns)
  handles-done n m f s =
      let all : map handle_of (take n items) ≡ map handle_in (take n ns) = sym (map-take handle_of n items) ∙ s ∙ map-take handle_in n ns in
      by_cases (leb (length ns) most_handles)
      (λ e. let l = leb-true (length ns) most_handles e in
      let j : n ≡ length ns = omega arith in
      subst (λ (k : ℕ). map handle_of (take k items) ≡ map handle_in (take k ns)) j all
      ∙ ap (map handle_in) (take_all (length ns) ns (omega arith) ∙ sym (take_all most_handles ns (omega arith))))
      (λ e. let l = leb-false (length ns) most_handles e in
      let j : n ≡ most_handles = omega arith in
      ap (map handle_of) (take_all (length ns) items (omega arith) ∙ sym (take_all most_handles items (omega arith)))
      ∙ subst (λ (k : ℕ). map handle_of (take k items) ≡ map handle_in (take k ns)) j all)
