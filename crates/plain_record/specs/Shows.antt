-- What show gives, whatever is lent: the rows, refused by 9 alone. Assumes nothing.
use Rattle.std.specs.Prelude.{◌≡◌, Bool, ◌||◌, List, [], ◌∷◌, ◌++◌, map, ℕ, ◌*◌, ltb, length}
use Rattle.lists.specs.Written.{over}
use Rattle.ids.specs.declared.refusal.Refusal.TheVariants.{OutputTooShort}
use Rattle.ids.specs.Names.{longest_name}
use Rattle.ids.specs.Verdicts.{◌⇒◌, judged, Verdict}
use Rattle.ids.specs.Answers.{told, after}
use Rattle.show.specs.Names.{padded}
use Rattle.show.specs.Says.{show_told, shown_field, ShowAnswer}
use Rattle.manifest.specs.Edits.{Table}
use Rattle.plain_record.specs.Run.{Steps, World}

abbrev pub nine_alone : Bool → Verdict
nine_alone short = judged ((short ⇒ OutputTooShort) ∷ [])

-- the names of tables, 32 bytes each
abbrev pub names_of : List Table → List ℕ
names_of [] = []
names_of (t ∷ l) = padded t.name ++ names_of l

module _ (S : Steps) (w : World) (d : ℕ) where
  abbrev pub ShowsPairs : List (List ℕ) → Type 0
  ShowsPairs l =
      (ts rs : List ℕ) (a : ShowAnswer) (ts' rs' : List ℕ) → S.show_pairs w.manager w.book d ts rs a ts' rs'
      → let v = nine_alone (ltb (length ts) (length l) || ltb (length rs) (length l)) in
      (show_told a ≡ told v (length l ∷ [])) × (ts' ≡ after v (over (shown_field 0 l) ts) ts) × (rs' ≡ after v (over (shown_field 1 l) rs) rs)

  abbrev pub ShowsVectors : List (List ℕ) → Type 0
  ShowsVectors l =
      (ts rs vs : List ℕ) (a : ShowAnswer) (ts' rs' vs' : List ℕ) → S.show_vectors w.manager w.book d ts rs vs a ts' rs' vs'
      → let v = nine_alone (ltb (length ts) (length l) || (ltb (length rs) (length l) || ltb (length vs) (length l))) in
      (show_told a ≡ told v (length l ∷ [])) × (ts' ≡ after v (over (shown_field 0 l) ts) ts) × (rs' ≡ after v (over (shown_field 1 l) rs) rs) × (vs' ≡ after v (over (shown_field 2 l) vs) vs)

  abbrev pub ShowsTables : List Table → Type 0
  ShowsTables l =
      (is hs ls ns : List ℕ) (a : ShowAnswer) (is' hs' ls' ns' : List ℕ) → S.show_tables w.manager w.book d is hs ls ns a is' hs' ls' ns'
      → let v = nine_alone (ltb (length is) (length l) || (ltb (length hs) (length l) || (ltb (length ls) (length l) || ltb (length ns) (longest_name * length l)))) in
      (show_told a ≡ told v (length l ∷ []))
      × (is' ≡ after v (over (map (λ (t : Table). t.id) l) is) is)
      × (hs' ≡ after v (over (map (λ (t : Table). t.shape) l) hs) hs)
      × (ls' ≡ after v (over (map (λ (t : Table). length t.name) l) ls) ls)
      × (ns' ≡ after v (over (names_of l) ns) ns)
