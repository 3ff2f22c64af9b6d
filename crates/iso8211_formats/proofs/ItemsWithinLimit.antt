-- One item after another, with a limit on the formats.
use Rattle.std.proofs.Common.{◌≡◌, ℕ, ◌+◌, ◌<◌, ◌≤◌, Bool, true, false, leb, eqb, List, [], ◌∷◌, ◌++◌, length, Option, Some, None, refl, sym, ap, ◌∙◌, inl, inr, arith, append_assoc, append-nil, length-append}
use Rattle.std.proofs.lemmas.Bool.{leb-false, lt-leb, le-leb, cases_Bool}
use Rattle.std.specs.Prelude.{option_map}
use Rattle.std.specs.List.{slice_split}
use Rattle.common_lemmas.proofs.Choices.{chosen}
use Rattle.iso8211_formats.specs.declared.format.Format.{Format}
use Rattle.iso8211_formats.specs.Reading.{◌>>=◌, when, cut_at, item_of, items_of, at_most, behind}
use Rattle.iso8211_formats.proofs.GivenValues.{guarded_some}
use Rattle.iso8211_formats.proofs.Cuts.{Lacks, cut_at_found}
use Rattle.iso8211_formats.proofs.Items.{onto_front, whole_part}

abbrev both : Option (List Format) → Option (List Format) → Option (List Format)
both first rest = first >>= λ f. rest >>= λ g. Some (f ++ g)

pub at_most-some : (most : ℕ) (formats : List Format) → length formats ≤ most → at_most most (Some formats) ≡ Some formats
unfolding at_most
at_most-some most formats few = rw (le-leb (length formats) most few) refl

over : (most : ℕ) (formats more : List Format) → when (leb (length formats) most) formats ≡ None → when (leb (length (formats ++ more)) most) (formats ++ more) ≡ None
over most formats more e =
    elim (cases_Bool (leb (length formats) most)) [
      | inl h ↦ absurd (let e' : when true formats ≡ None = ap (λ (b : Bool). when b formats) (sym h) ∙ e in cc)
      | inr h ↦
          let long : leb (length (formats ++ more)) most ≡ false = lt-leb _ _ (omega (arith, leb-false _ _ h, length-append formats more)) in
          rw long refl
    ]

more_ok : (most : ℕ) (formats new : List Format) (first rest : Option (List Format)) → at_most most (behind formats first) ≡ Some new → at_most most (behind formats (both first rest)) ≡ at_most most (behind new rest)
unfolding at_most behind
more_ok most formats new None rest e = absurd cc
more_ok most formats new (Some f) None e = refl
more_ok most formats new (Some f) (Some g) e =
    let made = guarded_some (leb (length (formats ++ f)) most) (formats ++ f) new e in
    ap (λ (fs : List Format). when (leb (length fs) most) fs) (sym (append_assoc formats f g) ∙ ap (λ (fs : List Format). fs ++ g) made.1)

more_bad : (most : ℕ) (formats : List Format) (first rest : Option (List Format)) → at_most most (behind formats first) ≡ None → at_most most (behind formats (both first rest)) ≡ None
unfolding at_most behind
more_bad most formats None rest e = refl
more_bad most formats (Some f) None e = refl
more_bad most formats (Some f) (Some g) e =
    ap (λ (fs : List Format). when (leb (length fs) most) fs) (sym (append_assoc formats f g)) ∙ over most (formats ++ f) g e

slice_split-cut : (rest : List ℕ) (parts : List ℕ × List ℕ) → cut_at 44 rest ≡ Some parts → slice_split (λ b. eqb b 44) rest ≡ parts.0 ∷ slice_split (λ b. eqb b 44) parts.1
slice_split-cut rest parts e =
    let f = cut_at_found 44 rest parts e in
    ap (slice_split (λ b. eqb b 44)) f.0 ∙ onto_front parts.0 parts.1 f.1

map_none : {A B : Type 0} (f : A → B) (o : Option A) → option_map f o ≡ None → o ≡ None
map_none f None e = refl
map_none f (Some x) e = absurd cc

-- where no such byte is found there is none
lacks_from_none : (byte : ℕ) (text : List ℕ) → cut_at byte text ≡ None → Lacks byte text
unfolding cut_at
lacks_from_none byte [] e = tt
lacks_from_none byte (x ∷ xs) e =
    elim (chosen (eqb x byte) (Some ([], xs)) (option_map (λ (p : List ℕ × List ℕ). (x ∷ p.0, p.1)) (cut_at byte xs)) None e) [
      | inl h ↦ absurd (let found = h.1 in cc)
      | inr h ↦ (h.0, lacks_from_none byte xs (map_none _ (cut_at byte xs) h.1))
    ]

slice_split-uncut : (rest : List ℕ) → cut_at 44 rest ≡ None → slice_split (λ b. eqb b 44) rest ≡ rest ∷ []
slice_split-uncut rest e = whole_part rest (lacks_from_none 44 rest e)

pub items_more : (most : ℕ) (formats new : List Format) (rest : List ℕ) (parts : List ℕ × List ℕ) → cut_at 44 rest ≡ Some parts → at_most most (behind formats (item_of parts.0)) ≡ Some new → at_most most (behind formats (items_of (slice_split (λ b. eqb b 44) rest))) ≡ at_most most (behind new (items_of (slice_split (λ b. eqb b 44) parts.1)))
unfolding items_of
items_more most formats new rest parts cut pushed =
    ap (λ (ts : List (List ℕ)). at_most most (behind formats (items_of ts))) (slice_split-cut rest parts cut) ∙ more_ok most formats new (item_of parts.0) (items_of (slice_split (λ b. eqb b 44) parts.1)) pushed

pub items_more_bad : (most : ℕ) (formats : List Format) (rest : List ℕ) (parts : List ℕ × List ℕ) → cut_at 44 rest ≡ Some parts → at_most most (behind formats (item_of parts.0)) ≡ None → at_most most (behind formats (items_of (slice_split (λ b. eqb b 44) rest))) ≡ None
unfolding items_of
items_more_bad most formats rest parts cut bad =
    ap (λ (ts : List (List ℕ)). at_most most (behind formats (items_of ts))) (slice_split-cut rest parts cut) ∙ more_bad most formats (item_of parts.0) (items_of (slice_split (λ b. eqb b 44) parts.1)) bad

both_nil : (o : Option (List Format)) → both o (Some []) ≡ o
both_nil None = refl
both_nil (Some f) = ap (λ (fs : List Format). Some fs) (append-nil f)

pub items_last : (most : ℕ) (formats : List Format) (rest : List ℕ) → cut_at 44 rest ≡ None → at_most most (behind formats (items_of (slice_split (λ b. eqb b 44) rest))) ≡ at_most most (behind formats (item_of rest))
unfolding items_of
items_last most formats rest cut =
    ap (λ (ts : List (List ℕ)). at_most most (behind formats (items_of ts))) (slice_split-uncut rest cut) ∙ ap (λ (o : Option (List Format)). at_most most (behind formats o)) (both_nil (item_of rest))

-- ---- one item

pub pushed_none : (most : ℕ) (formats : List Format) (o : Option (List Format)) → o ≡ None → at_most most (behind formats o) ≡ None
unfolding at_most behind
pushed_none most formats o e = rw e refl

pub pushed_over : (most : ℕ) (formats : List Format) (o : Option (List Format)) (more : List Format) → o ≡ Some more → most < length formats + length more → at_most most (behind formats o) ≡ None
unfolding at_most behind
pushed_over most formats o more e long =
    let test : leb (length (formats ++ more)) most ≡ false = lt-leb _ _ (omega (arith, length-append formats more)) in
    rw (e, test) refl

pub pushed : (most : ℕ) (formats new : List Format) (o : Option (List Format)) (more : List Format) → o ≡ Some more → length formats + length more ≤ most → new ≡ formats ++ more → at_most most (behind formats o) ≡ Some new
unfolding at_most behind
pushed most formats new o more e few same =
    let test : leb (length (formats ++ more)) most ≡ true = le-leb _ _ (omega (arith, length-append formats more)) in
    rw (e, test, same) refl

pub behind-nil : (o : Option (List Format)) → behind [] o ≡ o
unfolding behind
behind-nil None = refl
behind-nil (Some f) = refl
