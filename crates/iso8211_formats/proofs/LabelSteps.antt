-- One label after another.
use Rattle.std.proofs.Common.{◌≡◌, ℕ, suc, ◌+◌, ◌≤◌, Bool, true, false, eqb, List, [], ◌∷◌, ◌++◌, length, take, get_or, Option, Some, None, is_some, refl, sym, ap, ◌∙◌, inl, inr, arith, append_assoc, add-one}
use Rattle.std.specs.Prelude.{option_map}
use Rattle.std.proofs.lemmas.Bool.{cases_Bool, eqb-true, eq-eqb, ne_eqb}
use Rattle.common_lemmas.proofs.Choices.{chosen, map_some}
use Rattle.iso8211_formats.specs.Reading.{when, plain_labels, grouped_labels, closed_label}

pub plain_labels-more : (text : List ℕ) (parts : List ℕ × List ℕ) → closed_label text ≡ Some parts → plain_labels text ≡ option_map (λ labels. parts.0 ∷ labels) (plain_labels parts.1)
unfolding closed_label plain_labels
plain_labels-more [] parts e = absurd cc
plain_labels-more (a ∷ []) parts e = absurd cc
plain_labels-more (a ∷ b ∷ []) parts e = absurd cc
plain_labels-more (a ∷ b ∷ c ∷ []) parts e = absurd cc
plain_labels-more (a ∷ b ∷ c ∷ d ∷ []) parts e = absurd cc
plain_labels-more (a ∷ b ∷ c ∷ d ∷ x ∷ rest) parts e =
    elim (chosen (eqb x 33) (Some (a ∷ b ∷ c ∷ d ∷ [], rest)) None (Some parts) e) [
      | inl h ↦
          let same : ◌≡◌ {A = List ℕ × List ℕ} (a ∷ b ∷ c ∷ d ∷ [], rest) parts = let found = h.1 in cc in
          rw (h.0, ← same) refl
      | inr h ↦ absurd (let none = h.1 in cc)
    ]

pub plain_labels-last : (text : List ℕ) → closed_label text ≡ None → plain_labels text ≡ when (eqb (length text) 4) (text ∷ [])
unfolding closed_label plain_labels
plain_labels-last [] e = refl
plain_labels-last (a ∷ []) e = refl
plain_labels-last (a ∷ b ∷ []) e = refl
plain_labels-last (a ∷ b ∷ c ∷ []) e = refl
plain_labels-last (a ∷ b ∷ c ∷ d ∷ []) e = refl
plain_labels-last (a ∷ b ∷ c ∷ d ∷ x ∷ rest) e =
    let more : eqb (length (a ∷ b ∷ c ∷ d ∷ x ∷ rest)) 4 ≡ false = ne_eqb _ _ (λ h. omega (arith, h)) in
    elim (chosen (eqb x 33) (Some (a ∷ b ∷ c ∷ d ∷ [], rest)) None None e) [
      | inl h ↦ absurd (let found = h.1 in cc)
      | inr h ↦ rw (h.0, more) refl
    ]

pub take_four : (text : List ℕ) → 4 ≤ length text → get_or text 0 0 ∷ get_or text 1 0 ∷ get_or text 2 0 ∷ get_or text 3 0 ∷ [] ≡ take 4 text
take_four [] lt = absurd (omega arith)
take_four (a ∷ []) lt = absurd (omega arith)
take_four (a ∷ b ∷ []) lt = absurd (omega arith)
take_four (a ∷ b ∷ c ∷ []) lt = absurd (omega arith)
take_four (a ∷ b ∷ c ∷ d ∷ rest) lt = refl

-- where no group begins here
abbrev pub NoGroup : List ℕ → Type 0
NoGroup text = (group : List ℕ) → text ≡ 42 ∷ group → plain_labels group ≡ None

pub grouped_labels-more : (place : ℕ) (text : List ℕ) (parts : List ℕ × List ℕ) → NoGroup text → closed_label text ≡ Some parts → grouped_labels place text ≡ option_map (λ found. (parts.0 ∷ found.0, found.1)) (grouped_labels (suc place) parts.1)
unfolding closed_label grouped_labels
grouped_labels-more place [] parts other e = absurd cc
grouped_labels-more place (a ∷ []) parts other e = absurd cc
grouped_labels-more place (a ∷ b ∷ []) parts other e = absurd cc
grouped_labels-more place (a ∷ b ∷ c ∷ []) parts other e = absurd cc
grouped_labels-more place (a ∷ b ∷ c ∷ d ∷ []) parts other e = absurd cc
grouped_labels-more place (a ∷ b ∷ c ∷ d ∷ x ∷ rest) parts other e =
    elim (chosen (eqb x 33) (Some (a ∷ b ∷ c ∷ d ∷ [], rest)) None (Some parts) e) [
      | inl h ↦
          let same : ◌≡◌ {A = List ℕ × List ℕ} (a ∷ b ∷ c ∷ d ∷ [], rest) parts = let found = h.1 in cc in
          elim (cases_Bool (eqb a 42)) [
            | inl mark ↦
                let begins : a ∷ b ∷ c ∷ d ∷ x ∷ rest ≡ 42 ∷ b ∷ c ∷ d ∷ x ∷ rest = ap (λ (y : ℕ). y ∷ b ∷ c ∷ d ∷ x ∷ rest) (eqb-true a 42 mark) in
                let no_group : plain_labels (b ∷ c ∷ d ∷ x ∷ rest) ≡ None = other (b ∷ c ∷ d ∷ x ∷ rest) begins in
                rw (mark, no_group, h.0, ← same) refl
            | inr mark ↦ rw (mark, h.0, ← same) refl
          ]
      | inr h ↦ absurd (let none = h.1 in cc)
    ]

pub grouped_labels-none : (place : ℕ) (text : List ℕ) → NoGroup text → closed_label text ≡ None → grouped_labels place text ≡ None
unfolding closed_label grouped_labels
grouped_labels-none place [] other e = refl
grouped_labels-none place (a ∷ []) other e = refl
grouped_labels-none place (a ∷ b ∷ []) other e = refl
grouped_labels-none place (a ∷ b ∷ c ∷ []) other e = refl
grouped_labels-none place (a ∷ b ∷ c ∷ d ∷ []) other e = refl
grouped_labels-none place (a ∷ b ∷ c ∷ d ∷ x ∷ rest) other e =
    elim (chosen (eqb x 33) (Some (a ∷ b ∷ c ∷ d ∷ [], rest)) None None e) [
      | inl h ↦ absurd (let found = h.1 in cc)
      | inr h ↦
          elim (cases_Bool (eqb a 42)) [
            | inl mark ↦
                let begins : a ∷ b ∷ c ∷ d ∷ x ∷ rest ≡ 42 ∷ b ∷ c ∷ d ∷ x ∷ rest = ap (λ (y : ℕ). y ∷ b ∷ c ∷ d ∷ x ∷ rest) (eqb-true a 42 mark) in
                let no_group : plain_labels (b ∷ c ∷ d ∷ x ∷ rest) ≡ None = other (b ∷ c ∷ d ∷ x ∷ rest) begins in
                rw (mark, no_group, h.0) refl
            | inr mark ↦ rw (mark, h.0) refl
          ]
    ]

grouped_labels-group : (place : ℕ) (group : List ℕ) (labels : List (List ℕ)) → plain_labels group ≡ Some labels → grouped_labels place (42 ∷ group) ≡ Some (labels, place)
unfolding grouped_labels plain_labels
grouped_labels-group place [] labels e = absurd cc
grouped_labels-group place (a ∷ []) labels e = absurd cc
grouped_labels-group place (a ∷ b ∷ []) labels e = absurd cc
grouped_labels-group place (a ∷ b ∷ c ∷ []) labels e = absurd cc
grouped_labels-group place (a ∷ b ∷ c ∷ d ∷ rest) labels e = rw e refl

-- ---- with the labels so far

abbrev pub after : List (List ℕ) → Option (List (List ℕ) × ℕ) → Option (List (List ℕ) × ℕ)
after labels found = option_map (λ (q : List (List ℕ) × ℕ). (labels ++ q.0, q.1)) found

after-more : (labels : List (List ℕ)) (label : List ℕ) (found : Option (List (List ℕ) × ℕ)) → after labels (option_map (λ q. (label ∷ q.0, q.1)) found) ≡ after (labels ++ label ∷ []) found
after-more labels label None = refl
after-more labels label (Some q) = ap (λ (ls : List (List ℕ)). Some (ls, q.1)) (sym (append_assoc labels (label ∷ []) q.0))

pub grouped_done : (labels new : List (List ℕ)) (place : ℕ) (rest group : List ℕ) (whole : Option (List (List ℕ) × ℕ)) → rest ≡ 42 ∷ group → option_map (λ more. labels ++ more) (plain_labels group) ≡ Some new → after labels (grouped_labels place rest) ≡ whole → whole ≡ Some (new, place)
grouped_done labels new place rest group whole begins pushed same =
    let m = map_some (λ (more : List (List ℕ)). labels ++ more) (plain_labels group) new pushed in
    sym same ∙ ap (λ (t : List ℕ). after labels (grouped_labels place t)) begins ∙ ap (after labels) (grouped_labels-group place group m.0 m.1) ∙ ap (λ (ls : List (List ℕ)). Some (ls, place)) m.2

pub grouped_next : (labels : List (List ℕ)) (place : ℕ) (rest : List ℕ) (parts : List ℕ × List ℕ) (whole : Option (List (List ℕ) × ℕ)) → NoGroup rest → closed_label rest ≡ Some parts → after labels (grouped_labels place rest) ≡ whole → after (labels ++ parts.0 ∷ []) (grouped_labels (place + 1) parts.1) ≡ whole
grouped_next labels place rest parts whole other e same =
    ap (λ (n : ℕ). after (labels ++ parts.0 ∷ []) (grouped_labels n parts.1)) (add-one place) ∙ sym (after-more labels parts.0 (grouped_labels (suc place) parts.1)) ∙ sym (ap (after labels) (grouped_labels-more place rest parts other e)) ∙ same

pub grouped_bad : (labels : List (List ℕ)) (place : ℕ) (rest : List ℕ) (whole : Option (List (List ℕ) × ℕ)) → NoGroup rest → closed_label rest ≡ None → after labels (grouped_labels place rest) ≡ whole → whole ≡ None
grouped_bad labels place rest whole other e same = sym same ∙ ap (after labels) (grouped_labels-none place rest other e)

-- ---- the same without a mark

abbrev pub pushed : List (List ℕ) → Option (List (List ℕ)) → Option (List (List ℕ))
pushed labels more = option_map (λ (ls : List (List ℕ)). labels ++ ls) more

pushed-more : (labels : List (List ℕ)) (label : List ℕ) (more : Option (List (List ℕ))) → pushed labels (option_map (λ ls. label ∷ ls) more) ≡ pushed (labels ++ label ∷ []) more
pushed-more labels label None = refl
pushed-more labels label (Some ls) = ap (λ (all : List (List ℕ)). Some all) (sym (append_assoc labels (label ∷ []) ls))

pub plain_next : (labels : List (List ℕ)) (rest : List ℕ) (parts : List ℕ × List ℕ) (whole : Option (List (List ℕ))) → closed_label rest ≡ Some parts → pushed labels (plain_labels rest) ≡ whole → pushed (labels ++ parts.0 ∷ []) (plain_labels parts.1) ≡ whole
plain_next labels rest parts whole e same =
    sym (pushed-more labels parts.0 (plain_labels parts.1)) ∙ sym (ap (pushed labels) (plain_labels-more rest parts e)) ∙ same

is_some-map : {A B : Type 0} (f : A → B) (o : Option A) → is_some (option_map f o) ≡ is_some o
is_some-map f None = refl
is_some-map f (Some x) = refl

pub is_plain_next : (rest : List ℕ) (parts : List ℕ × List ℕ) → closed_label rest ≡ Some parts → is_some (plain_labels rest) ≡ is_some (plain_labels parts.1)
is_plain_next rest parts e = ap is_some (plain_labels-more rest parts e) ∙ is_some-map (λ ls. parts.0 ∷ ls) (plain_labels parts.1)

is_some-guarded : {A : Type 0} (b : Bool) (x : A) → is_some (when b x) ≡ b
is_some-guarded true x = refl
is_some-guarded false x = refl

pub is_plain_last : (rest : List ℕ) → closed_label rest ≡ None → is_some (plain_labels rest) ≡ eqb (length rest) 4
is_plain_last rest e = ap is_some (plain_labels-last rest e) ∙ is_some-guarded (eqb (length rest) 4) (rest ∷ [])

pub plain_last : (labels : List (List ℕ)) (rest : List ℕ) (whole : Option (List (List ℕ))) → closed_label rest ≡ None → length rest ≡ 4 → pushed labels (plain_labels rest) ≡ whole → whole ≡ Some (labels ++ rest ∷ [])
plain_last labels rest whole e four same =
    sym same ∙ ap (pushed labels) (plain_labels-last rest e) ∙ ap (λ (b : Bool). pushed labels (when b (rest ∷ []))) (eq-eqb (length rest) 4 four)
