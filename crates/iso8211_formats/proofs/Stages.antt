-- The whole field, stage by stage.
use Rattle.std.proofs.Common.{◌≡◌, ℕ, ◌<◌, ◌≤◌, Bool, true, false, eqb, leb, List, length, Option, Some, None, refl, sym, ap, ◌∙◌, inl, inr, arith}
use Rattle.std.proofs.lemmas.Bool.{leb-false, le-leb, lt-leb, eq-eqb, ne_eqb, and_right, cases_Bool}
use Rattle.iso8211_formats.specs.declared.format.Format.{Format}
use Rattle.iso8211_formats.specs.Reading.{◌>>=◌, when, parts_of, labels_of, formats_of, at_most, layout_with, descriptor_of}
use Rattle.iso8211_formats.proofs.GivenValues.{bind_some, guarded_some}
use Rattle.iso8211_formats.proofs.LabelTexts.{length-labels_of}

abbrev Parts : Type 0
Parts = List ℕ × List ℕ

abbrev Labels : Type 0
Labels = List (List ℕ) × Option ℕ

pub no_parts : (field : List ℕ) → parts_of field ≡ None → descriptor_of field ≡ None
unfolding descriptor_of
no_parts field e = rw e refl

with_parts : (field : List ℕ) (parts : Parts) → parts_of field ≡ Some parts → descriptor_of field ≡ (labels_of parts.0 >>= λ labels. formats_of parts.1 >>= λ formats. layout_with labels formats)
unfolding descriptor_of
with_parts field parts e = rw e refl

with_labels : (field : List ℕ) (parts : Parts) (labels : Labels) → parts_of field ≡ Some parts → labels_of parts.0 ≡ Some labels → descriptor_of field ≡ (formats_of parts.1 >>= layout_with labels)
with_labels field parts labels e l = with_parts field parts e ∙ ap (λ (o : Option Labels). o >>= λ ls. formats_of parts.1 >>= λ formats. layout_with ls formats) l

with_formats : (field : List ℕ) (parts : Parts) (labels : Labels) (formats : List Format) → parts_of field ≡ Some parts → labels_of parts.0 ≡ Some labels → formats_of parts.1 ≡ Some formats → descriptor_of field ≡ layout_with labels formats
with_formats field parts labels formats e l f = with_labels field parts labels e l ∙ ap (λ (o : Option (List Format)). o >>= layout_with labels) f

many_labels : (labels : Labels) (formats : List Format) → 64 < length labels.0 → layout_with labels formats ≡ None
unfolding layout_with
many_labels labels formats many = let no_few : leb (length labels.0) 64 ≡ false = lt-leb _ _ many in rw no_few refl

other_count : (labels : Labels) (formats : List Format) → (length formats ≡ length labels.0 → ⊥) → layout_with labels formats ≡ None
unfolding layout_with
other_count labels formats other =
    let not_as_many : eqb (length formats) (length labels.0) ≡ false = ne_eqb _ _ other in
    rw (and_right (leb (length labels.0) 64) (eqb (length formats) (length labels.0)) not_as_many) refl

-- where each choice gives nothing
nothing_after : {A B : Type 0} (o : Option A) (f : A → Option B) → ((x : A) → o ≡ Some x → f x ≡ None) → (o >>= f) ≡ None
nothing_after None f each = refl
nothing_after (Some x) f each = each x refl

pub long_array : (field : List ℕ) (parts : Parts) → parts_of field ≡ Some parts → 320 < length parts.0 → descriptor_of field ≡ None
long_array field parts e long =
    with_parts field parts e
    ∙ nothing_after (labels_of parts.0) _ (λ labels l. nothing_after (formats_of parts.1) (layout_with labels) (λ formats f. many_labels labels formats (omega (arith, length-labels_of parts.0 labels l, long))))

pub no_labels : (field : List ℕ) (parts : Parts) → parts_of field ≡ Some parts → labels_of parts.0 ≡ None → descriptor_of field ≡ None
no_labels field parts e l = with_parts field parts e ∙ ap (λ (o : Option Labels). o >>= λ ls. formats_of parts.1 >>= λ formats. layout_with ls formats) l

over_limit : (most : ℕ) (formats : List Format) → at_most most (Some formats) ≡ None → most < length formats
unfolding at_most
over_limit most formats e =
    elim (cases_Bool (leb (length formats) most)) [
      | inl h ↦ absurd (let e' : when true formats ≡ None = ap (λ (b : Bool). when b formats) (sym h) ∙ e in cc)
      | inr h ↦ leb-false _ _ h
    ]

pub no_formats : (field : List ℕ) (parts : Parts) (labels : Labels) (most : ℕ) → parts_of field ≡ Some parts → labels_of parts.0 ≡ Some labels → length labels.0 ≤ most → at_most most (formats_of parts.1) ≡ None → descriptor_of field ≡ None
no_formats field parts labels most e l few f =
    with_labels field parts labels e l
    ∙ nothing_after (formats_of parts.1) (layout_with labels) (λ formats g. let over = over_limit most formats (ap (at_most most) (sym g) ∙ f) in other_count labels formats (λ same. omega (arith, over, same)))

within_limit : (most : ℕ) (read : Option (List Format)) (formats : List Format) → at_most most read ≡ Some formats → read ≡ Some formats
unfolding at_most
within_limit most read formats e =
    let b = bind_some read (λ (fs : List Format). when (leb (length fs) most) fs) formats e in
    b.1 ∙ ap (λ (fs : List Format). Some fs) (guarded_some (leb (length b.0) most) b.0 formats b.2).1

pub not_as_many : (field : List ℕ) (parts : Parts) (labels : Labels) (most : ℕ) (formats : List Format) → parts_of field ≡ Some parts → labels_of parts.0 ≡ Some labels → at_most most (formats_of parts.1) ≡ Some formats → (length formats ≡ length labels.0 → ⊥) → descriptor_of field ≡ None
not_as_many field parts labels most formats e l f other =
    with_formats field parts labels formats e l (within_limit most _ formats f) ∙ other_count labels formats other

pub made : (field : List ℕ) (parts : Parts) (labels : Labels) (most : ℕ) (formats : List Format) → parts_of field ≡ Some parts → labels_of parts.0 ≡ Some labels → at_most most (formats_of parts.1) ≡ Some formats → length labels.0 ≤ 64 → length formats ≡ length labels.0 → descriptor_of field ≡ Some (record { labels = labels.0; formats = formats; repeats_from = labels.1 })
unfolding layout_with
made field parts labels most formats e l f few same =
    let is_few : leb (length labels.0) 64 ≡ true = le-leb _ _ few in
    let as_many : eqb (length formats) (length labels.0) ≡ true = eq-eqb _ _ same in
    with_formats field parts labels formats e l (within_limit most _ formats f) ∙ rw (is_few, as_many) refl
