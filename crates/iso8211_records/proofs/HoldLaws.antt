-- What the fields of a record hold is read, and what is read they hold; and the same of the first fault.
use Rattle.std.proofs.Common.{◌≡◌, ℕ, suc, ◌-◌, Bool, true, false, not, List, [], ◌∷◌, ◌++◌, length, take, Option, Some, None, Result, Ok, Err, refl, sym, ap, ◌∙◌, subst, arith, inl, inr}
use Rattle.std.specs.Prelude.{◌⊎◌, ◌↔◌, ◌||◌, IsTrue, is_some}
use Rattle.std.specs.List.{AllByRecursion}
use Rattle.std.proofs.Math.Seq.{take-append_seam}
use Rattle.std.proofs.lemmas.List.{length-append}
use Rattle.iso8211_leader.specs.Leader.{Frame}
use Rattle.iso8211_leader.specs.declared.entry.Entry.{Entry}
use Rattle.iso8211_formats.specs.Layout.{Layout}
use Rattle.iso8211_formats.specs.Grammar.{Spells}
use Rattle.iso8211_formats.specs.Reading.{descriptor_of}
use Rattle.iso8211_records.specs.declared.value.Value.{Value}
use Rattle.iso8211_records.specs.declared.fault.FileFault.{FileFault}
use Rattle.iso8211_records.specs.declared.fault.FileFault.TheVariants.{Descriptor}
use Rattle.iso8211_records.specs.Tags.{is_listed}
use Rattle.iso8211_records.specs.Spelling.{formats_in, IsFieldText, IsField}
use Rattle.iso8211_records.specs.Kinds.{layout_at}
use Rattle.iso8211_records.specs.Record.{field_bytes, AreDescriptors}
use Rattle.iso8211_records.specs.Values.{values_of}
use Rattle.chart_model.specs.Answers.{◌>>=◌, or_fault}
use Rattle.iso8211_records.specs.Reading.{is_described, descriptors_in, values_by}
use Rattle.iso8211_records.specs.Fault.{IsFirstWithout, Describes, IsDescribed}
use Rattle.iso8211_records.proofs.Results.{bind_ok}
use Rattle.iso8211_records.proofs.FieldLaws.{values_of-found, values_of-again}
use Rattle.iso8211_records.proofs.Firsts.{IsTest, first-here}

-- a descriptor is read exactly where one is spelled
abbrev pub SpellingLaw : Type 0
SpellingLaw = (field : List ℕ) (layout : Layout) → (descriptor_of field ≡ Some layout) ↔ Spells layout field

-- ---- descriptors

pub or_fault-some : {A : Type 0} (fault : FileFault) (o : Option A) (x : A) → or_fault fault o ≡ Ok x → o ≡ Some x
or_fault-some fault None x h = absurd cc
or_fault-some fault (Some y) x h = cc

pub or_fault-none : {A : Type 0} (fault found : FileFault) (o : Option A) → or_fault fault o ≡ Err found → (o ≡ None) × (fault ≡ found)
or_fault-none fault found None h = (refl, cc)
or_fault-none fault found (Some y) h = absurd cc

pub err_bind : {A B : Type 0} (r : Result A FileFault) (f : A → Result B FileFault) (fault : FileFault) → (r >>= f) ≡ Err fault → (r ≡ Err fault) ⊎ ((x : A) × (r ≡ Ok x) × (f x ≡ Err fault))
err_bind (Ok x) f fault h = inr (x, refl, h)
err_bind (Err found) f fault h = inl cc

pub descriptors_in-found : SpellingLaw → (frame : Frame) (bytes : List ℕ) (entries : List Entry) (pairs : List (List ℕ × Layout)) → descriptors_in frame bytes entries ≡ Ok pairs → AreDescriptors frame bytes entries pairs
unfolding descriptors_in
descriptors_in-found law frame bytes [] [] h = tt
descriptors_in-found law frame bytes [] (pair ∷ pairs) h = absurd cc
descriptors_in-found law frame bytes (entry ∷ entries) pairs h =
    let p = bind_ok (or_fault (Descriptor entry.tag) (descriptor_of (field_bytes frame bytes entry))) (λ layout. descriptors_in frame bytes entries >>= λ pairs. Ok ((entry.tag, layout) ∷ pairs)) pairs h in
    let q = bind_ok (descriptors_in frame bytes entries) (λ pairs. Ok ((entry.tag, p.0) ∷ pairs)) pairs p.2 in
    let is : (entry.tag, p.0) ∷ q.0 ≡ pairs = cc in
    subst (λ (ps : List (List ℕ × Layout)). AreDescriptors frame bytes (entry ∷ entries) ps) is
    (refl, (law (field_bytes frame bytes entry) p.0).0 (or_fault-some (Descriptor entry.tag) (descriptor_of (field_bytes frame bytes entry)) p.0 p.1), descriptors_in-found law frame bytes entries q.0 q.1)

pub descriptors_in-again : SpellingLaw → (frame : Frame) (bytes : List ℕ) (entries : List Entry) (pairs : List (List ℕ × Layout)) → AreDescriptors frame bytes entries pairs → descriptors_in frame bytes entries ≡ Ok pairs
unfolding descriptors_in
descriptors_in-again law frame bytes [] [] h = refl
descriptors_in-again law frame bytes [] (pair ∷ pairs) h = absurd h
descriptors_in-again law frame bytes (entry ∷ entries) [] h = absurd h
descriptors_in-again law frame bytes (entry ∷ entries) (pair ∷ pairs) h =
    rw ((law (field_bytes frame bytes entry) pair.1).1 h.1, descriptors_in-again law frame bytes entries pairs h.2, ← h.0) refl

pub first-later : {A : Type 0} (P : A → Type 0) (x : A) (xs : List A) (count : ℕ) (y : A) → P x → IsFirstWithout P xs count y → IsFirstWithout P (x ∷ xs) (suc count) y
first-later P x xs count y h f = record { before = x ∷ f.before; after = f.after; parts = ap (λ (l : List _). x ∷ l) f.parts; counted = ap (λ n. suc n) f.counted; each = (h, f.each); fails = f.fails }

pub descriptors_in-fault : SpellingLaw → (frame : Frame) (bytes : List ℕ) (entries : List Entry) (fault : FileFault) → descriptors_in frame bytes entries ≡ Err fault
    → (count : ℕ) × (entry : Entry) × IsFirstWithout (Describes frame bytes) entries count entry × (fault ≡ Descriptor entry.tag)
unfolding descriptors_in
descriptors_in-fault law frame bytes [] fault h = absurd cc
descriptors_in-fault law frame bytes (entry ∷ entries) fault h =
    elim (err_bind (or_fault (Descriptor entry.tag) (descriptor_of (field_bytes frame bytes entry))) (λ layout. descriptors_in frame bytes entries >>= λ pairs. Ok ((entry.tag, layout) ∷ pairs)) fault h) [
      | inl bad ↦
          (let p = or_fault-none (Descriptor entry.tag) fault (descriptor_of (field_bytes frame bytes entry)) bad in
          (0, entry, first-here (Describes frame bytes) entry entries (λ d. (let some = (law (field_bytes frame bytes entry) d.0).1 d.1 in let no : None ≡ Some d.0 = sym p.0 ∙ some in cc)), sym p.1))
      | inr good ↦
          elim (err_bind (descriptors_in frame bytes entries) (λ pairs. Ok ((entry.tag, good.0) ∷ pairs)) fault good.2) [
            | inl later ↦
                (let p = descriptors_in-fault law frame bytes entries fault later in
                let layout = or_fault-some (Descriptor entry.tag) (descriptor_of (field_bytes frame bytes entry)) good.0 good.1 in
                (suc p.0, p.1, first-later (Describes frame bytes) entry entries p.0 p.1 (good.0, (law (field_bytes frame bytes entry) good.0).0 layout) p.2, p.3))
            | inr none ↦ absurd (let no = none.2 in cc)
          ]
    ]

descriptors_in-front : SpellingLaw → (frame : Frame) (bytes : List ℕ) (before after : List Entry) (entry : Entry) → AllByRecursion (Describes frame bytes) before → ¬ Describes frame bytes entry
    → descriptors_in frame bytes (before ++ entry ∷ after) ≡ Err (Descriptor entry.tag)
unfolding descriptors_in
descriptors_in-front law frame bytes [] after entry each fails = rw (not-described (descriptor_of (field_bytes frame bytes entry)) refl) refl
  where
    not-described : (o : Option Layout) → descriptor_of (field_bytes frame bytes entry) ≡ o → descriptor_of (field_bytes frame bytes entry) ≡ None
    not-described None e = e
    not-described (Some layout) e = absurd (fails (layout, (law (field_bytes frame bytes entry) layout).0 e))
descriptors_in-front law frame bytes (first ∷ before) after entry each fails =
    rw ((law (field_bytes frame bytes first) each.0.0).1 each.0.1, descriptors_in-front law frame bytes before after entry each.1 fails) refl

pub descriptors_in-faulty : SpellingLaw → (frame : Frame) (bytes : List ℕ) (entries : List Entry) (count : ℕ) (entry : Entry) → IsFirstWithout (Describes frame bytes) entries count entry → descriptors_in frame bytes entries ≡ Err (Descriptor entry.tag)
descriptors_in-faulty law frame bytes entries count entry f = ap (descriptors_in frame bytes) f.parts ∙ descriptors_in-front law frame bytes f.before f.after entry f.each f.fails

-- ---- described fields

pub is_described-test : (tags : List (List ℕ)) (descriptors : List (List ℕ × Layout)) → IsTest (is_described tags descriptors) (IsDescribed tags descriptors)
is_described-test tags descriptors = record {
  yes = λ entry. yes (is_listed tags entry.tag) (is_some (layout_at descriptors entry.tag));
  no = λ entry. no (is_listed tags entry.tag) (is_some (layout_at descriptors entry.tag));
}
  where
    yes : (listed some : Bool) → (not listed || some) ≡ true → IsTrue listed → some ≡ true
    yes true some e l = e
    yes false some e l = absurd cc

    no : (listed some : Bool) → (not listed || some) ≡ false → (IsTrue listed → some ≡ true) → ⊥
    no true some e h = let yes = h refl in let bad : true ≡ false = sym yes ∙ e in cc
    no false some e h = cc

-- ---- fields

-- the text of a field that is ended
text-of-ended : (text : List ℕ) → take (length (text ++ 30 ∷ []) - 1) (text ++ 30 ∷ []) ≡ text
text-of-ended text = let less : length (text ++ 30 ∷ []) - 1 ≡ length text = omega (arith, length-append text (30 ∷ [])) in rw less (take-append_seam text (30 ∷ []))

-- the values of an ended field
pub values_by-found : (o : Option Layout) (bytes : List ℕ) (values : List Value) → ((text : List ℕ) × (bytes ≡ text ++ 30 ∷ [])) → values_by o bytes ≡ Some values → (layout : Layout) × (o ≡ Some layout) × IsField (formats_in layout) values bytes
unfolding values_by
values_by-found None bytes values ended h = absurd cc
values_by-found (Some layout) bytes values ended h =
    let text_is : take (length bytes - 1) bytes ≡ ended.0 = ap (λ (l : List ℕ). take (length l - 1) l) ended.1 ∙ text-of-ended ended.0 in
    (layout, refl, (ended.0, ended.1, subst (λ (t : List ℕ). IsFieldText (formats_in layout) values t) text_is (values_of-found (formats_in layout) (take (length bytes - 1) bytes) values h)))

pub values_by-again : (o : Option Layout) (layout : Layout) (bytes : List ℕ) (values : List Value) → o ≡ Some layout → IsField (formats_in layout) values bytes → values_by o bytes ≡ Some values
unfolding values_by
values_by-again None layout bytes values is h = absurd cc
values_by-again (Some found) layout bytes values is h =
    let same : found ≡ layout = cc in
    let text_is : take (length bytes - 1) bytes ≡ h.0 = ap (λ (l : List ℕ). take (length l - 1) l) h.1 ∙ text-of-ended h.0 in
    ap (λ (l : Layout). values_of (formats_in l) (take (length bytes - 1) bytes)) same ∙ ap (values_of (formats_in layout)) text_is ∙ values_of-again (formats_in layout) values h.0 h.2
