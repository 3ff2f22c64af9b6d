-- Where each field with a listed tag has a descriptor, the listed tags are those with a descriptor.
use Rattle.std.proofs.Common.{◌≡◌, ℕ, Bool, true, false, cond, not, List, [], ◌∷◌, Option, Some, None, Ok, refl, ap, sym, subst, ◌∙◌}
use Rattle.std.specs.Prelude.{◌||◌, is_some}
use Rattle.std.specs.Str.{bytes_eq}
use Rattle.std.proofs.lemmas.Slice.Eq.{bytes_eq-Decides}
use Rattle.iso8211_formats.specs.Layout.{Layout}
use Rattle.iso8211_leader.specs.Leader.{Frame}
use Rattle.iso8211_leader.specs.declared.entry.Entry.{Entry}
use Rattle.iso8211_records.specs.Tags.{is_listed}
use Rattle.iso8211_records.specs.Kinds.{AreListed, layout_at, tags_of}
use Rattle.iso8211_records.specs.Record.{field_bytes}
use Rattle.chart_model.specs.Answers.{◌>>=◌, or_fault}
use Rattle.iso8211_records.specs.declared.fault.FileFault.TheVariants.{Subfield}
use Rattle.iso8211_records.specs.Reading.{first_without, is_described, tags_without_descriptor, unless_undescribed, Framed, record_at, values_by, field_by, fields_of, data_record_at}
use Rattle.iso8211_records.specs.Answers.{Fails}
use Rattle.iso8211_records.specs.declared.record.RawField.{RawField}
use Rattle.iso8211_records.specs.declared.fault.FileFault.{FileFault}
use Rattle.iso8211_records.proofs.Results.{Fails-bind, Fails-same}

one-more : (here : Bool) (layout : Layout) (others : Option Layout) → (here || is_some others) ≡ is_some (cond here (Some layout) others)
one-more true layout others = refl
one-more false layout others = refl

-- the tags of the descriptors are those under which there is one
pub tags_of-listed : (pairs : List (List ℕ × Layout)) (tag : List ℕ) → is_listed (tags_of pairs) tag ≡ is_some (layout_at pairs tag)
tags_of-listed [] tag = refl
tags_of-listed (pair ∷ pairs) tag = rw (tags_of-listed pairs tag) (one-more (bytes_eq pair.0 tag) pair.1 (layout_at pairs tag))

listed-at : (tags : List (List ℕ)) (pairs : List (List ℕ × Layout)) (tag : List ℕ) (layout : Layout) → AreListed tags pairs → layout_at pairs tag ≡ Some layout → is_listed tags tag ≡ true
listed-at tags [] tag layout listed h = absurd cc
listed-at tags (pair ∷ pairs) tag layout listed h =
    elim (bytes_eq pair.0 tag) as (λ b. bytes_eq pair.0 tag ≡ b → cond b (Some pair.1) (layout_at pairs tag) ≡ Some layout → is_listed tags tag ≡ true) [
      | true ↦ λ e k. subst (λ (t : List ℕ). is_listed tags t ≡ true) ((bytes_eq-Decides pair.0 tag).0 e) listed.0
      | false ↦ λ e k. listed-at tags pairs tag layout listed.1 k
    ] refl h

not-listed : (listed : Bool) → (not listed || false) ≡ true → false ≡ listed
not-listed true h = absurd cc
not-listed false h = refl

same-listed : (tags : List (List ℕ)) (pairs : List (List ℕ × Layout)) (entry : Entry) → AreListed tags pairs → is_described tags pairs entry ≡ true → is_listed (tags_of pairs) entry.tag ≡ is_listed tags entry.tag
same-listed tags pairs entry listed h =
    tags_of-listed pairs entry.tag ∙ (elim (layout_at pairs entry.tag)
    as (λ o. layout_at pairs entry.tag ≡ o → (not (is_listed tags entry.tag) || is_some o) ≡ true → is_some o ≡ is_listed tags entry.tag) [
      | None ↦ λ e k. not-listed (is_listed tags entry.tag) k
      | Some layout ↦ λ e k. sym (listed-at tags pairs entry.tag layout listed e)
    ] refl h)

field_by-same : (tags other : List (List ℕ)) (pairs : List (List ℕ × Layout)) (number : ℕ) (tag bytes : List ℕ) → is_listed other tag ≡ is_listed tags tag → field_by other pairs number tag bytes ≡ field_by tags pairs number tag bytes
unfolding field_by
field_by-same tags other pairs number tag bytes h = rw h refl

fields_of-described : (tags : List (List ℕ)) (pairs : List (List ℕ × Layout)) (number : ℕ) (frame : Frame) (bytes : List ℕ) (entries : List Entry) → AreListed tags pairs → first_without (is_described tags pairs) entries ≡ None
    → fields_of (tags_of pairs) pairs number frame bytes entries ≡ fields_of tags pairs number frame bytes entries
unfolding fields_of
fields_of-described tags pairs number frame bytes [] listed h = refl
fields_of-described tags pairs number frame bytes (entry ∷ entries) listed h =
    elim (is_described tags pairs entry)
    as (λ b. is_described tags pairs entry ≡ b → cond b (first_without (is_described tags pairs) entries) (Some entry) ≡ None → fields_of (tags_of pairs) pairs number frame bytes (entry ∷ entries) ≡ fields_of tags pairs number frame bytes (entry ∷ entries)) [
      | true ↦ λ e k. rw (field_by-same tags (tags_of pairs) pairs number entry.tag (field_bytes frame bytes entry) (same-listed tags pairs entry listed e), fields_of-described tags pairs number frame bytes entries listed k) refl
      | false ↦ λ e k. absurd cc
    ] refl h

pub none-undescribed : (o : Option Entry) → unless_undescribed o ≡ Ok tt → o ≡ None
none-undescribed None h = refl
none-undescribed (Some entry) h = absurd cc

-- so the fields are read by the tags of the descriptors
pub described_fields : (tags : List (List ℕ)) (pairs : List (List ℕ × Layout)) (number : ℕ) (frame : Frame) (bytes : List ℕ) (entries : List Entry) → AreListed tags pairs → unless_undescribed (first_without (is_described tags pairs) entries) ≡ Ok tt
    → fields_of (tags_of pairs) pairs number frame bytes entries ≡ fields_of tags pairs number frame bytes entries
described_fields tags pairs number frame bytes entries listed h =
    fields_of-described tags pairs number frame bytes entries listed (none-undescribed (first_without (is_described tags pairs) entries) h)

-- a field without a descriptor is passed over
pub field_by-none : (pairs : List (List ℕ × Layout)) (number : ℕ) (tag bytes : List ℕ) → None ≡ layout_at pairs tag → field_by (tags_of pairs) pairs number tag bytes ≡ Ok (record { tag = tag; values = [] })
unfolding field_by
field_by-none pairs number tag bytes h =
    let other : is_listed (tags_of pairs) tag ≡ false = tags_of-listed pairs tag ∙ ap is_some (sym h) in
    rw other refl

-- and of another the values are read
pub field_by-some : (pairs : List (List ℕ × Layout)) (number : ℕ) (tag bytes : List ℕ) (layout : Layout) → Some layout ≡ layout_at pairs tag
    → field_by (tags_of pairs) pairs number tag bytes ≡ (or_fault (Subfield number tag) (values_by (Some layout) bytes) >>= λ values. Ok (record { tag = tag; values = values }))
unfolding field_by
field_by-some pairs number tag bytes layout h =
    let known : is_listed (tags_of pairs) tag ≡ true = tags_of-listed pairs tag ∙ ap is_some (sym h) in
    rw (known, ← h) refl

pub listed-by : (pairs : List (List ℕ × Layout)) (tag : List ℕ) (o : Option Layout) → o ≡ layout_at pairs tag → is_listed (tags_of pairs) tag ≡ is_some o
listed-by pairs tag o h = tags_of-listed pairs tag ∙ ap is_some (sym h)

-- so a data record is read by its descriptors alone
pub data_record-read : (tags : List (List ℕ)) (pairs : List (List ℕ × Layout)) (number at : ℕ) (bytes : List ℕ) (framed : Framed) (fields : List RawField) → record_at tags false at bytes ≡ Ok framed → AreListed tags pairs
    → unless_undescribed (first_without (is_described tags pairs) framed.entries) ≡ Ok tt → fields_of (tags_of pairs) pairs number framed.frame bytes framed.entries ≡ Ok fields
    → data_record_at tags pairs number at bytes ≡ Ok (fields, framed.frame.length)
unfolding data_record_at
data_record-read tags pairs number at bytes framed fields is_framed listed described read =
    let same : fields_of tags pairs number framed.frame bytes framed.entries ≡ Ok fields = sym (described_fields tags pairs number framed.frame bytes framed.entries listed described) ∙ read in
    rw (is_framed, described, same) refl

pub data_record-fails : (fault : FileFault) (tags : List (List ℕ)) (pairs : List (List ℕ × Layout)) (number at : ℕ) (bytes : List ℕ) (framed : Framed) → record_at tags false at bytes ≡ Ok framed → AreListed tags pairs
    → unless_undescribed (first_without (is_described tags pairs) framed.entries) ≡ Ok tt → Fails fault (fields_of (tags_of pairs) pairs number framed.frame bytes framed.entries)
    → Fails fault (data_record_at tags pairs number at bytes)
unfolding data_record_at
data_record-fails fault tags pairs number at bytes framed is_framed listed described fails =
    let step : data_record_at tags pairs number at bytes ≡ (fields_of tags pairs number framed.frame bytes framed.entries >>= λ fields. Ok (fields, framed.frame.length)) = rw (is_framed, described) refl in
    Fails-same fault _ _ (sym step)
    (Fails-bind fault _ _ (Fails-same fault _ _ (described_fields tags pairs number framed.frame bytes framed.entries listed described) fails))

-- ---- the tags without a descriptor

or-true : (b : Bool) → (b || true) ≡ true
or-true true = refl
or-true false = refl

-- a tag is not one of these exactly where it isn't listed or has a descriptor
described-test : (tags : List (List ℕ)) (pairs : List (List ℕ × Layout)) (tag : List ℕ)
    → not (is_listed (tags_without_descriptor tags pairs) tag) ≡ (not (is_listed tags tag) || is_some (layout_at pairs tag))
described-test [] pairs tag = refl
described-test (first ∷ tags) pairs tag =
    by (bytes_eq first tag) (is_some (layout_at pairs first)) refl refl (described-test tags pairs tag)
  where
    by : (same has : Bool) → bytes_eq first tag ≡ same → is_some (layout_at pairs first) ≡ has
        → not (is_listed (tags_without_descriptor tags pairs) tag) ≡ (not (is_listed tags tag) || is_some (layout_at pairs tag))
        → not (is_listed (tags_without_descriptor (first ∷ tags) pairs) tag) ≡ (not (is_listed (first ∷ tags) tag) || is_some (layout_at pairs tag))
    by true true e h more =
        let is : first ≡ tag = (bytes_eq-Decides first tag).0 e in
        let here : is_some (layout_at pairs tag) ≡ true = subst (λ (t : List ℕ). is_some (layout_at pairs t) ≡ true) is h in
        rw (h, e, here) (more ∙ rw here (or-true (not (is_listed tags tag))))
    by true false e h more =
        let is : first ≡ tag = (bytes_eq-Decides first tag).0 e in
        let here : is_some (layout_at pairs tag) ≡ false = subst (λ (t : List ℕ). is_some (layout_at pairs t) ≡ false) is h in
        rw (h, e, here) refl
    by false true e h more = rw (h, e) more
    by false false e h more = rw (h, e) more

first_without-same : (passes other : Entry → Bool) (entries : List Entry) → ((entry : Entry) → passes entry ≡ other entry) → first_without passes entries ≡ first_without other entries
first_without-same passes other [] same = refl
first_without-same passes other (entry ∷ entries) same = rw (same entry, first_without-same passes other entries same) refl

-- so they tell which fields have none
pub described-by : (tags without : List (List ℕ)) (pairs : List (List ℕ × Layout)) (entries : List Entry) → without ≡ tags_without_descriptor tags pairs
    → unless_undescribed (first_without (λ (entry : Entry). not (is_listed without entry.tag)) entries) ≡ unless_undescribed (first_without (is_described tags pairs) entries)
described-by tags without pairs entries is =
    ap unless_undescribed
    (first_without-same (λ (entry : Entry). not (is_listed without entry.tag)) (is_described tags pairs) entries
    (λ entry. rw is (described-test tags pairs entry.tag)))

pub data_record-undescribed : (fault : FileFault) (tags : List (List ℕ)) (pairs : List (List ℕ × Layout)) (number at : ℕ) (bytes : List ℕ) (framed : Framed) → record_at tags false at bytes ≡ Ok framed
    → Fails fault (unless_undescribed (first_without (is_described tags pairs) framed.entries)) → Fails fault (data_record_at tags pairs number at bytes)
unfolding data_record_at
data_record-undescribed fault tags pairs number at bytes framed is_framed bad =
    let step : data_record_at tags pairs number at bytes ≡ (unless_undescribed (first_without (is_described tags pairs) framed.entries) >>= λ _. fields_of tags pairs number framed.frame bytes framed.entries >>= λ fields. Ok (fields, framed.frame.length)) = rw is_framed refl in
    Fails-same fault _ _ (sym step) (Fails-bind fault _ _ bad)
