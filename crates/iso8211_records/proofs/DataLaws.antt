-- A data record that is read begins the bytes, and one that begins them is read; and the same of its first fault, and of the
-- data descriptive record.
use Rattle.std.proofs.Common.{◌≡◌, ℕ, suc, Bool, true, false, cond, not, List, [], ◌∷◌, ◌++◌, length, drop, Option, Some, None, Result, Ok, Err, refl, sym, ap, ◌∙◌, subst, inl, inr}
use Rattle.std.specs.Prelude.{◌&&◌, IsTrue, is_some}
use Rattle.std.specs.Bool.{MatchBool}
use Rattle.std.specs.List.{AllByRecursion}
use Rattle.std.proofs.Math.Seq.{drop-append_seam}
use Rattle.iso8211_leader.specs.Leader.{Frame}
use Rattle.iso8211_leader.specs.declared.entry.Entry.{Entry}
use Rattle.iso8211_formats.specs.Layout.{Layout}
use Rattle.iso8211_records.specs.declared.record.RawField.{RawField}
use Rattle.iso8211_records.specs.declared.value.Value.{Value}
use Rattle.iso8211_records.specs.declared.fault.FileFault.{FileFault}
use Rattle.iso8211_records.specs.declared.fault.FileFault.TheVariants.{Leader, Directory, Span, Terminator, Descriptor, Subfield, NoMemory}
use Rattle.iso8211_records.specs.Tags.{is_listed}
use Rattle.iso8211_records.specs.Kinds.{layout_at}
use Rattle.iso8211_records.specs.Record.{IsRecord, IsInside, IsEnded, field_bytes, describing_entries, IsDescriptiveRecord, HasValues, IsFieldOf, AreFieldsOf, IsDataRecord}
use Rattle.chart_model.specs.Answers.{◌>>=◌, or_fault}
use Rattle.iso8211_records.specs.Reading.{first_without, is_described, unless_undescribed, Framed, record_at, descriptors_in, descriptive_record_at, values_by, field_by, fields_of, data_record_at}
use Rattle.iso8211_records.specs.Fault.{IsFirstWithout, BeginsRecord, HasDescriptiveFault, IsDescribed, IsReadable, HasDataFault, HasFrameFault}
use Rattle.iso8211_records.proofs.Results.{bind_ok, err_is}
use Rattle.iso8211_records.proofs.Firsts.{first-here, first_without-some, first_without-none, first_without-each, first_without-is}
use Rattle.iso8211_records.proofs.FrameLaws.{same-field, Begins, record_at-found, record_at-again, record_at-fault, record_at-faulty}
use Rattle.iso8211_records.proofs.Records.{data_record_at-is}
use Rattle.iso8211_records.proofs.KindLaws.{descriptive_record_at-is}
use Rattle.iso8211_records.proofs.HoldLaws.{SpellingLaw, err_bind, first-later, or_fault-some, descriptors_in-found, descriptors_in-again, descriptors_in-fault, descriptors_in-faulty, is_described-test, values_by-found, values_by-again}
use Rattle.iso8211_records.proofs.ListedTags.{none-undescribed}

-- ---- fields

pub IsEndedField : List ℕ → Type 0
IsEndedField bytes = (text : List ℕ) × (bytes ≡ text ++ 30 ∷ [])

field_by-found : (tags : List (List ℕ)) (pairs : List (List ℕ × Layout)) (number : ℕ) (tag bytes : List ℕ) (field : RawField) → (IsTrue (is_listed tags tag) → (text : List ℕ) × (bytes ≡ text ++ 30 ∷ []))
    → field_by tags pairs number tag bytes ≡ Ok field → IsFieldOf tags pairs bytes field tag
unfolding field_by
field_by-found tags pairs number tag bytes field ended h =
    elim (is_listed tags tag)
    as (λ b. is_listed tags tag ≡ b → cond b (or_fault (Subfield number tag) (values_by (layout_at pairs tag) bytes) >>= λ values. Ok (record { tag = tag; values = values })) (Ok (record { tag = tag; values = [] })) ≡ Ok field → IsFieldOf tags pairs bytes field tag) [
      | true ↦ λ e k.
          (let p = bind_ok (or_fault (Subfield number tag) (values_by (layout_at pairs tag) bytes)) (λ values. Ok (record { tag = tag; values = values })) field k in
          let found : RawField = record { tag = tag; values = p.0 } in
          let is : found ≡ field = cc in
          let v = values_by-found (layout_at pairs tag) bytes p.0 (ended e) (or_fault-some (Subfield number tag) (values_by (layout_at pairs tag) bytes) p.0 p.1) in
          subst (λ (f : RawField). IsFieldOf tags pairs bytes f tag) is
          (record { tag_is = refl; values_are = subst (λ b. MatchBool b (HasValues pairs bytes found) (p.0 ≡ [])) (sym e) v }))
      | false ↦ λ e k.
          (let found : RawField = record { tag = tag; values = [] } in
          let is : found ≡ field = cc in
          subst (λ (f : RawField). IsFieldOf tags pairs bytes f tag) is
          (record { tag_is = refl; values_are = subst (λ b. MatchBool b (HasValues pairs bytes found) (found.values ≡ [])) (sym e) refl }))
    ] refl h

field_by-again : (tags : List (List ℕ)) (pairs : List (List ℕ × Layout)) (number : ℕ) (tag bytes : List ℕ) (field : RawField) → IsFieldOf tags pairs bytes field tag → field_by tags pairs number tag bytes ≡ Ok field
unfolding field_by
field_by-again tags pairs number tag bytes field h =
    elim (is_listed tags tag)
    as (λ b. MatchBool b (HasValues pairs bytes field) (field.values ≡ []) → cond b (or_fault (Subfield number tag) (values_by (layout_at pairs tag) bytes) >>= λ values. Ok (record { tag = tag; values = values })) (Ok (record { tag = tag; values = [] })) ≡ Ok field) [
      | true ↦ λ k.
          (let at_tag : layout_at pairs tag ≡ Some k.0 = ap (layout_at pairs) (sym h.tag_is) ∙ k.1 in
          rw (values_by-again (layout_at pairs tag) k.0 bytes field.values at_tag k.2, ← h.tag_is) refl)
      | false ↦ λ k. rw (← k, ← h.tag_is) refl
    ] h.values_are

fields_of-found : (tags : List (List ℕ)) (pairs : List (List ℕ × Layout)) (number : ℕ) (frame : Frame) (bytes : List ℕ) (entries : List Entry) (fields : List RawField) → AllByRecursion (IsEnded tags frame bytes) entries
    → fields_of tags pairs number frame bytes entries ≡ Ok fields → AreFieldsOf tags pairs frame bytes entries fields
unfolding fields_of
fields_of-found tags pairs number frame bytes [] [] ended h = tt
fields_of-found tags pairs number frame bytes [] (field ∷ fields) ended h = absurd cc
fields_of-found tags pairs number frame bytes (entry ∷ entries) fields ended h =
    let p = bind_ok (field_by tags pairs number entry.tag (field_bytes frame bytes entry)) (λ field. fields_of tags pairs number frame bytes entries >>= λ fields. Ok (field ∷ fields)) fields h in
    let q = bind_ok (fields_of tags pairs number frame bytes entries) (λ fields. Ok (p.0 ∷ fields)) fields p.2 in
    let is : p.0 ∷ q.0 ≡ fields = cc in
    subst (λ (fs : List RawField). AreFieldsOf tags pairs frame bytes (entry ∷ entries) fs) is
    (field_by-found tags pairs number entry.tag (field_bytes frame bytes entry) p.0 ended.0 p.1, fields_of-found tags pairs number frame bytes entries q.0 ended.1 q.1)

fields_of-again : (tags : List (List ℕ)) (pairs : List (List ℕ × Layout)) (number : ℕ) (frame : Frame) (bytes : List ℕ) (entries : List Entry) (fields : List RawField) → AreFieldsOf tags pairs frame bytes entries fields
    → fields_of tags pairs number frame bytes entries ≡ Ok fields
unfolding fields_of
fields_of-again tags pairs number frame bytes [] [] h = refl
fields_of-again tags pairs number frame bytes [] (field ∷ fields) h = absurd h
fields_of-again tags pairs number frame bytes (entry ∷ entries) [] h = absurd h
fields_of-again tags pairs number frame bytes (entry ∷ entries) (field ∷ fields) h =
    rw (field_by-again tags pairs number entry.tag (field_bytes frame bytes entry) field h.0, fields_of-again tags pairs number frame bytes entries fields h.1) refl

-- a field that can be read, and one that can't
field_by-readable : (tags : List (List ℕ)) (pairs : List (List ℕ × Layout)) (number : ℕ) (frame : Frame) (bytes : List ℕ) (entry : Entry) → IsReadable tags pairs frame bytes entry
    → (field : RawField) × (field_by tags pairs number entry.tag (field_bytes frame bytes entry) ≡ Ok field)
unfolding field_by
field_by-readable tags pairs number frame bytes entry h =
    elim (is_listed tags entry.tag)
    as (λ b. is_listed tags entry.tag ≡ b → (field : RawField) × (cond b (or_fault (Subfield number entry.tag) (values_by (layout_at pairs entry.tag) (field_bytes frame bytes entry)) >>= λ values. Ok (record { tag = entry.tag; values = values })) (Ok (record { tag = entry.tag; values = [] })) ≡ Ok field)) [
      | true ↦ λ e.
          (let p = h e in
          (record { tag = entry.tag; values = p.2 }, rw (values_by-again (layout_at pairs entry.tag) p.0 (field_bytes frame bytes entry) p.2 p.1 p.3) refl))
      | false ↦ λ e. (record { tag = entry.tag; values = [] }, refl)
    ] refl

field_by-unreadable : (tags : List (List ℕ)) (pairs : List (List ℕ × Layout)) (number : ℕ) (frame : Frame) (bytes : List ℕ) (entry : Entry) → IsEnded tags frame bytes entry → (IsReadable tags pairs frame bytes entry → ⊥)
    → field_by tags pairs number entry.tag (field_bytes frame bytes entry) ≡ Err (Subfield number entry.tag)
unfolding field_by
field_by-unreadable tags pairs number frame bytes entry ended h =
    elim (is_listed tags entry.tag)
    as (λ b. is_listed tags entry.tag ≡ b → cond {A = Result RawField FileFault} b (or_fault (Subfield number entry.tag) (values_by (layout_at pairs entry.tag) (field_bytes frame bytes entry)) >>= λ values. Ok (record { tag = entry.tag; values = values })) (Ok (record { tag = entry.tag; values = [] })) ≡ Err (Subfield number entry.tag)) [
      | true ↦ λ e. rw (no-values (values_by (layout_at pairs entry.tag) (field_bytes frame bytes entry)) refl e) refl
      | false ↦ λ e. absurd (h (λ listed. absurd (let no : true ≡ false = sym listed ∙ e in cc)))
    ] refl
  where
    no-values : (o : Option (List Value)) → values_by (layout_at pairs entry.tag) (field_bytes frame bytes entry) ≡ o → is_listed tags entry.tag ≡ true → values_by (layout_at pairs entry.tag) (field_bytes frame bytes entry) ≡ None
    no-values None e listed = e
    no-values (Some values) e listed =
        absurd (h (λ _. (let v = values_by-found (layout_at pairs entry.tag) (field_bytes frame bytes entry) values (ended listed) e in (v.0, v.1, values, v.2))))

fields_of-fault : (tags : List (List ℕ)) (pairs : List (List ℕ × Layout)) (number : ℕ) (frame : Frame) (bytes : List ℕ) (entries : List Entry) (fault : FileFault) → AllByRecursion (IsEnded tags frame bytes) entries
    → fields_of tags pairs number frame bytes entries ≡ Err fault → (count : ℕ) × (entry : Entry) × IsFirstWithout (IsReadable tags pairs frame bytes) entries count entry × (fault ≡ Subfield number entry.tag)
unfolding fields_of
fields_of-fault tags pairs number frame bytes [] fault ended h = absurd cc
fields_of-fault tags pairs number frame bytes (entry ∷ entries) fault ended h =
    elim (err_bind (field_by tags pairs number entry.tag (field_bytes frame bytes entry)) (λ field. fields_of tags pairs number frame bytes entries >>= λ fields. Ok (field ∷ fields)) fault h) [
      | inl bad ↦
          (let unreadable : IsReadable tags pairs frame bytes entry → ⊥ = λ r.
          (let some = field_by-readable tags pairs number frame bytes entry r in let no : (let x : Result RawField FileFault = Ok some.0 in x ≡ Err fault) = sym some.1 ∙ bad in cc) in
          let err = field_by-unreadable tags pairs number frame bytes entry ended.0 unreadable in
          (0, entry, first-here (IsReadable tags pairs frame bytes) entry entries unreadable, err_is {A = RawField} (sym bad ∙ err)))
      | inr good ↦
          elim (err_bind (fields_of tags pairs number frame bytes entries) (λ fields. Ok (good.0 ∷ fields)) fault good.2) [
            | inl later ↦
                (let p = fields_of-fault tags pairs number frame bytes entries fault ended.1 later in
                let f = field_by-found tags pairs number entry.tag (field_bytes frame bytes entry) good.0 ended.0 good.1 in
                (suc p.0, p.1, first-later (IsReadable tags pairs frame bytes) entry entries p.0 p.1 (readable good.0 f) p.2, p.3))
            | inr none ↦ absurd (let no = none.2 in cc)
          ]
    ]
  where
    readable : (field : RawField) → IsFieldOf tags pairs (field_bytes frame bytes entry) field entry.tag → IsReadable tags pairs frame bytes entry
    readable field f listed =
        let v = subst (λ b. MatchBool b (HasValues pairs (field_bytes frame bytes entry) field) (field.values ≡ [])) listed f.values_are in
        (v.0, ap (layout_at pairs) (sym f.tag_is) ∙ v.1, field.values, v.2)

fields_of-front : (tags : List (List ℕ)) (pairs : List (List ℕ × Layout)) (number : ℕ) (frame : Frame) (bytes : List ℕ) (before after : List Entry) (entry : Entry) → IsEnded tags frame bytes entry
    → AllByRecursion (IsReadable tags pairs frame bytes) before → ¬ IsReadable tags pairs frame bytes entry → fields_of tags pairs number frame bytes (before ++ entry ∷ after) ≡ Err (Subfield number entry.tag)
unfolding fields_of
fields_of-front tags pairs number frame bytes [] after entry ended each fails = rw (field_by-unreadable tags pairs number frame bytes entry ended fails) refl
fields_of-front tags pairs number frame bytes (first ∷ before) after entry ended each fails =
    let p = field_by-readable tags pairs number frame bytes first each.0 in
    rw (p.1, fields_of-front tags pairs number frame bytes before after entry ended each.1 fails) refl

each-middle : {A : Type 0} (P : A → Type 0) (before after : List A) (x : A) → AllByRecursion P (before ++ x ∷ after) → P x
each-middle P [] after x h = h.0
each-middle P (y ∷ before) after x h = each-middle P before after x h.1

fields_of-faulty : (tags : List (List ℕ)) (pairs : List (List ℕ × Layout)) (number : ℕ) (frame : Frame) (bytes : List ℕ) (entries : List Entry) (count : ℕ) (entry : Entry) → AllByRecursion (IsEnded tags frame bytes) entries
    → IsFirstWithout (IsReadable tags pairs frame bytes) entries count entry → fields_of tags pairs number frame bytes entries ≡ Err (Subfield number entry.tag)
fields_of-faulty tags pairs number frame bytes entries count entry ended f =
    let here = each-middle (IsEnded tags frame bytes) f.before f.after entry (subst (λ (es : List Entry). AllByRecursion (IsEnded tags frame bytes) es) f.parts ended) in
    ap (fields_of tags pairs number frame bytes) f.parts ∙ fields_of-front tags pairs number frame bytes f.before f.after entry here f.each f.fails

-- ---- the front of bytes

fields_of-same : (tags : List (List ℕ)) (pairs : List (List ℕ × Layout)) (number : ℕ) (frame : Frame) (piece rest : List ℕ) (entries : List Entry) → length piece ≡ frame.length → AllByRecursion (IsInside frame) entries
    → fields_of tags pairs number frame (piece ++ rest) entries ≡ fields_of tags pairs number frame piece entries
unfolding fields_of
fields_of-same tags pairs number frame piece rest [] len inside = refl
fields_of-same tags pairs number frame piece rest (entry ∷ entries) len inside =
    rw (same-field piece rest frame entry len inside.0, fields_of-same tags pairs number frame piece rest entries len inside.1) refl

descriptors_in-same : (frame : Frame) (piece rest : List ℕ) (entries : List Entry) → length piece ≡ frame.length → AllByRecursion (IsInside frame) entries
    → descriptors_in frame (piece ++ rest) entries ≡ descriptors_in frame piece entries
unfolding descriptors_in
descriptors_in-same frame piece rest [] len inside = refl
descriptors_in-same frame piece rest (entry ∷ entries) len inside =
    rw (same-field piece rest frame entry len inside.0, descriptors_in-same frame piece rest entries len inside.1) refl

describing_entries-inside : (tags seen : List (List ℕ)) (frame : Frame) (entries : List Entry) → AllByRecursion (IsInside frame) entries → AllByRecursion (IsInside frame) (describing_entries tags seen entries)
describing_entries-inside tags seen frame [] inside = tt
describing_entries-inside tags seen frame (entry ∷ entries) inside =
    elim (is_listed tags entry.tag && not (is_listed seen entry.tag)) as (λ b. AllByRecursion (IsInside frame) (cond b (entry ∷ describing_entries tags (entry.tag ∷ seen) entries) (describing_entries tags seen entries))) [
      | true ↦ (inside.0, describing_entries-inside tags (entry.tag ∷ seen) frame entries inside.1)
      | false ↦ describing_entries-inside tags seen frame entries inside.1
    ]

-- ---- data records

-- fields that are what the entries name have descriptors
AreFieldsOf-described : (tags : List (List ℕ)) (pairs : List (List ℕ × Layout)) (frame : Frame) (bytes : List ℕ) (entries : List Entry) (fields : List RawField) → AreFieldsOf tags pairs frame bytes entries fields → AllByRecursion (IsDescribed tags pairs) entries
AreFieldsOf-described tags pairs frame bytes [] [] h = tt
AreFieldsOf-described tags pairs frame bytes [] (field ∷ fields) h = absurd h
AreFieldsOf-described tags pairs frame bytes (entry ∷ entries) [] h = absurd h
AreFieldsOf-described tags pairs frame bytes (entry ∷ entries) (field ∷ fields) h = (
  λ listed.
      (let v = subst (λ b. MatchBool b (HasValues pairs (field_bytes frame bytes entry) field) (field.values ≡ [])) listed h.0.values_are in
      let at_tag : layout_at pairs entry.tag ≡ Some v.0 = ap (layout_at pairs) (sym h.0.tag_is) ∙ v.1 in
      ap is_some at_tag),
  AreFieldsOf-described tags pairs frame bytes entries fields h.1,
)

pub record IsDataAt (tags : List (List ℕ)) (pairs : List (List ℕ × Layout)) (bytes : List ℕ) (fields : List RawField) (size : ℕ) : Type 0 where
  pub piece : List ℕ
  pub rest : List ℕ
  pub parts : bytes ≡ piece ++ rest
  pub rest_is : rest ≡ drop size bytes
  pub size_is : length piece ≡ size
  pub is_record : IsDataRecord tags pairs piece fields

pub data_record_at-found : (tags : List (List ℕ)) (pairs : List (List ℕ × Layout)) (number at : ℕ) (bytes : List ℕ) (fields : List RawField) (size : ℕ) → data_record_at tags pairs number at bytes ≡ Ok (fields, size) → IsDataAt tags pairs bytes fields size
unfolding data_record_at
data_record_at-found tags pairs number at bytes fields size h =
    let p = bind_ok (record_at tags false at bytes)
    (λ framed. unless_undescribed (first_without (is_described tags pairs) framed.entries) >>= λ _. fields_of tags pairs number framed.frame bytes framed.entries >>= λ fields. Ok (fields, framed.frame.length)) (fields, size) h in
    let r = data_record_at-is tags pairs number at bytes fields size h in
    let b = record_at-found tags false at bytes p.0 p.1 in
    let q = bind_ok (unless_undescribed (first_without (is_described tags pairs) p.0.entries))
    (λ _. fields_of tags pairs number p.0.frame bytes p.0.entries >>= λ fields. Ok (fields, p.0.frame.length)) (fields, size) p.2 in
    let s = bind_ok (fields_of tags pairs number p.0.frame bytes p.0.entries) (λ fields. Ok (fields, p.0.frame.length)) (fields, size) q.2 in
    let pair : List RawField × ℕ = (s.0, p.0.frame.length) in
    let is : pair ≡ (fields, size) = let ok : (let x : Result (List RawField × ℕ) FileFault = Ok pair in x ≡ Ok (fields, size)) = s.2 in cc in
    let k : IsRecord tags false b.piece p.0.frame p.0.entries = b.is_record in
    let len : length b.piece ≡ p.0.frame.length = k.whole in
    let size_is : p.0.frame.length ≡ size = ap (λ (x : List RawField × ℕ). x.1) is in
    let read : fields_of tags pairs number p.0.frame b.piece p.0.entries ≡ Ok fields =
    sym (fields_of-same tags pairs number p.0.frame b.piece b.rest p.0.entries len k.inside)
    ∙ ap (λ (l : List ℕ). fields_of tags pairs number p.0.frame l p.0.entries) (sym b.parts) ∙ s.1 ∙ ap (λ (x : List RawField × ℕ). Ok x.0) is in
    record {
      piece = b.piece;
      rest = b.rest;
      parts = b.parts;
      rest_is = b.rest_is ∙ ap (λ n. drop n bytes) size_is;
      size_is = len ∙ size_is;
      is_record = record { frame = p.0.frame; entries = p.0.entries; is_record = k; has_fields = fields_of-found tags pairs number p.0.frame b.piece p.0.entries fields k.ended read };
    }

pub data_record_at-again : (tags : List (List ℕ)) (pairs : List (List ℕ × Layout)) (number at : ℕ) (piece rest : List ℕ) (fields : List RawField) → IsDataRecord tags pairs piece fields → data_record_at tags pairs number at (piece ++ rest) ≡ Ok (fields, length piece)
unfolding data_record_at
data_record_at-again tags pairs number at piece rest fields h =
    let k : IsRecord tags false piece h.frame h.entries = h.is_record in
    let len : length piece ≡ h.frame.length = k.whole in
    let framed = record_at-again tags false at piece rest h.frame h.entries k in
    let described = first_without-each (is_described tags pairs) (IsDescribed tags pairs) h.entries (is_described-test tags pairs) (AreFieldsOf-described tags pairs h.frame piece h.entries fields h.has_fields) in
    let read = fields_of-same tags pairs number h.frame piece rest h.entries len k.inside ∙ fields_of-again tags pairs number h.frame piece h.entries fields h.has_fields in
    rw (framed, described, read) (ap (λ n. Ok (fields, n)) (sym len))

-- ---- faults of data records

begins : (tags : List (List ℕ)) (first : Bool) (bytes : List ℕ) (framed : Framed) (b : Begins tags first bytes framed) → BeginsRecord tags first bytes b.piece framed.frame framed.entries
begins tags first bytes framed b = record { rest = b.rest; parts = b.parts; is_record = b.is_record }

to-data-fault : (tags : List (List ℕ)) (pairs : List (List ℕ × Layout)) (number at : ℕ) (bytes : List ℕ) (fault : FileFault) → HasFrameFault tags false at bytes fault → HasDataFault tags pairs number at bytes fault
to-data-fault tags pairs number at bytes (Leader offset) h = h
to-data-fault tags pairs number at bytes (Directory offset) h = h
to-data-fault tags pairs number at bytes (Span offset) h = h
to-data-fault tags pairs number at bytes (Terminator offset) h = h
to-data-fault tags pairs number at bytes (Descriptor tag) h = absurd h
to-data-fault tags pairs number at bytes (Subfield n tag) h = absurd h
to-data-fault tags pairs number at bytes NoMemory h = absurd h

undescribed : (tags : List (List ℕ)) (pairs : List (List ℕ × Layout)) (number at : ℕ) (bytes : List ℕ) (fault : FileFault) (framed : Framed) → Begins tags false bytes framed
    → unless_undescribed (first_without (is_described tags pairs) framed.entries) ≡ Err fault → HasDataFault tags pairs number at bytes fault
undescribed tags pairs number at bytes fault framed b h = by-first (first_without (is_described tags pairs) framed.entries) refl
  where
    by-first : (o : Option Entry) → first_without (is_described tags pairs) framed.entries ≡ o → HasDataFault tags pairs number at bytes fault
    by-first None e = absurd (let no : Ok tt ≡ Err fault = sym (ap unless_undescribed e) ∙ h in cc)
    by-first (Some entry) e =
        let p = first_without-some (is_described tags pairs) (IsDescribed tags pairs) framed.entries entry (is_described-test tags pairs) e in
        let is : Descriptor entry.tag ≡ fault = err_is {A = Unit {0}} (sym (ap unless_undescribed e) ∙ h) in
        subst (λ (f : FileFault). HasDataFault tags pairs number at bytes f) is (b.piece, framed.frame, framed.entries, p.0, entry, begins tags false bytes framed b, p.1, refl)

pub data_record_at-fault : (tags : List (List ℕ)) (pairs : List (List ℕ × Layout)) (number at : ℕ) (bytes : List ℕ) (fault : FileFault) → data_record_at tags pairs number at bytes ≡ Err fault → HasDataFault tags pairs number at bytes fault
unfolding data_record_at
data_record_at-fault tags pairs number at bytes fault h =
    elim (err_bind (record_at tags false at bytes)
    (λ framed. unless_undescribed (first_without (is_described tags pairs) framed.entries) >>= λ _. fields_of tags pairs number framed.frame bytes framed.entries >>= λ fields. Ok (fields, framed.frame.length)) fault h) [
      | inl bad ↦ to-data-fault tags pairs number at bytes fault (record_at-fault tags false at bytes fault bad)
      | inr good ↦
          (let b = record_at-found tags false at bytes good.0 good.1 in
          elim (err_bind (unless_undescribed (first_without (is_described tags pairs) good.0.entries))
          (λ _. fields_of tags pairs number good.0.frame bytes good.0.entries >>= λ fields. Ok (fields, good.0.frame.length)) fault good.2) [
            | inl bad ↦ undescribed tags pairs number at bytes fault good.0 b bad
            | inr described ↦
                elim (err_bind (fields_of tags pairs number good.0.frame bytes good.0.entries) (λ fields. Ok (fields, good.0.frame.length)) fault described.2) [
                  | inl bad ↦ unread tags pairs number at bytes fault good.0 b described.1 bad
                  | inr none ↦ absurd (let no = none.2 in cc)
                ]
          ])
    ]
  where
    unread : (tags : List (List ℕ)) (pairs : List (List ℕ × Layout)) (number at : ℕ) (bytes : List ℕ) (fault : FileFault) (framed : Framed) → Begins tags false bytes framed
        → unless_undescribed (first_without (is_described tags pairs) framed.entries) ≡ Ok tt → fields_of tags pairs number framed.frame bytes framed.entries ≡ Err fault → HasDataFault tags pairs number at bytes fault
    unread tags pairs number at bytes fault framed b described bad =
        let k : IsRecord tags false b.piece framed.frame framed.entries = b.is_record in
        let len : length b.piece ≡ framed.frame.length = k.whole in
        let here : fields_of tags pairs number framed.frame b.piece framed.entries ≡ Err fault =
        sym (fields_of-same tags pairs number framed.frame b.piece b.rest framed.entries len k.inside)
        ∙ ap (λ (l : List ℕ). fields_of tags pairs number framed.frame l framed.entries) (sym b.parts) ∙ bad in
        let f = fields_of-fault tags pairs number framed.frame b.piece framed.entries fault k.ended here in
        let each = first_without-none (is_described tags pairs) (IsDescribed tags pairs) framed.entries (is_described-test tags pairs) (none-undescribed (first_without (is_described tags pairs) framed.entries) described) in
        subst (λ (x : FileFault). HasDataFault tags pairs number at bytes x) (sym f.3)
        (b.piece, framed.frame, framed.entries, f.0, f.1, begins tags false bytes framed b, each, f.2, refl, refl)

pub data_record_at-faulty : (tags : List (List ℕ)) (pairs : List (List ℕ × Layout)) (number at : ℕ) (bytes : List ℕ) (fault : FileFault) → HasDataFault tags pairs number at bytes fault → data_record_at tags pairs number at bytes ≡ Err fault
unfolding data_record_at
data_record_at-faulty tags pairs number at bytes (Leader offset) h = rw (record_at-faulty tags false at bytes (Leader offset) h) refl
data_record_at-faulty tags pairs number at bytes (Directory offset) h = rw (record_at-faulty tags false at bytes (Directory offset) h) refl
data_record_at-faulty tags pairs number at bytes (Span offset) h = rw (record_at-faulty tags false at bytes (Span offset) h) refl
data_record_at-faulty tags pairs number at bytes (Terminator offset) h = rw (record_at-faulty tags false at bytes (Terminator offset) h) refl
data_record_at-faulty tags pairs number at bytes NoMemory h = absurd h
data_record_at-faulty tags pairs number at bytes (Descriptor tag) h =
    let b : BeginsRecord tags false bytes h.0 h.1 h.2 = h.5 in
    let framed : record_at tags false at bytes ≡ Ok (record { frame = h.1; entries = h.2 }) = ap (record_at tags false at) b.parts ∙ record_at-again tags false at h.0 b.rest h.1 h.2 b.is_record in
    let first = first_without-is (is_described tags pairs) (IsDescribed tags pairs) h.2 h.3 h.4 (is_described-test tags pairs) h.6 in
    rw (framed, first, ← h.7) refl
data_record_at-faulty tags pairs number at bytes (Subfield n tag) h =
    let b : BeginsRecord tags false bytes h.0 h.1 h.2 = h.5 in
    let k : IsRecord tags false h.0 h.1 h.2 = b.is_record in
    let framed : record_at tags false at bytes ≡ Ok (record { frame = h.1; entries = h.2 }) = ap (record_at tags false at) b.parts ∙ record_at-again tags false at h.0 b.rest h.1 h.2 k in
    let described = first_without-each (is_described tags pairs) (IsDescribed tags pairs) h.2 (is_described-test tags pairs) h.6 in
    let bad : fields_of tags pairs number h.1 bytes h.2 ≡ Err (Subfield number h.4.tag) =
    ap (λ (l : List ℕ). fields_of tags pairs number h.1 l h.2) b.parts ∙ fields_of-same tags pairs number h.1 h.0 b.rest h.2 k.whole k.inside ∙ fields_of-faulty tags pairs number h.1 h.0 h.2 h.3 h.4 k.ended h.7 in
    rw (framed, described, bad, ← h.8, ← h.9) refl

-- ---- the data descriptive record

pub record IsFirstAt (tags : List (List ℕ)) (bytes : List ℕ) (pairs : List (List ℕ × Layout)) (rest : List ℕ) : Type 0 where
  pub piece : List ℕ
  pub parts : bytes ≡ piece ++ rest
  pub is_record : IsDescriptiveRecord tags piece pairs

pub descriptive_record_at-found : SpellingLaw → (tags : List (List ℕ)) (bytes : List ℕ) (pairs : List (List ℕ × Layout)) (rest : List ℕ) → descriptive_record_at tags bytes ≡ Ok (pairs, rest) → IsFirstAt tags bytes pairs rest
descriptive_record_at-found law tags bytes pairs rest h =
    let d = descriptive_record_at-is tags bytes pairs rest h in
    let b = record_at-found tags true 0 bytes d.framed d.is_framed in
    let k : IsRecord tags true b.piece d.framed.frame d.framed.entries = b.is_record in
    let read : descriptors_in d.framed.frame b.piece (describing_entries tags [] d.framed.entries) ≡ Ok pairs =
    sym (descriptors_in-same d.framed.frame b.piece b.rest (describing_entries tags [] d.framed.entries) k.whole (describing_entries-inside tags [] d.framed.frame d.framed.entries k.inside))
    ∙ ap (λ (l : List ℕ). descriptors_in d.framed.frame l (describing_entries tags [] d.framed.entries)) (sym b.parts) ∙ d.describe in
    record {
      piece = b.piece;
      parts = b.parts ∙ ap (λ (l : List ℕ). b.piece ++ l) (b.rest_is ∙ d.rest_is);
      is_record = record { frame = d.framed.frame; entries = d.framed.entries; is_record = k; describe = descriptors_in-found law d.framed.frame b.piece (describing_entries tags [] d.framed.entries) pairs read };
    }

pub descriptive_record_at-again : SpellingLaw → (tags : List (List ℕ)) (piece rest : List ℕ) (pairs : List (List ℕ × Layout)) → IsDescriptiveRecord tags piece pairs → descriptive_record_at tags (piece ++ rest) ≡ Ok (pairs, rest)
unfolding descriptive_record_at
descriptive_record_at-again law tags piece rest pairs h =
    let k : IsRecord tags true piece h.frame h.entries = h.is_record in
    let len : length piece ≡ h.frame.length = k.whole in
    let read : descriptors_in h.frame (piece ++ rest) (describing_entries tags [] h.entries) ≡ Ok pairs =
    descriptors_in-same h.frame piece rest (describing_entries tags [] h.entries) len (describing_entries-inside tags [] h.frame h.entries k.inside) ∙ descriptors_in-again law h.frame piece (describing_entries tags [] h.entries) pairs h.describe in
    rw (record_at-again tags true 0 piece rest h.frame h.entries k, read) (ap (λ (l : List ℕ). Ok (pairs, l)) (ap (λ n. drop n (piece ++ rest)) (sym len) ∙ drop-append_seam piece rest))

to-descriptive-fault : (tags : List (List ℕ)) (bytes : List ℕ) (fault : FileFault) → HasFrameFault tags true 0 bytes fault → HasDescriptiveFault tags bytes fault
to-descriptive-fault tags bytes (Leader offset) h = h
to-descriptive-fault tags bytes (Directory offset) h = h
to-descriptive-fault tags bytes (Span offset) h = h
to-descriptive-fault tags bytes (Terminator offset) h = h
to-descriptive-fault tags bytes (Descriptor tag) h = absurd h
to-descriptive-fault tags bytes (Subfield n tag) h = absurd h
to-descriptive-fault tags bytes NoMemory h = absurd h

pub descriptive_record_at-fault : SpellingLaw → (tags : List (List ℕ)) (bytes : List ℕ) (fault : FileFault) → descriptive_record_at tags bytes ≡ Err fault → HasDescriptiveFault tags bytes fault
unfolding descriptive_record_at
descriptive_record_at-fault law tags bytes fault h =
    elim (err_bind (record_at tags true 0 bytes) (λ framed. descriptors_in framed.frame bytes (describing_entries tags [] framed.entries) >>= λ descriptors. Ok (descriptors, drop framed.frame.length bytes)) fault h) [
      | inl bad ↦ to-descriptive-fault tags bytes fault (record_at-fault tags true 0 bytes fault bad)
      | inr good ↦
          (let b = record_at-found tags true 0 bytes good.0 good.1 in
          elim (err_bind (descriptors_in good.0.frame bytes (describing_entries tags [] good.0.entries)) (λ descriptors. Ok (descriptors, drop good.0.frame.length bytes)) fault good.2) [
            | inl bad ↦
                (let k : IsRecord tags true b.piece good.0.frame good.0.entries = b.is_record in
                let here : descriptors_in good.0.frame b.piece (describing_entries tags [] good.0.entries) ≡ Err fault =
                sym (descriptors_in-same good.0.frame b.piece b.rest (describing_entries tags [] good.0.entries) k.whole (describing_entries-inside tags [] good.0.frame good.0.entries k.inside))
                ∙ ap (λ (l : List ℕ). descriptors_in good.0.frame l (describing_entries tags [] good.0.entries)) (sym b.parts) ∙ bad in
                let f = descriptors_in-fault law good.0.frame b.piece (describing_entries tags [] good.0.entries) fault here in
                subst (λ (x : FileFault). HasDescriptiveFault tags bytes x) (sym f.3) (b.piece, good.0.frame, good.0.entries, f.0, f.1, begins tags true bytes good.0 b, f.2, refl))
            | inr none ↦ absurd (let no = none.2 in cc)
          ])
    ]

pub descriptive_record_at-faulty : SpellingLaw → (tags : List (List ℕ)) (bytes : List ℕ) (fault : FileFault) → HasDescriptiveFault tags bytes fault → descriptive_record_at tags bytes ≡ Err fault
unfolding descriptive_record_at
descriptive_record_at-faulty law tags bytes (Leader offset) h = rw (record_at-faulty tags true 0 bytes (Leader offset) h) refl
descriptive_record_at-faulty law tags bytes (Directory offset) h = rw (record_at-faulty tags true 0 bytes (Directory offset) h) refl
descriptive_record_at-faulty law tags bytes (Span offset) h = rw (record_at-faulty tags true 0 bytes (Span offset) h) refl
descriptive_record_at-faulty law tags bytes (Terminator offset) h = rw (record_at-faulty tags true 0 bytes (Terminator offset) h) refl
descriptive_record_at-faulty law tags bytes (Subfield n tag) h = absurd h
descriptive_record_at-faulty law tags bytes NoMemory h = absurd h
descriptive_record_at-faulty law tags bytes (Descriptor tag) h =
    let b : BeginsRecord tags true bytes h.0 h.1 h.2 = h.5 in
    let k : IsRecord tags true h.0 h.1 h.2 = b.is_record in
    let framed : record_at tags true 0 bytes ≡ Ok (record { frame = h.1; entries = h.2 }) = ap (record_at tags true 0) b.parts ∙ record_at-again tags true 0 h.0 b.rest h.1 h.2 k in
    let bad : descriptors_in h.1 bytes (describing_entries tags [] h.2) ≡ Err (Descriptor h.4.tag) =
    ap (λ (l : List ℕ). descriptors_in h.1 l (describing_entries tags [] h.2)) b.parts
    ∙ descriptors_in-same h.1 h.0 b.rest (describing_entries tags [] h.2) k.whole (describing_entries-inside tags [] h.1 h.2 k.inside)
    ∙ descriptors_in-faulty law h.1 h.0 (describing_entries tags [] h.2) h.3 h.4 h.6 in
    rw (framed, bad, ← h.7) refl
