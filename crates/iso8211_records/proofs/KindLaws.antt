-- What is read has values of the kinds of its descriptors.
use Rattle.std.proofs.Common.{◌≡◌, ℕ, zero, suc, ◌+◌, ◌-◌, ◌≤◌, true, false, cond, not, List, [], ◌∷◌, length, take, drop, Option, Some, None, Ok, refl, sym, ap, ◌∙◌, subst, arith}
use Rattle.std.specs.Prelude.{◌&&◌, MatchOption}
use Rattle.std.specs.List.{AllByRecursion}
use Rattle.std.specs.Str.{bytes_eq}
use Rattle.std.proofs.lemmas.Slice.Eq.{bytes_eq-Decides}
use Rattle.std.proofs.lemmas.List.{length-drop}
use Rattle.iso8211_formats.specs.Layout.{Layout}
use Rattle.iso8211_formats.specs.Reading.{descriptor_of}
use Rattle.iso8211_formats.specs.declared.format.Format.{Format}
use Rattle.iso8211_leader.specs.Leader.{Frame}
use Rattle.iso8211_leader.specs.declared.entry.Entry.{Entry}
use Rattle.iso8211_records.specs.declared.value.Value.{Value}
use Rattle.iso8211_records.specs.declared.record.RawField.{RawField}
use Rattle.iso8211_records.specs.declared.fault.FileFault.{FileFault}
use Rattle.iso8211_records.specs.declared.fault.FileFault.TheVariants.{Descriptor, Subfield}
use Rattle.iso8211_records.specs.Tags.{is_listed}
use Rattle.iso8211_records.specs.Spelling.{Spells, AreSpelled, formats_in, with_groups}
use Rattle.iso8211_records.specs.Kinds.{layout_at, IsKind, AreKinds, FitsLayout, FitsTag}
use Rattle.iso8211_records.specs.FileValue.{KeepsKinds}
use Rattle.iso8211_records.specs.Record.{describing_entries, field_bytes}
use Rattle.iso8211_records.specs.Values.{values_of}
use Rattle.chart_model.specs.Answers.{◌>>=◌, or_fault}
use Rattle.iso8211_records.specs.Reading.{descriptors_in, descriptive_record_at, record_at, Framed, values_by, field_by, fields_of, data_record_at, data_records_at}
use Rattle.iso8211_records.proofs.PassedTests.{both_parts}
use Rattle.iso8211_records.proofs.FieldLaws.{values_of-found}
use Rattle.iso8211_records.proofs.ValueLaws.{by_kind}
use Rattle.iso8211_records.proofs.Results.{bind_ok}
use Rattle.iso8211_records.proofs.Records.{data_record_at-is}

-- ---- kinds

Spells-kind : (format : Format) (value : Value) (bytes : List ℕ) → Spells format value bytes → IsKind format value
Spells-kind format value bytes h =
    by_kind (λ f v _. IsKind f v) (λ _ _ _. tt) (λ _ _ _ _. tt) (λ _ _ _ _. tt) (λ _ _ _ _. tt) (λ _ _ _ _. tt) format value bytes h

AreSpelled-kinds : (formats : List Format) (values : List Value) (bytes : List ℕ) → AreSpelled formats values bytes → AreKinds formats values
AreSpelled-kinds [] [] bytes h = tt
AreSpelled-kinds [] (value ∷ values) bytes h = absurd h
AreSpelled-kinds (format ∷ formats) [] bytes h = absurd h
AreSpelled-kinds (format ∷ formats) (value ∷ values) bytes h = (Spells-kind format value h.0 h.3, AreSpelled-kinds formats values h.1 h.4)

-- ---- descriptors have listed tags

describing_entries-listed : (tags seen : List (List ℕ)) (entries : List Entry) → AllByRecursion (λ (e : Entry). is_listed tags e.tag ≡ true) (describing_entries tags seen entries)
describing_entries-listed tags seen [] = tt
describing_entries-listed tags seen (entry ∷ entries) =
    elim (is_listed tags entry.tag && not (is_listed seen entry.tag))
    as (λ b. (is_listed tags entry.tag && not (is_listed seen entry.tag)) ≡ b → AllByRecursion (λ (e : Entry). is_listed tags e.tag ≡ true) (cond b (entry ∷ describing_entries tags (entry.tag ∷ seen) entries) (describing_entries tags seen entries))) [
      | true ↦ λ e. ((both_parts _ _ e).0, describing_entries-listed tags (entry.tag ∷ seen) entries)
      | false ↦ λ e. describing_entries-listed tags seen entries
    ] refl

descriptors_in-listed : (tags : List (List ℕ)) (frame : Frame) (bytes : List ℕ) (entries : List Entry) (pairs : List (List ℕ × Layout)) → AllByRecursion (λ (e : Entry). is_listed tags e.tag ≡ true) entries
    → descriptors_in frame bytes entries ≡ Ok pairs → AllByRecursion (λ (p : List ℕ × Layout). is_listed tags p.0 ≡ true) pairs
unfolding descriptors_in
descriptors_in-listed tags frame bytes [] [] listed h = tt
descriptors_in-listed tags frame bytes [] (pair ∷ pairs) listed h = absurd cc
descriptors_in-listed tags frame bytes (entry ∷ entries) pairs listed h =
    let p = bind_ok (or_fault (Descriptor entry.tag) (descriptor_of (field_bytes frame bytes entry))) (λ layout. descriptors_in frame bytes entries >>= λ pairs. Ok ((entry.tag, layout) ∷ pairs)) pairs h in
    let q = bind_ok (descriptors_in frame bytes entries) (λ pairs. Ok ((entry.tag, p.0) ∷ pairs)) pairs p.2 in
    let is : (entry.tag, p.0) ∷ q.0 ≡ pairs = cc in
    subst (λ (ps : List (List ℕ × Layout)). AllByRecursion (λ (p : List ℕ × Layout). is_listed tags p.0 ≡ true) ps) is
    (listed.0, descriptors_in-listed tags frame bytes entries q.0 listed.1 q.1)

layout_at-listed : (tags : List (List ℕ)) (pairs : List (List ℕ × Layout)) (tag : List ℕ) (layout : Layout) → AllByRecursion (λ (p : List ℕ × Layout). is_listed tags p.0 ≡ true) pairs → layout_at pairs tag ≡ Some layout → is_listed tags tag ≡ true
layout_at-listed tags [] tag layout listed h = absurd cc
layout_at-listed tags (pair ∷ pairs) tag layout listed h =
    elim (bytes_eq pair.0 tag) as (λ b. bytes_eq pair.0 tag ≡ b → cond b (Some pair.1) (layout_at pairs tag) ≡ Some layout → is_listed tags tag ≡ true) [
      | true ↦ λ e k. subst (λ (t : List ℕ). is_listed tags t ≡ true) ((bytes_eq-Decides pair.0 tag).0 e) listed.0
      | false ↦ λ e k. layout_at-listed tags pairs tag layout listed.1 k
    ] refl h

layout_at-unlisted : (tags : List (List ℕ)) (pairs : List (List ℕ × Layout)) (tag : List ℕ) → AllByRecursion (λ (p : List ℕ × Layout). is_listed tags p.0 ≡ true) pairs → is_listed tags tag ≡ false → layout_at pairs tag ≡ None
layout_at-unlisted tags pairs tag listed other =
    elim (layout_at pairs tag) as (λ (o : Option Layout). layout_at pairs tag ≡ o → o ≡ None) [
      | None ↦ λ e. refl
      | Some layout ↦ λ e. absurd (let is = layout_at-listed tags pairs tag layout listed e in let no : true ≡ false = sym is ∙ other in cc)
    ] refl

-- ---- what is read

pub record IsDescriptive (tags : List (List ℕ)) (bytes : List ℕ) (pairs : List (List ℕ × Layout)) (rest : List ℕ) : Type 0 where
  pub framed : Framed
  pub is_framed : record_at tags true 0 bytes ≡ Ok framed
  pub describe : descriptors_in framed.frame bytes (describing_entries tags [] framed.entries) ≡ Ok pairs
  pub rest_is : drop framed.frame.length bytes ≡ rest

pub descriptive_record_at-is : (tags : List (List ℕ)) (bytes : List ℕ) (pairs : List (List ℕ × Layout)) (rest : List ℕ) → descriptive_record_at tags bytes ≡ Ok (pairs, rest) → IsDescriptive tags bytes pairs rest
unfolding descriptive_record_at
descriptive_record_at-is tags bytes pairs rest h =
    let p = bind_ok (record_at tags true 0 bytes) (λ framed. descriptors_in framed.frame bytes (describing_entries tags [] framed.entries) >>= λ descriptors. Ok (descriptors, drop framed.frame.length bytes)) (pairs, rest) h in
    let q = bind_ok (descriptors_in p.0.frame bytes (describing_entries tags [] p.0.entries)) (λ descriptors. Ok (descriptors, drop p.0.frame.length bytes)) (pairs, rest) p.2 in
    let found : List (List ℕ × Layout) × List ℕ = (q.0, drop p.0.frame.length bytes) in
    let is : found ≡ (pairs, rest) = cc in
    record {
      framed = p.0;
      is_framed = p.1;
      describe = q.1 ∙ ap (λ (x : List (List ℕ × Layout) × List ℕ). Ok x.0) is;
      rest_is = ap (λ (x : List (List ℕ × Layout) × List ℕ). x.1) is;
    }

pub descriptive-shorter : (tags : List (List ℕ)) (bytes : List ℕ) (pairs : List (List ℕ × Layout)) (rest : List ℕ) → descriptive_record_at tags bytes ≡ Ok (pairs, rest) → length rest ≤ length bytes
descriptive-shorter tags bytes pairs rest h =
    let d = descriptive_record_at-is tags bytes pairs rest h in
    let len : length rest ≡ length bytes - d.framed.frame.length = ap length (sym d.rest_is) ∙ length-drop d.framed.frame.length bytes in
    omega arith

pub descriptive-listed : (tags : List (List ℕ)) (bytes : List ℕ) (pairs : List (List ℕ × Layout)) (rest : List ℕ) → descriptive_record_at tags bytes ≡ Ok (pairs, rest) → AllByRecursion (λ (p : List ℕ × Layout). is_listed tags p.0 ≡ true) pairs
descriptive-listed tags bytes pairs rest h =
    let d = descriptive_record_at-is tags bytes pairs rest h in
    descriptors_in-listed tags d.framed.frame bytes (describing_entries tags [] d.framed.entries) pairs (describing_entries-listed tags [] d.framed.entries) d.describe

values_by-some : (number : ℕ) (tag : List ℕ) (o : Option Layout) (bytes : List ℕ) (values : List Value) → or_fault (Subfield number tag) (values_by o bytes) ≡ Ok values → (layout : Layout) × (o ≡ Some layout) × FitsLayout layout values
unfolding values_by
values_by-some number tag None bytes values h = absurd cc
values_by-some number tag (Some layout) bytes values h = (
  layout,
  refl,
  let text = values_of-found (formats_in layout) (take (length bytes - 1) bytes) values (or_fault-ok (Subfield number tag) (values_of (formats_in layout) (take (length bytes - 1) bytes)) values h) in
      (text.0, AreSpelled-kinds (with_groups text.0 (formats_in layout)) values (take (length bytes - 1) bytes) text.1),
)
  where
    or_fault-ok : (fault : FileFault) (o : Option (List Value)) (values : List Value) → or_fault fault o ≡ Ok values → o ≡ Some values
    or_fault-ok fault None values h = absurd cc
    or_fault-ok fault (Some found) values h = cc

field_by-fits : (tags : List (List ℕ)) (pairs : List (List ℕ × Layout)) (number : ℕ) (tag bytes : List ℕ) (field : RawField) → AllByRecursion (λ (p : List ℕ × Layout). is_listed tags p.0 ≡ true) pairs
    → field_by tags pairs number tag bytes ≡ Ok field → FitsTag pairs field
unfolding field_by
field_by-fits tags pairs number tag bytes field listed h =
    elim (is_listed tags tag)
    as (λ b. is_listed tags tag ≡ b → cond b (or_fault (Subfield number tag) (values_by (layout_at pairs tag) bytes) >>= λ values. Ok (record { tag = tag; values = values })) (Ok (record { tag = tag; values = [] })) ≡ Ok field → FitsTag pairs field) [
      | true ↦ λ e k.
          (let p = bind_ok (or_fault (Subfield number tag) (values_by (layout_at pairs tag) bytes)) (λ values. Ok (record { tag = tag; values = values })) field k in
          let found : RawField = record { tag = tag; values = p.0 } in
          let is : found ≡ field = cc in
          let fits = values_by-some number tag (layout_at pairs tag) bytes p.0 p.1 in
          subst (λ (f : RawField). FitsTag pairs f) is
          (subst (λ (o : Option Layout). MatchOption o (p.0 ≡ []) (λ layout. FitsLayout layout p.0)) (sym fits.1) fits.2))
      | false ↦ λ e k.
          (let found : RawField = record { tag = tag; values = [] } in
          let is : found ≡ field = cc in
          let none = layout_at-unlisted tags pairs tag listed e in
          subst (λ (f : RawField). FitsTag pairs f) is
          (subst (λ (o : Option Layout). MatchOption o (found.values ≡ []) (λ layout. FitsLayout layout found.values)) (sym none) refl))
    ] refl h

fields_of-fit : (tags : List (List ℕ)) (pairs : List (List ℕ × Layout)) (number : ℕ) (frame : Frame) (bytes : List ℕ) (entries : List Entry) (fields : List RawField) → AllByRecursion (λ (p : List ℕ × Layout). is_listed tags p.0 ≡ true) pairs
    → fields_of tags pairs number frame bytes entries ≡ Ok fields → AllByRecursion (FitsTag pairs) fields
unfolding fields_of
fields_of-fit tags pairs number frame bytes [] [] listed h = tt
fields_of-fit tags pairs number frame bytes [] (field ∷ fields) listed h = absurd cc
fields_of-fit tags pairs number frame bytes (entry ∷ entries) fields listed h =
    let p = bind_ok (field_by tags pairs number entry.tag (field_bytes frame bytes entry)) (λ field. fields_of tags pairs number frame bytes entries >>= λ fields. Ok (field ∷ fields)) fields h in
    let q = bind_ok (fields_of tags pairs number frame bytes entries) (λ fields. Ok (p.0 ∷ fields)) fields p.2 in
    let is : p.0 ∷ q.0 ≡ fields = cc in
    subst (λ (fs : List RawField). AllByRecursion (FitsTag pairs) fs) is
    (field_by-fits tags pairs number entry.tag (field_bytes frame bytes entry) p.0 listed p.1, fields_of-fit tags pairs number frame bytes entries q.0 listed q.1)

pub records-fit : (bound : ℕ) (tags : List (List ℕ)) (pairs : List (List ℕ × Layout)) (number at : ℕ) (bytes : List ℕ) (records : List (List RawField)) → AllByRecursion (λ (p : List ℕ × Layout). is_listed tags p.0 ≡ true) pairs
    → data_records_at bound tags pairs number at bytes ≡ Ok records → KeepsKinds pairs records
unfolding data_records_at
records-fit zero tags pairs number at [] records listed h = let none : records ≡ [] = cc in rw none tt
records-fit (suc bound) tags pairs number at [] records listed h = let none : records ≡ [] = cc in rw none tt
records-fit zero tags pairs number at (byte ∷ bytes) records listed h = absurd cc
records-fit (suc bound) tags pairs number at (byte ∷ bytes) records listed h =
    let p = bind_ok (data_record_at tags pairs number at (byte ∷ bytes))
    (λ first. data_records_at bound tags pairs (number + 1) (at + first.1) (drop first.1 (byte ∷ bytes)) >>= λ others. Ok (first.0 ∷ others)) records h in
    let q = bind_ok (data_records_at bound tags pairs (number + 1) (at + p.0.1) (drop p.0.1 (byte ∷ bytes))) (λ others. Ok (p.0.0 ∷ others)) records p.2 in
    let is : p.0.0 ∷ q.0 ≡ records = cc in
    let first = data_record_at-is tags pairs number at (byte ∷ bytes) p.0.0 p.0.1 p.1 in
    subst (λ (rs : List (List RawField)). KeepsKinds pairs rs) is (
      fields_of-fit tags pairs number first.framed.frame (byte ∷ bytes) first.framed.entries p.0.0 listed first.has_fields,
      records-fit bound tags pairs (number + 1) (at + p.0.1) (drop p.0.1 (byte ∷ bytes)) q.0 listed q.1,
    )
