-- Reading the fields of a data record one after the other.
use Rattle.std.proofs.Common.{◌≡◌, ℕ, suc, ◌+◌, ◌≤◌, ◌<◌, List, [], ◌∷◌, ◌++◌, length, get_or, drop, Result, Ok, refl, sym, ap, ◌∙◌, add-one, drop-cons, arith, if◌then◌else◌}
use Rattle.std.proofs.Math.ListN.{drop_of_length-le}
use Rattle.std.proofs.lemmas.List.{append-nil}
use Rattle.iso8211_formats.specs.Layout.{Layout}
use Rattle.iso8211_leader.specs.Leader.{Frame}
use Rattle.iso8211_leader.specs.declared.entry.Entry.{Entry}
use Rattle.iso8211_records.specs.declared.record.RawField.{RawField}
use Rattle.iso8211_records.specs.declared.fault.FileFault.{FileFault}
use Rattle.iso8211_records.specs.Answers.{Fails}
use Rattle.iso8211_records.specs.Tags.{is_listed}
use Rattle.iso8211_records.specs.Budget.{listed_bytes}
use Rattle.iso8211_records.specs.Record.{field_bytes}
use Rattle.chart_model.specs.Answers.{◌>>=◌}
use Rattle.iso8211_records.specs.Reading.{field_by, fields_of}
use Rattle.iso8211_records.proofs.Directory.{behind, join}
use Rattle.iso8211_records.proofs.Results.{Fails-bind, Fails-same}
use Rattle.iso8211_records.proofs.Described.{no_entry}

pub fields-more : (tags : List (List ℕ)) (descriptors : List (List ℕ × Layout)) (number : ℕ) (frame : Frame) (bytes : List ℕ) (front : List RawField) (entries : List Entry) (i : ℕ) (field : RawField) (total : Result (List RawField) FileFault)
    → i < length entries → field_by tags descriptors number (get_or entries i no_entry).tag (field_bytes frame bytes (get_or entries i no_entry)) ≡ Ok field
    → behind front (fields_of tags descriptors number frame bytes (drop i entries)) ≡ total → behind (front ++ field ∷ []) (fields_of tags descriptors number frame bytes (drop (i + 1) entries)) ≡ total
unfolding fields_of
fields-more tags descriptors number frame bytes front entries i field total inside one so_far =
    let step : behind front (fields_of tags descriptors number frame bytes (drop i entries)) ≡ behind (front ++ field ∷ []) (fields_of tags descriptors number frame bytes (drop (suc i) entries)) =
    rw (drop-cons entries i no_entry inside, one) (join front field (fields_of tags descriptors number frame bytes (drop (suc i) entries))) in
    rw add-one (sym step ∙ so_far)

pub fields-fail : (fault : FileFault) (tags : List (List ℕ)) (descriptors : List (List ℕ × Layout)) (number : ℕ) (frame : Frame) (bytes : List ℕ) (front : List RawField) (entries : List Entry) (i : ℕ) (total : Result (List RawField) FileFault)
    → i < length entries → Fails fault (field_by tags descriptors number (get_or entries i no_entry).tag (field_bytes frame bytes (get_or entries i no_entry)))
    → behind front (fields_of tags descriptors number frame bytes (drop i entries)) ≡ total → Fails fault total
unfolding fields_of
fields-fail fault tags descriptors number frame bytes front entries i total inside bad so_far =
    let entry : Entry = get_or entries i no_entry in
    let step : behind front (fields_of tags descriptors number frame bytes (drop i entries))
    ≡ behind front (field_by tags descriptors number entry.tag (field_bytes frame bytes entry) >>= λ field. fields_of tags descriptors number frame bytes (drop (suc i) entries) >>= λ fields. Ok (field ∷ fields)) =
    rw (drop-cons entries i no_entry inside) refl in
    Fails-same fault _ _ (sym step ∙ so_far) (Fails-bind fault _ _ (Fails-bind fault _ _ bad))

pub fields-all : (tags : List (List ℕ)) (descriptors : List (List ℕ × Layout)) (number : ℕ) (frame : Frame) (bytes : List ℕ) (front : List RawField) (entries : List Entry) (i : ℕ) (total : Result (List RawField) FileFault)
    → length entries ≤ i → behind front (fields_of tags descriptors number frame bytes (drop i entries)) ≡ total → total ≡ Ok front
unfolding fields_of
fields-all tags descriptors number frame bytes front entries i total done so_far =
    sym so_far ∙ rw (drop_of_length-le entries done) (ap (λ (fs : List RawField). Ok fs) (append-nil front))

-- the bytes that are taken from the budget: of one field more
pub taken-more : (tags : List (List ℕ)) (entries : List Entry) (i before after total size : ℕ) → i < length entries → before + size ≡ total + listed_bytes tags (drop i entries)
    → after + (if is_listed tags (get_or entries i no_entry).tag then (get_or entries i no_entry).length else 0) ≡ before → after + size ≡ total + listed_bytes tags (drop (i + 1) entries)
taken-more tags entries i before after total size inside so_far one =
    let step : listed_bytes tags (drop i entries) ≡ (if is_listed tags (get_or entries i no_entry).tag then (get_or entries i no_entry).length else 0) + listed_bytes tags (drop (suc i) entries) =
    rw (drop-cons entries i no_entry inside) refl in
    rw add-one (omega arith)

-- and of all
pub taken-all : (tags : List (List ℕ)) (entries : List Entry) (i left total : ℕ) → length entries ≤ i → left + listed_bytes tags entries ≡ total + listed_bytes tags (drop i entries) → left + listed_bytes tags entries ≡ total
taken-all tags entries i left total done so_far =
    let none : listed_bytes tags (drop i entries) ≡ 0 = rw (drop_of_length-le entries done) refl in
    omega arith
