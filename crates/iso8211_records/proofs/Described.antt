-- Collecting descriptors, of each tag the first.
use Rattle.std.proofs.Common.{◌≡◌, ℕ, suc, ◌+◌, ◌≤◌, ◌<◌, Bool, true, false, cond, not, List, [], ◌∷◌, ◌++◌, length, get_or, drop, Option, Some, None, Result, Ok, refl, sym, ap, ◌∙◌, add-one, drop-cons}
use Rattle.std.specs.Prelude.{◌&&◌, ◌||◌, is_some}
use Rattle.std.specs.Str.{bytes_eq}
use Rattle.std.proofs.Math.ListN.{drop_of_length-le}
use Rattle.std.proofs.lemmas.List.{append-nil}
use Rattle.iso8211_formats.specs.Layout.{Layout}
use Rattle.iso8211_formats.specs.Reading.{descriptor_of}
use Rattle.iso8211_leader.specs.Leader.{Frame}
use Rattle.iso8211_leader.specs.declared.entry.Entry.{Entry}
use Rattle.iso8211_records.specs.declared.fault.FileFault.{FileFault}
use Rattle.iso8211_records.specs.declared.fault.FileFault.TheVariants.{Descriptor}
use Rattle.iso8211_records.specs.Tags.{is_listed}
use Rattle.iso8211_records.specs.Kinds.{layout_at}
use Rattle.iso8211_records.specs.Answers.{Fails}
use Rattle.iso8211_records.specs.Record.{describing_entries, field_bytes}
use Rattle.chart_model.specs.Answers.{◌>>=◌, or_fault}
use Rattle.iso8211_records.specs.Reading.{descriptors_in}
use Rattle.iso8211_records.proofs.Directory.{behind, join}
use Rattle.iso8211_records.proofs.Results.{Fails-bind, Fails-same}

-- the tags of the descriptors
pub record HaveTags (pairs : List (List ℕ × Layout)) (seen : List (List ℕ)) : Type 0 where
  pub same : (tag : List ℕ) → is_listed seen tag ≡ is_some (layout_at pairs tag)

-- what stands past the end of a list of entries
abbrev pub no_entry : Entry
no_entry = record { tag = []; length = 0; position = 0 }

pub HaveTags-none : HaveTags [] []
HaveTags-none = record { same = λ tag. refl }

one-pair : (here : Bool) (layout : Layout) → is_some (cond here (Some layout) None) ≡ (here || is_some {T = Layout} None)
one-pair true layout = refl
one-pair false layout = refl

later-pair : (here there : Bool) (layout : Layout) (more less : Option Layout) → is_some more ≡ (there || is_some less) → is_some (cond here (Some layout) more) ≡ (there || is_some (cond here (Some layout) less))
later-pair true true layout more less h = refl
later-pair true false layout more less h = refl
later-pair false there layout more less h = h

layout_at-push : (pairs : List (List ℕ × Layout)) (pair : List ℕ × Layout) (tag : List ℕ) → is_some (layout_at (pairs ++ pair ∷ []) tag) ≡ (bytes_eq pair.0 tag || is_some (layout_at pairs tag))
layout_at-push [] pair tag = one-pair (bytes_eq pair.0 tag) pair.1
layout_at-push (first ∷ pairs) pair tag = later-pair (bytes_eq first.0 tag) (bytes_eq pair.0 tag) first.1 (layout_at (pairs ++ pair ∷ []) tag) (layout_at pairs tag) (layout_at-push pairs pair tag)

pub HaveTags-push : (pairs : List (List ℕ × Layout)) (seen : List (List ℕ)) (pair : List ℕ × Layout) → HaveTags pairs seen → HaveTags (pairs ++ pair ∷ []) (pair.0 ∷ seen)
HaveTags-push pairs seen pair h = record { same = λ tag. rw (layout_at-push pairs pair tag, ← h.same tag) refl }

-- a field that describes
pub described-more : (frame : Frame) (bytes : List ℕ) (tags seen : List (List ℕ)) (pairs : List (List ℕ × Layout)) (entries : List Entry) (i : ℕ) (layout : Layout) (total : Result (List (List ℕ × Layout)) FileFault)
    → i < length entries → (is_listed tags (get_or entries i no_entry).tag && not (is_listed seen (get_or entries i no_entry).tag)) ≡ true
    → or_fault (Descriptor (get_or entries i no_entry).tag) (descriptor_of (field_bytes frame bytes (get_or entries i no_entry))) ≡ Ok layout
    → behind pairs (descriptors_in frame bytes (describing_entries tags seen (drop i entries))) ≡ total
    → behind (pairs ++ ((get_or entries i no_entry).tag, layout) ∷ []) (descriptors_in frame bytes (describing_entries tags ((get_or entries i no_entry).tag ∷ seen) (drop (i + 1) entries))) ≡ total
unfolding descriptors_in
described-more frame bytes tags seen pairs entries i layout total inside is_new spelled so_far =
    let entry : Entry = get_or entries i no_entry in
    let step : behind pairs (descriptors_in frame bytes (describing_entries tags seen (drop i entries)))
    ≡ behind (pairs ++ (entry.tag, layout) ∷ []) (descriptors_in frame bytes (describing_entries tags (entry.tag ∷ seen) (drop (suc i) entries))) =
    rw (drop-cons entries i no_entry inside, is_new, spelled) (join pairs (entry.tag, layout) (descriptors_in frame bytes (describing_entries tags (entry.tag ∷ seen) (drop (suc i) entries)))) in
    rw add-one (sym step ∙ so_far)

-- or none is to be read
pub described-less : (frame : Frame) (bytes : List ℕ) (tags seen : List (List ℕ)) (pairs : List (List ℕ × Layout)) (entries : List Entry) (i : ℕ) (total : Result (List (List ℕ × Layout)) FileFault)
    → i < length entries → (is_listed tags (get_or entries i no_entry).tag && not (is_listed seen (get_or entries i no_entry).tag)) ≡ false
    → behind pairs (descriptors_in frame bytes (describing_entries tags seen (drop i entries))) ≡ total
    → behind pairs (descriptors_in frame bytes (describing_entries tags seen (drop (i + 1) entries))) ≡ total
described-less frame bytes tags seen pairs entries i total inside other so_far =
    let step : describing_entries tags seen (drop i entries) ≡ describing_entries tags seen (drop (suc i) entries) = rw (drop-cons entries i no_entry inside, other) refl in
    rw add-one (ap (λ (es : List Entry). behind pairs (descriptors_in frame bytes es)) (sym step) ∙ so_far)

-- or it describes nothing
pub described-fail : (fault : FileFault) (frame : Frame) (bytes : List ℕ) (tags seen : List (List ℕ)) (pairs : List (List ℕ × Layout)) (entries : List Entry) (i : ℕ) (total : Result (List (List ℕ × Layout)) FileFault)
    → i < length entries → (is_listed tags (get_or entries i no_entry).tag && not (is_listed seen (get_or entries i no_entry).tag)) ≡ true
    → Fails fault (or_fault (Descriptor (get_or entries i no_entry).tag) (descriptor_of (field_bytes frame bytes (get_or entries i no_entry))))
    → behind pairs (descriptors_in frame bytes (describing_entries tags seen (drop i entries))) ≡ total → Fails fault total
unfolding descriptors_in
described-fail fault frame bytes tags seen pairs entries i total inside is_new bad so_far =
    let entry : Entry = get_or entries i no_entry in
    let step : behind pairs (descriptors_in frame bytes (describing_entries tags seen (drop i entries)))
    ≡ behind pairs (or_fault (Descriptor entry.tag) (descriptor_of (field_bytes frame bytes entry)) >>= λ layout. descriptors_in frame bytes (describing_entries tags (entry.tag ∷ seen) (drop (suc i) entries)) >>= λ more. Ok ((entry.tag, layout) ∷ more)) =
    rw (drop-cons entries i no_entry inside, is_new) refl in
    Fails-same fault _ _ (sym step ∙ so_far) (Fails-bind fault _ _ (Fails-bind fault _ _ bad))

pub described-all : (frame : Frame) (bytes : List ℕ) (tags seen : List (List ℕ)) (pairs : List (List ℕ × Layout)) (entries : List Entry) (i : ℕ) (total : Result (List (List ℕ × Layout)) FileFault)
    → length entries ≤ i → behind pairs (descriptors_in frame bytes (describing_entries tags seen (drop i entries))) ≡ total → total ≡ Ok pairs
unfolding descriptors_in
described-all frame bytes tags seen pairs entries i total done so_far =
    sym so_far ∙ rw (drop_of_length-le entries done) (ap (λ (ps : List (List ℕ × Layout)). Ok ps) (append-nil pairs))

-- the test of the code, by the tags that were seen
pub is_new-by : (tags seen : List (List ℕ)) (pairs : List (List ℕ × Layout)) (tag : List ℕ) (b : Bool) → HaveTags pairs seen → b ≡ (is_listed tags tag && not (is_some (layout_at pairs tag))) → (is_listed tags tag && not (is_listed seen tag)) ≡ b
is_new-by tags seen pairs tag b h e = rw (h.same tag) (sym e)
