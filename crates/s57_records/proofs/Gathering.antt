-- What was gathered is what the records say.
use Rattle.std.proofs.Common.{◌≡◌, ℕ, suc, Bool, true, false, cond, List, [], ◌∷◌, ◌++◌, map, Option, Some, None, Result, Ok, Err, refl, sym, ap, subst, ◌∙◌, append-nil}
use Rattle.std.proofs.lemmas.Bool.{true≢false}
use Rattle.std.proofs.lemmas.List.{append_assoc}
use Rattle.std.specs.Prelude.{codes, filter_map, is_some, slice_get}
use Rattle.chart_model.specs.Change.{Change}
use Rattle.chart_model.specs.Dataset.{DatasetValue}
use Rattle.s57_records.specs.declared.general.General.{General}
use Rattle.s57_records.specs.declared.dataset.Gathered.{Gathered}
use Rattle.s57_records.specs.declared.fault.DatasetFault.{DatasetFault}
use Rattle.s57_records.specs.declared.fault.DatasetFault.TheVariants.{Profile}
use Rattle.s57_records.specs.Subfields.{Subfields}
use Rattle.chart_model.specs.Answers.{◌>>=◌, or_fault}
use Rattle.chart_model.specs.Key.{IsKey}
use Rattle.s57_records.specs.Rows.{checked_structure, scale_of, vector_of, feature_of}
use Rattle.s57_records.specs.Dataset.{Kind, general, parameters, vector, feature, other, kind_of, Said, change_is, scale_is, nothing, record_content, records_looked_at, all_of, change_in, scale_in, scale_among, header_with, cancels, dataset_after, dataset_of, is_parameters}
use Rattle.s57_records.specs.Answers.{Gives}
use Rattle.s57_records.specs.Gathering.{with_change, with_scale, with_record, gather, nothing_gathered, needed_scale, dataset_gathered}
use Rattle.chart_model.specs.Dataset.{IsDataset}
use Rattle.iso8211_records.specs.Kinds.{layout_at}
use Rattle.s57_records.specs.declared.reader.DataRecord.{DataRecord}
use Rattle.s57_records.specs.RecordReading.{subfields_in}
use Rattle.s57_records.specs.LayoutReadings.{all_subfields}
use Rattle.s57_records.specs.Resolved.{Descriptors}
use Rattle.iso8211_records.specs.declared.record.RawField.{RawField}
use Rattle.s57_records.specs.Rows.{general_of}
use Rattle.s57_records.proofs.AnswerLemmas.{bind_then, ok_is}
use Rattle.s57_records.proofs.WithinLimits.{subfields_within}
use Rattle.s57_records.proofs.Datasets.{IsGeneral, general_is, dataset_made, cancelled, base_plain}

first_of : Option ℕ → List ℕ → Option ℕ
first_of (Some scale) scales = Some scale
first_of None [] = None
first_of None (scale ∷ scales) = Some scale

-- what is gathered with what records said
finish : Gathered → List Said → Gathered
finish g said = record { scale = first_of g.scale (filter_map scale_in said); changes = g.changes ++ filter_map change_in said }

finished : Gathered → Result (List Said) DatasetFault → Result Gathered DatasetFault
finished g all = all >>= λ said. Ok (finish g said)

-- a record's word before the others'
before : Said → Result (List Said) DatasetFault → Result (List Said) DatasetFault
before x all = all >>= λ xs. Ok (x ∷ xs)

as_ok : {A : Type 0} (x y : A) → x ≡ y → ◌≡◌ {A = Result A DatasetFault} (Ok x) (Ok y)
as_ok x y e = cc

first_nil : (scale : Option ℕ) → first_of scale [] ≡ scale
unfolding first_of
first_nil (Some scale) = refl
first_nil None = refl

finish_nil : (g : Gathered) → finish g [] ≡ g
unfolding finish
finish_nil g = rw (first_nil g.scale) (rw (append-nil g.changes) refl)

prefixed : (x : Said) (all : Result (List Said) DatasetFault) (g more : Gathered) → ((said : List Said) → finish more said ≡ finish g (x ∷ said)) → finished more all ≡ finished g (before x all)
unfolding finished before
prefixed x (Ok said) g more h = as_ok _ _ (h said)
prefixed x (Err fault) g more h = refl

finish_change : (g : Gathered) (change : Change) (said : List Said) → finish (with_change g change) said ≡ finish g (change_is change ∷ said)
unfolding finish
finish_change g change said = rw (append_assoc g.changes (change ∷ []) (filter_map change_in said)) refl

finish_nothing : (g : Gathered) (said : List Said) → finish g said ≡ finish g (nothing ∷ said)
unfolding finish
finish_nothing g said = refl

finish_scale : (g : Gathered) (scale : ℕ) (said : List Said) → g.scale ≡ None → finish (with_scale g scale) said ≡ finish g (scale_is scale ∷ said)
unfolding finish first_of
finish_scale g scale said none = rw none refl

-- a change, and then the others
then_change : (r : Result Change DatasetFault) (g : Gathered) (rest : Gathered → Result Gathered DatasetFault) (all : Result (List Said) DatasetFault) → ((change : Change) → rest (with_change g change) ≡ finished (with_change g change) all) → ((r >>= λ change. Ok (with_change g change)) >>= rest) ≡ finished g ((r >>= λ change. Ok (change_is change)) >>= λ x. before x all)
unfolding finished before
then_change (Ok change) g rest all each = each change ∙ prefixed (change_is change) all g (with_change g change) (finish_change g change)
then_change (Err fault) g rest all each = refl

-- a scale, and then the others
then_scale : (r : Result ℕ DatasetFault) (g : Gathered) (rest : Gathered → Result Gathered DatasetFault) (all : Result (List Said) DatasetFault) → g.scale ≡ None → ((scale : ℕ) → rest (with_scale g scale) ≡ finished (with_scale g scale) all) → ((r >>= λ scale. Ok (with_scale g scale)) >>= rest) ≡ finished g ((r >>= λ scale. Ok (scale_is scale)) >>= λ x. before x all)
unfolding finished before
then_scale (Ok scale) g rest all none each = each scale ∙ prefixed (scale_is scale) all g (with_scale g scale) (λ said. finish_scale g scale said none)
then_scale (Err fault) g rest all none each = refl

-- what the records say, where parameters were seen or not
words : Bool → Bool → ℕ → List Subfields → Result (List Said) DatasetFault
words base seen n rest = all_of (map (λ r. record_content base r.0 r.1 (kind_of r.1)) (records_looked_at seen n rest))

-- the words from a record of this kind on
words_from : Bool → Bool → ℕ → Subfields → List Subfields → Kind → Result (List Said) DatasetFault
words_from base seen n s rest kind =
    cond (is_parameters kind) (cond seen (words base true (suc n) rest) (record_content base n s kind >>= λ x. before x (words base true (suc n) rest))) (record_content base n s kind >>= λ x. before x (words base seen (suc n) rest))

words_chosen : (base seen : Bool) (n : ℕ) (s : Subfields) (rest : List Subfields) (b : Bool) → all_of (map (λ r. record_content base r.0 r.1 (kind_of r.1)) (cond b (cond seen (records_looked_at true (suc n) rest) ((n, s) ∷ records_looked_at true (suc n) rest)) ((n, s) ∷ records_looked_at seen (suc n) rest))) ≡ cond b (cond seen (words base true (suc n) rest) (record_content base n s (kind_of s) >>= λ x. before x (words base true (suc n) rest))) (record_content base n s (kind_of s) >>= λ x. before x (words base seen (suc n) rest))
unfolding words before
words_chosen base true n s rest true = refl
words_chosen base false n s rest true = refl
words_chosen base seen n s rest false = refl

words_step : (base seen : Bool) (n : ℕ) (s : Subfields) (rest : List Subfields) → words base seen n (s ∷ rest) ≡ words_from base seen n s rest (kind_of s)
unfolding words words_from before
words_step base seen n s rest = words_chosen base seen n s rest (is_parameters (kind_of s))

-- parameters were seen where a base file's scale is there
Tells : Bool → Bool → Gathered → Type 0
Tells base seen g = base ≡ true → seen ≡ is_some g.scale

All_gathered : Bool → ℕ → List Subfields → Type 0
All_gathered base n rest = (seen : Bool) (g : Gathered) → Tells base seen g → gather base n rest g ≡ finished g (words base seen n rest)

by_parameters : (base seen : Bool) (n : ℕ) (s : Subfields) (rest : List Subfields) (g : Gathered) (scale : Option ℕ) → g.scale ≡ scale → Tells base seen g → All_gathered base (suc n) rest → (with_record base n s parameters g >>= gather base (suc n) rest) ≡ finished g (words_from base seen n s rest parameters)
unfolding with_record words_from All_gathered Tells record_content
by_parameters true true n s rest g (Some scale) e tells each = rw (ap is_some e) (each true g tells)
by_parameters true false n s rest g (Some scale) e tells each = absurd (true≢false (sym (tells refl ∙ ap is_some e)))
by_parameters true true n s rest g None e tells each = absurd (true≢false (tells refl ∙ ap is_some e))
by_parameters true false n s rest g None e tells each = rw (ap is_some e) (then_scale (scale_of s) g (gather true (suc n) rest) (words true true (suc n) rest) e (λ scale. each true (with_scale g scale) (λ _. refl)))
by_parameters false true n s rest g scale e tells each = each true g (λ base. absurd (true≢false (sym base)))
by_parameters false false n s rest g scale e tells each = each true g (λ base. absurd (true≢false (sym base))) ∙ prefixed nothing (words false true (suc n) rest) g g (finish_nothing g)

by_kind : (base seen : Bool) (n : ℕ) (s : Subfields) (rest : List Subfields) (kind : Kind) (g : Gathered) → Tells base seen g → All_gathered base (suc n) rest → (with_record base n s kind g >>= gather base (suc n) rest) ≡ finished g (words_from base seen n s rest kind)
unfolding with_record words_from All_gathered Tells record_content
by_kind base seen n s rest vector g tells each = then_change (vector_of base n s) g (gather base (suc n) rest) (words base seen (suc n) rest) (λ change. each seen (with_change g change) tells)
by_kind base seen n s rest feature g tells each = then_change (feature_of base n s) g (gather base (suc n) rest) (words base seen (suc n) rest) (λ change. each seen (with_change g change) tells)
by_kind base seen n s rest parameters g tells each = by_parameters base seen n s rest g g.scale refl tells each
by_kind base seen n s rest general g tells each = each seen g tells ∙ prefixed nothing (words base seen (suc n) rest) g g (finish_nothing g)
by_kind base seen n s rest other g tells each = each seen g tells ∙ prefixed nothing (words base seen (suc n) rest) g g (finish_nothing g)

nothing_more : (base seen : Bool) (n : ℕ) (g : Gathered) → ◌≡◌ {A = Result Gathered DatasetFault} (Ok g) (finished g (words base seen n []))
unfolding finished words
nothing_more base seen n g = as_ok g (finish g []) (sym (finish_nil g))

all_gathered : (base : Bool) (n : ℕ) (rest : List Subfields) → All_gathered base n rest
unfolding All_gathered
all_gathered base n [] seen g tells = nothing_more base seen n g
all_gathered base n (s ∷ rest) seen g tells =
    by_kind base seen n s rest (kind_of s) g tells (all_gathered base (suc n) rest) ∙ ap (λ (w : Result (List Said) DatasetFault). finished g w) (sym (words_step base seen n s rest))

-- ---- the whole

first_scale : (scales : List ℕ) → needed_scale true (first_of None scales) ≡ or_fault (Profile (codes "DSPM")) (slice_get scales 0)
unfolding first_of
first_scale [] = refl
first_scale (scale ∷ scales) = refl

scale_same : (base : Bool) (said : List Said) → needed_scale base (first_of None (filter_map scale_in said)) ≡ scale_among base said
scale_same false said = refl
scale_same true said = first_scale (filter_map scale_in said)

ends : General → ℕ → List Change → Result DatasetValue DatasetFault
ends g scale changes = Ok (record { header = header_with g scale; base = g.base; cancels = false; changes = changes })

whole : (g : General) (all : Result (List Said) DatasetFault) → (finished nothing_gathered all >>= λ gathered. needed_scale g.base gathered.scale >>= λ scale. ends g scale gathered.changes) ≡ (all >>= λ said. scale_among g.base said >>= λ scale. ends g scale (filter_map change_in said))
unfolding finished finish
whole g (Ok said) = ap (λ (r : Result ℕ DatasetFault). r >>= λ scale. ends g scale (filter_map change_in said)) (scale_same g.base said)
whole g (Err fault) = refl

records_same : (g : General) (rest : List Subfields) → (gather g.base 2 rest nothing_gathered >>= λ gathered. needed_scale g.base gathered.scale >>= λ scale. ends g scale gathered.changes) ≡ (all_of (map (λ r. record_content g.base r.0 r.1 (kind_of r.1)) (records_looked_at false 2 rest)) >>= λ said. scale_among g.base said >>= λ scale. ends g scale (filter_map change_in said))
unfolding words All_gathered Tells
records_same g rest =
    ap (λ (r : Result Gathered DatasetFault). r >>= λ gathered. needed_scale g.base gathered.scale >>= λ scale. ends g scale gathered.changes) (all_gathered g.base 2 rest false nothing_gathered (λ _. refl)) ∙ whole g (words g.base false 2 rest)

pub gathered_same : (g : General) (first : Subfields) (rest : List Subfields) → dataset_gathered g first rest ≡ dataset_after g first rest
unfolding dataset_gathered dataset_after ends
gathered_same g first rest =
    ap (λ (r : Result DatasetValue DatasetFault). cond (cancels g) (Ok (record { header = header_with g 0; base = false; cancels = true; changes = [] })) (checked_structure first >>= λ _. r)) (records_same g rest)

-- ---- the data set made of what was read

record_general : (r : DataRecord) (g : General) → IsKey g.key → general_of (subfields_in r) ≡ Ok g → IsGeneral g
record_general r g keyed e =
    general_is (subfields_in r) g (subfields_within (layout_at r.rows.now) r.number r.fields.now) keyed e

pub cancelled_from : (r : DataRecord) (g : General) → IsKey g.key → general_of (subfields_in r) ≡ Ok g → cancels g ≡ true → IsDataset (record { header = header_with g 0; base = false; cancels = true; changes = [] })
cancelled_from r g keyed e cancel = cancelled g (record_general r g keyed e) cancel

both_ok : (g : General) (r : Result Gathered DatasetFault) (gathered : Gathered) (scale : ℕ) → r ≡ Ok gathered → needed_scale g.base gathered.scale ≡ Ok scale → (r >>= λ gathered. needed_scale g.base gathered.scale >>= λ scale. ends g scale gathered.changes) ≡ ends g scale gathered.changes
both_ok g r gathered scale e scale_e = rw e (rw scale_e refl)

pub made_from : (r : DataRecord) (g : General) (rest : List Subfields) (gathered : Gathered) (scale : ℕ) → IsKey g.key → general_of (subfields_in r) ≡ Ok g → cancels g ≡ false → gather g.base 2 rest nothing_gathered ≡ Ok gathered → needed_scale g.base gathered.scale ≡ Ok scale → IsDataset (record { header = header_with g scale; base = g.base; cancels = false; changes = gathered.changes })
unfolding ends
made_from r g rest gathered scale keyed general_e stands gather_e scale_e =
    bind_then (all_of (map (λ r. record_content g.base r.0 r.1 (kind_of r.1)) (records_looked_at false 2 rest))) _ (record { header = header_with g scale; base = g.base; cancels = false; changes = gathered.changes }) (sym (records_same g rest) ∙ both_ok g _ gathered scale gather_e scale_e) (λ said said_e after_said.
    bind_then (scale_among g.base said) _ _ after_said (λ scale scale_e made.
    subst IsDataset (ok_is _ _ made) (dataset_made g scale said (record_general r g keyed general_e) stands scale_e (base_plain g.base (records_looked_at false 2 rest) said said_e))))

pub dataset_from : (first : Subfields) (rest : List Subfields) (g : General) (read : Result DatasetValue DatasetFault) → first.has (codes "DSID") ≡ true → general_of first ≡ Ok g → Gives read (dataset_gathered g first rest) → Gives read (dataset_of (first ∷ rest))
unfolding dataset_of
dataset_from first rest g read has_e general_e gives =
    rw has_e (rw general_e (subst (λ (r : Result DatasetValue DatasetFault). Gives read r) (gathered_same g first rest) gives))

-- the rows that were found in a file's descriptors are seen as those
pub dataset_by_rows : (descriptors rows : Descriptors) (records : List (List RawField)) (read : Result DatasetValue DatasetFault) → rows ≡ descriptors → Gives read (dataset_of (all_subfields (layout_at rows) 1 records)) → Gives read (dataset_of (all_subfields (layout_at descriptors) 1 records))
dataset_by_rows descriptors rows records read found gives =
    subst (λ (ds : Descriptors). Gives read (dataset_of (all_subfields (layout_at ds) 1 records))) found gives
