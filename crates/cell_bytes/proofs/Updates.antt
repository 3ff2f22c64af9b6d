-- The records of an update, one area more.
use Rattle.std.proofs.Common.{◌≡◌, ℕ, suc, ◌+◌, List, [], ◌∷◌, ◌++◌, refl, sym, ap, ◌∙◌, add-one, append_assoc, map}
use Rattle.std.specs.Prelude.{filter}
use Rattle.std.proofs.lemmas.List.{map-append}
use Rattle.std.proofs.lemmas.List.Elements.{filter-append}
use Rattle.cell_bytes.specs.Written.{NumberedRecord, next_number, number_behind, records_from}
use Rattle.cell_bytes.specs.Descriptive.{descriptive_record}
use Rattle.cell_bytes.specs.Record.{of_data, record_of}
use Rattle.cell_bytes.specs.DataSet.{revision_fields}
use Rattle.cell_bytes.specs.Generator.{modification, modified_areas, is_modified, made_header, made_update, numbers_to}
use Rattle.cell_bytes.proofs.Files.{records_from-append}

number_behind-append : (number : ℕ) (xs ys : List NumberedRecord)
    → number_behind number (xs ++ ys) ≡ number_behind (number_behind number xs) ys
unfolding number_behind
number_behind-append number [] ys = refl
number_behind-append number (x ∷ xs) ys = number_behind-append (next_number number) xs ys

areas_more : (update before : ℕ) → map (modification update) (modified_areas update (before + 1))
    ≡ map (modification update) (modified_areas update before)
    ++ map (modification update) (filter (is_modified update) ((before + 1) ∷ []))
unfolding modified_areas numbers_to
areas_more update before =
    ap (λ (k : ℕ). map (modification update) (filter (is_modified update) (numbers_to k))) (add-one before)
    ∙ ap (map (modification update)) (filter-append (is_modified update) (numbers_to before) (suc before ∷ []))
    ∙ map-append (modification update) (filter (is_modified update) (numbers_to before)) (filter (is_modified update) (suc before ∷ []))
    ∙ ap (λ (k : ℕ). map (modification update) (filter (is_modified update) (numbers_to before))
    ++ map (modification update) (filter (is_modified update) (k ∷ []))) (sym (add-one before))

-- the bytes and the number behind one area more
pub bytes_more : (update before number k : ℕ) (begun so_far after : List ℕ)
    → so_far ≡ begun ++ records_from number (map (modification update) (modified_areas update before))
    → k ≡ number_behind number (map (modification update) (modified_areas update before))
    → after ≡ so_far ++ records_from k (map (modification update) (filter (is_modified update) ((before + 1) ∷ [])))
    → after ≡ begun ++ records_from number (map (modification update) (modified_areas update (before + 1)))
bytes_more update before number k begun so_far after bytes behind added =
    let first : List NumberedRecord = map (modification update) (modified_areas update before) in
    let one : List NumberedRecord = map (modification update) (filter (is_modified update) ((before + 1) ∷ [])) in
    added
    ∙ ap (λ (l : List ℕ). l ++ records_from k one) bytes
    ∙ append_assoc begun (records_from number first) (records_from k one)
    ∙ ap (λ (n : ℕ). begun ++ (records_from number first ++ records_from n one)) behind
    ∙ ap (λ (l : List ℕ). begun ++ l) (sym (records_from-append number first one))
    ∙ ap (λ (l : List NumberedRecord). begun ++ records_from number l) (sym (areas_more update before))

pub number_more : (update before number k after : ℕ)
    → k ≡ number_behind number (map (modification update) (modified_areas update before))
    → after ≡ number_behind k (map (modification update) (filter (is_modified update) ((before + 1) ∷ [])))
    → after ≡ number_behind number (map (modification update) (modified_areas update (before + 1)))
number_more update before number k after behind added =
    let first : List NumberedRecord = map (modification update) (modified_areas update before) in
    let one : List NumberedRecord = map (modification update) (filter (is_modified update) ((before + 1) ∷ [])) in
    added
    ∙ ap (λ (n : ℕ). number_behind n one) behind
    ∙ sym (number_behind-append number first one)
    ∙ ap (number_behind number) (sym (areas_more update before))

-- the file of an update, as it is put together
pub update_of : (count update : ℕ) (b0 b1 b2 : List ℕ) (n0 n1 : ℕ) → b0 ≡ descriptive_record → n0 ≡ 1
    → b1 ≡ b0 ++ record_of of_data (revision_fields n0 (made_header count update 0)) → n1 ≡ next_number n0
    → b2 ≡ b1 ++ records_from n1 (map (modification update) (modified_areas update count))
    → b2 ≡ made_update count update
unfolding made_update records_from
update_of count update b0 b1 b2 n0 n1 begun first general second areas =
    let header = made_header count update 0 in
    let more : List NumberedRecord = map (modification update) (modified_areas update count) in
    areas
    ∙ ap (λ (n : ℕ). b1 ++ records_from n more) (second ∙ ap next_number first)
    ∙ ap (λ (l : List ℕ). l ++ records_from 2 more)
    (general ∙ ap (λ (n : ℕ). b0 ++ record_of of_data (revision_fields n header)) first
    ∙ ap (λ (l : List ℕ). l ++ record_of of_data (revision_fields 1 header)) begun)
    ∙ append_assoc descriptive_record (record_of of_data (revision_fields 1 header)) (records_from 2 more)
