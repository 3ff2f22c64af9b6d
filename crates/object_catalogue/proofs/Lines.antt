-- A catalogue, line by line.
use Rattle.std.proofs.Common.{◌≡◌, ℕ, ◌+◌, List, [], ◌∷◌, ◌++◌, length, Option, Some, None, refl, sym, ap, ◌∙◌, append_assoc, append-nil}
use Rattle.std.specs.Prelude.{Ok, Err}
use Rattle.std.specs.List.{flat_map}
use Rattle.std.proofs.lemmas.List.Concat.{flat_map-append}
use Rattle.chart_model.specs.Answers.{unless}
use Rattle.object_catalogue.specs.Codes.{CatalogueValue, catalogue_of, empty_catalogue, pairs_of}
use Rattle.object_catalogue.specs.Reading.{entries_on, catalogue_on, with_entries, line_in, line_fault, fault_at}
use Rattle.object_catalogue.specs.declared.entry.Entry.{Entry}
use Rattle.object_catalogue.specs.declared.fault.CatalogueFault.{CatalogueFault}
use Rattle.object_catalogue.proofs.Pairs.{catalogue-push}

with_entries-append : (before more : List Entry) → with_entries (catalogue_of before) more ≡ catalogue_of (before ++ more)
with_entries-append before [] = ap catalogue_of (sym (append-nil before))
with_entries-append before (entry ∷ more) =
    ap (λ (c : CatalogueValue). with_entries c more) (sym (catalogue-push before entry))
    ∙ with_entries-append (before ++ entry ∷ []) more
    ∙ ap catalogue_of (append_assoc before (entry ∷ []) more)

-- the catalogue with what a line says is that of the lines with it
pub catalogue_on-push : (before : List (List ℕ)) (line : List ℕ) → with_entries (catalogue_on before) (entries_on line) ≡ catalogue_on (before ++ line ∷ [])
catalogue_on-push before line =
    with_entries-append (flat_map entries_on before) (entries_on line)
    ∙ ap catalogue_of (sym (flat_map-append entries_on before (line ∷ []) ∙ ap (λ (l : List Entry). flat_map entries_on before ++ l) (append-nil (entries_on line))))

by_fault : (o : Option CatalogueFault) (x y : CatalogueValue) → unless o x ≡ Ok y → (o ≡ None) × (x ≡ y)
by_fault None x y e = (refl, cc)
by_fault (Some f) x y e = absurd cc

by_error : (o : Option CatalogueFault) (x : CatalogueValue) (f : CatalogueFault) → unless o x ≡ Err f → o ≡ Some f
by_error None x f e = absurd cc
by_error (Some g) x f e = cc

-- a line that was taken
pub line_taken : (before : List (List ℕ)) (line : List ℕ) (next : CatalogueValue)
    → line_in (catalogue_on before) (length before + 1) line ≡ Ok next
    → (fault_at before line ≡ None) × (next ≡ catalogue_on (before ++ line ∷ []))
unfolding line_in
line_taken before line next e =
    let h = by_fault (line_fault (catalogue_on before) (length before + 1) line) (with_entries (catalogue_on before) (entries_on line)) next e in
    (h.0, sym h.1 ∙ catalogue_on-push before line)

-- a line that was refused
pub line_refused : (before : List (List ℕ)) (line : List ℕ) (f : CatalogueFault)
    → line_in (catalogue_on before) (length before + 1) line ≡ Err f → fault_at before line ≡ Some f
unfolding line_in
line_refused before line f e = by_error (line_fault (catalogue_on before) (length before + 1) line) (with_entries (catalogue_on before) (entries_on line)) f e

pub no_lines : catalogue_on [] ≡ empty_catalogue
unfolding pairs_of
no_lines = refl
