-- A file of colours, line by line.
use Rattle.std.proofs.Common.{◌≡◌, ℕ, ◌+◌, List, [], ◌∷◌, ◌++◌, length, Option, Some, None, refl, sym, ap, ◌∙◌, append-nil}
use Rattle.std.specs.Prelude.{Ok, Err}
use Rattle.std.specs.List.{flat_map}
use Rattle.std.proofs.lemmas.List.Concat.{flat_map-append}
use Rattle.chart_model.specs.Answers.{unless}
use Rattle.colour_table.specs.Reading.{swatches_on, colours_on, line_in, line_fault, fault_at}
use Rattle.colour_table.specs.declared.swatch.Swatch.{Swatch}
use Rattle.colour_table.specs.declared.fault.ColoursFault.{ColoursFault}

-- the colours with what a line says are those of the lines with it
pub colours_on-push : (before : List (List ℕ)) (line : List ℕ) → colours_on before ++ swatches_on line ≡ colours_on (before ++ line ∷ [])
colours_on-push before line =
    sym (flat_map-append swatches_on before (line ∷ []) ∙ ap (λ (l : List Swatch). flat_map swatches_on before ++ l) (append-nil (swatches_on line)))

by_fault : (o : Option ColoursFault) (x y : List Swatch) → unless o x ≡ Ok y → (o ≡ None) × (x ≡ y)
by_fault None x y e = (refl, cc)
by_fault (Some f) x y e = absurd cc

by_error : (o : Option ColoursFault) (x : List Swatch) (f : ColoursFault) → unless o x ≡ Err f → o ≡ Some f
by_error None x f e = absurd cc
by_error (Some g) x f e = cc

-- a line that was taken
pub line_taken : (before : List (List ℕ)) (line : List ℕ) (next : List Swatch)
    → line_in (colours_on before) (length before + 1) line ≡ Ok next
    → (fault_at before line ≡ None) × (next ≡ colours_on (before ++ line ∷ []))
unfolding line_in
line_taken before line next e =
    let h = by_fault (line_fault (colours_on before) (length before + 1) line) (colours_on before ++ swatches_on line) next e in
    (h.0, sym h.1 ∙ colours_on-push before line)

-- a line that was refused
pub line_refused : (before : List (List ℕ)) (line : List ℕ) (f : ColoursFault)
    → line_in (colours_on before) (length before + 1) line ≡ Err f → fault_at before line ≡ Some f
unfolding line_in
line_refused before line f e = by_error (line_fault (colours_on before) (length before + 1) line) (colours_on before ++ swatches_on line) f e
