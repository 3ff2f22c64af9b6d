-- The parts of a line, one after the other.
use Rattle.std.proofs.Common.{◌≡◌, ℕ, ◌≤◌, Bool, false, cond, eqb, List, [], ◌∷◌, length, Option, Some, refl, sym, ap, ◌∙◌, arith}
use Rattle.std.specs.Prelude.{codes}
use Rattle.std.specs.Str.{bytes_eq}
use Rattle.std.specs.List.{join_with_byte}
use Rattle.std.proofs.lemmas.List.Splits.{join_with_byte-slice_split, length-slice_split}
use Rattle.text_lines.specs.Lines.{parts_at}
use Rattle.object_catalogue.specs.Acronym.{acronym_of}
use Rattle.lookup_table.specs.declared.written.WrittenCondition.{WrittenCondition}
use Rattle.lookup_table.specs.Reading.{each, instruction_of, test_of, condition_with, condition_in, condition_of, conditions_of, instructions_of, geom_of, priority_of, written_with, written_in, written_of}

-- all that stands behind
two_sides : (acronym : List ℕ) (parts : List (List ℕ)) → 1 ≤ length parts → condition_in (acronym ∷ parts) ≡ condition_with (acronym_of acronym) (test_of (join_with_byte 61 parts))
unfolding condition_in
two_sides acronym [] h = absurd (omega (arith, h))
two_sides acronym (first ∷ more) h = refl

pub condition_cut : (text acronym rest : List ℕ) → parts_at 61 text ≡ acronym ∷ parts_at 61 rest → condition_of text ≡ condition_with (acronym_of acronym) (test_of rest)
condition_cut text acronym rest e =
    ap condition_in e
    ∙ two_sides acronym (parts_at 61 rest) (omega (arith, length-slice_split (λ b. eqb b 61) rest))
    ∙ ap (λ (l : List ℕ). condition_with (acronym_of acronym) (test_of l)) (join_with_byte-slice_split 61 rest)

five_parts : (class geom priority conditions : List ℕ) (parts : List (List ℕ)) → 1 ≤ length parts
    → written_in (class ∷ geom ∷ priority ∷ conditions ∷ parts)
    ≡ written_with (acronym_of class) (geom_of geom) (priority_of priority) (conditions_of conditions) (instructions_of (join_with_byte 32 parts))
unfolding written_in
five_parts class geom priority conditions [] h = absurd (omega (arith, h))
five_parts class geom priority conditions (first ∷ more) h = refl

pub line_cut : (line class geom priority conditions rest : List ℕ) → parts_at 32 line ≡ class ∷ geom ∷ priority ∷ conditions ∷ parts_at 32 rest
    → written_of line ≡ written_with (acronym_of class) (geom_of geom) (priority_of priority) (conditions_of conditions) (instructions_of rest)
line_cut line class geom priority conditions rest e =
    ap written_in e
    ∙ five_parts class geom priority conditions (parts_at 32 rest) (omega (arith, length-slice_split (λ b. eqb b 32) rest))
    ∙ ap (λ (l : List ℕ). written_with (acronym_of class) (geom_of geom) (priority_of priority) (conditions_of conditions) (instructions_of l)) (join_with_byte-slice_split 32 rest)

pub conditions_by : (word : List ℕ) (o : Option (List WrittenCondition)) → bytes_eq word (codes "-") ≡ false → o ≡ each condition_of (parts_at 43 word) → o ≡ conditions_of word
conditions_by word o other e = e ∙ sym (ap (λ (b : Bool). cond b (Some []) (each condition_of (parts_at 43 word))) other)

pub instructions_by : (text : List ℕ) (o : Option (List (List ℕ))) → bytes_eq text (codes "-") ≡ false → o ≡ each instruction_of (parts_at 59 text) → o ≡ instructions_of text
instructions_by text o other e = e ∙ sym (ap (λ (b : Bool). cond b (Some []) (each instruction_of (parts_at 59 text))) other)
