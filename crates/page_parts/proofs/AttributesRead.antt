-- Attributes are read as they are spelled.
use Rattle.std.proofs.Common.{◌≡◌, ℕ, ◌≢◌, true, not, List, [], ◌∷◌, refl, sym, ◌∙◌}
use Rattle.std.specs.Prelude.{◌==◌}
use Rattle.std.specs.List.{AllByRecursion}
use Rattle.std.specs.Ordering.{nat_cmp}
use Rattle.std.specs.Cmp.Lexicographic.{bytes_decides}
use Rattle.std.specs.FinMap as map
use Rattle.std.proofs.lemmas.Bool.{and_from, and_parts, eq-eqb, eqb-true, false_from_ne_true, not-true, not_from_false, true≢false}
use Rattle.std.proofs.lemmas.List.Elements.{All-from_recursion, recursion_from_All}
use Rattle.chart_model.specs.declared.record.Attr.{Attr}
use Rattle.chart_model.specs.Attrs.{texts_by_code}
use Rattle.chart_model.specs.Cell.{IsKeptText}
use Rattle.chart_model.specs.Codes.{DELETED, FIELD_TERMINATOR, UNIT_TERMINATOR}
use Rattle.page_parts.specs.Reader.{Reads}
use Rattle.page_parts.specs.Lists.{AreInRange}
use Rattle.page_parts.specs.Attributes.{IsEntryInRange, attribute, attribute_at, attributes, attributes_at, is_kept_text, is_plain_text}
use Rattle.page_parts.proofs.NumbersRead.{text_reads, two_read}
use Rattle.page_parts.proofs.ReadBehind.{both_read, ranged_as, read_that}
use Rattle.page_parts.proofs.RisingRead.{rising_entries_reads}

-- what holds of each attribute, by its code and its text
pub by_code : (P : ℕ × List ℕ → Type 0) (attrs : List Attr) → AllByRecursion (λ attr. P (attr.code, attr.value)) attrs → AllByRecursion P (texts_by_code attrs)
by_code P [] each = tt
by_code P (attr ∷ attrs) each = (each.0, by_code P attrs each.1)

-- ---- texts that are kept

abbrev IsPlain : ℕ → Type 0
IsPlain byte = (byte ≢ FIELD_TERMINATOR) × (byte ≢ UNIT_TERMINATOR)

differs : (a b : ℕ) → not (a == b) ≡ true → a ≢ b
differs a b e same = true≢false (sym (eq-eqb a b same) ∙ not-true _ e)

apart : (a b : ℕ) → a ≢ b → not (a == b) ≡ true
apart a b differ = not_from_false _ (false_from_ne_true _ (λ e. differ (eqb-true a b e)))

plain_holds : (text : List ℕ) → is_plain_text text ≡ true → AllByRecursion IsPlain text
plain_holds [] e = tt
plain_holds (byte ∷ text) e =
    let tests = and_parts _ _ e in
    let ends = and_parts _ _ tests.0 in
    ((differs byte FIELD_TERMINATOR ends.0, differs byte UNIT_TERMINATOR ends.1), plain_holds text tests.1)

plain_passes : (text : List ℕ) → AllByRecursion IsPlain text → is_plain_text text ≡ true
plain_passes [] all = refl
plain_passes (byte ∷ text) all =
    and_from _ _ (and_from _ _ (apart byte FIELD_TERMINATOR all.0.0) (apart byte UNIT_TERMINATOR all.0.1)) (plain_passes text all.1)

kept_holds : (text : List ℕ) → is_kept_text text ≡ true → IsKeptText text
kept_holds text e =
    let tests = and_parts _ _ e in
    record {
      plain = All-from_recursion IsPlain text (plain_holds text tests.0);
      kept = λ same. true≢false (sym ((bytes_decides text (DELETED ∷ [])).1 same) ∙ not-true _ tests.1);
    }

kept_passes : (text : List ℕ) → IsKeptText text → is_kept_text text ≡ true
kept_passes text is =
    and_from _ _ (plain_passes text (recursion_from_All IsPlain text is.plain))
    (not_from_false _ (false_from_ne_true _ (λ e. is.kept ((bytes_decides text (DELETED ∷ [])).0 e))))

-- ---- attributes

-- an attribute that a record keeps, with its code and its text's length in their widths
pub record IsEntry (entry : ℕ × List ℕ) : Type 0 where
  pub range : IsEntryInRange entry
  pub kept : IsKeptText entry.1

pub attribute_reads : Reads attribute_at attribute IsEntry
unfolding attribute attribute_at
attribute_reads =
    ranged_as IsEntry
    (read_that (λ (entry : ℕ × List ℕ). is_kept_text entry.1) (λ entry. IsKeptText entry.1) (both_read two_read text_reads) (λ entry. kept_holds entry.1) (λ entry. kept_passes entry.1))
    (λ entry h. record { range = record { code = h.0.0; text = h.0.1 }; kept = h.1 })
    (λ entry is. ((is.range.code, is.range.text), is.kept))

pub attributes_reads : Reads attributes_at attributes (λ attrs. AreInRange IsEntry (map.entries attrs))
unfolding attributes attributes_at
attributes_reads = rising_entries_reads nat_cmp attribute_at attribute IsEntry attribute_reads
