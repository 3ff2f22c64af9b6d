use Rattle.std.proofs.Common.{map, refl, ◌∙◌}
use Rattle.std.specs.Prelude.{option_map}
use Rattle.std.specs.Cmp.Lexicographic.{nat_list_cmp_total}
use Rattle.std.specs.FinMap as finite
use Rattle.chart_symbols.specs.declared.symbol.Symbol.{Symbol}
use Rattle.chart_symbols.specs.Digits.{digits_at, prefixed_at, digits_by}
use Rattle.chart_symbols.specs.Marks.{mark_symbol, marks_by}
use Rattle.chart_symbols.specs.Table.{named_by, are_distinct, called, steps}
use Rattle.chart_symbols.proofs.laws.symbols_are_sound.Goals as goal

pub returns-clause-names : goal.returns-clause-names
unfolding digits_at prefixed_at digits_by mark_symbol marks_by are_distinct
returns-clause-names c = λ colours. refl

-- what is found in the map is found in the list
pub returns-clause-called : goal.returns-clause-called
unfolding digits_at prefixed_at digits_by mark_symbol marks_by called
returns-clause-called c =
    λ colours.
    (λ i. map (λ named. option_map (λ (s : Symbol). s.colour) (finite.get-from_entries nat_list_cmp_total (named_by colours) named.0 i)) called)
    ∙ refl

pub returns-clause-places : goal.returns-clause-places
unfolding digits_at prefixed_at digits_by mark_symbol marks_by steps
returns-clause-places c = λ colours. refl

pub returns-clause-paths : goal.returns-clause-paths
unfolding digits_at prefixed_at digits_by mark_symbol marks_by
returns-clause-paths c = λ colours. refl
