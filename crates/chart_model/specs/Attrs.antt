-- Attributes by code.
use Rattle.std.specs.Prelude.{ℕ, suc, Bool, true, false, not, ◌&&◌, nat_le, List, [], ◌∷◌, T, nat_eq, if◌then◌else◌}
use Rattle.std.specs.List.{fold}
use Rattle.std.specs.Prelude as list
use Rattle.std.specs.Ordering.{nat_cmp}
use Rattle.std.specs.Cmp.Lexicographic.{pointwise}
use Rattle.std.specs.FinMap as map
use Rattle.chart_model.specs.declared.record.Attr.{Attr}
use Rattle.chart_model.specs.Codes.{DELETED}

-- from codes to texts
abbrev pub Attrs : Type 0
Attrs = map.FinMap nat_cmp (List ℕ)

-- codes and texts, in the attributes' order
abbrev pub texts_by_code : List Attr → List (ℕ × List ℕ)
texts_by_code attrs = list.map (λ attr. (attr.code, attr.value)) attrs

-- the codes rise, so that no code stands twice
abbrev pub AreRising : List Attr → Type 0
AreRising attrs = T (map.is_sorted nat_cmp (texts_by_code attrs))

-- the attributes in that order, as a map
abbrev pub attrs_of : List Attr → Attrs
attrs_of attrs = map.from_sorted (texts_by_code attrs)

-- a setting: the single byte 0x7F removes the attribute, and any other text takes its place
abbrev pub set_attr : Attrs → Attr → Attrs
set_attr attrs setting =
    if pointwise nat_eq setting.value (DELETED ∷ [])
    then map.remove attrs setting.code
    else map.insert attrs setting.code setting.value

-- settings, one after the other
abbrev pub set_attrs : Attrs → List Attr → Attrs
set_attrs attrs settings = fold set_attr attrs settings

-- attributes as they stand, put one after the other
abbrev pub put_attrs : Attrs → List Attr → Attrs
put_attrs attrs kept = fold (λ m attr. map.insert m attr.code attr.value) attrs kept

-- the attributes once those that are kept are put, and then the settings are made
abbrev pub attrs_after : Attrs → List Attr → List Attr → Attrs
attrs_after attrs kept settings = set_attrs (put_attrs attrs kept) settings

-- whether an attribute comes before the settings: its code isn't above theirs
abbrev pub keeps_first : List Attr → List Attr → Bool
keeps_first [] settings = false
keeps_first (attr ∷ kept) [] = true
keeps_first (attr ∷ kept) (setting ∷ settings) = nat_le attr.code setting.code

-- whether settings are attributes as they stand: their codes rise from the lowest, and none removes
abbrev pub are_attributes : ℕ → List Attr → Bool
are_attributes lowest [] = true
are_attributes lowest (setting ∷ settings) =
    nat_le lowest setting.code
    && (not (pointwise nat_eq setting.value (DELETED ∷ [])) && are_attributes (suc setting.code) settings)
