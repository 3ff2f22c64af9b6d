-- Values under names.
use Rattle.std.specs.Prelude.{ℕ, List, map, if◌then◌else◌}
use Rattle.std.specs.declared.cmp.Ordering.{Ordering}
use Rattle.std.specs.Ordering.{nat_cmp}
use Rattle.std.specs.Cmp.Lexicographic.{slice_cmp}
use Rattle.std.specs.Global.{Vec}
use Rattle.std.specs.FinMap as finite

-- names by their bytes
abbrev pub name_cmp : List ℕ → List ℕ → Ordering
name_cmp = slice_cmp nat_cmp

-- the names of a table's entries as bytes
abbrev pub entries_of : {X : Type 0} → List (Vec ℕ × X) → List (List ℕ × X)
entries_of entries = map (λ entry. (entry.0.items, entry.1)) entries

-- a value under its name, where there was none
abbrev pub with_new : {X : Type 0} → finite.FinMap name_cmp X → List ℕ × X → finite.FinMap name_cmp X
with_new named entry =
    if finite.contains_key named entry.0 then named else finite.insert named entry.0 entry.1
