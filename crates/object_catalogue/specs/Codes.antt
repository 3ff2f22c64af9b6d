-- The codes and acronyms of classes and of attributes.
use Rattle.std.specs.Prelude.{ℕ, Bool, ◌||◌, ◌==◌, List, [], ◌∷◌, ◌++◌, Option, Some, None, if◌then◌else◌}
use Rattle.std.specs.List.{list_any}
use Rattle.std.specs.Str.{bytes_eq}
use Rattle.object_catalogue.specs.declared.entry.Kind.{Kind}
use Rattle.object_catalogue.specs.declared.entry.Kind.TheVariants.{Class, Attribute}
use Rattle.object_catalogue.specs.declared.entry.Entry.{Entry}

pub record CatalogueValue : Type 0 where
  pub classes : List (ℕ × List ℕ)
  pub attributes : List (ℕ × List ℕ)

abbrev pub empty_catalogue : CatalogueValue
empty_catalogue = record { classes = []; attributes = [] }

abbrev pub list_of : Kind → CatalogueValue → List (ℕ × List ℕ)
list_of Class catalogue = catalogue.classes
list_of Attribute catalogue = catalogue.attributes

-- the codes and acronyms of the entries of a kind, in their order
abbrev pub pair_if : Kind → Kind → ℕ → List ℕ → List (ℕ × List ℕ)
pair_if Class Class code acronym = (code, acronym) ∷ []
pair_if Class Attribute code acronym = []
pair_if Attribute Class code acronym = []
pair_if Attribute Attribute code acronym = (code, acronym) ∷ []

unfoldable pub pairs_of : Kind → List Entry → List (ℕ × List ℕ)
pairs_of kind [] = []
pairs_of kind (entry ∷ entries) = pair_if kind entry.kind entry.code entry.acronym ++ pairs_of kind entries

-- the catalogue of entries
abbrev pub catalogue_of : List Entry → CatalogueValue
catalogue_of entries = record { classes = pairs_of Class entries; attributes = pairs_of Attribute entries }

-- whether the code or the acronym is there
abbrev pub has_code : List (ℕ × List ℕ) → ℕ → Bool
has_code pairs code = list_any (λ pair. code == pair.0) pairs

abbrev pub has_acronym : List (ℕ × List ℕ) → List ℕ → Bool
has_acronym pairs acronym = list_any (λ pair. bytes_eq acronym pair.1) pairs

abbrev pub stands_in : CatalogueValue → Entry → Bool
stands_in catalogue entry =
    has_code (list_of entry.kind catalogue) entry.code || has_acronym (list_of entry.kind catalogue) entry.acronym

-- the code of an acronym, where it is there
unfoldable pub code_in : List (ℕ × List ℕ) → List ℕ → Option ℕ
code_in [] acronym = None
code_in (pair ∷ pairs) acronym = if bytes_eq acronym pair.1 then Some pair.0 else code_in pairs acronym

-- acronyms and codes, in the same order
abbrev pub by_acronym : List (ℕ × List ℕ) → List (List ℕ × ℕ)
by_acronym [] = []
by_acronym (pair ∷ pairs) = (pair.1, pair.0) ∷ by_acronym pairs

-- the catalogue with an entry behind the others of its kind
abbrev pub with_entry : CatalogueValue → Entry → CatalogueValue
with_entry catalogue entry = record {
  classes = catalogue.classes ++ pair_if Class entry.kind entry.code entry.acronym;
  attributes = catalogue.attributes ++ pair_if Attribute entry.kind entry.code entry.acronym;
}
