-- Pages of names: on each stand the records of 64 numbers of one kind.
use Rattle.std.specs.Prelude.{◌≡◌, ◌≢◌, ℕ, ◌/◌, ◌==◌, Bool, false, Option, Some, None, List, [], ◌∷◌, ◌++◌, IfSome}
use Rattle.std.specs.Prelude.{refl}
use Rattle.std.specs.Coded.{Coded, code_by, coded×, coded_ℕ}
use Rattle.std.specs.declared.cmp.Ordering.{Ordering}
use Rattle.std.specs.Ordering.{ordering_then, nat_cmp}
use Rattle.std.specs.FinMap as map
use Rattle.chart_model.specs.declared.name.Name.{Name}
use Rattle.chart_model.specs.declared.page_map.PageName.{PageName}
use Rattle.chart_model.specs.Names.{name_cmp}

-- by kind, then by number
abbrev pub page_cmp : PageName → PageName → Ordering
page_cmp x y = ordering_then (nat_cmp x.rcnm y.rcnm) (nat_cmp x.number y.number)

-- a page's name is stored as the pair of its fields
abbrev pub page_code : Coded PageName
page_code =
    code_by (ℕ × ℕ) (coded× coded_ℕ coded_ℕ)
    (λ page. (page.rcnm, page.number)) (λ pair. record { rcnm = pair.0; number = pair.1 }) (λ _. refl)

-- the page on which a record stands
abbrev pub page_of : Name → PageName
page_of name = record { rcnm = name.rcnm; number = name.rcid / 64 }

module _ {X : Type 0} where
  -- page by page
  abbrev pub flatten : List (PageName × map.FinMap name_cmp X) → List (Name × X)
  flatten [] = []
  flatten (e ∷ es) = map.entries e.1 ++ flatten es

  -- the records of all pages
  abbrev pub names_of : map.FinMap page_cmp (map.FinMap name_cmp X) → map.FinMap name_cmp X
  names_of pages = map.from_entries (flatten (map.entries pages))

  -- whether a page has one record alone
  abbrev pub is_alone : Option (map.FinMap name_cmp X) → Bool
  is_alone None = false
  is_alone (Some records) = map.len records == 1

  -- no page is empty
  abbrev pub AreFull : List (PageName × map.FinMap name_cmp X) → Type 0
  AreFull [] = Unit {0}
  AreFull (e ∷ es) = (map.len e.1 ≢ 0) × AreFull es

  -- each record of the page stands on it
  abbrev pub IsOn : PageName → map.FinMap name_cmp X → Type 0
  IsOn page records = (name : Name) → IfSome (map.get records name) (λ _. page_of name ≡ page)

  -- a page of the map: its records stand on it, and there is one
  pub record IsPage (page : PageName) (records : map.FinMap name_cmp X) : Type 0 where
    pub placed : IsOn page records
    pub nonempty : map.len records ≢ 0

  abbrev pub ArePages : map.FinMap page_cmp (map.FinMap name_cmp X) → Type 0
  ArePages pages = (page : PageName) → IfSome (map.get pages page) (IsPage page)

  -- pages, and how many records there are in all
  pub record IsPaged (pages : map.FinMap page_cmp (map.FinMap name_cmp X)) (count : ℕ) : Type 0 where
    pub each : ArePages pages
    pub counted : count ≡ map.len (names_of pages)
