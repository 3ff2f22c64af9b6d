-- Lists: a count of eight bytes, and that many parts one behind the other.
use Rattle.std.specs.Prelude.{ℕ, zero, suc, ◌<◌, ◌^◌, Bool, true, if◌then◌else◌, List, [], ◌∷◌, ◌++◌, length}
use Rattle.std.specs.Prelude.{Option, Some, None}
use Rattle.std.specs.List.{AllByRecursion, flat_map}
use Rattle.std.specs.Int.{w64}
use Rattle.std.specs.declared.cmp.Ordering.{Ordering}
use Rattle.std.specs.Ordering.{is_lt}
use Rattle.std.specs.FinMap as map
use Rattle.page_parts.specs.Reader.{Reader, ◌>>=◌, seen_as, then_by}
use Rattle.page_parts.specs.Numbers.{number, number_at}

-- how many there are, and each by its spelling
unfoldable pub counted_list : {X : Type 0} → (X → List ℕ) → List X → List ℕ
counted_list spelling items = number w64 (length items) ++ flat_map spelling items

-- a number of eight bytes says how many there are, and each is in its range
pub record AreInRange {X : Type 0} (IsInRange : X → Type 0) (items : List X) : Type 0 where
  pub count : length items < 2 ^ 64
  pub each : AllByRecursion IsInRange items

-- ---- read

-- so many parts
unfoldable pub items_at : {X : Type 0} → Reader X → ℕ → Reader (List X)
items_at item zero bytes = Some ([], bytes)
items_at item (suc n) bytes = item bytes >>= λ x. items_at item n x.1 >>= λ xs. Some (x.0 ∷ xs.0, xs.1)

unfoldable pub counted_list_at : {X : Type 0} → Reader X → Reader (List X)
counted_list_at item bytes = seen_as (λ read. read.1) (then_by (number_at w64) (items_at item)) bytes

-- ---- in the strictly rising order of their keys

unfoldable pub rising_entries : {K X : Type 0} {R : K → K → Ordering} → (K × X → List ℕ) → map.FinMap R X → List ℕ
rising_entries spelling entries = counted_list spelling (map.entries entries)

-- entries in the order of their keys, as a map
abbrev pub in_order : {K X : Type 0} (R : K → K → Ordering)
    → Option (List (K × X) × List ℕ) → Option (map.FinMap R X × List ℕ)
in_order R found =
    (found >>= λ read. if map.is_sorted R read.0 then Some read else None)
    >>= λ read. Some (map.from_sorted read.0, read.1)

-- so many entries
abbrev pub entries_at : {K X : Type 0} (R : K → K → Ordering) → Reader (K × X) → ℕ → Reader (map.FinMap R X)
entries_at R entry n bytes = in_order R (items_at entry n bytes)

unfoldable pub rising_entries_at : {K X : Type 0} (R : K → K → Ordering) → Reader (K × X) → Reader (map.FinMap R X)
rising_entries_at R entry bytes = seen_as (λ read. read.1) (then_by (number_at w64) (entries_at R entry)) bytes

-- whether a key comes behind the last one, where there is one
abbrev pub is_behind : {K : Type 0} → (K → K → Ordering) → Option K → K → Bool
is_behind R None key = true
is_behind R (Some last) key = is_lt (R last key)
