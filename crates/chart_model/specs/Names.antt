-- The order of names.
use Rattle.std.specs.Prelude.{ℕ, Option, Some, None, refl}
use Rattle.std.specs.Coded.{Coded, code_by, coded×, coded_ℕ}
use Rattle.std.specs.declared.cmp.Ordering.{Ordering}
use Rattle.std.specs.Ordering.{ordering_then, nat_cmp}
use Rattle.std.specs.FinMap as map
use Rattle.chart_model.specs.declared.name.Name.{Name}

-- by kind, then by number
abbrev pub name_cmp : Name → Name → Ordering
name_cmp x y = ordering_then (nat_cmp x.rcnm y.rcnm) (nat_cmp x.rcid y.rcid)

-- a name is stored as the pair of its fields
abbrev pub name_code : Coded Name
name_code =
    code_by (ℕ × ℕ) (coded× coded_ℕ coded_ℕ)
    (λ name. (name.rcnm, name.rcid)) (λ pair. record { rcnm = pair.0; rcid = pair.1 }) (λ _. refl)

-- the value under a name edited, where there is one
abbrev pub edited_at : {K V : Type 0} {R : K → K → Ordering} → (V → V) → map.FinMap R V → K → Option V → map.FinMap R V
edited_at edited names name None = names
edited_at edited names name (Some value) = map.insert names name (edited value)

abbrev pub edited_in : {K V : Type 0} {R : K → K → Ordering} → (V → V) → map.FinMap R V → K → map.FinMap R V
edited_in edited names name = edited_at edited names name (map.get names name)
