-- Tags of fields, as bytes.
use Rattle.std.specs.Prelude.{ℕ, Bool, List, codes}
use Rattle.std.specs.List.{list_any}
use Rattle.std.specs.Str.{bytes_eq}

-- the data set's identification
abbrev pub DSID : List ℕ
DSID = codes "DSID"

-- whether the tag is one of the list
abbrev pub is_listed : List (List ℕ) → List ℕ → Bool
is_listed tags tag = list_any (λ listed. bytes_eq listed tag) tags
