-- Which names are files of a folder.
use Rattle.std.specs.Prelude.{ℕ, Bool, List, ◌||◌, ◌==◌, nat_eq, codes}
use Rattle.std.specs.Str.{bytes_eq}
use Rattle.std.specs.List.{slice_split, list_any, starts_with}

-- one of the parts between the slashes is `..`
abbrev pub goes_up : List ℕ → Bool
goes_up name = list_any (λ part. bytes_eq part (codes "..")) (slice_split (λ byte. byte == 47) name)

-- a name leads out of the folder where it begins with a slash or goes up
abbrev pub leads_out : List ℕ → Bool
leads_out name = starts_with nat_eq name (codes "/") || goes_up name
