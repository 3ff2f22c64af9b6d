use Rattle.std.proofs.Common.{◌∙◌, ap, List, ℕ}
use Rattle.std.specs.List.{list_any}
use Rattle.std.specs.Map.{keys_of}
use Rattle.std.specs.Str.{bytes_eq}
use Rattle.std.proofs.lemmas.Map.Made.{is_some-lookup}
use Rattle.object_catalogue.specs.Codes.{has_acronym}
use Rattle.object_catalogue.proofs.Pairs.{keys_with_acronym}
use Rattle.object_catalogue.proofs.code_list.CodeList.has_acronym.Goals as goal

pub returns : goal.returns
returns c =
    c.contains_key.ensures
    ∙ is_some-lookup (bytes_eq c.args.acronym.now) c.self.inside.codes.entries
    ∙ ap (λ (l : List (List ℕ × ℕ)). list_any (bytes_eq c.args.acronym.now) (keys_of l)) c.self.invariant
    ∙ keys_with_acronym c.args.acronym.now c.self.inside.acronyms.entries
    ∙ ap (λ (l : List (ℕ × List ℕ)). has_acronym l c.args.acronym.now) c.self.view_is
