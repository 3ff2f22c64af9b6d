use Rattle.std.proofs.Common.{◌∙◌, ap, List, ℕ, eqb}
use Rattle.std.proofs.lemmas.Map.Made.{is_some-lookup}
use Rattle.object_catalogue.specs.Codes.{has_code}
use Rattle.object_catalogue.proofs.Pairs.{keys_with_code}
use Rattle.object_catalogue.proofs.code_list.CodeList.has_code.Goals as goal

pub returns : goal.returns
returns c =
    c.contains_key.ensures
    ∙ is_some-lookup (eqb c.args.code) c.self.inside.acronyms.entries
    ∙ keys_with_code c.args.code c.self.inside.acronyms.entries
    ∙ ap (λ (l : List (ℕ × List ℕ)). has_code l c.args.code) c.self.view_is
