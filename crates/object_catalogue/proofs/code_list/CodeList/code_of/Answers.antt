use Rattle.std.proofs.Common.{◌∙◌, ap, List, ℕ}
use Rattle.std.specs.Map.{lookup}
use Rattle.std.specs.Str.{bytes_eq}
use Rattle.object_catalogue.specs.Codes.{code_in}
use Rattle.object_catalogue.proofs.Pairs.{code_found}
use Rattle.object_catalogue.proofs.code_list.CodeList.code_of.Goals as goal

pub returns : goal.returns
returns c =
    c.copied.ensures
    ∙ c.get.ensures.value
    ∙ ap (λ (l : List (List ℕ × ℕ)). lookup (bytes_eq c.args.acronym.now) l) c.self.invariant
    ∙ code_found c.args.acronym.now c.self.inside.acronyms.entries
    ∙ ap (λ (l : List (ℕ × List ℕ)). code_in l c.args.acronym.now) c.self.view_is
