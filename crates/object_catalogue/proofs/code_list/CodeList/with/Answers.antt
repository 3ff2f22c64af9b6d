use Rattle.std.proofs.Common.{◌≡◌, ◌∙◌, ap, sym, List, ℕ, false, eqb, ◌++◌, ◌∷◌, []}
use Rattle.std.specs.List.{list_any}
use Rattle.std.specs.Map.{keys_of}
use Rattle.std.specs.Str.{bytes_eq}
use Rattle.object_catalogue.specs.Codes.{by_acronym, has_code, has_acronym}
use Rattle.object_catalogue.proofs.Pairs.{keys_with_code, keys_with_acronym, inserted_new, by_acronym-push}
use Rattle.object_catalogue.proofs.code_list.CodeList.with.Goals as goal

pub invariant_of-result : goal.invariant_of-result
invariant_of-result c =
    let code = c.args.code in
    let acronym = c.args.acronym in
    let pairs = c.self.inside.acronyms.entries in
    let entries = c.self.inside.codes.entries in
    let new_code : list_any (eqb code) (keys_of pairs) ≡ false =
    keys_with_code code pairs ∙ ap (λ (l : List (ℕ × List ℕ)). has_code l code) c.self.view_is ∙ c.requires.code in
    let new_acronym : list_any (bytes_eq acronym) (keys_of entries) ≡ false =
    ap (λ (l : List (List ℕ × ℕ)). list_any (bytes_eq acronym) (keys_of l)) c.self.invariant
    ∙ keys_with_acronym acronym pairs
    ∙ ap (λ (l : List (ℕ × List ℕ)). has_acronym l acronym) c.self.view_is
    ∙ c.requires.acronym in
    c.in_ok-insert-2.ensures.entries
    ∙ inserted_new bytes_eq entries acronym code new_acronym
    ∙ ap (λ (l : List (List ℕ × ℕ)). l ++ (acronym, code) ∷ []) c.self.invariant
    ∙ sym (by_acronym-push pairs code acronym)
    ∙ ap by_acronym (sym (c.in_ok-insert.ensures.entries ∙ inserted_new eqb pairs code acronym new_code))

pub returns : goal.returns
returns c =
    let code = c.args.code in
    let acronym = c.args.acronym in
    let pairs = c.self.inside.acronyms.entries in
    let new_code : list_any (eqb code) (keys_of pairs) ≡ false =
    keys_with_code code pairs ∙ ap (λ (l : List (ℕ × List ℕ)). has_code l code) c.self.view_is ∙ c.requires.code in
    c.in_ok-insert.ensures.entries
    ∙ inserted_new eqb pairs code acronym new_code
    ∙ ap (λ (l : List (ℕ × List ℕ)). l ++ (code, acronym) ∷ []) c.self.view_is
