use Rattle.std.proofs.Common.{sym, ap, ◌∙◌, arith, Some, List, ℕ}
use Rattle.object_catalogue.proofs.Acronyms.{six_bytes, is_one, acronym_some, acronym_none, unspelled, other_length}
use Rattle.object_catalogue.proofs.acronym.read_acronym.Goals as goal

pub returns-in-len6-clause-exact : goal.returns-in-len6-clause-exact
returns-in-len6-clause-exact c =
    let text = c.args.text.now in
    (is_one text (omega arith) (sym c.are_acronym_bytes.ensures ∙ c.if-are_acronym_bytes.true), sym (six_bytes text (omega arith)))

pub returns-in-len6-clause-function : goal.returns-in-len6-clause-function
returns-in-len6-clause-function c =
    let text = c.args.text.now in
    ap (λ (l : List ℕ). Some l) (sym (six_bytes text (omega arith)))
    ∙ sym (acronym_some text (is_one text (omega arith) (sym c.are_acronym_bytes.ensures ∙ c.if-are_acronym_bytes.true)))

pub returns-in_default-clause-function : goal.returns-in_default-clause-function
returns-in_default-clause-function c = sym (acronym_none c.args.text.now (other_length c.args.text.now (λ e. omega arith)))

pub returns-in_default-2-clause-exact : goal.returns-in_default-2-clause-exact
returns-in_default-2-clause-exact c = unspelled c.args.text.now (sym c.are_acronym_bytes.ensures ∙ c.if-are_acronym_bytes.false)

pub returns-in_default-2-clause-function : goal.returns-in_default-2-clause-function
returns-in_default-2-clause-function c =
    sym (acronym_none c.args.text.now (unspelled c.args.text.now (sym c.are_acronym_bytes.ensures ∙ c.if-are_acronym_bytes.false)))

pub returns-in_default-3-clause-function : goal.returns-in_default-3-clause-function
returns-in_default-3-clause-function c = sym (acronym_none c.args.text.now (other_length c.args.text.now (λ e. omega arith)))
