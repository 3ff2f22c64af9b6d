use Rattle.std.proofs.Common.{subst, map, ap, ◌≡◌, ◌∙◌, []}
use Rattle.std.specs.Prelude.{string_bytes}
use Rattle.clap.specs.Words.{App, HasKind, fault_of, found_of, is_simple, is_simple_and_free, matches_of, rows_of}
use Rattle.command_words.specs.Reading.{words_of}
use Rattle.command_words.proofs.Building.{ecdis_is_simple, ecdis_is_simple_and_free}
use Rattle.command_words.proofs.Answered.{answered_refused, answered_said, failed, passed}
use Rattle.command_words.proofs.Ranges.{read_in_range}
use Rattle.command_words.proofs.reading.read_words.Goals as goal

pub returns-in_err-matches-clause-refused : goal.returns-in_err-matches-clause-refused
returns-in_err-matches-clause-refused c =
    let words = map (λ word. string_bytes word) c.args.words.now in
    let error = c.in_err-matches.field-0.0 in
    let is = c.in_ok-ecdis.ensures in
    let kinds = c.in_err-matches.ensures.kinds (ap is_simple_and_free is ∙ ecdis_is_simple_and_free) in
    answered_refused (words_of words) c.from_residual-in_err-matches.result
    (failed words error c.from_residual-in_err-matches.result (subst (λ (app : App). HasKind (fault_of app words) error) is kinds)
    c.from_residual-in_err-matches.ensures.1)

pub returns : goal.returns
returns c =
    let words = map (λ word. string_bytes word) c.args.words.now in
    let is = c.in_ok-ecdis.ensures in
    let none = c.in_ok-matches.ensures.kinds (ap is_simple_and_free is ∙ ecdis_is_simple_and_free) in
    let same = (c.in_ok-matches.ensures.matches (ap is_simple is ∙ ecdis_is_simple)).0 in
    let answer = passed words (rows_of (found_of c.in_ok-matches.matches)) c.words_in.result
    (subst (λ (app : App). fault_of app words ≡ []) is none) (same ∙ ap (λ (app : App). matches_of app words) is)
    c.words_in.ensures in
    let said = answered_said (words_of words) c.words_in.result answer in
    record {
      said = said;
      refused = answered_refused (words_of words) c.words_in.result answer;
      ranges = read_in_range words c.words_in.result said;
    }
