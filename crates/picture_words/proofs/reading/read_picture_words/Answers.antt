-- The words are marked, and read as the command that definitions cite.
use Rattle.std.proofs.Common.{◌≡◌, ℕ, List, [], Some, ap, ◌∙◌, map, subst}
use Rattle.std.specs.Prelude.{MatchResult, Err, string_bytes}
use Rattle.clap.specs.Words.{App, HasKind, Row, fault_of, found_of, is_simple, is_simple_and_free, matches_of, rows_of}
use Rattle.picture_words.specs.Command.{chart_picture}
use Rattle.picture_words.specs.Marked.{marked_words}
use Rattle.picture_words.specs.Reading.{IsSilent, found_in, kinds_of, value_of, words_in}
use Rattle.picture_words.proofs.Answered.{ended, ends, passes, said}
use Rattle.picture_words.proofs.Building.{chart_picture_is_simple, chart_picture_is_simple_and_free}
use Rattle.picture_words.proofs.Kept.{read_in_range, read_wide}
use Rattle.picture_words.proofs.reading.read_picture_words.Goals as goal

pub returns-in-Err : goal.returns-in-Err
returns-in-Err c =
    let words = map (λ word. string_bytes word) c.args.words.now in
    let handed = map (λ word. string_bytes word) c.deref.result.now in
    let error = c.in-Err.error in
    let is = c.in_ok-chart_picture.ensures in
    let marked : handed ≡ marked_words words =
    ap (map (λ word. string_bytes word)) c.deref.ensures.value ∙ c.in_ok-marked.ensures in
    let kinds = c.in-Err.ensures.kinds (ap is_simple_and_free is ∙ chart_picture_is_simple_and_free) in
    let has : HasKind (kinds_of words) error =
    subst (λ (given : List (List ℕ)). HasKind (fault_of chart_picture given) error) marked
    (subst (λ (app : App). HasKind (fault_of app handed) error) is kinds) in
    record {
      said = tt;
      ends = ended words (Err c.end_of.result) (ends (kinds_of words) (found_in words) error c.end_of.result has c.end_of.ensures);
      ranges = tt;
      width = tt;
    }

pub returns : goal.returns
returns c =
    let words = map (λ word. string_bytes word) c.args.words.now in
    let handed = map (λ word. string_bytes word) c.deref.result.now in
    let is = c.in_ok-chart_picture.ensures in
    let marked : handed ≡ marked_words words =
    ap (map (λ word. string_bytes word)) c.deref.ensures.value ∙ c.in_ok-marked.ensures in
    let none = c.in-Ok.ensures.kinds (ap is_simple_and_free is ∙ chart_picture_is_simple_and_free) in
    let same = (c.in-Ok.ensures.matches (ap is_simple is ∙ chart_picture_is_simple)).0 in
    let no_kinds : kinds_of words ≡ [] =
    subst (λ (given : List (List ℕ)). fault_of chart_picture given ≡ []) marked
    (subst (λ (app : App). fault_of app handed ≡ []) is none) in
    let rows = same ∙ ap (λ (app : App). matches_of app handed) is ∙ ap (matches_of chart_picture) marked in
    let answer = passes (kinds_of words) (found_in words) c.words_in.result no_kinds
    (subst (λ (found : List Row). MatchResult c.words_in.result (λ read. words_in found ≡ Some (value_of read))
    (λ end. IsSilent end (words_in found))) rows c.words_in.ensures) in
    let read = said words c.words_in.result answer in
    record {
      said = read;
      ends = ended words c.words_in.result answer;
      ranges = read_in_range words c.words_in.result read;
      width = read_wide words c.words_in.result read;
    }
