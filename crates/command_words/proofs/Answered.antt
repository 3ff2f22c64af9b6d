-- What a parse says of the words.
use Rattle.std.specs.Prelude.{Result, Ok, Err, MatchResult, IfOk, IsErrAnd}
use Rattle.std.proofs.Common.{◌≡◌, Some, ◌≢◌, ℕ, List, [], ◌∷◌, Option, None, refl, sym, ap, ◌∙◌, inl, inr}
use Rattle.clap.specs.Words.{HasKind, Row, Kinds, fault_of, kind_of, matches_of}
use Rattle.clap.specs.declared.error.Error.{Error}
use Rattle.clap.specs.declared.error.kind.ErrorKind.TheVariants.{OutOfMemory}
use Rattle.command_words.specs.declared.fault.WordsFault.{WordsFault}
use Rattle.command_words.specs.declared.fault.WordsFault.TheVariants.{Refused, NoMemory}
use Rattle.command_words.specs.declared.reading.Words.{Words}
use Rattle.command_words.specs.Command.{IsAnsweredBy, ecdis}
use Rattle.command_words.specs.Reading.{WordsValue, words_in, value_of, where_none, words_of}

pub taken : (words : List (List ℕ)) → fault_of ecdis words ≡ [] → words_of words ≡ words_in (matches_of ecdis words)
unfolding words_of
taken words none = ap (λ (kinds : Kinds). where_none kinds (words_in (matches_of ecdis words))) none

none_where : (kinds : Kinds) (error : Error) (found : Option WordsValue) → kind_of error ≢ OutOfMemory
    → HasKind kinds error → where_none kinds found ≡ None
none_where kinds error found other (inl memory) = absurd (other memory)
none_where [] error found other (inr among) = absurd among
none_where (kind ∷ more) error found other (inr among) = refl

pub refused : (words : List (List ℕ)) (error : Error) → kind_of error ≢ OutOfMemory
    → HasKind (fault_of ecdis words) error → words_of words ≡ None
unfolding words_of
refused words error other has = none_where (fault_of ecdis words) error (words_in (matches_of ecdis words)) other has

-- an answer to the words: what they say, and a refusal exactly where they say nothing
abbrev pub Answers : Option WordsValue → Result Words WordsFault → Type 0
Answers said result = MatchResult result (λ read. said ≡ Some (value_of read))
    (λ fault. fault ≡ Refused → said ≡ None)

pub answered_said : (said : Option WordsValue) (result : Result Words WordsFault) → Answers said result
    → IfOk result (λ read. said ≡ Some (value_of read))
answered_said said (Ok read) is = is
answered_said said (Err fault) is = tt

pub answered_refused : (said : Option WordsValue) (result : Result Words WordsFault) → Answers said result
    → result ≡ Err Refused → said ≡ None
answered_refused said (Ok read) is e = absurd cc
answered_refused said (Err fault) is e = is cc

pub failed : (words : List (List ℕ)) (error : Error) (result : Result Words WordsFault)
    → HasKind (fault_of ecdis words) error
    → IsErrAnd result (λ fault. IsAnsweredBy fault error) → Answers (words_of words) result
failed words error (Ok read) has answered = absurd answered
failed words error (Err Refused) has answered = λ _. refused words error answered has
failed words error (Err NoMemory) has answered = λ e. absurd cc

pub passed : (words : List (List ℕ)) (found : List Row) (result : Result Words WordsFault) → fault_of ecdis words ≡ []
    → found ≡ matches_of ecdis words → Answers (words_in found) result → Answers (words_of words) result
passed words found (Ok read) none same answered = taken words none ∙ ap words_in (sym same) ∙ answered
passed words found (Err fault) none same answered = λ is. taken words none ∙ ap words_in (sym same) ∙ answered is
