-- What a parse says of the words.
use Rattle.std.specs.Prelude.{Result, Ok, Err, MatchResult, IfErr, IfOk}
use Rattle.std.proofs.Common.{◌≡◌, ◌≢◌, ℕ, Bool, true, false, not, ◌||◌, List, [], ◌∷◌, Option, Some, None, refl, sym, ap, ap₂, ◌∙◌, inl, inr}
use Rattle.std.specs.Prelude.{is_none}
use Rattle.std.specs.List.{list_any}
use Rattle.clap.specs.Words.{HasKind, IsAmong, Kinds, kind_of}
use Rattle.clap.specs.declared.error.Error.{Error}
use Rattle.clap.specs.declared.error.kind.ErrorKind.{ErrorKind}
use Rattle.clap.specs.declared.error.kind.ErrorKind.TheVariants.{OutOfMemory}
use Rattle.picture_words.specs.declared.end.WordsEnd.{WordsEnd}
use Rattle.picture_words.specs.declared.end.WordsEnd.TheVariants.{Asked, Refused, NoMemory}
use Rattle.picture_words.specs.declared.reading.PictureWords.{PictureWords}
use Rattle.picture_words.specs.Command.{IsAnsweredBy, is_request}
use Rattle.picture_words.specs.Reading.{IsEndOf, IsSilent, PictureValue, ask, are_refused, found_in, have_fault, kinds_of, value_of, where_none, words_of}

-- an end, by what may be wrong and by what is found
abbrev pub EndsBy : Kinds → Option PictureValue → WordsEnd → Type 0
EndsBy kinds found (Asked text) = (list_any is_request kinds ≡ true) × (where_none kinds found ≡ None)
EndsBy kinds found Refused = (have_fault kinds found ≡ true) × (where_none kinds found ≡ None)
EndsBy kinds found NoMemory = Unit {0}

-- an answer, by the same
abbrev pub AnswersBy : Kinds → Option PictureValue → Result PictureWords WordsEnd → Type 0
AnswersBy kinds found result =
    MatchResult result (λ read. where_none kinds found ≡ Some (value_of read)) (EndsBy kinds found)

-- ---- an error

or-right : (a b : Bool) → b ≡ true → (a || b) ≡ true
or-right true b e = refl
or-right false b e = e

or-left : (a b : Bool) → a ≡ true → (a || b) ≡ true
or-left true b e = refl
or-left false b e = absurd cc

any-among : (p : ErrorKind → Bool) (kind : ErrorKind) (kinds : Kinds) → IsAmong kind kinds → p kind ≡ true
    → list_any p kinds ≡ true
any-among p kind [] among holds = absurd among
any-among p kind (first ∷ more) (inl same) holds = or-left (p first) (list_any p more) (sym (ap p same) ∙ holds)
any-among p kind (first ∷ more) (inr among) holds = or-right (p first) (list_any p more) (any-among p kind more among holds)

none-where : (kind : ErrorKind) (kinds : Kinds) (found : Option PictureValue) → IsAmong kind kinds → where_none kinds found ≡ None
none-where kind [] found among = absurd among
none-where kind (first ∷ more) found among = refl

fault-among : (kind : ErrorKind) (kinds : Kinds) (found : Option PictureValue) → IsAmong kind kinds → is_request kind ≡ false
    → have_fault kinds found ≡ true
fault-among kind [] found among other = absurd among
fault-among kind (first ∷ more) found among other =
    any-among (λ each. not (is_request each)) kind (first ∷ more) among (ap not other)

pub ends : (kinds : Kinds) (found : Option PictureValue) (error : Error) (end : WordsEnd) → HasKind kinds error
    → IsAnsweredBy end error → EndsBy kinds found end
ends kinds found error (Asked text) (inl memory) answered =
    absurd (let bad : false ≡ true = sym (ap is_request memory) ∙ answered in cc)
ends kinds found error (Asked text) (inr among) answered =
    (any-among is_request (kind_of error) kinds among answered, none-where (kind_of error) kinds found among)
ends kinds found error Refused (inl memory) answered = absurd (answered.0 memory)
ends kinds found error Refused (inr among) answered =
    (fault-among (kind_of error) kinds found among answered.1, none-where (kind_of error) kinds found among)
ends kinds found error NoMemory has answered = tt

-- ---- matches

silent-fault : (found : Option PictureValue) → found ≡ None → have_fault [] found ≡ true
silent-fault None e = refl
silent-fault (Some value) e = absurd cc

silent : (kinds : Kinds) (found : Option PictureValue) (end : WordsEnd) → kinds ≡ [] → IsSilent end found → EndsBy kinds found end
silent [] found (Asked text) none is = absurd is
silent [] found Refused none is = (silent-fault found is, is)
silent [] found NoMemory none is = tt
silent (kind ∷ more) found end none is = absurd cc

pub passes : (kinds : Kinds) (found : Option PictureValue) (result : Result PictureWords WordsEnd) → kinds ≡ []
    → MatchResult result (λ read. found ≡ Some (value_of read)) (λ end. IsSilent end found) → AnswersBy kinds found result
passes [] found (Ok read) none is = is
passes (kind ∷ more) found (Ok read) none is = absurd cc
passes kinds found (Err end) none is = silent kinds found end none is

-- ---- what the contract says

pub said : (words : List (List ℕ)) (result : Result PictureWords WordsEnd) → AnswersBy (kinds_of words) (found_in words) result
    → IfOk result (λ read. words_of words ≡ Some (value_of read))
unfolding words_of
said words (Ok read) is = is
said words (Err end) is = tt

refused : (kinds : Kinds) (found : Option PictureValue) (words : List (List ℕ)) → have_fault kinds found ≡ true
    → where_none kinds found ≡ None → kinds ≡ kinds_of words → found ≡ found_in words
    → (are_refused words ≡ true) × (words_of words ≡ None)
unfolding are_refused words_of
refused kinds found words fault none is there =
    (sym (ap₂ have_fault is there) ∙ fault, sym (ap₂ where_none is there) ∙ none)

asked : (kinds : Kinds) (found : Option PictureValue) (words : List (List ℕ)) → list_any is_request kinds ≡ true
    → where_none kinds found ≡ None → kinds ≡ kinds_of words → found ≡ found_in words
    → (ask words ≡ true) × (words_of words ≡ None)
unfolding ask words_of
asked kinds found words request none is there =
    (ap (list_any is_request) (sym is) ∙ request, sym (ap₂ where_none is there) ∙ none)

pub ended : (words : List (List ℕ)) (result : Result PictureWords WordsEnd) → AnswersBy (kinds_of words) (found_in words) result
    → IfErr result (IsEndOf words)
ended words (Ok read) is = tt
ended words (Err (Asked text)) is = asked (kinds_of words) (found_in words) words is.0 is.1 refl refl
ended words (Err Refused) is = refused (kinds_of words) (found_in words) words is.0 is.1 refl refl
ended words (Err NoMemory) is = tt
