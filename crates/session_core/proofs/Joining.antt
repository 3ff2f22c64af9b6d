-- Values, joined.
use Rattle.std.proofs.Common.{◌≡◌, ℕ, ◌-◌, ◌<◌, ◌≤◌, List, [], ◌∷◌, ◌++◌, length, drop, take, get_or, refl, sym, ap, ◌∙◌, arith, append_assoc}
use Rattle.std.specs.List.{flat_map, join_with_byte}
use Rattle.std.proofs.lemmas.List.{append-nil, take_all}
use Rattle.script_reader.specs.Reply.{number}
use Rattle.session_core.specs.declared.values.Value.{Value}
use Rattle.session_core.specs.declared.values.Value.TheVariants.{Number, Text, Name, Foid}
use Rattle.session_core.specs.Values.{words_of}

-- the words of a value behind a space
abbrev pub behind_space : Value → List ℕ
behind_space value = 32 ∷ join_with_byte 32 (words_of value)

join-append : (word : List ℕ) (words more : List (List ℕ)) → 0 < length more
    → join_with_byte 32 ((word ∷ words) ++ more) ≡ join_with_byte 32 (word ∷ words) ++ 32 ∷ join_with_byte 32 more
join-append word [] [] some = absurd (omega arith)
join-append word [] (next ∷ more) some = refl
join-append word (second ∷ words) more some =
    ap (λ (bytes : List ℕ). word ++ 32 ∷ bytes) (join-append second words more some)
    ∙ sym (append_assoc word (32 ∷ join_with_byte 32 (second ∷ words)) (32 ∷ join_with_byte 32 more))

value-append : (value : Value) (more : List (List ℕ)) → 0 < length more
    → join_with_byte 32 (words_of value ++ more) ≡ join_with_byte 32 (words_of value) ++ 32 ∷ join_with_byte 32 more
value-append (Number n) more some = join-append (number n) [] more some
value-append (Text text) more some = join-append text.now [] more some
value-append (Name name) more some = join-append (number name.rcnm) (number name.rcid ∷ []) more some
value-append (Foid foid) more some =
    join-append (number foid.agen) (number foid.fidn ∷ number foid.fids ∷ []) more some

value-spoken : (value : Value) (more : List (List ℕ)) → 0 < length (words_of value ++ more)
value-spoken (Number n) more = omega arith
value-spoken (Text text) more = omega arith
value-spoken (Name name) more = omega arith
value-spoken (Foid foid) more = omega arith

values-joined : (value : Value) (values : List Value)
    → join_with_byte 32 (flat_map words_of (value ∷ values)) ≡ join_with_byte 32 (words_of value) ++ flat_map behind_space values
values-joined value [] =
    ap (join_with_byte 32) (append-nil (words_of value)) ∙ sym (append-nil (join_with_byte 32 (words_of value)))
values-joined value (next ∷ values) =
    value-append value (flat_map words_of (next ∷ values)) (value-spoken next (flat_map words_of values))
    ∙ ap (λ (bytes : List ℕ). join_with_byte 32 (words_of value) ++ 32 ∷ bytes) (values-joined next values)

-- the first value, and all others behind a space each
pub all-joined : (values : List Value) (first : Value) (empty start words : List ℕ) (n : ℕ) → 1 ≤ length values
    → empty ≡ [] → start ≡ empty ++ join_with_byte 32 (words_of (get_or values 0 first))
    → words ≡ start ++ flat_map behind_space (take n (take (length values - 1) (drop 1 values)))
    → length (take (length values - 1) (drop 1 values)) ≤ n
    → words ≡ join_with_byte 32 (flat_map words_of values)
all-joined [] first empty start words n some none begins goes ends = absurd (omega arith)
all-joined (value ∷ values) first empty start words n some none begins goes ends =
    goes
    ∙ ap (λ (l : List Value). start ++ flat_map behind_space l) (take_all n (take (length (value ∷ values) - 1) values) ends ∙ take_all (length (value ∷ values) - 1) values (omega arith))
    ∙ ap (λ (l : List ℕ). l ++ flat_map behind_space values) (begins ∙ ap (λ (l : List ℕ). l ++ join_with_byte 32 (words_of value)) none)
    ∙ sym (values-joined value values)
