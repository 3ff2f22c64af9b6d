-- Values as they are printed.
use Rattle.std.specs.Prelude.{ℕ, List, [], ◌∷◌}
use Rattle.script_reader.specs.Reply.{number}
use Rattle.session_core.specs.declared.values.Value.{Value}
use Rattle.session_core.specs.declared.values.Value.TheVariants.{Number, Text, Name, Foid}

-- the words of a value: numbers in digits, and a text as it is
abbrev pub words_of : Value → List (List ℕ)
words_of (Number n) = number n ∷ []
words_of (Text text) = text.now ∷ []
words_of (Name name) = number name.rcnm ∷ number name.rcid ∷ []
words_of (Foid foid) = number foid.agen ∷ number foid.fidn ∷ number foid.fids ∷ []
