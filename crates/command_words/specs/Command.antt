-- The command, as `clap` reads it.
use Rattle.std.specs.Prelude.{◌≡◌, ◌≢◌, ℕ, true, List, [], ◌∷◌, Some, codes, fold}
use Rattle.clap.specs.Words.{App, Rule, kind_of, new_app, new_rule, with_rule}
use Rattle.clap.specs.declared.builder.action.ArgAction.TheVariants.{SetTrue}
use Rattle.clap.specs.declared.error.Error.{Error}
use Rattle.clap.specs.declared.error.kind.ErrorKind.TheVariants.{OutOfMemory}
use Rattle.command_words.specs.declared.fault.WordsFault.{WordsFault}
use Rattle.command_words.specs.declared.fault.WordsFault.TheVariants.{Refused, NoMemory}

-- `--name VALUE`, which has to be there
abbrev pub required_option : List ℕ → Rule
required_option name = record (new_rule name) { long = Some name; required = true }

-- `--name VALUE`, which may be left out
abbrev pub optional : List ℕ → Rule
optional name = record (new_rule name) { long = Some name }

-- `--name`
abbrev pub flag : List ℕ → Rule
flag name = record (new_rule name) { long = Some name; action = Some SetTrue }

-- the files that the program is given
abbrev pub files : List Rule
files = required_option (codes "catalogue") ∷ required_option (codes "table") ∷ []

-- what the mariner sets
abbrev pub depths : List Rule
depths = optional (codes "safety-contour") ∷ optional (codes "safety-depth")
    ∷ optional (codes "shallow") ∷ optional (codes "deep") ∷ []

abbrev pub looks : List Rule
looks = optional (codes "shades") ∷ flag (codes "pattern") ∷ optional (codes "scale") ∷ optional (codes "day") ∷ []

-- a command with these further arguments
abbrev pub with_rules : App → List Rule → App
with_rules app rules = fold with_rule app rules

-- the command
abbrev pub ecdis : App
ecdis = with_rules (with_rules (with_rules (new_app (codes "ecdis")) files) depths) looks

-- want of memory stays what it is, and every other error is a refusal
abbrev pub IsAnsweredBy : WordsFault → Error → Type 0
IsAnsweredBy Refused error = kind_of error ≢ OutOfMemory
IsAnsweredBy NoMemory error = kind_of error ≡ OutOfMemory
