-- The command that bytes spell, as a function.
use Rattle.std.specs.Prelude.{ℕ, ◌&&◌, ◌==◌, Bool, nat_lt, nat_le, if◌then◌else◌, List, [], ◌∷◌, length, take, drop}
use Rattle.std.specs.Prelude.{Option, Some, None}
use Rattle.std.specs.Int.{w32, from_be_bytes}
use Rattle.std.specs.List.{list_all}
use Rattle.chart_model.specs.Key.{is_key}
use Rattle.chart_model.specs.declared.command.Command.{Command}
use Rattle.chart_model.specs.declared.command.Command.TheVariants.{Load, Rollback, Drop}

-- whether each is a byte
unfoldable pub are_bytes : List ℕ → Bool
are_bytes numbers = list_all (λ number. nat_lt number 256) numbers

-- a file, of at most 8,388,608 bytes
abbrev pub load_in : List ℕ → Option Command
load_in rest = if nat_le (length rest) 8388608 then Some (Load rest) else None

-- an update's number in four bytes, and a key behind them
abbrev pub rollback_in : List ℕ → Option Command
rollback_in rest =
    if are_bytes (take 4 rest) && is_key (drop 4 rest)
    then Some (Rollback (drop 4 rest) (from_be_bytes w32 (take 4 rest)))
    else None

-- a key
abbrev pub drop_in : List ℕ → Option Command
drop_in rest = if is_key rest then Some (Drop rest) else None

-- by the first byte
unfoldable pub command_in : List ℕ → Option Command
command_in [] = None
command_in (first ∷ rest) =
    if first == 1 then load_in rest
    else if first == 2 then rollback_in rest
    else if first == 3 then drop_in rest
    else None
