use Rattle.std.proofs.Common.{◌≡◌, [], ◌∷◌, ◌++◌, take, map}
use Rattle.chart_symbols.specs.declared.digits.TheConstants.{DIGITS}
use Rattle.chart_symbols.specs.Digits.{digit_symbol}
use Rattle.chart_symbols.proofs.digits.push_digits.Given as goal

abbrev pub invariant-loop-digit : goal.invariant-loop-digit
invariant-loop-digit l =
    l.symbols ≡ l.initial.symbols
    ++ map (λ digit. digit_symbol l.prefix l.colour (l.place ∷ digit.0 ∷ []) l.step digit.1.now) (take l.digit-index DIGITS)
