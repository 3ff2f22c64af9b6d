use Rattle.std.proofs.Common.{◌≡◌, take, map}
use Rattle.colour_table.specs.Under.{under_token}
use Rattle.colour_table.proofs.under.under_tokens.Given as goal

abbrev pub invariant-loop-swatch : goal.invariant-loop-swatch
invariant-loop-swatch l = l.entries ≡ map under_token (take l.swatch-index l.colours)
