use Rattle.std.proofs.Common.{◌≡◌, drop}
use Rattle.std.specs.Prelude.{find}
use Rattle.colour_table.specs.Under.{is_under}
use Rattle.colour_table.proofs.under.colour_under.Given as goal

abbrev pub invariant-loop-swatch : goal.invariant-loop-swatch
invariant-loop-swatch l =
    find (is_under l.token) (drop l.swatch-index l.colours) ≡ find (is_under l.token) l.fn.colours
