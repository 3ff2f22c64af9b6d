-- No more names are told than entries are looked at.
use Rattle.std.proofs.Common.{◌≡◌, ℕ, ◌+◌, ◌<◌, ◌≤◌, min, length, arith}
use Rattle.std.specs.Global.{Vec}
use Rattle.chart_model.specs.declared.name.Name.{Name}

-- a list in memory is short
pub vec_small : (names : Vec Name) → length names.items < 9223372036854775808
vec_small names =
    let small : names.cap < 9223372036854775808 = names.small in
    omega (arith, names.ok.0, names.ok.1, small)

-- and so the greatest count is enough for it
pub no_more_added : (initial before new looked_at here sum : ℕ) → sum ≡ min (looked_at + here) 18446744073709551615 → before ≤ initial + looked_at → new ≤ before + here
    → new < 9223372036854775808 → new ≤ initial + sum
no_more_added initial before new looked_at here sum e f g small = omega arith
