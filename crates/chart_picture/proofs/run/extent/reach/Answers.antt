-- A border that isn't moved is the last one that there is, and no two of these are the same.
use Rattle.std.proofs.Common.{◌≡◌, ℤ, pos, negsuc, ◌≤ℤ◌, ◌<ℤ◌, arith, rules}
use Rattle.std.proofs.lemmas.Int.{ints, to_z-of_z}
use Rattle.chart_picture.proofs.run.extent.reach.Goals as goal

apart : (low a b high : ℤ) → low ≤ℤ a → (low ≡ a → a ≡ negsuc 2147483647) → a ≤ℤ b → b ≤ℤ high
    → (high ≡ b → b ≡ pos 2147483647) → low <ℤ high
apart low a b high before first between behind last = grind (arith, ints)

pub returns : goal.returns
returns c =
    let below = simp (to_z-of_z, c.ranges.low) at c.before-2.ensures.within in
    let first = simp (to_z-of_z, c.ranges.low) at c.before-2.ensures.strict in
    let above = simp (to_z-of_z, c.ranges.high) at c.behind.ensures.within in
    let last = simp (to_z-of_z, c.ranges.high) at c.behind.ensures.strict in
    let beyond = apart c.before-2.result c.args.low c.args.high c.behind.result below first c.requires.apart above last in
    search (rules, beyond)
