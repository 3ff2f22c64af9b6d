use Rattle.std.proofs.Common.{◌≡◌, ◌*ℤ◌, pos, rules, to_z, of_z, w64}
use Rattle.chart_svg.proofs.Quotients.{product_above}
use Rattle.chart_svg.proofs.view.shortened.Goals as goal

pub returns-clause-positive : goal.returns-clause-positive
returns-clause-positive c =
    let whole : to_z w64 (of_z w64 (to_z w64 (of_z w64 c.args.width) *ℤ to_z w64 (of_z w64 c.from.result))) ≡ c.args.width *ℤ pos c.args.cosine = search rules in
    rw whole (product_above c.args.width c.args.cosine c.requires.wide c.requires.some)
