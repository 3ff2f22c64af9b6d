use Rattle.std.proofs.Common.{◌≡◌, rules}
use Rattle.date_display.specs.Days.{date_of}
use Rattle.date_display.specs.Shown.{is_shown_on}
use Rattle.date_display.proofs.Bounds.{shown_exact}
use Rattle.date_display.proofs.feature.shown_on.Goals as goal

pub returns-clause-exact : goal.returns-clause-exact
returns-clause-exact c =
    let same : c.is_shown_on.result ≡ is_shown_on (date_of c.args.day) c.args.feature.now.attrs = search rules in
    shown_exact (date_of c.args.day) c.args.feature.now.attrs c.is_shown_on.result same
