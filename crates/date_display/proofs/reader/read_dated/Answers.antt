use Rattle.std.proofs.Common.{sym}
use Rattle.date_display.proofs.Spelled.{month_found}
use Rattle.date_display.proofs.reader.read_dated.Goals as goal

pub last_of_month-last-requires : goal.last_of_month-last-requires
last_of_month-last-requires c =
    (month_found c.args.text.now c.in_ok-first-in-6.first (sym c.in_ok-first-in-6.ensures)).exists
