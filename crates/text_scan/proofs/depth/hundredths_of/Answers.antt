use Rattle.std.proofs.Common.{sym}
use Rattle.text_scan.proofs.DepthTexts.{digits_of_found}
use Rattle.text_scan.proofs.depth.hundredths_of.Goals as goal

pub amount-amount-requires-clause-whole_digits : goal.amount-amount-requires-clause-whole_digits
amount-amount-requires-clause-whole_digits c = (digits_of_found c.args.text.now _ (sym c.in-Some.ensures)).all_whole

pub amount-amount-requires-clause-short_whole : goal.amount-amount-requires-clause-short_whole
amount-amount-requires-clause-short_whole c = (digits_of_found c.args.text.now _ (sym c.in-Some.ensures)).short_whole

pub amount-amount-requires-clause-decimal_digits :
    goal.amount-amount-requires-clause-decimal_digits
amount-amount-requires-clause-decimal_digits c =
    (digits_of_found c.args.text.now _ (sym c.in-Some.ensures)).all_decimals

pub amount-amount-requires-clause-short_decimals :
    goal.amount-amount-requires-clause-short_decimals
amount-amount-requires-clause-short_decimals c =
    (digits_of_found c.args.text.now _ (sym c.in-Some.ensures)).short_decimals

pub ceiling-requires-clause-few : goal.ceiling-requires-clause-few
ceiling-requires-clause-few c = (digits_of_found c.args.text.now _ (sym c.in-Some.ensures)).short_decimals

pub floor-requires-clause-few : goal.floor-requires-clause-few
floor-requires-clause-few c = (digits_of_found c.args.text.now _ (sym c.in-Some.ensures)).short_decimals
