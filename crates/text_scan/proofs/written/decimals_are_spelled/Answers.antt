use Rattle.text_scan.proofs.Decimals.{decimal_of-is, one_decimal}
use Rattle.text_scan.proofs.written.decimals_are_spelled.Goals as goal

pub returns-clause-decimal : goal.returns-clause-decimal
returns-clause-decimal c = decimal_of-is

pub returns-clause-one : goal.returns-clause-one
returns-clause-one c = one_decimal
