use Rattle.chart_pages.proofs.StatesRead.{found, none_found}
use Rattle.chart_pages.proofs.decode.decode_store.Goals as goal

pub returns-in-Ok-clause-found : goal.returns-in-Ok-clause-found
returns-in-Ok-clause-found c = found c.keys_are_tested.ensures c.args.bytes.now c.in-Ok.state c.in-Ok.ensures

pub returns-in-Err-Unspelled-clause-none : goal.returns-in-Err-Unspelled-clause-none
returns-in-Err-Unspelled-clause-none c =
    none_found c.keys_are_tested.ensures c.args.bytes.now (rw c.in-Err-Unspelled.field-0-is at c.in-Err-Unspelled.ensures)
