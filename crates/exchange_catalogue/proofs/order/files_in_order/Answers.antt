use Rattle.exchange_catalogue.proofs.Sorted.{sorted-order}
use Rattle.exchange_catalogue.proofs.order.files_in_order.Goals as goal

pub returns-clause-order : goal.returns-clause-order
returns-clause-order c =
    sorted-order c.args.entries.now c.in_ok-files.files.items c.sort.new.self.items c.in_ok-files.ensures.files
    c.sort.ensures.permutation
    c.in_ok-sort.ensures.sorted
