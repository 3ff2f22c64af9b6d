use Rattle.std.proofs.Common.{◌≡◌, ℕ, List, Ok, length, rules, arith, sym, ap, ◌∙◌}
use Rattle.exchange_catalogue.specs.Orders.{load_order_in}
use Rattle.exchange_catalogue.proofs.Limits.{many, none, some}
use Rattle.exchange_catalogue.proofs.order.load_order.Goals as goal

pub returns-then-count-gt-MOST_FILES-clause-exact :
    goal.returns-then-count-gt-MOST_FILES-clause-exact
returns-then-count-gt-MOST_FILES-clause-exact c = λ differs.
    let counted : c.len-count.result ≡ length c.in_ok-files.files.items = search rules in
    ap load_order_in (sym c.as_slice.ensures)
    ∙ many _ c.in_ok-files.files.items c.in_ok-files.ensures.order c.in_ok-files.ensures.fault c.len-count.result
    counted c.if-count-gt-MOST_FILES.true

pub returns-then-count-eq0-clause-exact : goal.returns-then-count-eq0-clause-exact
returns-then-count-eq0-clause-exact c = λ differs.
    let counted : c.len-count.result ≡ length c.in_ok-files.files.items = search rules in
    ap load_order_in (sym c.as_slice.ensures)
    ∙ none _ c.in_ok-files.files.items c.in_ok-files.ensures.order c.in_ok-files.ensures.fault c.len-count.result
    counted (search rules)

pub returns-clause-exact : goal.returns-clause-exact
returns-clause-exact c =
    let counted : c.len-count.result ≡ length c.in_ok-files.files.items = search rules in
    ap load_order_in (sym c.as_slice.ensures)
    ∙ some _ c.in_ok-files.files.items c.in_ok-files.ensures.order c.in_ok-files.ensures.fault c.len-count.result
    counted
    c.if-count-gt-MOST_FILES.false (search rules)
    ∙ ap (λ (l : List (List ℕ)). Ok l) (sym c.in_ok-paths_of.ensures)
