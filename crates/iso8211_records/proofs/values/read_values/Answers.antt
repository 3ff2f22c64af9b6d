use Rattle.std.proofs.Common.{List, Option, subst}
use Rattle.std.proofs.lemmas.Result.{err_from_is_err_and}
use Rattle.iso8211_records.specs.declared.value.Value.{Value}
use Rattle.iso8211_records.specs.Values.{Finds}
use Rattle.iso8211_records.proofs.Loops.{values_of-fails, values_of-joined}
use Rattle.iso8211_records.proofs.values.read_values.Goals as goal

pub returns-in_err-rest-clause-read : goal.returns-in_err-rest-clause-read
returns-in_err-rest-clause-read c =
    let p = err_from_is_err_and c.from_residual.result c.from_residual.ensures.1 in
    rw (p.1, p.2) (values_of-fails _ _ _ _ c.in_err-rest.ensures.read)

pub returns-clause-read : goal.returns-clause-read
returns-clause-read c =
    subst (λ (total : Option (List Value)). Finds (λ _. c.read_groups.new.values.items) c.read_groups.result total)
    (values_of-joined _ (record { once = c.args.once.now; group = c.args.group.now }) _ _ _ c.in_ok-rest.ensures.read) c.read_groups.ensures.read
