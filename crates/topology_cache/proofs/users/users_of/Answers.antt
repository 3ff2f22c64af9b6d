use Rattle.std.proofs.Common.{◌≡◌, List, ap, ◌∙◌}
use Rattle.std.proofs.lemmas.Result.{IfOk-weaker}
use Rattle.topology_cache.specs.declared.usage.Use.{Use}
use Rattle.topology_cache.specs.Users.{UsersValue}
use Rattle.topology_cache.specs.Sets.{is_use, is_user}
use Rattle.topology_cache.proofs.Cells.{are-users}
use Rattle.topology_cache.proofs.users.users_of.Goals as goal

pub returns-clause-users : goal.returns-clause-users
returns-clause-users g c =
    IfOk-weaker c.from_rows.result (λ users. users ≡ c.in_ok-rows.rows) _
    (λ users same. are-users c.args.cell.now users (λ edge name.
    ap (λ (u : UsersValue). is_user u edge name) same
    ∙ c.in_ok-rows.ensures edge name
    ∙ ap (λ (l : List Use). is_use l edge name) c.as_slice.ensures.value
    ∙ c.in_ok-uses.ensures edge name
    ∙ c.in_ok-uses_of.ensures.uses edge name))
    c.from_rows.ensures
