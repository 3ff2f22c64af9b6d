-- What stands behind shared pointers.
use Rattle.std.specs.Prelude.{List}
use Rattle.std.specs.Prelude as list
use Rattle.std.specs.declared.rc.Rc.{Rc}

-- each pointer's value in its place
abbrev pub values_behind : {K X Z : Type 0} → List (K × Rc X Z) → List (K × X)
values_behind es = list.map (λ e. (e.0, e.1.value)) es
