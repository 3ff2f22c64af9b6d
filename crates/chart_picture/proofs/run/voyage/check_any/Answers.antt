-- There is no name, or the route of a name is checked.
use Rattle.std.proofs.Common.{ℕ, List, Option, Some, None, Ok, Result, refl, sym, ◌∙◌, ap}
use Rattle.std.specs.Prelude.{option_map, string_bytes}
use Rattle.std.specs.Option.{option_copied}
use Rattle.session_core.specs.Fetch.{Files}
use Rattle.chart_picture.specs.Files.{checked_in}
use Rattle.chart_picture.specs.declared.run.end.End.{End}
use Rattle.chart_picture.specs.declared.run.voyage.CheckedRoute.{CheckedRoute}
use Rattle.chart_picture.proofs.Fetching.{done-read, named, still, stop, then-read}
use Rattle.chart_picture.proofs.run.voyage.check_any.Goals as goal

abbrev some_checked : CheckedRoute → Result (Option CheckedRoute) End
some_checked checked = Ok (Some checked)

pub returns-in_default : goal.returns-in_default
returns-in_default g c =
    still g.L.Shelf.tells g.L.Shelf.files g.L.Shelf.faults _ _ None
    (λ (fs : Files). ap (λ (o : Option (List ℕ)). checked_in fs c.args.settings.now c.args.live.now o)
    (ap (λ n. option_map string_bytes (option_copied n)) c.in_default.is))

pub returns-in_err-checked : goal.returns-in_err-checked
returns-in_err-checked g c =
    let checked = λ (o : Option (List ℕ)) (fs : Files). checked_in fs c.args.settings.now c.args.live.now o in
    named g.L.Shelf.tells g.L.Shelf.files g.L.Shelf.faults _ _ _ checked _ _
    (ap (λ text. Some text) c.as_str.ensures.value
    ∙ sym (ap (λ n. option_map string_bytes (option_copied n)) c.in-Some.is))
    (stop g.L.Shelf.tells g.L.Shelf.files g.L.Shelf.faults _ _ _ (λ (fs : Files). some_checked) c.in_err-checked.field-0.0
    c.from_residual.result c.from_residual.ensures.1 c.in_err-checked.ensures)

pub returns : goal.returns
returns g c =
    let checked = λ (o : Option (List ℕ)) (fs : Files). checked_in fs c.args.settings.now c.args.live.now o in
    named g.L.Shelf.tells g.L.Shelf.files g.L.Shelf.faults _ _ _ checked _ _
    (ap (λ text. Some text) c.as_str.ensures.value
    ∙ sym (ap (λ n. option_map string_bytes (option_copied n)) c.in-Some.is))
    (then-read g.L.Shelf.tells g.L.Shelf.files g.L.Shelf.faults _ _ _ some_checked c.in_ok-checked.checked _ c.in_ok-checked.ensures
    (done-read _ (some_checked c.in_ok-checked.checked) refl))
