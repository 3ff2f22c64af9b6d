-- One file after the other.
use Rattle.std.proofs.Common.{ap, map, refl}
use Rattle.std.specs.Prelude.{option_map, string_bytes}
use Rattle.picture_words.specs.Reading.{value_of}
use Rattle.chart_picture.proofs.Gathering.{behind-colours, behind-live, behind-table, no-checked, no-colours, no-live, no-table}
use Rattle.chart_picture.proofs.Gathering.{shown-checked, shown-colours, shown-live, with-all}
use Rattle.chart_picture.proofs.run.material.gather.Goals as goal

pub returns-in_err-table : goal.returns-in_err-table
returns-in_err-table g c =
    no-table g.L.Shelf.tells g.L.Shelf.files g.L.Shelf.faults (value_of c.args.words.now) _ _ c.in_err-table.field-0.0
    c.from_residual.result c.from_residual.ensures.1 c.in_err-table.ensures

pub returns-in_err-colours : goal.returns-in_err-colours
returns-in_err-colours g c =
    let words = value_of c.args.words.now in
    behind-table g.L.Shelf.tells g.L.Shelf.files g.L.Shelf.faults words _ _ _ c.in_ok-table.table _ c.in_ok-table.ensures
    (no-colours g.L.Shelf.tells g.L.Shelf.files g.L.Shelf.faults words _ _ c.in_ok-table.table c.in_err-colours.field-0.0
    c.from_residual-in_err-colours.result c.from_residual-in_err-colours.ensures.1
    (shown-colours g.L.Shelf.tells g.L.Shelf.files g.L.Shelf.faults words _ _ _ _ c.as_str.ensures.value c.in_err-colours.ensures))

pub returns-in_err-live : goal.returns-in_err-live
returns-in_err-live g c =
    let words = value_of c.args.words.now in
    behind-table g.L.Shelf.tells g.L.Shelf.files g.L.Shelf.faults words _ _ _ c.in_ok-table.table _ c.in_ok-table.ensures
    (behind-colours g.L.Shelf.tells g.L.Shelf.files g.L.Shelf.faults words _ _ _ c.in_ok-table.table c.in_ok-colours.colours _
    (shown-colours g.L.Shelf.tells g.L.Shelf.files g.L.Shelf.faults words _ _ _ _ c.as_str.ensures.value c.in_ok-colours.ensures)
    (no-live g.L.Shelf.tells g.L.Shelf.files g.L.Shelf.faults words _ _ c.in_ok-table.table c.in_ok-colours.colours
    c.in_err-live.field-0.0 c.from_residual-in_err-live.result c.from_residual-in_err-live.ensures.1
    (shown-live g.L.Shelf.tells g.L.Shelf.files g.L.Shelf.faults words _ _ _ _ (ap (map string_bytes) c.as_slice.ensures.value)
    c.in_err-live.ensures)))

pub returns-in_err-checked : goal.returns-in_err-checked
returns-in_err-checked g c =
    let words = value_of c.args.words.now in
    behind-table g.L.Shelf.tells g.L.Shelf.files g.L.Shelf.faults words _ _ _ c.in_ok-table.table _ c.in_ok-table.ensures
    (behind-colours g.L.Shelf.tells g.L.Shelf.files g.L.Shelf.faults words _ _ _ c.in_ok-table.table c.in_ok-colours.colours _
    (shown-colours g.L.Shelf.tells g.L.Shelf.files g.L.Shelf.faults words _ _ _ _ c.as_str.ensures.value c.in_ok-colours.ensures)
    (behind-live g.L.Shelf.tells g.L.Shelf.files g.L.Shelf.faults words _ _ _ c.in_ok-table.table c.in_ok-colours.colours
    c.in_ok-live.live _
    (shown-live g.L.Shelf.tells g.L.Shelf.files g.L.Shelf.faults words _ _ _ _ (ap (map string_bytes) c.as_slice.ensures.value)
    c.in_ok-live.ensures)
    (no-checked g.L.Shelf.tells g.L.Shelf.files g.L.Shelf.faults words _ _ c.in_ok-table.table c.in_ok-colours.colours
    c.in_ok-live.live c.in_err-checked.field-0.0 c.from_residual-in_err-checked.result c.from_residual-in_err-checked.ensures.1
    (shown-checked g.L.Shelf.tells g.L.Shelf.files g.L.Shelf.faults words _ _ _ _ _ _ refl
    (ap (option_map string_bytes) c.as_ref-name.ensures.value) c.in_err-checked.ensures))))

pub returns : goal.returns
returns g c =
    let words = value_of c.args.words.now in
    behind-table g.L.Shelf.tells g.L.Shelf.files g.L.Shelf.faults words _ _ _ c.in_ok-table.table _ c.in_ok-table.ensures
    (behind-colours g.L.Shelf.tells g.L.Shelf.files g.L.Shelf.faults words _ _ _ c.in_ok-table.table c.in_ok-colours.colours _
    (shown-colours g.L.Shelf.tells g.L.Shelf.files g.L.Shelf.faults words _ _ _ _ c.as_str.ensures.value c.in_ok-colours.ensures)
    (behind-live g.L.Shelf.tells g.L.Shelf.files g.L.Shelf.faults words _ _ _ c.in_ok-table.table c.in_ok-colours.colours
    c.in_ok-live.live _
    (shown-live g.L.Shelf.tells g.L.Shelf.files g.L.Shelf.faults words _ _ _ _ (ap (map string_bytes) c.as_slice.ensures.value)
    c.in_ok-live.ensures)
    (with-all g.L.Shelf.tells g.L.Shelf.files g.L.Shelf.faults words _ _ c.in_ok-table.table c.in_ok-colours.colours
    c.in_ok-live.live c.in_ok-checked.checked
    (shown-checked g.L.Shelf.tells g.L.Shelf.files g.L.Shelf.faults words _ _ _ _ _ _ refl
    (ap (option_map string_bytes) c.as_ref-name.ensures.value) c.in_ok-checked.ensures))))
