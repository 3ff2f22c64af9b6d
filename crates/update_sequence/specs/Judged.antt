-- What becomes of a cell's live files when a file of it comes (S-57 Appendix B.1, 5.7 and 8.3.1).
use Rattle.std.specs.Prelude.{◌+◌, Bool, not, ◌&&◌, ◌||◌, ◌==◌, nat_lt, if◌then◌else◌, Option, Some, None, Result, Ok}
use Rattle.std.specs.Prelude.{Err}
use Rattle.chart_model.specs.Dataset.{DatasetValue}
use Rattle.chart_model.specs.declared.dataset.Header.{Header}
use Rattle.chart_model.specs.declared.state.Held.{Held}
use Rattle.update_sequence.specs.declared.effect.Effect.{Effect}
use Rattle.update_sequence.specs.declared.effect.Effect.TheVariants.{Replace, Extend, Cancel}
use Rattle.update_sequence.specs.declared.fault.SequenceFault.{SequenceFault}
use Rattle.update_sequence.specs.declared.fault.SequenceFault.TheVariants.{NoBase, StaleBase, Edition, Gap, Cancelled}

-- edition and update come before the held ones: editions are compared first
abbrev pub is_older : Header → Held → Bool
is_older given held =
    nat_lt given.edition held.edition || ((given.edition == held.edition) && nat_lt given.update held.update)

-- a base file replaces what is held, unless it is older
abbrev pub judged_base : Option Held → Header → Result Effect SequenceFault
judged_base None given = Ok Replace
judged_base (Some held) given =
    if is_older given held then Err (StaleBase held.edition held.update given.edition given.update) else Ok Replace

-- An update needs a cell that is held and not cancelled. One that cancels needs no more; any other
-- has the held edition and the next update number.
abbrev pub judged_update : Option Held → Header → Bool → Result Effect SequenceFault
judged_update None given cancels = Err (NoBase given.key)
judged_update (Some held) given cancels =
    if held.cancelled then Err (Cancelled given.key)
    else (if cancels then Ok Cancel
    else (if not (given.edition == held.edition) then Err (Edition held.edition given.edition)
    else (if not (given.update == (held.update + 1)) then Err (Gap (held.update + 1) given.update)
    else Ok Extend)))

-- what becomes of the live files, or the first fault
unfoldable pub judged : Option Held → DatasetValue → Result Effect SequenceFault
judged held dataset =
    if dataset.base then judged_base held dataset.header else judged_update held dataset.header dataset.cancels
