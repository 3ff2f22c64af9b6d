-- There is no room, or the file follows.
use Rattle.std.proofs.Common.{◌∙◌, Result, ap}
use Rattle.std.specs.FinMap as map
use Rattle.chart_model.specs.Answers.{or_fault_as}
use Rattle.chart_model.specs.State.{StateValue}
use Rattle.chart_store.specs.declared.fault.TakeFault.TheVariants.{Refused}
use Rattle.chart_store.specs.declared.refusal.Refusal.{Refusal}
use Rattle.chart_store.specs.Loaded.{HoldingsByKey}
use Rattle.chart_store.proofs.Taking.{taken-full, taken-room, taken-stands}
use Rattle.chart_store.proofs.load.with_file.Goals as goal

pub returns-then-bytes-gt-STORE_LIMIT-clause-after : goal.returns-then-bytes-gt-STORE_LIMIT-clause-after
returns-then-bytes-gt-STORE_LIMIT-clause-after c = λ differs.
    ap (λ (r : Result StateValue Refusal). or_fault_as Refused r)
    (taken-full c.args.live.now.cells c.args.key c.args.effect c.args.made.held c.args.made.chart c.args.file _ _
    c.as_slice.ensures c.bytes_after-bytes.ensures c.if-bytes-gt-STORE_LIMIT.true)

pub returns-clause-after : goal.returns-clause-after
returns-clause-after c =
    ap (λ (r : Result StateValue Refusal). or_fault_as Refused r)
    (taken-room c.args.live.now.cells c.args.key c.args.effect c.args.made.held c.args.made.chart c.args.file _ _
    c.as_slice.ensures c.bytes_after-bytes.ensures _ _
    (c.get.ensures ∙ ap (λ (m : HoldingsByKey). map.get m c.args.key) c.cells.ensures.cells) c.in_ok-files.ensures
    c.if-bytes-gt-STORE_LIMIT.false)

pub returns-clause-stands : goal.returns-clause-stands
returns-clause-stands c =
    taken-stands c.args.live.now.cells c.args.key c.args.effect c.args.made.held c.args.made.chart c.args.file _ _
    c.as_slice.ensures c.bytes_after-bytes.ensures _ _
    (c.get.ensures ∙ ap (λ (m : HoldingsByKey). map.get m c.args.key) c.cells.ensures.cells) c.in_ok-files.ensures
    c.if-bytes-gt-STORE_LIMIT.false c.requires.holds c.requires.closed
