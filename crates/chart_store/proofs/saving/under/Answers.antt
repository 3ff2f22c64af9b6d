-- How far a save is, as the pair tells it.
use Rattle.std.proofs.Common.{sym, ◌∙◌}
use Rattle.bank_pair.specs.Handle.{value_of}
use Rattle.chart_store.proofs.Saved.{no-progress, progress-under}
use Rattle.chart_store.proofs.saving.under.Goals as goal

pub unreachable-requires : goal.unreachable-requires
unreachable-requires c =
    c.requires (no-progress (value_of c.args.pair.now).save (sym c.progress.ensures ∙ c.in_default.is))

pub returns : goal.returns
returns c = λ save saves.
    progress-under (value_of c.args.pair.now).save save _ saves (sym c.in-Some.is ∙ c.progress.ensures)
