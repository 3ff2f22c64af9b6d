use Rattle.std.proofs.Common.{sym, ◌∙◌}
use Rattle.s57_records.proofs.AnswerLemmas.{given}
use Rattle.s57_records.proofs.Gathering.{cancelled_from, made_from}
use Rattle.s57_records.proofs.dataset.read_after.Goals as goal

pub invariant_of-result : goal.invariant_of-result
invariant_of-result c =
    rw c.header_of.ensures (rw c.new.ensures (cancelled_from c.args.first.now c.args.general.now c.requires.key c.requires.read (sym c.is_cancelling.ensures ∙ c.if-is_cancelling.true)))

pub invariant_of-result-2 : goal.invariant_of-result-2
invariant_of-result-2 c =
    rw c.header_of-2.ensures (made_from c.args.first.now c.args.general.now _ c.in_ok-gathered.gathered c.in_ok-scale.scale c.requires.key c.requires.read (sym c.is_cancelling.ensures ∙ c.if-is_cancelling.false) (given _ _ _ c.gather_all.ensures c.in_ok-gathered.was) (sym c.scale_or_fault.ensures ∙ c.in_ok-scale.was))
