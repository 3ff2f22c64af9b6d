use Rattle.std.proofs.Common.{◌∙◌, sym}
use Rattle.std.proofs.lemmas.Bool.{true≢false}
use Rattle.s57_records.specs.RecordReading.{subfields_in}
use Rattle.s57_records.proofs.AnswerLemmas.{given}
use Rattle.s57_records.proofs.Changes.{coords_of_sg2d, coords_of_sg3d}
use Rattle.s57_records.proofs.Made.{record_within}
use Rattle.s57_records.proofs.vector.read_coords.Goals as goal
use Rattle.s57_records.proofs.vector.read_coords.Goals.{else-has-via-then-has+else-has-2, else-has-via-else-has}

pub returns-then-has-3 : goal.returns-then-has-3
returns-then-has-3 c =
    let r = c.args.fields.now in
    let there = sym c.has-2.ensures ∙ c.if-has-3.true in
    elim c.else-has.branch [
      | else-has-via-then-has+else-has-2 w ↦
          coords_of_sg2d (subfields_in r) (record_within r) c.args.ruin c.in_ok-coordinates.coordinates c.in_ok-soundings.soundings
          (given _ _ _ c.coordinates.ensures c.in_ok-coordinates.was) (given _ _ _ c.soundings.ensures c.in_ok-soundings.was)
          there (sym w.has-then-has.ensures ∙ w.if-has-2.false)
      | else-has-via-else-has w ↦ absurd (true≢false (sym there ∙ sym c.has.ensures ∙ w.if-has.false))
    ]

pub returns-else-has-3 : goal.returns-else-has-3
returns-else-has-3 c =
    let r = c.args.fields.now in
    coords_of_sg3d (subfields_in r) (record_within r) c.args.ruin c.in_ok-coordinates.coordinates c.in_ok-soundings.soundings
    (given _ _ _ c.coordinates.ensures c.in_ok-coordinates.was) (given _ _ _ c.soundings.ensures c.in_ok-soundings.was)
    (sym c.has-2.ensures ∙ c.if-has-3.false)
