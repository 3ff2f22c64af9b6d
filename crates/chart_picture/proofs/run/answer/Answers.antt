-- The words are read, or ask for a text, or are refused.
use Rattle.std.proofs.Common.{◌≡◌, ◌∙◌, None, Some, map, sym}
use Rattle.std.specs.Prelude.{string_bytes}
use Rattle.picture_words.specs.Reading.{value_of}
use Rattle.chart_picture.proofs.Running.{asked-answered, memory-answered, read-answered, refused-answered}
use Rattle.chart_picture.proofs.run.answer.Goals as goal

pub returns-in-Ok-clause-answered : goal.returns-in-Ok-clause-answered
returns-in-Ok-clause-answered g c =
    read-answered g.L.Shelf.tells g.L.Shelf.files g.L.Shelf.faults (map string_bytes c.args.words.now) _ _ (value_of c.in-Ok.words)
    c.picture_of.result c.in-Ok.ensures.said c.picture_of.ensures

pub returns-in-Ok-clause-uncounted : goal.returns-in-Ok-clause-uncounted
returns-in-Ok-clause-uncounted g c =
    λ none. absurd (let both : Some (value_of c.in-Ok.words) ≡ None = sym c.in-Ok.ensures.said ∙ none in cc)

pub returns-in-Err-Asked-clause-answered : goal.returns-in-Err-Asked-clause-answered
returns-in-Err-Asked-clause-answered g c =
    let end = rw c.in-Err-Asked.field-0-is at c.in-Err-Asked.ensures.ends in
    asked-answered g.L.Shelf.tells g.L.Shelf.files g.L.Shelf.faults (map string_bytes c.args.words.now) _ c.text_of.result end.0 end.1
    c.text_of.ensures

pub returns-in-Err-Refused-clause-answered : goal.returns-in-Err-Refused-clause-answered
returns-in-Err-Refused-clause-answered g c =
    let end = rw c.in-Err-Refused.field-0-is at c.in-Err-Refused.ensures.ends in
    refused-answered g.L.Shelf.tells g.L.Shelf.files g.L.Shelf.faults (map string_bytes c.args.words.now) _ end.0 end.1

pub returns-in-Err-NoMemory-clause-answered : goal.returns-in-Err-NoMemory-clause-answered
returns-in-Err-NoMemory-clause-answered g c =
    memory-answered g.L.Shelf.tells g.L.Shelf.files g.L.Shelf.faults (map string_bytes c.args.words.now) _
