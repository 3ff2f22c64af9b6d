-- What is answered is what was wanted, as far as memory lasts.
use Rattle.std.proofs.Common.{◌∙◌, Some, sym, refl, arith}
use Rattle.script_reader.specs.Reading.{event_in}
use Rattle.script_reader.proofs.Answered.{answer_given, answer_free, answer_bad, answer_memory, answer_ok}
use Rattle.script_reader.proofs.line.read_line.Goals as goal

pub returns-clause-ranges : goal.returns-clause-ranges
returns-clause-ranges c =
    λ event e.
    let number = c.args.number in
    let line = c.args.line.now in
    c.lines_are_read.ensures.ranges line event
    ((c.lines_are_read.ensures.event number line event).0 (answer_ok c.read.result (event_in number line) (Some event) c.read.ensures e))

pub returns-clause-only : goal.returns-clause-only
returns-clause-only c =
    λ event spells other.
    let number = c.args.number in
    let line = c.args.line.now in
    answer_given c.read.result (event_in number line) c.read.ensures other ∙ (c.lines_are_read.ensures.event number line event).1 spells

pub returns-clause-bad : goal.returns-clause-bad
returns-clause-bad c =
    let number = c.args.number in
    let line = c.args.line.now in (
      λ e. ((c.lines_are_read.ensures.bad number line _).0 (answer_bad c.read.result (event_in number line) number c.read.ensures e)).1,
      λ bad. let wanted = (c.lines_are_read.ensures.bad number line _).1 (refl, bad) in
          answer_free c.read.result (event_in number line) c.read.ensures (λ event e. let both = sym wanted ∙ e in cc) ∙ wanted,
    )

pub returns-clause-long : goal.returns-clause-long
returns-clause-long c =
    λ long speaks.
    (returns-clause-bad c).1 (record {
      speaks = speaks;
      asks_nothing = λ event spells. let short = c.long_lines_are_read_by_their_front.ensures.short c.args.line.now event spells in omega arith;
    })

pub returns-clause-memory : goal.returns-clause-memory
returns-clause-memory c =
    λ e.
    let number = c.args.number in
    let line = c.args.line.now in
    let named = answer_memory c.read.result (event_in number line) c.read.ensures e in
    (named.0, (c.lines_are_read.ensures.event number line named.0).0 named.1, named.2)
