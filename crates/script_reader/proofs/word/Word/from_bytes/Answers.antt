-- A word's bytes are text.
use Rattle.script_reader.proofs.WordTests.{visible_text}
use Rattle.script_reader.proofs.word.Word.from_bytes.Goals as goal

pub unreachable-requires : goal.unreachable-requires
unreachable-requires c =
    c.in-Err.ensures.cases.0 (visible_text c.args.bytes.now (c.is_word.ensures.0 c.if-not-is_word.false).visible)
