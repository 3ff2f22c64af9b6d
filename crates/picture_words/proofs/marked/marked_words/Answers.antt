use Rattle.std.specs.Prelude.{string_bytes}
use Rattle.picture_words.proofs.Marking.{marked-all, marked-more}
use Rattle.picture_words.proofs.marked.marked_words.Goals as goal

pub loop-word-preserved : goal.loop-word-preserved
loop-word-preserved c =
    marked-more string_bytes string_bytes c.args.words.now c.loop-word.word-index c.word-item.result c.loop-word.next
    c.after-next.result c.as_str-word.result.now c.loop-word.marked.items c.push.new.self.items c.in_ok-marked.field-0 _
    c.loop-word-test.true c.word-item.is c.as_str-word.ensures.value c.in_ok-marked.ensures c.after-next.ensures
    c.in_ok-push.ensures.items c.loop-word.invariant

pub returns : goal.returns
returns c =
    marked-all string_bytes c.args.words.now c.loop-word.word-index c.loop-word.next _ _ c.loop-word-test.false
    c.loop-word.invariant
