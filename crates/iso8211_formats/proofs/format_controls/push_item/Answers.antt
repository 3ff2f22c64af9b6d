use Rattle.std.proofs.Common.{arith, sym, replicate}
use Rattle.std.proofs.lemmas.List.{length-replicate}
use Rattle.iso8211_formats.proofs.ItemsWithinLimit.{pushed_none, pushed_over, pushed}
use Rattle.iso8211_formats.proofs.format_controls.push_item.Goals as goal

pub returns-in_default : goal.returns-in_default
returns-in_default c = sym (pushed_none 64 c.args.formats.now.items _ (sym c.in_default.ensures))

pub returns-then-count-remaining_capacity : goal.returns-then-count-remaining_capacity
returns-then-count-remaining_capacity c =
    sym (pushed_over 64 c.args.formats.now.items _ (replicate c.in-Some.count c.in-Some.format) (sym c.in-Some.ensures) (omega (arith, length-replicate c.in-Some.count c.in-Some.format)))

pub returns : goal.returns
returns c =
    sym (pushed 64 c.args.formats.now.items _ _ (replicate c.in-Some.count c.in-Some.format) (sym c.in-Some.ensures) (omega (arith, length-replicate c.in-Some.count c.in-Some.format)) c.push_repeated.ensures)
