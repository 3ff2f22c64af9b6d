use Rattle.std.proofs.Common.{◌≡◌, ◌≤◌, length, take}
use Rattle.draw_list.specs.Lines.{items_in, lines_of}
use Rattle.draw_list.proofs.lines.print_drawing.Given as goal

abbrev pub invariant-loop-drawn : goal.invariant-loop-drawn
invariant-loop-drawn l = record {
  counted : l.count ≡ items_in (take l.drawn-index l.drawn-items);
  joined : l.lines ≡ lines_of (take l.drawn-index l.drawn-items);
  fits : l.count ≤ length l.lines;
}
