use Rattle.std.proofs.Common.{rules, arith}
use Rattle.std.proofs.lemmas.Int.{ints}
use Rattle.ring_strips.proofs.Levels.{part_of_strip}
use Rattle.ring_strips.proofs.strip.Strip.south.Goals as goal

pub returns : goal.returns
returns c = λ rings h.
    part_of_strip rings c.args.self.now c.new.result c.self.inside.low c.self.inside.high c.self.inside.low c.min-high.result
    c.self.inside.segments.items c.in_ok-segments.segments.items (search rules) (search rules)
    (omega (arith, ints)) (omega (arith, ints, c.min-high.ensures.other_bound)) (search rules) h
