use Rattle.std.proofs.Common.{rules, arith}
use Rattle.std.proofs.lemmas.Int.{ints}
use Rattle.ring_strips.proofs.Levels.{part_of_strip}
use Rattle.ring_strips.proofs.strip.Strip.north.Goals as goal

pub returns : goal.returns
returns c = λ rings h.
    part_of_strip rings c.args.self.now c.new.result c.self.inside.low c.self.inside.high c.max-low.result c.self.inside.high
    c.self.inside.segments.items c.in_ok-segments.segments.items (search rules) (search rules)
    (omega (arith, ints, c.max-low.ensures.other_bound)) (omega (arith, ints)) (search rules) h
