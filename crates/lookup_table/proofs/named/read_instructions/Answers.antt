use Rattle.std.proofs.Common.{List, ap, sym, ◌∙◌, arith}
use Rattle.std.specs.Vec.Iter.{into_iter_items}
use Rattle.lookup_table.specs.declared.instruction.Instruction.{Instruction}
use Rattle.lookup_table.specs.Named.{instruction_in}
use Rattle.lookup_table.specs.Reading.{each}
use Rattle.lookup_table.proofs.Each.{front, each_step, each_failed, each_done, no_elements}
use Rattle.lookup_table.proofs.named.read_instructions.Goals as goal

pub returns-in_default : goal.returns-in_default
returns-in_default c =
    each_failed instruction_in c.loop-text.instructions (into_iter_items c.loop-text.text-iterator) c.in-Some.text (into_iter_items c.next.new.self) _
    c.in-Some.ensures.steps.0 (sym c.read_instruction.ensures ∙ c.in_default.is) c.loop-text.invariant

pub loop-text-preserved : goal.loop-text-preserved
loop-text-preserved c =
    ap (λ (l : List Instruction). front l (each instruction_in (into_iter_items c.next.new.self))) c.in_ok-push.ensures.ok
    ∙ each_step instruction_in c.loop-text.instructions (into_iter_items c.loop-text.text-iterator) c.in-Some.text (into_iter_items c.next.new.self) c.in-Some-read_instruction.instruction _
    c.in-Some.ensures.steps.0 (sym c.read_instruction.ensures ∙ c.in-Some-read_instruction.is) c.loop-text.invariant

pub returns : goal.returns
returns c =
    let none = no_elements (into_iter_items c.loop-text.text-iterator) (omega (arith, c.loop-text.text-iterator.rest.ok.0, c.in-None.ensures.steps.0)) in
    each_done instruction_in c.loop-text.instructions (into_iter_items c.loop-text.text-iterator) _ none c.loop-text.invariant
