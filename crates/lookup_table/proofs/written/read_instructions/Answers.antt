use Rattle.std.proofs.Common.{◌≡◌, false, ℕ, List, ◌∷◌, ap, sym, ◌∙◌, rules}
use Rattle.std.specs.Prelude.{codes}
use Rattle.std.specs.Str.{bytes_eq}
use Rattle.lookup_table.specs.Reading.{each, instruction_of}
use Rattle.lookup_table.proofs.Each.{front, each_step, each_failed, each_done}
use Rattle.lookup_table.proofs.Words.{instructions_by}
use Rattle.lookup_table.proofs.written.read_instructions.Goals as goal

pub returns-in_default : goal.returns-in_default
returns-in_default c =
    let other : bytes_eq c.args.text.now (codes "-") ≡ false = search rules in
    let next : c.loop-part.part-iterator ≡ c.in-Some.part.now ∷ c.next.new.self = search rules in
    instructions_by c.args.text.now _ other (each_failed instruction_of c.loop-part.instructions c.loop-part.part-iterator c.in-Some.part.now c.next.new.self _
    next (sym c.in_ok-instruction.ensures ∙ c.in_default.is) c.loop-part.invariant)

pub loop-part-preserved : goal.loop-part-preserved
loop-part-preserved c =
    let next : c.loop-part.part-iterator ≡ c.in-Some.part.now ∷ c.next.new.self = search rules in
    ap (λ (l : List (List ℕ)). front l (each instruction_of c.next.new.self)) c.in_ok-push.ensures.ok
    ∙ each_step instruction_of c.loop-part.instructions c.loop-part.part-iterator c.in-Some.part.now c.next.new.self c.in-Some-2.instruction _
    next (sym c.in_ok-instruction.ensures ∙ c.in-Some-2.is) c.loop-part.invariant

pub returns : goal.returns
returns c =
    let other : bytes_eq c.args.text.now (codes "-") ≡ false = search rules in
    instructions_by c.args.text.now _ other (each_done instruction_of c.loop-part.instructions c.loop-part.part-iterator _ c.in-None.ensures.steps.0 c.loop-part.invariant)
