use Rattle.std.proofs.Common.{ℤ, Some, ap, sym, arith, ◌∙◌, w32, pos, option_map, ℕ}
use Rattle.std.proofs.lemmas.Int.{to_z_pos}
use Rattle.command_words.proofs.Digits.{from_to_found}
use Rattle.command_words.proofs.values.centimetres.Goals as goal

pub overflow_cast-result : goal.overflow_cast-result
overflow_cast-result c =
    let found = from_to_found 0 1000000 c.args.text.now c.in-Some.depth (sym c.in-Some.ensures) in
    omega (arith, found.2)

pub returns-in-Some : goal.returns-in-Some
returns-in-Some c =
    let found = from_to_found 0 1000000 c.args.text.now c.in-Some.depth (sym c.in-Some.ensures) in
    ap (λ (z : ℤ). Some z) (to_z_pos w32 c.in-Some.depth (omega (arith, found.2)))
    ∙ ap (option_map (λ (n : ℕ). pos n)) c.in-Some.ensures
