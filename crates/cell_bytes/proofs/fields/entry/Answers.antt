use Rattle.std.proofs.Common.{◌++◌, ℕ, List, ap, rules}
use Rattle.cell_bytes.specs.Record.{digits}
use Rattle.cell_bytes.proofs.Arrays.{four}
use Rattle.cell_bytes.proofs.fields.entry.Goals as goal

pub returns : goal.returns
unfolding digits
returns c =
    let tag = four c.args.tag (search rules) in
    rw (c.five_digits.ensures, c.five_digits-2.ensures) (ap (λ (l : List ℕ). l ++ digits 5 c.args.length ++ digits 5 c.args.position) tag)
