use Rattle.std.proofs.Common.{◌++◌, codes, rules}
use Rattle.cell_bytes.specs.Record.{digits, leader_of}
use Rattle.cell_bytes.proofs.Arrays.{three, seven}
use Rattle.cell_bytes.proofs.fields.leader.Goals as goal

pub returns : goal.returns
unfolding digits leader_of
returns c =
    let identification = seven c.args.kind.identification (search rules) in
    let character_set = three c.args.kind.character_set (search rules) in
    rw (c.five_digits.ensures, c.five_digits-2.ensures) (λ i. digits 5 c.args.length ++ identification i ++ digits 5 c.args.base ++ character_set i ++ codes "5504")
