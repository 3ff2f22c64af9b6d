use Rattle.std.proofs.Common.{◌+◌, ◌*◌, ◌<◌, List, ℕ, length, sym, subst}
use Rattle.bank_pair.proofs.Written.{slice_left}
use Rattle.bank_pair.proofs.pair.Save.write_next.Goals as goal

pub write_numbered-requires-clause-left : goal.write_numbered-requires-clause-left
write_numbered-requires-clause-left g c =
    let save = c.args.self.now in
    subst (λ (bytes : List ℕ). save.written * 65536 < 8 + length bytes) (sym c.as_slice.ensures)
    (slice_left save.checkpoint save.slices save.written save.sliced c.requires.left)
