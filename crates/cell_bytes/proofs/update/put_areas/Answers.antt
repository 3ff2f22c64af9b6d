use Rattle.cell_bytes.proofs.Updates.{bytes_more, number_more}
use Rattle.cell_bytes.proofs.update.put_areas.Goals as goal

pub loop-before-preserved : goal.loop-before-preserved
loop-before-preserved c =
    let l = c.loop-before in
    record {
      bytes =
          bytes_more c.args.update l.before c.args.file.now.number l.file.number c.args.file.now.bytes l.file.bytes
          c.put_where_modified.new.file.bytes l.invariant.bytes l.invariant.number c.in_ok-put_where_modified.ensures.bytes;
      number =
          number_more c.args.update l.before c.args.file.now.number l.file.number c.put_where_modified.new.file.number
          l.invariant.number c.in_ok-put_where_modified.ensures.number;
    }
