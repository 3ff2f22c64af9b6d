use Rattle.chart_store.proofs.Keeping.{Sequences, kept-is, kept-not}
use Rattle.chart_store.proofs.laws.rollbacks_keep_the_shortest_list.Goals as goal

pub returns : goal.returns
returns c =
    let sequences : Sequences = record {
      tested = c.sequences_are_tested.ensures;
      before = c.sequences_grow.ensures.before;
    } in
    record {
      kept = kept-is sequences;
      none = λ key number files kept rest e. kept-not sequences key number files e kept rest;
    }
