-- What there is to say is said, or the run ends before.
use Rattle.std.proofs.Common.{◌∙◌, ◌++◌, List, ap, arith, map, refl, rules, subst, ℕ}
use Rattle.std.specs.Prelude.{string_bytes}
use Rattle.chart_ports.specs.Said.{SaysFront}
use Rattle.chart_picture.proofs.Running.{ended, said-front, said-whole}
use Rattle.chart_picture.proofs.run.run_picture.Goals as goal

pub returns-in-Err : goal.returns-in-Err
returns-in-Err g c =
    let run = ended g.L.Shelf.tells g.L.Shelf.files g.L.Shelf.faults g.D.Desk.tells g.D.Desk.said g.D.Desk.faults
    (map string_bytes c.args.words.now) c.args.shelf.now c.answer.new.shelf c.args.desk.now c.in-Err.end c.in-Err.ensures.answered in
    record {
      done = run.done;
      output = run.output;
      silent = run.silent;
      no_store = λ t file. refl;
      words = run.words_end;
      wordless = run.wordless;
      unread = λ none. (run.unread none, c.answer.ensures.uncounted none);
      refused = run.refused;
      refuses = run.refuses;
      output_failed = run.output_failed;
      shelf_failed = run.shelf_failed;
      complete = run.complete;
      shelf_later = run.shelf_later;
      desk_later = omega arith;
      same = run.same;
    }

pub returns-in-Ok-say : goal.returns-in-Ok-say
returns-in-Ok-say g c =
    let run = said-whole g.L.Shelf.tells g.L.Shelf.files g.L.Shelf.faults g.D.Desk.tells g.D.Desk.said g.D.Desk.faults
    (map string_bytes c.args.words.now) c.args.shelf.now c.answer.new.shelf c.args.desk.now c.say.new.self c.in-Ok.bytes
    c.in-Ok.ensures.answered
    (λ told. c.in-Ok-say.ensures.said told ∙ ap (λ (bytes : List ℕ). g.D.Desk.said c.args.desk.now ++ bytes) c.as_slice.ensures) in
    record {
      done = run.done;
      output = run.output;
      silent = run.silent;
      no_store = c.say.ensures.files;
      words = run.words_end;
      wordless = run.wordless;
      unread = λ none. (run.unread none, c.answer.ensures.uncounted none);
      refused = run.refused;
      refuses = run.refuses;
      output_failed = run.output_failed;
      shelf_failed = run.shelf_failed;
      complete = run.complete;
      shelf_later = run.shelf_later;
      desk_later = c.say.ensures.cause.later;
      same = run.same;
    }

pub returns : goal.returns
returns g c =
    let run = said-front g.L.Shelf.tells g.L.Shelf.files g.L.Shelf.faults g.D.Desk.tells g.D.Desk.said g.D.Desk.faults
    (map string_bytes c.args.words.now) c.args.shelf.now c.answer.new.shelf c.args.desk.now c.say.new.self c.in-Ok.bytes
    c.in-Ok.ensures.answered
    (λ told.
    subst (λ (bytes : List ℕ). SaysFront (g.D.Desk.said c.args.desk.now) bytes (g.D.Desk.said c.say.new.self)) c.as_slice.ensures
    (c.in-Err-say.ensures.front told))
    (c.in-Err-say.ensures.cause.failed (search rules)) in
    record {
      done = run.done;
      output = run.output;
      silent = run.silent;
      no_store = c.say.ensures.files;
      words = run.words_end;
      wordless = run.wordless;
      unread = λ none. (run.unread none, c.answer.ensures.uncounted none);
      refused = run.refused;
      refuses = run.refuses;
      output_failed = run.output_failed;
      shelf_failed = run.shelf_failed;
      complete = run.complete;
      shelf_later = run.shelf_later;
      desk_later = c.say.ensures.cause.later;
      same = run.same;
    }
