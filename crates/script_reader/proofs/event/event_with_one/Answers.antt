use Rattle.std.proofs.Common.{◌≡◌, true, false, rules}
use Rattle.std.specs.Prelude.{codes}
use Rattle.std.specs.Str.{bytes_eq}
use Rattle.script_reader.proofs.Verbs.{info_failed, load_failed, route_failed, begin_failed, cover_failed}
use Rattle.script_reader.proofs.event.event_with_one.Goals as goal

pub returns-then-eq-clause-memory : goal.returns-then-eq-clause-memory
returns-then-eq-clause-memory c =
    let is : bytes_eq c.args.verb.now (codes "info") ≡ true = search rules in
    info_failed c.args.verb.now c.args.word.now c.info_of.result is c.info_of.ensures.memory

pub returns-then-eq-2-clause-memory : goal.returns-then-eq-2-clause-memory
returns-then-eq-2-clause-memory c =
    let other : bytes_eq c.args.verb.now (codes "info") ≡ false = search rules in
    let is : bytes_eq c.args.verb.now (codes "load") ≡ true = search rules in
    load_failed c.args.verb.now c.args.word.now c.load_of.result other is c.load_of.ensures.memory

pub returns-then-eq-3-clause-memory : goal.returns-then-eq-3-clause-memory
returns-then-eq-3-clause-memory c =
    let info : bytes_eq c.args.verb.now (codes "info") ≡ false = search rules in
    let load : bytes_eq c.args.verb.now (codes "load") ≡ false = search rules in
    let is : bytes_eq c.args.verb.now (codes "route") ≡ true = search rules in
    route_failed c.args.verb.now c.args.word.now c.route_of.result info load is c.route_of.ensures.memory

pub returns-then-eq-4-clause-memory : goal.returns-then-eq-4-clause-memory
returns-then-eq-4-clause-memory c =
    let info : bytes_eq c.args.verb.now (codes "info") ≡ false = search rules in
    let load : bytes_eq c.args.verb.now (codes "load") ≡ false = search rules in
    let route : bytes_eq c.args.verb.now (codes "route") ≡ false = search rules in
    let is : bytes_eq c.args.verb.now (codes "begin") ≡ true = search rules in
    begin_failed c.args.verb.now c.args.word.now c.begin_of.result info load route is c.begin_of.ensures.memory

pub returns-then-eq-5-clause-memory : goal.returns-then-eq-5-clause-memory
returns-then-eq-5-clause-memory c =
    let info : bytes_eq c.args.verb.now (codes "info") ≡ false = search rules in
    let load : bytes_eq c.args.verb.now (codes "load") ≡ false = search rules in
    let route : bytes_eq c.args.verb.now (codes "route") ≡ false = search rules in
    let begin : bytes_eq c.args.verb.now (codes "begin") ≡ false = search rules in
    let is : bytes_eq c.args.verb.now (codes "cover") ≡ true = search rules in
    cover_failed c.args.verb.now c.args.word.now c.cover_of.result info load route begin is c.cover_of.ensures.memory
