use Rattle.std.proofs.Common.{◌≡◌, ◌+◌, ℕ, List, length, map, drop, Ok, Err, sym, ap, ◌∙◌, subst}
use Rattle.std.specs.List.{sum_by}
use Rattle.std.proofs.lemmas.Result.{err_from_is_err_and}
use Rattle.bank_journal.specs.Bank.{checkpoint_length, gate_of, HasHeader}
use Rattle.bank_journal.specs.Parts.{part_of}
use Rattle.bank_journal.specs.Reading.{bodies_in, content_of}
use Rattle.bank_journal.specs.WalkFault.{FaultHas}
use Rattle.bank_journal.proofs.BankRead.{foreign_header}
use Rattle.bank_journal.proofs.Walk.{bank_read, bank_foreign, gate_after}
use Rattle.bank_journal.proofs.reading.read_bank.Goals as goal

pub returns-in_default-clause-fault : goal.returns-in_default-clause-fault
returns-in_default-clause-fault c =
    foreign_header c.args.bytes.items c.requires
    (subst (λ (l : List ℕ). ¬ HasHeader l) c.deref.ensures.value c.in_default.ensures.none)

pub returns-in_err-bodies-clause-fault : goal.returns-in_err-bodies-clause-fault
returns-in_err-bodies-clause-fault c =
    let p = err_from_is_err_and c.from_residual.result c.from_residual.ensures.1 in
    let first = c.in-Some.first in
    rw (p.1, p.2) (bank_foreign c.args.bytes.items first c.requires
    (subst HasHeader c.deref.ensures.value c.in-Some.ensures.some)
    (c.in-Some.ensures.place ∙ ap (λ (l : List ℕ). 8 + checkpoint_length l) c.deref.ensures.value)
    c.in_err-bodies.field-0.0
    (subst (λ (l : List ℕ). FaultHas (λ place. content_of l (bodies_in 0 (drop first l)) ≡ Err place)
    c.in_err-bodies.field-0.0) c.deref-2.ensures.value c.in_err-bodies.ensures.fault))

pub returns-clause-content : goal.returns-clause-content
returns-clause-content c =
    let first = c.in-Some.first in
    let spans = c.in_ok-bodies.bodies.items in
    bank_read c.args.bytes.items first c.requires
    (subst HasHeader c.deref.ensures.value c.in-Some.ensures.some)
    (c.in-Some.ensures.place ∙ ap (λ (l : List ℕ). 8 + checkpoint_length l) c.deref.ensures.value) spans
    (subst (λ (l : List ℕ). bodies_in 0 (drop first l) ≡ Ok (map (part_of l) spans)) c.deref-2.ensures.value
    c.in_ok-bodies.ensures.bodies)
    ∙ ap Ok (sym c.of_spans.ensures)

pub returns-clause-gate : goal.returns-clause-gate
returns-clause-gate c =
    let first = c.in-Some.first in
    let spans = c.in_ok-bodies.bodies.items in
    let sums : List ℕ → ℕ = λ l. first + sum_by (λ body. 5 + length body) (map (part_of l) spans) in
    gate_after c.args.bytes.items first c.requires
    (subst HasHeader c.deref.ensures.value c.in-Some.ensures.some)
    (c.in-Some.ensures.place ∙ ap (λ (l : List ℕ). 8 + checkpoint_length l) c.deref.ensures.value) spans
    c.in_ok-bodies.gate (c.in_ok-bodies.ensures.gate ∙ ap sums c.deref-2.ensures.value)
    ∙ ap gate_of (sym c.of_spans.ensures)
