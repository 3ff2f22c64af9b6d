use Rattle.std.proofs.Common.{◌≡◌, ◌+◌, Ok, Err, sym, ◌∙◌, ap, subst, arith}
use Rattle.std.proofs.lemmas.Result.{err_from_is_err_and}
use Rattle.chart_ports.specs.Moments.{images_of}
use Rattle.bank_pair.specs.Handle.{value_of}
use Rattle.bank_pair.specs.Pair.{IsPairInStep, PairValue}
use Rattle.chart_store.specs.Images.{most_steps_in, read_of}
use Rattle.chart_store.proofs.FilesLeft.{content_left}
use Rattle.chart_store.proofs.Leaving.{opens}
use Rattle.chart_store.proofs.Naming.{read_says}
use Rattle.chart_store.proofs.Opened.{IsFaultOf, bank_foreign, bank_left, held_foreign, named_before, opened-kept}
use Rattle.chart_store.proofs.Reading.{foreign_leads, foreign_more, state_in}
use Rattle.chart_store.proofs.Submitting.{says-stands}
use Rattle.chart_store.proofs.opening.open_store.Goals as goal

pub returns-in_err-pair-clause-foreign : goal.returns-in_err-pair-clause-foreign
returns-in_err-pair-clause-foreign g c = λ tells.
    let p = err_from_is_err_and c.from_residual.result c.from_residual.ensures.1 in
    rw (p.1, p.2) (bank_foreign (g.D.Desk.contents c.args.desk.now) c.in_err-pair.field-0.0
    (c.in_err-pair.ensures.foreign tells))

pub returns-in_err-pair-clause-refused : goal.returns-in_err-pair-clause-refused
returns-in_err-pair-clause-refused g c = λ tells.
    let p = err_from_is_err_and c.from_residual.result c.from_residual.ensures.1 in
    rw (p.1, p.2) (bank_left (g.D.Desk.contents c.args.desk.now) (g.D.Desk.contents c.open_pair.new.desk)
    c.in_err-pair.field-0.0 (c.in_err-pair.ensures.refused tells))

pub returns-in_err-pair-clause-moments : goal.returns-in_err-pair-clause-moments
returns-in_err-pair-clause-moments g c = λ tells.
    opens g.D.Desk.clock g.D.Desk.might _ _ _ _ _ (c.open_pair.ensures.moments tells)

pub returns-in_err-live-clause-foreign : goal.returns-in_err-live-clause-foreign
returns-in_err-live-clause-foreign g c = λ tells.
    let contents = g.D.Desk.contents c.args.desk.now in
    let content = c.in_ok-pair.content in
    let p = err_from_is_err_and c.from_residual-in_err-live.result c.from_residual-in_err-live.ensures.1 in
    let named = named_before contents (g.D.Desk.contents c.open_pair.new.desk) (value_of c.in_ok-pair.pair).file
    (c.in_ok-pair.ensures.in_step tells).named (c.in_ok-pair.ensures.others tells) in
    rw (p.1, p.2) (foreign_leads (IsFaultOf content c.file.result) (λ place. read_of (images_of contents) ≡ Err place)
    (held_foreign contents content c.file.result (c.in_ok-pair.ensures.content tells) (c.file.ensures ∙ named))
    c.in_err-live.field-0.0 c.in_err-live.ensures.foreign)

pub returns-in_err-live-clause-refused : goal.returns-in_err-live-clause-refused
returns-in_err-live-clause-refused g c = λ tells.
    foreign_more _ (λ place none. content_left (g.D.Desk.contents c.args.desk.now)
    (g.D.Desk.contents c.open_pair.new.desk) place none (c.in_ok-pair.ensures.long tells)) (returns-in_err-live-clause-foreign g c tells)

pub returns-in_err-live-clause-moments : goal.returns-in_err-live-clause-moments
returns-in_err-live-clause-moments g c = λ tells.
    opens g.D.Desk.clock g.D.Desk.might _ _ _ _ _ (c.open_pair.ensures.moments tells)

pub returns-in_err-live-clause-at_most : goal.returns-in_err-live-clause-at_most
returns-in_err-live-clause-at_most g c = λ tells.
    omega (arith, c.hold.ensures.at_most, ap most_steps_in (c.in_ok-pair.ensures.content tells))

pub returns-clause-state : goal.returns-clause-state
returns-clause-state g c = λ tells.
    let contents = g.D.Desk.contents c.args.desk.now in
    let content = c.in_ok-pair.content in
    state_in (images_of contents) content c.in_ok-live.live (c.in_ok-pair.ensures.content tells) c.in_ok-live.ensures.state
    ∙ ap Ok (λ i. record {
      state = sym c.opened.ensures.state i;
      used = sym (ap (λ (p : PairValue). p.gate + 1) c.opened.ensures.pair
          ∙ ap (λ n. n + 1) c.in_ok-pair.ensures.gate) i;
    })

pub returns-clause-kept : goal.returns-clause-kept
returns-clause-kept g c = λ tells.
    let content = c.in_ok-pair.content in
    let store = c.opened.result in
    let desk = c.open_pair.new.desk in
    opened-kept c.commands_are_spelled.ensures (g.D.Desk.contents desk) (g.D.Desk.may_leave desk) content store
    (subst (λ (p : PairValue). IsPairInStep (g.D.Desk.contents desk) (g.D.Desk.may_leave desk) p content)
    (sym c.opened.ensures.pair) (c.in_ok-pair.ensures.in_step tells))
    (c.in_ok-live.ensures.state ∙ ap Ok (sym c.opened.ensures.state))
    (ap (λ (p : PairValue). p.save) c.opened.ensures.pair ∙ c.in_ok-pair.ensures.idle)

pub returns-clause-idle : goal.returns-clause-idle
returns-clause-idle g c = ap (λ (p : PairValue). p.save) c.opened.ensures.pair ∙ c.in_ok-pair.ensures.idle

pub returns-clause-stood : goal.returns-clause-stood
returns-clause-stood g c = λ tells stood.
    says-stands _ _ _
    (read_says _ _ (value_of c.in_ok-pair.pair) c.in_ok-pair.content (c.in_ok-pair.ensures.in_step tells)
    ∙ sym (c.in_ok-pair.ensures.content tells)) stood

pub returns-clause-moments : goal.returns-clause-moments
returns-clause-moments g c = λ tells.
    opens g.D.Desk.clock g.D.Desk.might _ _ _ _ _ (c.open_pair.ensures.moments tells)

pub returns-clause-at_most : goal.returns-clause-at_most
returns-clause-at_most g c = λ tells.
    omega (arith, c.hold.ensures.at_most, ap most_steps_in (c.in_ok-pair.ensures.content tells))
