-- Slices that are written, and the head that is turned.
use Rattle.std.proofs.Common.{◌+◌, ℕ, refl, sym, ◌∙◌, ap}
use Rattle.bank_pair.specs.Handle.{value_of}
use Rattle.chart_store.specs.Store.{pair_of}
use Rattle.chart_store.proofs.Naming.{left_says, read_says}
use Rattle.chart_store.proofs.Saved.{after-done, after-under, is-written, same-stands, saved-done, saved-under, saves}
use Rattle.chart_store.proofs.Saved.{slice-left-of, slices-kept, slices-stand, some-saved, turn-stands, turned-kept}
use Rattle.chart_store.proofs.Saved.{turned-stands, used-done, used-under}
use Rattle.chart_store.proofs.store.Store.save_step.Goals as goal

pub write_slices-requires-clause-left : goal.write_slices-requires-clause-left
write_slices-requires-clause-left g c =
    slice-left-of (pair_of c.args.self.now) (c.args.self.now.left c.requires.sound) c.requires.under

pub write_slices-requires-clause-in_step : goal.write_slices-requires-clause-in_step
write_slices-requires-clause-in_step g c = λ tells.
    let kept = c.requires.kept tells in
    (kept.content, kept.pair)

pub under-requires : goal.under-requires
under-requires g c =
    let own = slice-left-of (pair_of c.args.self.now) (c.args.self.now.left c.requires.sound) c.requires.under in
    some-saved (value_of c.write_slices.new.pair) _
    (c.in_ok-write_slices.ensures.left c.if-not-branch.true own.0 own.1)

pub flip-requires-clause-written : goal.flip-requires-clause-written
flip-requires-clause-written g c =
    let own = slice-left-of (pair_of c.args.self.now) (c.args.self.now.left c.requires.sound) c.requires.under in
    is-written (value_of c.write_slices.new.pair) own.0
    (c.in_ok-write_slices.ensures.all c.if-not-branch.false own.0 own.1)

pub flip-requires-clause-in_step : goal.flip-requires-clause-in_step
flip-requires-clause-in_step g c = λ tells.
    let kept = c.requires.kept tells in
    (kept.content, c.in_ok-write_slices.ensures.in_step tells kept.content kept.pair)

-- ---- where the desk fails

pub returns-in_err-write_slices-clause-moments : goal.returns-in_err-write_slices-clause-moments
returns-in_err-write_slices-clause-moments g c = λ tells stood.
    let kept = c.requires.kept tells in
    let own = slice-left-of (pair_of c.args.self.now) (c.args.self.now.left c.requires.sound) c.requires.under in
    slices-stand _ _ c.args.self.now kept own.0 own.1 stood g.D.Desk.clock g.D.Desk.might _ _ _
    (c.write_slices.ensures.moments tells kept.content kept.pair)

-- ---- where slices are left

pub returns-then-not-branch-clause-step : goal.returns-then-not-branch-clause-step
returns-then-not-branch-clause-step g c = λ save is.
    let last = sym c.if-not-branch.true ∙ c.in_ok-write_slices.ensures.last save is in
    let left = c.in_ok-write_slices.ensures.left c.if-not-branch.true save is in
    (c.under.ensures _ left ∙ sym (saved-under save c.args.n last), left ∙ sym (after-under save c.args.n last))

pub returns-then-not-branch-clause-used : goal.returns-then-not-branch-clause-used
returns-then-not-branch-clause-used g c = λ save is.
    let last = sym c.if-not-branch.true ∙ c.in_ok-write_slices.ensures.last save is in
    let used = (pair_of c.args.self.now).gate + 1 in
    ap (λ (gate : ℕ). gate + 1) c.write_slices.ensures.gate ∙ sym (used-under save c.args.n used last)

pub returns-then-not-branch-clause-kept : goal.returns-then-not-branch-clause-kept
returns-then-not-branch-clause-kept g c = λ tells.
    let kept = c.requires.kept tells in
    let own = slice-left-of (pair_of c.args.self.now) (c.args.self.now.left c.requires.sound) c.requires.under in
    slices-kept _ _ c.args.self.now kept own.0 own.1 _ _ _ _
    (c.in_ok-write_slices.ensures.in_step tells kept.content kept.pair) refl
    (c.in_ok-write_slices.ensures.left c.if-not-branch.true own.0 own.1)

pub returns-then-not-branch-clause-stands : goal.returns-then-not-branch-clause-stands
returns-then-not-branch-clause-stands g c = λ tells stood images left.
    let kept = c.requires.kept tells in
    let own = slice-left-of (pair_of c.args.self.now) (c.args.self.now.left c.requires.sound) c.requires.under in
    same-stands _ _ c.args.self.now kept own.0 own.1 stood images
    (left_says _ _ (value_of c.write_slices.new.pair) kept.content
    (c.in_ok-write_slices.ensures.in_step tells kept.content kept.pair) images left)

pub returns-then-not-branch-clause-stood : goal.returns-then-not-branch-clause-stood
returns-then-not-branch-clause-stood g c = λ tells stood.
    let kept = c.requires.kept tells in
    let own = slice-left-of (pair_of c.args.self.now) (c.args.self.now.left c.requires.sound) c.requires.under in
    same-stands _ _ c.args.self.now kept own.0 own.1 stood _
    (read_says _ _ (value_of c.write_slices.new.pair) kept.content
    (c.in_ok-write_slices.ensures.in_step tells kept.content kept.pair))

pub returns-then-not-branch-clause-moments : goal.returns-then-not-branch-clause-moments
returns-then-not-branch-clause-moments g c = λ tells stood.
    let kept = c.requires.kept tells in
    let own = slice-left-of (pair_of c.args.self.now) (c.args.self.now.left c.requires.sound) c.requires.under in
    slices-stand _ _ c.args.self.now kept own.0 own.1 stood g.D.Desk.clock g.D.Desk.might _ _ _
    (c.write_slices.ensures.moments tells kept.content kept.pair)

-- ---- where the head is turned

pub returns-in_err-flip-clause-moments : goal.returns-in_err-flip-clause-moments
returns-in_err-flip-clause-moments g c = λ tells stood.
    let kept = c.requires.kept tells in
    let own = slice-left-of (pair_of c.args.self.now) (c.args.self.now.left c.requires.sound) c.requires.under in
    let of = saves _ _ c.args.self.now kept own.0 own.1 in
    turn-stands _ _ c.args.self.now kept own.0 own.1 stood g.D.Desk.clock g.D.Desk.might _ _ _ _ _
    c.commands_are_spelled.ensures (c.write_slices.ensures.said tells)
    (c.write_slices.ensures.moments tells kept.content kept.pair)
    (c.flip.ensures.moments tells kept.content _ of.since
    (c.in_ok-write_slices.ensures.in_step tells kept.content kept.pair)
    (c.in_ok-write_slices.ensures.all c.if-not-branch.false own.0 own.1) of.framed)

pub returns-clause-step : goal.returns-clause-step
returns-clause-step g c = λ save is.
    let last = sym c.if-not-branch.false ∙ c.in_ok-write_slices.ensures.last save is in
    (sym (saved-done save c.args.n last), c.in_ok-flip.ensures.save ∙ sym (after-done save c.args.n last))

pub returns-clause-used : goal.returns-clause-used
returns-clause-used g c = λ save is.
    let last = sym c.if-not-branch.false ∙ c.in_ok-write_slices.ensures.last save is in
    let used = (pair_of c.args.self.now).gate + 1 in
    ap (λ (gate : ℕ). gate + 1) (c.in_ok-flip.ensures.gate _
    (c.in_ok-write_slices.ensures.all c.if-not-branch.false save is))
    ∙ sym (used-done save c.args.n used last)

pub returns-clause-kept : goal.returns-clause-kept
returns-clause-kept g c = λ tells.
    let kept = c.requires.kept tells in
    let own = slice-left-of (pair_of c.args.self.now) (c.args.self.now.left c.requires.sound) c.requires.under in
    let of = saves _ _ c.args.self.now kept own.0 own.1 in
    turned-kept _ _ c.args.self.now kept own.0 own.1 c.commands_are_spelled.ensures _ _ _
    (c.in_ok-flip.ensures.turned tells kept.content _ of.since
    (c.in_ok-write_slices.ensures.in_step tells kept.content kept.pair)
    (c.in_ok-write_slices.ensures.all c.if-not-branch.false own.0 own.1) of.framed) refl
    c.in_ok-flip.ensures.save

pub returns-clause-stands : goal.returns-clause-stands
returns-clause-stands g c = λ tells stood images left.
    let kept = c.requires.kept tells in
    let own = slice-left-of (pair_of c.args.self.now) (c.args.self.now.left c.requires.sound) c.requires.under in
    let of = saves _ _ c.args.self.now kept own.0 own.1 in
    turned-stands _ _ c.args.self.now kept own.0 own.1 stood c.commands_are_spelled.ensures images
    (left_says _ _ (value_of c.flip.new.self) _
    (c.in_ok-flip.ensures.turned tells kept.content _ of.since
    (c.in_ok-write_slices.ensures.in_step tells kept.content kept.pair)
    (c.in_ok-write_slices.ensures.all c.if-not-branch.false own.0 own.1) of.framed) images left)

pub returns-clause-stood : goal.returns-clause-stood
returns-clause-stood g c = λ tells stood.
    let kept = c.requires.kept tells in
    let own = slice-left-of (pair_of c.args.self.now) (c.args.self.now.left c.requires.sound) c.requires.under in
    let of = saves _ _ c.args.self.now kept own.0 own.1 in
    turned-stands _ _ c.args.self.now kept own.0 own.1 stood c.commands_are_spelled.ensures _
    (read_says _ _ (value_of c.flip.new.self) _
    (c.in_ok-flip.ensures.turned tells kept.content _ of.since
    (c.in_ok-write_slices.ensures.in_step tells kept.content kept.pair)
    (c.in_ok-write_slices.ensures.all c.if-not-branch.false own.0 own.1) of.framed))

pub returns-clause-moments : goal.returns-clause-moments
returns-clause-moments g c = λ tells stood.
    let kept = c.requires.kept tells in
    let own = slice-left-of (pair_of c.args.self.now) (c.args.self.now.left c.requires.sound) c.requires.under in
    let of = saves _ _ c.args.self.now kept own.0 own.1 in
    turn-stands _ _ c.args.self.now kept own.0 own.1 stood g.D.Desk.clock g.D.Desk.might _ _ _ _ _
    c.commands_are_spelled.ensures (c.write_slices.ensures.said tells)
    (c.write_slices.ensures.moments tells kept.content kept.pair)
    (c.flip.ensures.moments tells kept.content _ of.since
    (c.in_ok-write_slices.ensures.in_step tells kept.content kept.pair)
    (c.in_ok-write_slices.ensures.all c.if-not-branch.false own.0 own.1) of.framed)
