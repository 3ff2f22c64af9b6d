-- Slices that are written one after the other.
use Rattle.std.proofs.Common.{◌≡◌, refl, ◌∙◌, arith}
use Rattle.bank_pair.specs.Handle.{value_of}
use Rattle.chart_store.proofs.Saved.{all-written, done-by, none-written, not-done-by, nothing-said, one-written, slice-left}
use Rattle.chart_store.proofs.Saved.{more-left, slices-go, still-saves}
use Rattle.chart_store.proofs.saving.write_slices.Goals as goal

pub loop-init : goal.loop-init
loop-init g c = record {
  in_step = λ tells content step. step;
  written = λ save saves. none-written (value_of c.args.pair.now) save c.requires.left saves;
  moments = λ tells content step. nothing-said g.D.Desk.clock g.D.Desk.might c.args.desk.now _ _ _ _ content step
      (λ images so_far left. g.met.D.Desk.only_now c.args.desk.now images so_far tells left);
  said = λ tells. refl;
  file = refl;
  gate = refl;
  later = omega arith;
}

pub write_slice-requires-clause-left : goal.write_slice-requires-clause-left
write_slice-requires-clause-left g c =
    let own = c.requires.left in
    slice-left _ own.0 c.loop.counter (c.loop.invariant.written own.0 own.1)

pub write_slice-requires-clause-in_step : goal.write_slice-requires-clause-in_step
write_slice-requires-clause-in_step g c = λ tells.
    let own = c.requires.in_step tells in
    (own.0, c.loop.invariant.in_step tells own.0 own.1)

pub loop-preserved : goal.loop-preserved
loop-preserved g c =
    let walk = c.loop.invariant in
    record {
      in_step = λ tells content step. c.in_ok-write_slice.ensures.in_step tells content (walk.in_step tells content step);
      written = λ save saves. one-written _ (value_of c.write_slice.new.self) save c.loop.counter (walk.written save saves)
          c.in_ok-write_slice.ensures.written _ c.in_ok-write_slice.ensures.last c.if-branch.false;
      moments = λ tells content step. slices-go g.D.Desk.clock g.D.Desk.might _ _ _ _ _ content (walk.said tells)
          (walk.moments tells content step)
          (c.write_slice.ensures.moments tells content (walk.in_step tells content step));
      said = λ tells. c.write_slice.ensures.said tells ∙ walk.said tells;
      file = c.write_slice.ensures.file ∙ walk.file;
      gate = c.write_slice.ensures.gate ∙ walk.gate;
      later = omega (arith, walk.later, c.write_slice.ensures.cause.later);
    }

-- ---- where the desk fails

pub returns-in_err-write_slice-clause-moments : goal.returns-in_err-write_slice-clause-moments
returns-in_err-write_slice-clause-moments g c = λ tells content step.
    slices-go g.D.Desk.clock g.D.Desk.might _ _ _ _ _ content (c.loop.invariant.said tells)
    (c.loop.invariant.moments tells content step)
    (c.write_slice.ensures.moments tells content (c.loop.invariant.in_step tells content step))

-- ---- the last slice

pub returns-then-branch-clause-in_step : goal.returns-then-branch-clause-in_step
returns-then-branch-clause-in_step g c = λ tells content step.
    c.in_ok-write_slice.ensures.in_step tells content (c.loop.invariant.in_step tells content step)

pub returns-then-branch-clause-last : goal.returns-then-branch-clause-last
returns-then-branch-clause-last g c = λ save saves.
    done-by _ (value_of c.write_slice.new.self) save c.loop.counter (c.loop.invariant.written save saves)
    c.in_ok-write_slice.ensures.written _ c.in_ok-write_slice.ensures.last c.args.n c.loop-test.true
    c.if-branch.true

pub returns-then-branch-clause-all : goal.returns-then-branch-clause-all
returns-then-branch-clause-all g c = λ _ save saves.
    all-written _ (value_of c.write_slice.new.self) save c.loop.counter (c.loop.invariant.written save saves)
    c.in_ok-write_slice.ensures.written _ c.in_ok-write_slice.ensures.last c.if-branch.true

pub returns-then-branch-clause-moments : goal.returns-then-branch-clause-moments
returns-then-branch-clause-moments g c = λ tells content step.
    slices-go g.D.Desk.clock g.D.Desk.might _ _ _ _ _ content (c.loop.invariant.said tells)
    (c.loop.invariant.moments tells content step)
    (c.write_slice.ensures.moments tells content (c.loop.invariant.in_step tells content step))

-- ---- where some are left

pub returns-clause-in_step : goal.returns-clause-in_step
returns-clause-in_step g c = λ tells content step. c.loop.invariant.in_step tells content step

pub returns-clause-last : goal.returns-clause-last
returns-clause-last g c = λ save saves.
    let all : c.loop.counter ≡ c.args.n = omega arith in
    not-done-by _ save c.loop.counter c.args.n (c.loop.invariant.written save saves) all

pub returns-clause-left : goal.returns-clause-left
returns-clause-left g c = λ _ save saves.
    let all : c.loop.counter ≡ c.args.n = omega arith in
    still-saves _ save c.loop.counter c.args.n (c.loop.invariant.written save saves) all

pub returns-clause-more : goal.returns-clause-more
returns-clause-more g c = λ _.
    let own = c.requires.left in
    more-left _ own.0 c.loop.counter (c.loop.invariant.written own.0 own.1)
