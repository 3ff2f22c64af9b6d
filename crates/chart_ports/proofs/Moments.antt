-- How a run of calls on a desk goes on, moment by moment.
use Rattle.std.proofs.Common.{inl, inr, ⊎_elim, ℕ, List, arith}
use Rattle.chart_ports.specs.declared.images.Images.{Images}
use Rattle.chart_ports.specs.Moments.{Elapses, LeavesOnly, MayBeLeft}

module _ {D : Type 0} (clock : D → ℕ) (might : D → ℕ → Images → List ℕ → Type 0) where
  -- before the first call there is the present moment alone
  pub started : (old : D) (P : Images → List ℕ → Type 0)
      → ((images : Images) (said : List ℕ) → might old (clock old) images said → P images said)
      → LeavesOnly clock might old old P
  started old P here = record { later = omega arith; each = here; before = λ t images said le left. inl left }

  -- one call more, inside which a crash leaves what has P
  pub goes_on : (old mid new : D) (P : Images → List ℕ → Type 0)
      (may_leave : ℕ → List ℕ → Type 0) (says : List ℕ → Type 0)
      → LeavesOnly clock might old mid P
      → Elapses (clock mid) (clock new) (might mid) (might new) may_leave says
      → ((images : Images) (said : List ℕ) → MayBeLeft may_leave images → says said → P images said)
      → LeavesOnly clock might old new P
  goes_on old mid new P may_leave says so_far time here = record {
    later = omega (arith, so_far.later, time.later);
    each = λ images said left. ⊎_elim (so_far.each images said) (λ now. here images said now.0 now.1)
        (time.nothing_else (clock old) images said so_far.later left);
    before = λ t images said le left. ⊎_elim (so_far.before t images said le)
        (λ now. inr (here images said now.0 now.1))
        (time.nothing_else t images said (omega (arith, le, so_far.later)) left);
  }

  -- one run after another
  pub and_then : (old mid new : D) (P : Images → List ℕ → Type 0)
      → LeavesOnly clock might old mid P → LeavesOnly clock might mid new P → LeavesOnly clock might old new P
  and_then old mid new P first then_run = record {
    later = omega (arith, first.later, then_run.later);
    each = λ images said left. ⊎_elim (first.each images said) (λ has. has)
        (then_run.before (clock old) images said first.later left);
    before = λ t images said le left. ⊎_elim (first.before t images said le) (λ has. inr has)
        (then_run.before t images said (omega (arith, le, first.later)) left);
  }

  -- what has P has Q too
  pub weaker : (old new : D) (P Q : Images → List ℕ → Type 0)
      → ((images : Images) (said : List ℕ) → P images said → Q images said)
      → LeavesOnly clock might old new P → LeavesOnly clock might old new Q
  weaker old new P Q leads run = record {
    later = run.later;
    each = λ images said left. leads images said (run.each images said left);
    before = λ t images said le left. ⊎_elim (λ past. inl past) (λ has. inr (leads images said has))
        (run.before t images said le left);
  }
