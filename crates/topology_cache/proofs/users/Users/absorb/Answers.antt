use Rattle.std.proofs.Common.{◌≡◌, ℕ, List, length, take, ap, subst, ◌∙◌, arith}
use Rattle.std.proofs.Math.Seq.{take-length}
use Rattle.chart_model.specs.declared.name.Name.{Name}
use Rattle.topology_cache.specs.Users.{feature_names}
use Rattle.topology_cache.specs.Sets.{AreBetween}
use Rattle.topology_cache.proofs.Changes.{between-begins, between-ends, counted-next}
use Rattle.topology_cache.proofs.users.Users.absorb.Goals as goal

pub loop-name-init : goal.loop-name-init
loop-name-init g c = record {
  between = between-begins c.args.old.now c.args.new.now c.args.self.now c.requires.users;
  counted = omega arith;
}

pub returns-in_err-renew-clause-at_most : goal.returns-in_err-renew-clause-at_most
returns-in_err-renew-clause-at_most g c =
    omega (
      arith,
      c.count.ensures,
      c.loop-name.invariant.counted,
      counted-next c.as_slice-names.result.now c.loop-name.name-index (record { rcnm = 0; rcid = 0 })
          c.loop-name-test.true,
      ap (λ (names : List Name). length (feature_names names)) c.as_slice-names.ensures,
    )

pub returns-clause-users : goal.returns-clause-users
returns-clause-users g c =
    let last : c.loop-name.name-index ≡ length c.as_slice-names.result.now = omega
    (arith, c.loop-name-test.false, c.loop-name.auto.name-index-end) in
    let all = ap (λ (n : ℕ). take n c.as_slice-names.result.now) last ∙ take-length c.as_slice-names.result.now
    ∙ c.as_slice-names.ensures in
    between-ends c.args.old.now c.args.new.now c.args.changed.now c.loop-name.self c.requires.changed
    (subst (λ (names : List Name). AreBetween c.args.old.now c.args.new.now names c.loop-name.self) all
    c.loop-name.invariant.between)
