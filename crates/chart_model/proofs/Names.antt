-- The order of names is total, and only equal names tie.
use Rattle.std.proofs.Common.{◌≡◌, refl, sym, subst, T, rules}
use Rattle.std.specs.declared.cmp.Ordering.{Ordering}
use Rattle.std.specs.declared.cmp.Ordering.TheVariants.{Less, Equal, Greater}
use Rattle.std.specs.Ordering.{is_eq, ordering_then}
use Rattle.std.specs.Cmp.{IsTotalOrder}
use Rattle.std.specs.Cmp.Rules.{comparing}
use Rattle.std.specs.FinMap.{IsAntisymmetric, nat_cmp-IsAntisymmetric}
use Rattle.chart_model.specs.Names.{name_cmp}

pub name_cmp-total : IsTotalOrder name_cmp
name_cmp-total = search (comparing, rules)

pub both-tie : (r s : Ordering) → ordering_then r s ≡ Equal → (r ≡ Equal) × (s ≡ Equal)
both-tie Less s e = absurd (subst (λ o. T (is_eq o)) (sym e) tt)
both-tie Equal s e = (refl, e)
both-tie Greater s e = absurd (subst (λ o. T (is_eq o)) (sym e) tt)

pub name_cmp-IsAntisymmetric : IsAntisymmetric name_cmp
name_cmp-IsAntisymmetric x y e =
    let ties = both-tie _ _ e in
    let kinds = nat_cmp-IsAntisymmetric x.rcnm y.rcnm ties.0 in
    let numbers = nat_cmp-IsAntisymmetric x.rcid y.rcid ties.1 in
    λ i. record { rcnm = kinds i; rcid = numbers i }
