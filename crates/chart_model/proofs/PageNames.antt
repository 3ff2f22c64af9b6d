-- The order of pages is total, only equal pages tie, and names follow it.
use Rattle.std.proofs.Common.{◌≡◌, ℕ, ◌<◌, ◌/◌, refl, sym, ap, subst, T, rules, arith, ◌∙◌}
use Rattle.std.specs.declared.cmp.Ordering.{Ordering}
use Rattle.std.specs.declared.cmp.Ordering.TheVariants.{Less, Equal, Greater}
use Rattle.std.specs.Ordering.{is_gt, nat_cmp, ordering_then}
use Rattle.std.specs.Cmp.{IsTotalOrder, ranked, nat_cmp_is}
use Rattle.std.specs.Cmp.Rules.{comparing}
use Rattle.std.specs.FinMap.{IsAntisymmetric, nat_cmp-IsAntisymmetric}
use Rattle.chart_model.specs.declared.name.Name.{Name}
use Rattle.chart_model.specs.Names.{name_cmp}
use Rattle.chart_model.specs.Pages.{page_cmp, page_of}
use Rattle.chart_model.proofs.Names.{both-tie}

pub page_cmp-total : IsTotalOrder page_cmp
page_cmp-total = search (comparing, rules)

pub page_cmp-IsAntisymmetric : IsAntisymmetric page_cmp
page_cmp-IsAntisymmetric x y e =
    let ties = both-tie _ _ e in
    let kinds = nat_cmp-IsAntisymmetric x.rcnm y.rcnm ties.0 in
    let numbers = nat_cmp-IsAntisymmetric x.number y.number ties.1 in
    λ i. record { rcnm = kinds i; number = numbers i }

lower : (x y : ℕ) → x / 64 < y / 64 → x < y
lower x y h = omega arith

-- a page below another has the lower names
in-order : (x y : Name) (o : Ordering) → nat_cmp x.rcnm y.rcnm ≡ o → ordering_then o (nat_cmp (x.rcid / 64) (y.rcid / 64)) ≡ Less → name_cmp x y ≡ Less
in-order x y Less kinds e = ap (λ o. ordering_then o (nat_cmp x.rcid y.rcid)) kinds
in-order x y Equal kinds e = ap (λ o. ordering_then o (nat_cmp x.rcid y.rcid)) kinds ∙ sym (nat_cmp_is x.rcid y.rcid Less (lower x.rcid y.rcid (ranked (x.rcid / 64) (y.rcid / 64) Less (sym e))))
in-order x y Greater kinds e = absurd (subst (λ o. T (is_gt o)) e tt)

pub name-below : (x y : Name) → page_cmp (page_of x) (page_of y) ≡ Less → name_cmp x y ≡ Less
name-below x y e = in-order x y _ refl e
