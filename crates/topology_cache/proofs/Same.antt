-- Names that are the same.
use Rattle.std.proofs.Common.{◌≡◌, Bool, true, false, ◌&&◌, refl, sym, ap, ◌∙◌, subst, T}
use Rattle.std.specs.Ordering.{is_eq, eq_by_cmp}
use Rattle.std.specs.Cmp.{tied_itself}
use Rattle.std.proofs.lemmas.Bool.{eqb-true}
use Rattle.std.proofs.Math.Dec.{eqb_refl}
use Rattle.chart_model.specs.declared.name.Name.{Name}
use Rattle.chart_model.specs.Names.{name_cmp}
use Rattle.chart_model.proofs.Names.{name_cmp-total, name_cmp-IsAntisymmetric}
use Rattle.chart_model.proofs.Maps.{tied}
use Rattle.topology_cache.specs.Users.{same_name}

pub same_tests : (p q : Bool) → (p ≡ true → q ≡ true) → (q ≡ true → p ≡ true) → p ≡ q
same_tests true true to from = refl
same_tests true false to from = sym (to refl)
same_tests false true to from = from refl
same_tests false false to from = refl

both : (p q : Bool) → p ≡ true → q ≡ true → (p && q) ≡ true
both true q a b = b
both false q a b = a

pub left : (p q : Bool) → (p && q) ≡ true → p ≡ true
left true q e = refl
left false q e = e

pub right : (p q : Bool) → (p && q) ≡ true → q ≡ true
right true q e = e
right false q e = absurd (subst T (sym e) tt)

yes : (b : Bool) → T b → b ≡ true
yes true h = refl
yes false h = absurd h

pub same_itself : (x : Name) → same_name x x ≡ true
same_itself x = both _ _ (yes _ (eqb_refl x.rcnm)) (yes _ (eqb_refl x.rcid))

pub same_is : (x y : Name) → same_name x y ≡ true → x ≡ y
same_is x y e =
    let kinds : x.rcnm ≡ y.rcnm = eqb-true _ _ (left _ _ e) in
    let numbers : x.rcid ≡ y.rcid = eqb-true _ _ (right _ _ e) in
    λ i. record { rcnm = kinds i; rcid = numbers i }

-- names tie in their order exactly where they are the same
pub ties-same : (x y : Name) → eq_by_cmp name_cmp x y ≡ same_name y x
ties-same x y =
    same_tests _ _
    (λ e. ap (λ (z : Name). same_name z x) (sym (name_cmp-IsAntisymmetric x y (tied (name_cmp x y) e))) ∙ same_itself x)
    (λ e. ap (λ (z : Name). eq_by_cmp name_cmp x z) (same_is y x e) ∙ ap is_eq (tied_itself name_cmp-total x))
