-- Pointers are the same where all their parts are.
use Rattle.std.proofs.Common.{◌≡◌, Bool, List, refl, ap}
use Rattle.std.specs.Prelude.{◌==◌, ◌&&◌}
use Rattle.std.specs.Bool.{Decides}
use Rattle.std.specs.Cmp.Lexicographic.{pointwise}
use Rattle.std.proofs.lemmas.Bool.Decides.{Decides-eqb, Decides-and, Decides-like}
use Rattle.std.proofs.lemmas.Slice.Eq.{slice_eq-Decides}
use Rattle.chart_model.specs.declared.name.Name.{Name}
use Rattle.chart_model.specs.declared.record.Pointer.{Pointer}

abbrev same_name : Name → Name → Bool
same_name x y = (x.rcnm == y.rcnm) && (x.rcid == y.rcid)

abbrev pub same_pointer : Pointer → Pointer → Bool
same_pointer x y =
    same_name x.target y.target && ((x.ornt == y.ornt) && ((x.usag == y.usag) && ((x.topi == y.topi) && (x.mask == y.mask))))

names : (x y : Name) → Decides (same_name x y) (x ≡ y)
names x y =
    Decides-like _ (λ p i. record { rcnm = p.0 i; rcid = p.1 i }) (λ p. (ap (λ (n : Name). n.rcnm) p, ap (λ (n : Name). n.rcid) p))
    (Decides-and _ _ (Decides-eqb x.rcnm y.rcnm) (Decides-eqb x.rcid y.rcid))

pointers : (x y : Pointer) → Decides (same_pointer x y) (x ≡ y)
pointers x y =
    Decides-like _ (λ p i. record { target = p.0 i; ornt = p.1.0 i; usag = p.1.1.0 i; topi = p.1.1.1.0 i; mask = p.1.1.1.1 i })
    (λ p. (
      ap (λ (q : Pointer). q.target) p,
      (ap (λ (q : Pointer). q.ornt) p, (ap (λ (q : Pointer). q.usag) p, (ap (λ (q : Pointer). q.topi) p, ap (λ (q : Pointer). q.mask) p))),
    ))
    (Decides-and _ _ (names x.target y.target)
    (Decides-and _ _ (Decides-eqb x.ornt y.ornt)
    (Decides-and _ _ (Decides-eqb x.usag y.usag) (Decides-and _ _ (Decides-eqb x.topi y.topi) (Decides-eqb x.mask y.mask)))))

pub pointer_lists : (xs ys : List Pointer) → Decides (pointwise same_pointer xs ys) (xs ≡ ys)
pointer_lists xs ys = slice_eq-Decides pointers xs ys (pointwise same_pointer xs ys) refl
