-- Points are the same where both of their coordinates are.
use Rattle.std.proofs.Common.{◌≡◌, Bool, List, refl, ap}
use Rattle.std.specs.Prelude.{◌&&◌}
use Rattle.std.specs.Bool.{Decides}
use Rattle.std.specs.Ordering.{int_eq}
use Rattle.std.specs.Cmp.Lexicographic.{pointwise}
use Rattle.std.proofs.lemmas.Bool.Decides.{Decides-int_eq, Decides-and, Decides-like}
use Rattle.std.proofs.lemmas.Slice.Eq.{slice_eq-Decides}
use Rattle.plane_geometry.specs.declared.point.Pt.{Pt}

abbrev pub same_point : Pt → Pt → Bool
same_point p q = int_eq p.x q.x && int_eq p.y q.y

points : (p q : Pt) → Decides (same_point p q) (p ≡ q)
points p q =
    Decides-like _ (λ r i. record { x = r.0 i; y = r.1 i }) (λ r. (ap (λ (t : Pt). t.x) r, ap (λ (t : Pt). t.y) r))
    (Decides-and _ _ (Decides-int_eq p.x q.x) (Decides-int_eq p.y q.y))

pub point_lists : (ps qs : List Pt) → Decides (pointwise same_point ps qs) (ps ≡ qs)
point_lists ps qs = slice_eq-Decides points ps qs (pointwise same_point ps qs) refl
