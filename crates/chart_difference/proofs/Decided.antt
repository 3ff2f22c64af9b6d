-- Records are the same exactly where all their parts are.
use Rattle.std.proofs.Common.{◌≡◌, ℕ, Bool, ◌==◌, List, Option, Some, None, refl, sym, ap, ◌∙◌}
use Rattle.std.specs.Bool.{Decides}
use Rattle.std.specs.Ordering.{int_eq, nat_cmp}
use Rattle.std.specs.Cmp.Lexicographic.{pointwise}
use Rattle.std.specs.Cmp.{nat_cmp_total}
use Rattle.std.specs.FinMap as map
use Rattle.std.specs.FinMap.{nat_cmp-IsAntisymmetric}
use Rattle.std.proofs.lemmas.Bool.Decides.{Decides-eqb, Decides-int_eq, Decides-and, Decides-or, Decides-not, Decides-like}
use Rattle.std.proofs.lemmas.Slice.Eq.{slice_eq-Decides}
use Rattle.chart_model.specs.Attrs.{Attrs}
use Rattle.chart_model.specs.Cell.{CellValue}
use Rattle.chart_model.specs.declared.name.Name.{Name}
use Rattle.chart_model.specs.declared.name.Foid.{Foid}
use Rattle.chart_model.specs.declared.record.Pointer.{Pointer}
use Rattle.chart_model.specs.declared.record.Coord.{Coord}
use Rattle.chart_model.specs.declared.record.Related.{Related}
use Rattle.chart_model.specs.declared.cell.Vector.{Vector}
use Rattle.chart_model.specs.declared.cell.Feature.{Feature}
use Rattle.chart_difference.specs.Difference.{vector_in, feature_in, Differ}
use Rattle.chart_difference.specs.Same.{same_if_any, same_name, same_foid, same_pointer, same_coord, same_related, same_text}
use Rattle.chart_difference.specs.Same.{same_attrs, same_vector, same_head, same_feature, differ}

lists : {X : Type 0} (same : X → X → Bool) → ((x y : X) → Decides (same x y) (x ≡ y)) → (xs ys : List X) → Decides (pointwise same xs ys) (xs ≡ ys)
lists same each xs ys = slice_eq-Decides each xs ys (pointwise same xs ys) refl

pub names : (x y : Name) → Decides (same_name x y) (x ≡ y)
names x y =
    Decides-like _ (λ p i. record { rcnm = p.0 i; rcid = p.1 i }) (λ p. (ap (λ (n : Name). n.rcnm) p, ap (λ (n : Name). n.rcid) p))
    (Decides-and _ _ (Decides-eqb x.rcnm y.rcnm) (Decides-eqb x.rcid y.rcid))

foids : (x y : Foid) → Decides (same_foid x y) (x ≡ y)
foids x y =
    Decides-like _ (λ p i. record { agen = p.0 i; fidn = p.1.0 i; fids = p.1.1 i })
    (λ p. (ap (λ (f : Foid). f.agen) p, (ap (λ (f : Foid). f.fidn) p, ap (λ (f : Foid). f.fids) p)))
    (Decides-and _ _ (Decides-eqb x.agen y.agen) (Decides-and _ _ (Decides-eqb x.fidn y.fidn) (Decides-eqb x.fids y.fids)))

pointers : (x y : Pointer) → Decides (same_pointer x y) (x ≡ y)
pointers x y =
    Decides-like _ (λ p i. record { target = p.0 i; ornt = p.1.0 i; usag = p.1.1.0 i; topi = p.1.1.1.0 i; mask = p.1.1.1.1 i })
    (λ p. (
      ap (λ (q : Pointer). q.target) p,
      (ap (λ (q : Pointer). q.ornt) p, (ap (λ (q : Pointer). q.usag) p, (ap (λ (q : Pointer). q.topi) p, ap (λ (q : Pointer). q.mask) p))),
    ))
    (Decides-and _ _ (names x.target y.target)
    (Decides-and _ _ (Decides-eqb x.ornt y.ornt)
    (Decides-and _ _ (Decides-eqb x.usag y.usag) (Decides-and _ _ (Decides-eqb x.topi y.topi) (Decides-eqb x.mask y.mask)))))

-- of two that may be there
pub if-any : {X : Type 0} (same : X → X → Bool) → ((x y : X) → Decides (same x y) (x ≡ y)) → (o p : Option X) → Decides (same_if_any same o p) (o ≡ p)
if-any same each (Some x) (Some y) = Decides-like _ (λ e. ap Some e) (λ e. cc) (each x y)
if-any same each None None = (λ _. refl, λ _. refl)
if-any same each (Some x) None = (λ e. cc, λ e. cc)
if-any same each None (Some y) = (λ e. cc, λ e. cc)

coords : (x y : Coord) → Decides (same_coord x y) (x ≡ y)
coords a b =
    Decides-like _ (λ p i. record { x = p.0 i; y = p.1.0 i; z = p.1.1 i })
    (λ p. (ap (λ (c : Coord). c.x) p, (ap (λ (c : Coord). c.y) p, ap (λ (c : Coord). c.z) p)))
    (Decides-and _ _ (Decides-int_eq a.x b.x) (Decides-and _ _ (Decides-int_eq a.y b.y) (if-any int_eq Decides-int_eq a.z b.z)))

related : (x y : Related) → Decides (same_related x y) (x ≡ y)
related x y =
    Decides-like _ (λ p i. record { foid = p.0 i; rind = p.1 i }) (λ p. (ap (λ (r : Related). r.foid) p, ap (λ (r : Related). r.rind) p))
    (Decides-and _ _ (foids x.foid y.foid) (Decides-eqb x.rind y.rind))

texts : (x y : ℕ × List ℕ) → Decides (same_text x y) (x ≡ y)
texts x y =
    Decides-like _ (λ p i. (p.0 i, p.1 i)) (λ p. (ap (λ (t : ℕ × List ℕ). t.0) p, ap (λ (t : ℕ × List ℕ). t.1) p))
    (Decides-and _ _ (Decides-eqb x.0 y.0) (lists (λ a b. a == b) Decides-eqb x.1 y.1))

-- two maps are equal where their entries are
maps : (x y : Attrs) → Decides (same_attrs x y) (x ≡ y)
maps x y =
    Decides-like _ (λ p. map.same_map nat_cmp_total nat_cmp-IsAntisymmetric x y (λ q. map.get-entries x q ∙ ap (map.find nat_cmp q) p ∙ sym (map.get-entries y q)))
    (λ p. ap map.entries p)
    (lists same_text texts (map.entries x) (map.entries y))

vectors : (x y : Vector) → Decides (same_vector x y) (x ≡ y)
vectors x y =
    Decides-like _ (λ p i. record { version = p.0 i; attrs = p.1.0 i; pointers = p.1.1.0 i; coords = p.1.1.1 i })
    (λ p. (
      ap (λ (v : Vector). v.version) p,
      (ap (λ (v : Vector). v.attrs) p, (ap (λ (v : Vector). v.pointers) p, ap (λ (v : Vector). v.coords) p)),
    ))
    (Decides-and _ _ (Decides-eqb x.version y.version)
    (Decides-and _ _ (maps x.attrs y.attrs)
    (Decides-and _ _ (lists same_pointer pointers x.pointers y.pointers) (lists same_coord coords x.coords y.coords))))

-- what isn't a list
record Head (x y : Feature) : Type 0 where
  prim : x.prim ≡ y.prim
  grup : x.grup ≡ y.grup
  class : x.class ≡ y.class
  version : x.version ≡ y.version
  foid : x.foid ≡ y.foid

heads : (x y : Feature) → Decides (same_head x y) (Head x y)
heads x y =
    Decides-like _ (λ p. record { prim = p.0; grup = p.1.0; class = p.1.1.0; version = p.1.1.1.0; foid = p.1.1.1.1 })
    (λ h. (h.prim, (h.grup, (h.class, (h.version, h.foid)))))
    (Decides-and _ _ (Decides-eqb x.prim y.prim)
    (Decides-and _ _ (Decides-eqb x.grup y.grup)
    (Decides-and _ _ (Decides-eqb x.class y.class) (Decides-and _ _ (Decides-eqb x.version y.version) (foids x.foid y.foid)))))

head-of : (x y : Feature) → x ≡ y → Head x y
head-of x y p = record {
  prim = ap (λ (f : Feature). f.prim) p;
  grup = ap (λ (f : Feature). f.grup) p;
  class = ap (λ (f : Feature). f.class) p;
  version = ap (λ (f : Feature). f.version) p;
  foid = ap (λ (f : Feature). f.foid) p;
}

features : (x y : Feature) → Decides (same_feature x y) (x ≡ y)
features x y =
    Decides-like _ (λ p i. record {
      prim = p.0.prim i;
      grup = p.0.grup i;
      class = p.0.class i;
      version = p.0.version i;
      foid = p.0.foid i;
      attrs = p.1.0 i;
      related = p.1.1.0 i;
      pointers = p.1.1.1 i;
    })
    (λ p. (
      head-of x y p,
      (ap (λ (f : Feature). f.attrs) p, (ap (λ (f : Feature). f.related) p, ap (λ (f : Feature). f.pointers) p)),
    ))
    (Decides-and _ _ (heads x y)
    (Decides-and _ _ (maps x.attrs y.attrs)
    (Decides-and _ _ (lists same_related related x.related y.related) (lists same_pointer pointers x.pointers y.pointers))))

-- the records under a name
pub differs : (old new : Option CellValue) (name : Name) → Decides (differ old new name) (Differ old new name)
differs old new name =
    Decides-or _ _
    (Decides-not _ (if-any same_vector vectors (vector_in old name) (vector_in new name)))
    (Decides-not _ (if-any same_feature features (feature_in old name) (feature_in new name)))
