-- Two blocks are the same exactly where they are equal.
use Rattle.std.proofs.Common.{◌≡◌, Bool, ◌==◌, List, Option, Some, None, refl, ap}
use Rattle.std.specs.Bool.{Decides}
use Rattle.std.specs.Cmp.Lexicographic.{pointwise}
use Rattle.std.proofs.lemmas.Bool.Decides.{Decides-eqb, Decides-int_eq, Decides-and, Decides-like}
use Rattle.std.proofs.lemmas.Slice.Eq.{slice_eq-Decides}
use Rattle.chart_model.specs.declared.drawing.Geom.{Geom}
use Rattle.chart_model.specs.declared.drawing.Geom.TheVariants.{Area, Line, Point}
use Rattle.chart_model.specs.declared.drawing.Target.{Target}
use Rattle.chart_model.specs.declared.drawing.Target.TheVariants.{Whole, Edge, At}
use Rattle.chart_model.specs.declared.drawing.Item.{Item}
use Rattle.chart_model.specs.declared.drawing.Block.{Block}
use Rattle.scene_sync.specs.Same.{same_geom, same_target, same_item, same_block, same_blocks}

lists : {X : Type 0} (same : X → X → Bool) → ((x y : X) → Decides (same x y) (x ≡ y)) → (xs ys : List X) → Decides (pointwise same xs ys) (xs ≡ ys)
lists same each xs ys = slice_eq-Decides each xs ys (pointwise same xs ys) refl

geoms : (x y : Geom) → Decides (same_geom x y) (x ≡ y)
geoms Area Area = (λ e. refl, λ e. refl)
geoms Line Line = (λ e. refl, λ e. refl)
geoms Point Point = (λ e. refl, λ e. refl)
geoms Area Line = (λ e. cc, λ e. cc)
geoms Area Point = (λ e. cc, λ e. cc)
geoms Line Area = (λ e. cc, λ e. cc)
geoms Line Point = (λ e. cc, λ e. cc)
geoms Point Area = (λ e. cc, λ e. cc)
geoms Point Line = (λ e. cc, λ e. cc)

targets : (x y : Target) → Decides (same_target x y) (x ≡ y)
targets Whole Whole = (λ e. refl, λ e. refl)
targets (Edge a) (Edge b) = Decides-like _ (λ e. ap Edge e) (λ e. cc) (Decides-eqb a b)
targets (At a b) (At c d) =
    Decides-like _ (λ p i. At (p.0 i) (p.1 i)) (λ e. (cc, cc)) (Decides-and _ _ (Decides-int_eq a c) (Decides-int_eq b d))
targets Whole (Edge b) = (λ e. cc, λ e. cc)
targets Whole (At c d) = (λ e. cc, λ e. cc)
targets (Edge a) Whole = (λ e. cc, λ e. cc)
targets (Edge a) (At c d) = (λ e. cc, λ e. cc)
targets (At a b) Whole = (λ e. cc, λ e. cc)
targets (At a b) (Edge c) = (λ e. cc, λ e. cc)

items : (x y : Item) → Decides (same_item x y) (x ≡ y)
items x y =
    Decides-like _ (λ p i. record { target = p.0 i; text = p.1 i }) (λ p. (ap (λ (t : Item). t.target) p, ap (λ (t : Item). t.text) p))
    (Decides-and _ _ (targets x.target y.target) (lists (λ a b. a == b) Decides-eqb x.text y.text))

pub blocks : (x y : Block) → Decides (same_block x y) (x ≡ y)
blocks x y =
    Decides-like _ (λ p i. record { priority = p.0 i; geom = p.1.0 i; items = p.1.1 i })
    (λ p. (ap (λ (b : Block). b.priority) p, (ap (λ (b : Block). b.geom) p, ap (λ (b : Block). b.items) p)))
    (Decides-and _ _ (Decides-eqb x.priority y.priority)
    (Decides-and _ _ (geoms x.geom y.geom) (lists same_item items x.items y.items)))

-- of two that may be there
pub options : (o p : Option Block) → Decides (same_blocks o p) (o ≡ p)
options (Some x) (Some y) = Decides-like _ (λ e. ap Some e) (λ e. cc) (blocks x y)
options None None = (λ _. refl, λ _. refl)
options (Some x) None = (λ e. cc, λ e. cc)
options None (Some y) = (λ e. cc, λ e. cc)
