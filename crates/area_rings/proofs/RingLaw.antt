-- The rings by code are the shortest chains that return.
use Rattle.std.proofs.Common.{◌≡◌, suc, zero, List, [], ◌∷◌, map, Option, Some, None, option_map, All, flat_map, refl, sym, ap, ◌∙◌, arith}
use Rattle.std.specs.List.{AllByRecursion}
use Rattle.std.proofs.lemmas.Option.{none-some, same_Some}
use Rattle.chart_model.specs.declared.record.Pointer.{Pointer}
use Rattle.chart_model.specs.Cell.{CellValue}
use Rattle.plane_geometry.specs.declared.point.Pt.{Pt}
use Rattle.area_rings.specs.Choice.{◌>>=◌, each}
use Rattle.area_rings.specs.Edge.{EdgeValue, edge_along}
use Rattle.area_rings.specs.Rings.{IsRing, HasRings, ring_points, chains_of, rings_of}
use Rattle.area_rings.proofs.RestOfRing.{Whole, ring-whole, whole-ring}
use Rattle.area_rings.proofs.Chains.{chains_told, chains_read}

-- ---- what there is of each item

each_step : {B : Type 0} (o : Option B) (os : Option (List B)) (ys : List B) → (o >>= (λ y. os >>= (λ more. Some (y ∷ more)))) ≡ Some ys → (y : B) × (more : List B) × (o ≡ Some y) × (os ≡ Some more) × (ys ≡ y ∷ more)
each_step None os ys e = absurd (none-some ys e)
each_step (Some y) None ys e = absurd (none-some ys e)
each_step (Some y) (Some more) ys e = (y, more, refl, refl, sym (same_Some _ _ e))

each_told : {A B : Type 0} (f : A → Option B) (xs : List A) (ys : List B) → each f xs ≡ Some ys → map f xs ≡ map Some ys
each_told f [] ys e =
    let none : [] ≡ ys = same_Some _ _ e in
    ap (map Some) none
each_told {A} {B} f (x ∷ xs) ys e =
    let s = each_step (f x) (each f xs) ys e in
    let rest = each_told f xs s.1 s.3 in
    (ap (λ (o : Option B). o ∷ map f xs) s.2 ∙ ap (λ (l : List (Option B)). Some s.0 ∷ l) rest) ∙ ap (map Some) (sym s.4)

each_read : {A B : Type 0} (f : A → Option B) (xs : List A) (ys : List B) → map f xs ≡ map Some ys → each f xs ≡ Some ys
each_read f [] [] e = refl
each_read f [] (y ∷ ys) e = absurd (cc)
each_read f (x ∷ xs) [] e = absurd (cc)
each_read f (x ∷ xs) (y ∷ ys) e =
    let first : f x ≡ Some y = cc in
    let rest = each_read f xs ys (cc) in
    rw (first, rest) refl

-- ---- each of a list, by places

all_out : {X : Type 0} (P Q : X → Type 0) (xs : List X) → ((x : X) → P x → Q x) → AllByRecursion P xs → All Q xs
all_out P Q [] h a k d lt = absurd (omega arith)
all_out P Q (x ∷ xs) h a zero d lt = h x a.0
all_out P Q (x ∷ xs) h a (suc k) d lt = all_out P Q xs h a.1 k d (omega arith)

all_in : {X : Type 0} (P Q : X → Type 0) (xs : List X) → ((x : X) → P x → Q x) → All P xs → AllByRecursion Q xs
all_in P Q [] h a = tt
all_in P Q (x ∷ xs) h a = (h x (a 0 x (omega arith)), all_in P Q xs h (λ k d lt. a (suc k) d (omega arith)))

-- ---- the law

pub rings_told : (cell : CellValue) (pointers : List Pointer) (rings : List (List Pt)) → rings_of cell pointers ≡ Some rings → HasRings cell pointers rings
unfolding rings_of
rings_told cell [] rings e = absurd (none-some rings e)
rings_told cell (p ∷ rest) rings e = of_edges (each (edge_along cell) (p ∷ rest)) refl e
  where
    of_chains : (edges : List EdgeValue) (o : Option (List (List EdgeValue))) → each (edge_along cell) (p ∷ rest) ≡ Some edges → chains_of None edges ≡ o → option_map (map ring_points) o ≡ Some rings → HasRings cell (p ∷ rest) rings
    of_chains edges None f g e = absurd (none-some rings e)
    of_chains edges (Some chains) f g e =
        let a = chains_told None edges chains g in
        record {
          some = λ h. cc;
          chains = chains;
          traced = each_told (edge_along cell) (p ∷ rest) edges f ∙ ap (map Some) a.0;
          closed = all_out Whole IsRing chains ring-whole a.1;
          points = sym (same_Some _ _ e);
        }

    of_edges : (o : Option (List EdgeValue)) → each (edge_along cell) (p ∷ rest) ≡ o → (o >>= (λ edges. option_map (map ring_points) (chains_of None edges))) ≡ Some rings → HasRings cell (p ∷ rest) rings
    of_edges None f e = absurd (none-some rings e)
    of_edges (Some edges) f e = of_chains edges (chains_of None edges) f refl e

pub rings_read : (cell : CellValue) (pointers : List Pointer) (rings : List (List Pt)) → HasRings cell pointers rings → rings_of cell pointers ≡ Some rings
unfolding rings_of
rings_read cell [] rings h = absurd (h.some refl)
rings_read cell (p ∷ rest) rings h =
    let edges = each_read (edge_along cell) (p ∷ rest) (flat_map (λ chain. chain) h.chains) h.traced in
    let chains = chains_read h.chains (all_in IsRing Whole h.chains whole-ring h.closed) in
    ap (λ (o : Option (List EdgeValue)). o >>= (λ edges. option_map (map ring_points) (chains_of None edges))) edges
    ∙ ap (option_map (map ring_points)) chains
    ∙ ap Some (sym h.points)
