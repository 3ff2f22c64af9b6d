-- The rest of a ring: from the node to which it has come, back to where it began.
use Rattle.std.proofs.Common.{◌≡◌, ◌≢◌, List, [], ◌∷◌, ◌++◌, refl, sym, ap, ◌∙◌}
use Rattle.std.proofs.lemmas.List.{append-nil}
use Rattle.chart_model.specs.declared.name.Name.{Name}
use Rattle.area_rings.specs.Edge.{EdgeValue}
use Rattle.area_rings.specs.Rings.{IsLinked, Returns, IsRing}

-- linked edges from a node on, the last of which is the first to end at home
abbrev pub Rest : Name → Name → List EdgeValue → Type 0
Rest home at [] = ⊥
Rest home at (edge ∷ []) = (edge.from ≡ at) × (edge.to ≡ home)
Rest home at (edge ∷ next ∷ more) = (edge.from ≡ at) × (edge.to ≢ home) × Rest home edge.to (next ∷ more)

-- the rest of a ring from its first node on
abbrev pub Whole : List EdgeValue → Type 0
Whole [] = ⊥
Whole (edge ∷ more) = Rest edge.from edge.from (edge ∷ more)

no_end : (before more : List EdgeValue) (last : EdgeValue) → [] ≡ (before ++ last ∷ []) ++ more → ⊥
no_end [] more last e = cc
no_end (b ∷ bs) more last e = cc

-- ---- what holds of a rest

first_from : (home at : Name) (edge : EdgeValue) (more : List EdgeValue) → Rest home at (edge ∷ more) → edge.from ≡ at
first_from home at edge [] r = r.0
first_from home at edge (next ∷ more) r = r.0

rest-linked : (home at : Name) (edges : List EdgeValue) → Rest home at edges → IsLinked edges
rest-linked home at [] r = absurd r
rest-linked home at (edge ∷ []) r = tt
rest-linked home at (edge ∷ next ∷ more) r = (first_from home edge.to next more r.2, rest-linked home edge.to (next ∷ more) r.2)

-- it ends at home
pub record Ends (home : Name) (edges : List EdgeValue) : Type 0 where
  pub before : List EdgeValue
  pub last : EdgeValue
  pub ends : edges ≡ before ++ last ∷ []
  pub home_at : last.to ≡ home

rest-ends : (home at : Name) (edges : List EdgeValue) → Rest home at edges → Ends home edges
rest-ends home at [] r = absurd r
rest-ends home at (edge ∷ []) r = record { before = []; last = edge; ends = refl; home_at = r.1 }
rest-ends home at (edge ∷ next ∷ more) r =
    let e = rest-ends home edge.to (next ∷ more) r.2 in
    record { before = edge ∷ e.before; last = e.last; ends = ap (λ (l : List EdgeValue). edge ∷ l) e.ends; home_at = e.home_at }

-- and nowhere before
rest-shortest : (home at : Name) (edges before more : List EdgeValue) (last : EdgeValue) → Rest home at edges → edges ≡ (before ++ last ∷ []) ++ more → last.to ≡ home → more ≡ []
rest-shortest home at [] before more last r e f = absurd r
rest-shortest home at (edge ∷ []) [] more last r e f = cc
rest-shortest home at (edge ∷ []) (b ∷ bs) more last r e f = absurd (no_end bs more last cc)
rest-shortest home at (edge ∷ next ∷ rest) [] more last r e f =
    let same : edge ≡ last = cc in
    absurd (r.1 (ap (λ (x : EdgeValue). x.to) same ∙ f))
rest-shortest home at (edge ∷ next ∷ rest) (b ∷ bs) more last r e f =
    rest-shortest home edge.to (next ∷ rest) bs more last r.2 (cc) f

-- ---- what makes a rest

pub rest-made : (home at : Name) (edge : EdgeValue) (more : List EdgeValue) → edge.from ≡ at → IsLinked (edge ∷ more) → Ends home (edge ∷ more) → ((before rest : List EdgeValue) (last : EdgeValue) → edge ∷ more ≡ (before ++ last ∷ []) ++ rest → last.to ≡ home → rest ≡ []) → Rest home at (edge ∷ more)
rest-made home at edge [] f linked ends shortest = (f, only_end ends.before ends.last ends.ends ends.home_at)
  where
    only_end : (before : List EdgeValue) (last : EdgeValue) → edge ∷ [] ≡ before ++ last ∷ [] → last.to ≡ home → edge.to ≡ home
    only_end [] last e g =
        let same : edge ≡ last = cc in
        ap (λ (x : EdgeValue). x.to) same ∙ g
    only_end (b ∷ bs) last e g = absurd (no_end bs [] last (cc (append-nil (bs ++ last ∷ []))))
rest-made home at edge (next ∷ more) f linked ends shortest =
    (f, λ g. absurd (some_left (shortest [] (next ∷ more) edge refl g)), rest-made home edge.to next more linked.0 linked.1 (later ends.before ends.last ends.ends ends.home_at) (λ before rest last e g. shortest (edge ∷ before) rest last (ap (λ (l : List EdgeValue). edge ∷ l) e) g))
  where
    some_left : next ∷ more ≡ [] → ⊥
    some_left e = cc

    later : (before : List EdgeValue) (last : EdgeValue) → edge ∷ next ∷ more ≡ before ++ last ∷ [] → last.to ≡ home → Ends home (next ∷ more)
    later [] last e g = absurd (some_left (cc))
    later (b ∷ bs) last e g = record { before = bs; last = last; ends = cc; home_at = g }

-- ---- a ring is the whole of such a rest

pub ring-whole : (edges : List EdgeValue) → Whole edges → IsRing edges
ring-whole [] w = absurd w
ring-whole (edge ∷ more) w = record {
  linked = rest-linked edge.from edge.from (edge ∷ more) w;
  returns =
      let e = rest-ends edge.from edge.from (edge ∷ more) w in
      record { first = edge; others = more; before = e.before; last = e.last; begins = refl; ends = e.ends; home = e.home_at };
  shortest = λ front rest e r. at_home r.first r.others r.before r.last front rest e r.begins r.ends r.home;
}
  where
    at_home : (first : EdgeValue) (others before : List EdgeValue) (last : EdgeValue) (front rest : List EdgeValue) → edge ∷ more ≡ front ++ rest → front ≡ first ∷ others → front ≡ before ++ last ∷ [] → last.to ≡ first.from → rest ≡ []
    at_home first others before last front rest e f g h =
        let whole : edge ∷ more ≡ (first ∷ others) ++ rest = e ∙ ap (λ (l : List EdgeValue). l ++ rest) f in
        let same : edge ≡ first = cc in
        rest-shortest edge.from edge.from (edge ∷ more) before rest last w (e ∙ ap (λ (l : List EdgeValue). l ++ rest) g) (h ∙ ap (λ (x : EdgeValue). x.from) (sym same))

pub whole-ring : (edges : List EdgeValue) → IsRing edges → Whole edges
whole-ring [] ring = absurd (none_first ring.returns.first ring.returns.others ring.returns.begins)
  where
    none_first : (first : EdgeValue) (others : List EdgeValue) → [] ≡ first ∷ others → ⊥
    none_first first others e = cc
whole-ring (edge ∷ more) ring = rest-made edge.from edge.from edge more refl ring.linked (ended ring.returns) (λ before rest last e h. ring.shortest (before ++ last ∷ []) rest e (returned before rest last e h))
  where
    ended : Returns (edge ∷ more) → Ends edge.from (edge ∷ more)
    ended r =
        let first = r.first in
        let others = r.others in
        let begins : edge ∷ more ≡ first ∷ others = r.begins in
        let same : edge ≡ first = cc in
        record { before = r.before; last = r.last; ends = r.ends; home_at = r.home ∙ ap (λ (x : EdgeValue). x.from) (sym same) }

    returned : (before rest : List EdgeValue) (last : EdgeValue) → edge ∷ more ≡ (before ++ last ∷ []) ++ rest → last.to ≡ edge.from → Returns (before ++ last ∷ [])
    returned [] rest last e h =
        let same : edge ≡ last = cc in
        record { first = last; others = []; before = []; last = last; begins = refl; ends = refl; home = h ∙ ap (λ (x : EdgeValue). x.from) same }
    returned (b ∷ bs) rest last e h =
        let same : edge ≡ b = cc in
        record { first = b; others = bs ++ last ∷ []; before = b ∷ bs; last = last; begins = refl; ends = refl; home = h ∙ ap (λ (x : EdgeValue). x.from) same }
