-- Edges as rings one after the other.
use Rattle.std.proofs.Common.{◌≡◌, ◌≢◌, Bool, true, false, ◌&&◌, eqb, cond, List, [], ◌∷◌, ◌++◌, Option, Some, None, option_map, flat_map, refl, sym, ap, ◌∙◌, subst}
use Rattle.std.specs.List.{AllByRecursion}
use Rattle.std.proofs.lemmas.Bool.{false≢true, eqb-true, eq-eqb}
use Rattle.std.proofs.lemmas.Option.{none-some, same_Some}
use Rattle.chart_model.specs.declared.name.Name.{Name}
use Rattle.area_rings.specs.declared.trace.OpenRing.{OpenRing}
use Rattle.area_rings.specs.Choice.{◌>>=◌}
use Rattle.area_rings.specs.Edge.{EdgeValue}
use Rattle.area_rings.specs.Rings.{same_name, ring_after, before_rings, chains_of}
use Rattle.area_rings.proofs.RestOfRing.{Rest, Whole}

-- ---- names

and_parts : (a b : Bool) → (a && b) ≡ true → (a ≡ true) × (b ≡ true)
and_parts true b e = (refl, e)
and_parts false b e = absurd (false≢true e)

same_name-true : (a b : Name) → same_name a b ≡ true → a ≡ b
same_name-true a b e =
    let p = and_parts (eqb a.rcnm b.rcnm) (eqb a.rcid b.rcid) e in
    let kinds = eqb-true a.rcnm b.rcnm p.0 in
    let numbers = eqb-true a.rcid b.rcid p.1 in
    λ i. record { rcnm = kinds i; rcid = numbers i }

same_name-same : (a b : Name) → a ≡ b → same_name a b ≡ true
same_name-same a b e =
    rw (eq-eqb a.rcnm b.rcnm (ap (λ (n : Name). n.rcnm) e), eq-eqb a.rcid b.rcid (ap (λ (n : Name). n.rcid) e)) refl

same_name-apart : (a b : Name) → a ≢ b → same_name a b ≡ false
same_name-apart a b h = go (same_name a b) refl
  where
    go : (t : Bool) → same_name a b ≡ t → same_name a b ≡ false
    go true e = absurd (h (same_name-true a b e))
    go false e = e

same_name-false : (a b : Name) → same_name a b ≡ false → a ≢ b
same_name-false a b e h = false≢true (sym e ∙ same_name-same a b h)

-- ---- a ring that may have begun

-- its edges from here on
abbrev pub Head : Option OpenRing → List EdgeValue → Type 0
Head None edges = Whole edges
Head (Some ring) edges = Rest ring.home ring.at edges

abbrev onward : Name → Name → OpenRing
onward home at = record { home = home; at = at }

-- how a ring stands after an edge, by the two tests
abbrev stands : Bool → Bool → OpenRing → Option (Option OpenRing)
stands linked closed ring = cond linked (Some (cond {A = Option OpenRing} closed None (Some ring))) None

-- ---- from the function to the relation

-- the edge closes the ring
closing : (ring : Option OpenRing) (edge : EdgeValue) → ring_after ring edge.from edge.to ≡ Some None → Head ring (edge ∷ [])
closing None edge e = (refl, go (same_name edge.to edge.from) refl e)
  where
    go : (t : Bool) → same_name edge.to edge.from ≡ t → stands true t (onward edge.from edge.to) ≡ Some None → edge.to ≡ edge.from
    go true f e = same_name-true edge.to edge.from f
    go false f e = absurd (none-some _ (same_Some _ _ (sym e)))
closing (Some ring) edge e = go (same_name ring.at edge.from) (same_name edge.to ring.home) refl refl e
  where
    go : (s t : Bool) → same_name ring.at edge.from ≡ s → same_name edge.to ring.home ≡ t → stands s t (onward ring.home edge.to) ≡ Some None → (edge.from ≡ ring.at) × (edge.to ≡ ring.home)
    go true true f g e = (sym (same_name-true ring.at edge.from f), same_name-true edge.to ring.home g)
    go true false f g e = absurd (none-some _ (same_Some _ _ (sym e)))
    go false t f g e = absurd (none-some _ e)

-- the ring goes on after the edge
going : (ring : Option OpenRing) (next : OpenRing) (edge : EdgeValue) (others : List EdgeValue) → ring_after ring edge.from edge.to ≡ Some (Some next) → Rest next.home next.at others → Head ring (edge ∷ others)
going ring next edge [] e r = absurd r
going None next edge (f ∷ more) e r = go (same_name edge.to edge.from) refl e
  where
    go : (t : Bool) → same_name edge.to edge.from ≡ t → stands true t (onward edge.from edge.to) ≡ Some (Some next) → Rest edge.from edge.from (edge ∷ f ∷ more)
    go true g e = absurd (none-some next (same_Some _ _ e))
    go false g e =
        let same : onward edge.from edge.to ≡ next = same_Some _ _ (same_Some _ _ e) in
        let P : OpenRing → Type 0 = λ n. Rest n.home n.at (f ∷ more) in
        (refl, same_name-false edge.to edge.from g, subst P (sym same) r)
going (Some ring) next edge (f ∷ more) e r = go (same_name ring.at edge.from) (same_name edge.to ring.home) refl refl e
  where
    go : (s t : Bool) → same_name ring.at edge.from ≡ s → same_name edge.to ring.home ≡ t → stands s t (onward ring.home edge.to) ≡ Some (Some next) → Rest ring.home ring.at (edge ∷ f ∷ more)
    go true true g h e = absurd (none-some next (same_Some _ _ e))
    go true false g h e =
        let same : onward ring.home edge.to ≡ next = same_Some _ _ (same_Some _ _ e) in
        let P : OpenRing → Type 0 = λ n. Rest n.home n.at (f ∷ more) in
        (sym (same_name-true ring.at edge.from g), same_name-false edge.to ring.home h, subst P (sym same) r)
    go false t g h e = absurd (none-some _ e)

-- edges as rings, the first of which may have begun
abbrev pub AreRings : Option OpenRing → List EdgeValue → List (List EdgeValue) → Type 0
AreRings None edges chains = (edges ≡ flat_map (λ chain. chain) chains) × AllByRecursion Whole chains
AreRings (Some ring) edges [] = ⊥
AreRings (Some ring) edges (chain ∷ chains) = (edges ≡ chain ++ flat_map (λ chain. chain) chains) × Rest ring.home ring.at chain × AllByRecursion Whole chains

-- a chain before others
chained : (ring : Option OpenRing) (edges chain : List EdgeValue) (chains : List (List EdgeValue)) → edges ≡ chain ++ flat_map (λ chain. chain) chains → Head ring chain → AllByRecursion Whole chains → AreRings ring edges (chain ∷ chains)
chained None edges chain chains e h all = (e, (h, all))
chained (Some ring) edges chain chains e h all = (e, h, all)

pub chains_told : (ring : Option OpenRing) (edges : List EdgeValue) (chains : List (List EdgeValue)) → chains_of ring edges ≡ Some chains → AreRings ring edges chains
unfolding chains_of
chains_told None [] chains e =
    let none : [] ≡ chains = same_Some _ _ e in
    rw (← none) (refl, tt)
chains_told (Some ring) [] chains e = absurd (none-some chains e)
chains_told ring (edge ∷ rest) chains e = after (λ next more. chains_told next rest more) (ring_after ring edge.from edge.to) refl e
  where
    extended : (next : Option OpenRing) (more : List (List EdgeValue)) → ring_after ring edge.from edge.to ≡ Some next → AreRings next rest more → AreRings ring (edge ∷ rest) (before_rings edge next more)
    extended None more f a = chained ring (edge ∷ rest) (edge ∷ []) more (ap (λ (l : List EdgeValue). edge ∷ l) a.0) (closing ring edge f) a.1
    extended (Some next) [] f a = absurd a
    extended (Some next) (chain ∷ chains) f a = chained ring (edge ∷ rest) (edge ∷ chain) chains (ap (λ (l : List EdgeValue). edge ∷ l) a.0) (going ring next edge chain f a.1) a.2

    given : (next : Option OpenRing) (o : Option (List (List EdgeValue))) → ring_after ring edge.from edge.to ≡ Some next → ((more : List (List EdgeValue)) → o ≡ Some more → AreRings next rest more) → option_map (before_rings edge next) o ≡ Some chains → AreRings ring (edge ∷ rest) chains
    given next None f told e = absurd (none-some chains e)
    given next (Some more) f told e =
        let P : List (List EdgeValue) → Type 0 = λ l. AreRings ring (edge ∷ rest) l in
        subst P (same_Some _ _ e) (extended next more f (told more refl))

    after : ((next : Option OpenRing) (more : List (List EdgeValue)) → chains_of next rest ≡ Some more → AreRings next rest more) → (next : Option (Option OpenRing)) → ring_after ring edge.from edge.to ≡ next → (next >>= (λ n. option_map (before_rings edge n) (chains_of n rest))) ≡ Some chains → AreRings ring (edge ∷ rest) chains
    after told None f e = absurd (none-some chains e)
    after told (Some next) f e = given next (chains_of next rest) f (told next) e

-- ---- from the relation to the function

closes : (ring : Option OpenRing) (edge : EdgeValue) → Head ring (edge ∷ []) → ring_after ring edge.from edge.to ≡ Some None
closes None edge h = rw (same_name-same edge.to edge.from h.1) refl
closes (Some ring) edge h = rw (same_name-same ring.at edge.from (sym h.0), same_name-same edge.to ring.home h.1) refl

-- the ring goes on, and how it stands then
record GoesOn (ring : Option OpenRing) (edge next : EdgeValue) (more : List EdgeValue) : Type 0 where
  pub then : OpenRing
  pub stands_so : ring_after ring edge.from edge.to ≡ Some (Some then)
  pub rest : Rest then.home then.at (next ∷ more)

goes : (ring : Option OpenRing) (edge next : EdgeValue) (more : List EdgeValue) → Head ring (edge ∷ next ∷ more) → GoesOn ring edge next more
goes None edge next more h = record {
  then = onward edge.from edge.to;
  stands_so = rw (same_name-apart edge.to edge.from h.1) refl;
  rest = h.2;
}
goes (Some ring) edge next more h = record {
  then = onward ring.home edge.to;
  stands_so = rw (same_name-same ring.at edge.from (sym h.0), same_name-apart edge.to ring.home h.1) refl;
  rest = h.2;
}

-- a chain, and then what the function makes of the rest
chain_read : (ring : Option OpenRing) (chain rest : List EdgeValue) (chains : List (List EdgeValue)) → Head ring chain → chains_of None rest ≡ Some chains → chains_of ring (chain ++ rest) ≡ Some (chain ∷ chains)
unfolding chains_of
chain_read None [] rest chains h e = absurd h
chain_read (Some ring) [] rest chains h e = absurd h
chain_read ring (edge ∷ []) rest chains h e = rw (closes ring edge h, e) refl
chain_read ring (edge ∷ next ∷ more) rest chains h e =
    let g = goes ring edge next more h in
    let later = chain_read (Some g.then) (next ∷ more) rest chains g.rest e in
    rw g.stands_so (ap (option_map (before_rings edge (Some g.then))) later)

pub chains_read : (chains : List (List EdgeValue)) → AllByRecursion Whole chains → chains_of None (flat_map (λ chain. chain) chains) ≡ Some chains
unfolding chains_of
chains_read [] all = refl
chains_read (chain ∷ chains) all = chain_read None chain (flat_map (λ chain. chain) chains) chains all.0 (chains_read chains all.1)
