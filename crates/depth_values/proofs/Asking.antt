-- Extents that are asked for points, and the places of the areas that cover them.
use Rattle.std.proofs.Common.{◌≡◌, ◌⊎◌, inl, inr, ℕ, ◌+◌, ◌<◌, ◌≤◌, Bool, true, false, eqb, List, [], ◌++◌, take, length, get_or, Some, sym, ap, ◌∙◌, subst, arith}
use Rattle.std.specs.Prelude.{◌↔◌, All, IsTrue, slice_get}
use Rattle.std.specs.List.{list_any, Contains, dedup}
use Rattle.std.specs.List.Sorted.{IsPermutation}
use Rattle.std.proofs.lemmas.Bool.{false≢true}
use Rattle.std.proofs.lemmas.List.{take_more, take_all}
use Rattle.std.proofs.lemmas.List.Elements.{Contains-append_left, Contains-append_right, Contains-append_cases, Contains-push_cases}
use Rattle.std.proofs.lemmas.List.Folds.{Any-from_list_any}
use Rattle.std.proofs.lemmas.List.Kept.{Contains-dedup_nat, Contains-from_dedup}
use Rattle.std.proofs.lemmas.List.Sorted.{Contains-permutation, IsPermutation-sym}
use Rattle.std.proofs.lemmas.Option.{slice_get_within, slice_get-get_or, get_or_from_slice_get}
use Rattle.common_lemmas.proofs.Choices.{some_is}
use Rattle.plane_geometry.specs.declared.point.Pt.{Pt}
use Rattle.plane_geometry.specs.EvenOdd.{IsInside}
use Rattle.plane_bounds.specs.declared.bounds.Bounds.{Bounds}
use Rattle.plane_bounds.specs.Bounds.{IsIn, Meets, RingsIn}
use Rattle.plane_bounds.specs.Inside.{is_inside}
use Rattle.depth_values.specs.DepthArea.{AreaValue, ExtentValue}
use Rattle.depth_values.specs.Covering.{AreShared}
use Rattle.depth_values.specs.declared.groups.Group.{Group}
use Rattle.depth_values.specs.Groups.{IsGroup, StandsIn, AreGrouped}
use Rattle.depth_values.specs.Asked.{HoldsAt, HoldsFor, Adds, AreAsked, AreHolding}

-- an element of the first elements is one of those before the last of them, or that
among_taken : {X : Type 0} (xs : List X) (i : ℕ) (d x : X) → i < length xs → Contains (take (i + 1) xs) x → Contains (take i xs) x ⊎ (get_or xs i d ≡ x)
among_taken {X} xs i d x lt c = Contains-push_cases (take i xs) (get_or xs i d) x (subst (λ (l : List X). Contains l x) (take_more xs i d lt) c)

-- what stands at a place is one of the elements
at_place : {X : Type 0} (xs : List X) (k : ℕ) (x : X) → slice_get xs k ≡ Some x → Contains xs x
at_place xs k x e = (k, slice_get_within xs k x e, get_or_from_slice_get xs k x x e)

abbrev holds : List Pt → List (List Pt) → Bool
holds points rings = list_any (λ p. is_inside p rings) points

module _ (points : List Pt) (extents : List ExtentValue) where
  adds_none : (ks : List ℕ) → Adds points extents ks ks
  adds_none ks = record { kept = λ k c. c; sound = λ k c. inl c }

  adds_then : (a b c : List ℕ) → Adds points extents a b → Adds points extents b c → Adds points extents a c
  adds_then a b c h k = record {
    kept = λ n q. k.kept n (h.kept n q);
    sound = λ n q. elim (k.sound n q) [ inl r ↦ h.sound n r | inr r ↦ inr r ];
  }

  -- nothing is added where none of those that are asked holds a point
  pub asked_none : (asked : ℕ → Type 0) (ks : List ℕ) → ((k n : ℕ) → asked k → HoldsFor points extents k n → ⊥) → AreAsked points extents asked ks ks
  asked_none asked ks apart = record { adds = adds_none ks; told = λ k n q r. absurd (apart k n q r) }

  -- some are asked, and then others
  asked_then : (one other both : ℕ → Type 0) (a b c : List ℕ) → ((k : ℕ) → both k → one k ⊎ other k) → AreAsked points extents one a b → AreAsked points extents other b c
      → AreAsked points extents both a c
  asked_then one other both a b c either h k = record {
    adds = adds_then a b c h.adds k.adds;
    told = λ at n q r. elim (either at q) [ inl s ↦ k.adds.kept n (h.told at n s r) | inr s ↦ k.told at n s r ];
  }

  -- ---- one extent

  same_extent : (place k : ℕ) (extent other : ExtentValue) → slice_get extents place ≡ Some extent → k ≡ place → slice_get extents k ≡ Some other → extent ≡ other
  same_extent place k extent other here e there = some_is extent other (sym here ∙ ap (slice_get extents) (sym e) ∙ there)

  -- where one stands that holds none of the points
  pub asked_apart : (place : ℕ) (extent : ExtentValue) (ks : List ℕ) → slice_get extents place ≡ Some extent → holds points extent.rings ≡ false
      → AreAsked points extents (λ k. k ≡ place) ks ks
  asked_apart place extent ks here fails =
      asked_none (λ k. k ≡ place) ks (λ k n e q. false≢true (sym fails ∙ ap (λ (o : ExtentValue). holds points o.rings) (same_extent place k extent q.extent here e q.there) ∙ q.holds))

  -- and where it holds one
  pub asked_held : (place : ℕ) (extent : ExtentValue) (ks : List ℕ) → slice_get extents place ≡ Some extent → holds points extent.rings ≡ true
      → AreAsked points extents (λ k. k ≡ place) ks (ks ++ extent.places)
  asked_held place extent ks here holding = record {
    adds = record {
      kept = λ n q. Contains-append_left ks extent.places n q;
      sound = λ n q.
          elim (Contains-append_cases ks extent.places n q) [
            | inl r ↦ inl r
            | inr r ↦ inr (place, record { extent = extent; there = here; holds = holding; has = r })
          ];
    };
    told = λ k n e q.
        Contains-append_right ks extent.places n
        (subst (λ (o : ExtentValue). Contains o.places n) (sym (same_extent place k extent q.extent here e q.there)) q.has);
  }

  -- ---- one place after the other

  pub places_none_yet : (places ks : List ℕ) → AreAsked points extents (Contains (take 0 places)) ks ks
  places_none_yet places ks = asked_none (Contains (take 0 places)) ks (λ k n c q. absurd (omega (arith, c.1)))

  pub places_next : (places : List ℕ) (i d : ℕ) (a b c : List ℕ) → i < length places → AreAsked points extents (Contains (take i places)) a b
      → AreAsked points extents (λ k. k ≡ get_or places i d) b c → AreAsked points extents (Contains (take (i + 1) places)) a c
  places_next places i d a b c lt before here =
      asked_then (Contains (take i places)) (λ k. k ≡ get_or places i d) (Contains (take (i + 1) places)) a b c
      (λ k q. elim (among_taken places i d k lt q) [ inl r ↦ inl r | inr e ↦ inr (sym e) ]) before here

  pub places_all : (places : List ℕ) (i : ℕ) (a b : List ℕ) → length places ≤ i → AreAsked points extents (Contains (take i places)) a b → AreAsked points extents (Contains places) a b
  places_all places i a b past h = subst (λ (l : List ℕ). AreAsked points extents (Contains l) a b) (take_all i places past) h

  -- ---- one group after the other

  pub groups_none_yet : (groups : List Group) (ks : List ℕ) → AreAsked points extents (StandsIn (take 0 groups)) ks ks
  groups_none_yet groups ks = asked_none (StandsIn (take 0 groups)) ks (λ k n s q. absurd (omega (arith, s.among.1)))

  pub groups_next : (groups : List Group) (i : ℕ) (group : Group) (a b c : List ℕ) → i < length groups → group ≡ get_or groups i group
      → AreAsked points extents (StandsIn (take i groups)) a b → AreAsked points extents (Contains group.places.items) b c → AreAsked points extents (StandsIn (take (i + 1) groups)) a c
  groups_next groups i group a b c lt is before here =
      asked_then (StandsIn (take i groups)) (Contains group.places.items) (StandsIn (take (i + 1) groups)) a b c
      (λ k s.
      elim (among_taken groups i group s.group lt s.among) [
        | inl r ↦ inl (record { group = s.group; among = r; there = s.there })
        | inr e ↦ inr (subst (λ (g : Group). Contains g.places.items k) (sym (is ∙ e)) s.there)
      ])
      before here

  pub groups_all : (groups : List Group) (i : ℕ) (a b : List ℕ) → length groups ≤ i → AreAsked points extents (StandsIn (take i groups)) a b → AreAsked points extents (StandsIn groups) a b
  groups_all groups i a b past h = subst (λ (l : List Group). AreAsked points extents (StandsIn l) a b) (take_all i groups past) h

  -- a group whose box doesn't meet the one round the points has nothing that holds one of them
  pub group_apart : (insides : (p : Pt) (rings : List (List Pt)) → IsTrue (is_inside p rings) ↔ IsInside p rings)
      (boxes : (bounds : Bounds) (p : Pt) (rings : List (List Pt)) → RingsIn bounds rings → IsInside p rings → IsIn bounds p)
      (group : Group) (bounds : Bounds) (ks : List ℕ) → IsGroup extents group → All (IsIn bounds) points → (Meets group.bounds bounds → ⊥)
      → AreAsked points extents (Contains group.places.items) ks ks
  group_apart insides boxes group bounds ks round within apart =
      asked_none (Contains group.places.items) ks (λ k n c q.
      let found = Any-from_list_any (λ (p : Pt). is_inside p q.extent.rings) points q.holds in
      let p = found.1 in
      apart (record {
        p = p;
        in_one = boxes group.bounds p q.extent.rings (round k c q.extent q.there) ((insides p q.extent.rings).0 found.4);
        in_other = subst (IsIn bounds) found.3 (within found.0 p found.2);
      }))

  -- ---- all of them, each once

  module _ (areas : List AreaValue) (shared : AreShared areas extents) where
    -- the places of the areas that cover what holds a point are those of areas that hold it
    held_at : (k n : ℕ) → HoldsFor points extents k n → HoldsAt points areas n
    held_at k n q =
        let covers = shared.each q.extent n (at_place extents k q.extent q.there) q.has in
        record { area = covers.area; there = covers.there; holds = ap (holds points) covers.same ∙ q.holds }

    held_for : (n : ℕ) → HoldsAt points areas n → (k : ℕ) × HoldsFor points extents k n
    held_for n q =
        let is = shared.all n (slice_get_within areas n q.area q.there) in
        let covers = shared.each is.extent n is.among is.there in
        let same : q.area ≡ covers.area = some_is q.area covers.area (sym q.there ∙ covers.there) in (
          is.among.0,
          record {
            extent = is.extent;
            there = slice_get-get_or extents is.among.0 is.extent is.among.1 ∙ ap Some is.among.2;
            holds = ap (holds points) (sym covers.same) ∙ ap (λ (a : AreaValue). holds points a.rings) (sym same) ∙ q.holds;
            has = is.there;
          },
        )

    pub held_all : (groups : List Group) (start held sorted once : List ℕ) → start ≡ [] → AreGrouped extents groups → AreAsked points extents (StandsIn groups) start held
        → IsPermutation held sorted → once ≡ dedup eqb sorted → AreHolding points areas once
    held_all groups start held sorted once none grouped asked moved e n = (to, from)
      where
        to : Contains once n → HoldsAt points areas n
        to c =
            let sorted_there = Contains-from_dedup eqb sorted n (subst (λ (l : List ℕ). Contains l n) e c) in
            let there = Contains-permutation sorted held n (IsPermutation-sym held sorted moved) sorted_there in
            elim (asked.adds.sound n there) [
              | inl q ↦ absurd (let r = subst (λ (l : List ℕ). Contains l n) none q in omega (arith, r.1))
              | inr q ↦ held_at q.0 n q.1
            ]

        from : HoldsAt points areas n → Contains once n
        from q =
            let h = held_for n q in
            let stands = grouped.all h.0 (slice_get_within extents h.0 h.1.extent h.1.there) in
            let there = asked.told h.0 n stands h.1 in
            subst (λ (l : List ℕ). Contains l n) (sym e) (Contains-dedup_nat sorted n (Contains-permutation held sorted n moved there))
