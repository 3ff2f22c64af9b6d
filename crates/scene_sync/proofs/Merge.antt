-- What two sorted lists of entries are apart in, key by key.
use Rattle.std.proofs.Common.{◌≡◌, ◌⊎◌, inl, inr, ⊎_elim, Bool, true, false, not, cond, ◌&&◌, ◌||◌, T, List, [], ◌∷◌, ◌++◌, map, Option, Some, None, is_some, refl, sym, ap, subst, ◌∙◌}
use Rattle.std.specs.declared.cmp.Ordering.{Ordering}
use Rattle.std.specs.declared.cmp.Ordering.TheVariants.{Less, Equal, Greater}
use Rattle.std.specs.Ordering.{is_lt, is_eq, eq_by_cmp, ordering_reverse}
use Rattle.std.specs.Cmp.{IsTotalOrder, tied_itself}
use Rattle.std.specs.List.{filter, list_any}
use Rattle.std.specs.FinMap as finite
use Rattle.std.specs.FinMap.{FinMap, IsAntisymmetric, find, is_sorted}
use Rattle.std.specs.FinMap.Entries.{below_all, same_entries}
use Rattle.chart_model.proofs.SortedEntries.{first, second, less}
use Rattle.scene_sync.specs.Walk.{with_front}

both : (a b : Bool) → T a → T b → T (a && b)
both true b p q = q
both false b p q = p

module _ {K : Type 0} {R : K → K → Ordering} (total : IsTotalOrder R) (same : IsAntisymmetric R) where
  -- one key or another, by the test of the map
  pub by_tie : {P : Type 0} (q k : K) → (q ≡ k → eq_by_cmp R q k ≡ true → P) → (eq_by_cmp R q k ≡ false → P) → P
  by_tie {P} q k f g = go (R q k) refl
    where
      go : (o : Ordering) → R q k ≡ o → P
      go Less e = g (ap is_eq e)
      go Equal e = f (same q k e) (ap is_eq e)
      go Greater e = g (ap is_eq e)

  itself : (k : K) → eq_by_cmp R k k ≡ true
  itself k = ap is_eq (tied_itself total k)

  module _ {X : Type 0} where
    -- a key below all isn't among them
    absent : (k : K) (es : List (K × X)) → T (below_all R k es) → find R k es ≡ None
    absent k [] below = refl
    absent k (e ∷ es) below =
        ap (λ o. cond (is_eq o) (Some e.1) (find R k es)) (less _ (first _ _ below)) ∙ absent k es (second _ _ below)

    -- and is below each that is
    above : (k q : K) (es : List (K × X)) → T (below_all R k es) → is_some (find R q es) ≡ true → T (is_lt (R k q))
    above k q [] below there = cc
    above k q (e ∷ es) below there =
        by_tie q e.0
        (λ is tie. subst (λ x. T (is_lt (R k x))) (sym is) (first _ _ below))
        (λ apart. above k q es (second _ _ below) (subst (λ b. is_some (cond b (Some e.1) (find R q es)) ≡ true) apart there))

    later : (b : Bool) (x : X) (o : Option X) → is_some o ≡ true → is_some (cond b (Some x) o) ≡ true
    later true x o there = refl
    later false x o there = there

    pub below-each : (k : K) (es : List (K × X)) → ((q : K) → is_some (find R q es) ≡ true → T (is_lt (R k q))) → T (below_all R k es)
    below-each k [] all = tt
    below-each k (e ∷ es) all =
        both _ _
        (all e.0 (ap (λ b. is_some (cond b (Some e.1) (find R e.0 es))) (itself e.0)))
        (below-each k es (λ q there. all q (later (eq_by_cmp R q e.0) e.1 (find R q es) there)))

    after-first : (k q : K) (es : List (K × X)) → T (below_all R k es) → is_some (find R q es) ≡ true → eq_by_cmp R q k ≡ false
    after-first k q es below there = ap is_eq (total.antisymm q k ∙ ap ordering_reverse (less _ (above k q es below there)))

    found-later : (e : K × X) (q : K) (es : List (K × X)) → T (below_all R e.0 es) → is_some (find R q es) ≡ true
        → find R q (e ∷ es) ≡ find R q es
    found-later e q es below there = ap (λ b. cond b (Some e.1) (find R q es)) (after-first e.0 q es below there)

    found-first : (e : K × X) (es : List (K × X)) → find R e.0 (e ∷ es) ≡ Some e.1
    found-first e es = ap (λ b. cond b (Some e.1) (find R e.0 es)) (itself e.0)

    -- where each key has the value that follows from it, the values follow from the keys
    pub called-each : (call : K → X) (es : List (K × X)) → T (is_sorted R es) → ((q : K) (x : X) → find R q es ≡ Some x → x ≡ call q)
        → map (λ e. e.1) es ≡ map call (map (λ e. e.0) es)
    called-each call [] sorted each = refl
    called-each call (e ∷ es) sorted each =
        let rest = called-each call es (second _ _ sorted) (λ q x there.
        each q x (found-later e q es (first _ _ sorted) (ap is_some there) ∙ there)) in
        λ i. each e.0 e.1 (found-first e es) i ∷ rest i

    -- the entries of a map, from what it has under their keys
    pub each-found : {Y : Type 0} (call : K → Option X → Y) (at : K → Option X) (es : List (K × X)) → T (is_sorted R es)
        → ((q : K) → is_some (find R q es) ≡ true → at q ≡ find R q es)
        → map (λ e. call e.0 (Some e.1)) es ≡ map (λ key. call key (at key)) (map (λ e. e.0) es)
    each-found call at [] sorted each = refl
    each-found call at (e ∷ es) sorted each =
        let here = found-first e es in
        let rest = each-found call at es (second _ _ sorted) (λ q there.
        let same = found-later e q es (first _ _ sorted) there in each q (ap is_some same ∙ there) ∙ same) in
        λ i. call e.0 (sym (each e.0 (ap is_some here) ∙ here) i) ∷ rest i

    front-other : (q k : K) (o : Option X) (es : List (K × X)) → eq_by_cmp R q k ≡ false → find R q (with_front k o es) ≡ find R q es
    front-other q k None es apart = refl
    front-other q k (Some x) es apart = ap (λ b. cond b (Some x) (find R q es)) apart

    front-same : (k : K) (o : Option X) (es : List (K × X)) → T (below_all R k es) → find R k (with_front k o es) ≡ o
    front-same k None es below = absent k es below
    front-same k (Some x) es below = ap (λ b. cond b (Some x) (find R k es)) (itself k)

  module _ {X Y : Type 0} (equal : Option X → Option X → Bool) (call : K → Option X → Y) where
    -- the call for a key with these values, where they differ
    abbrev pub mend : K → Option X → Option X → Option Y
    mend q o p = cond (equal o p) None (Some (call q p))

    -- a call for each key whose values differ, in the keys' order
    pub record Mends (old new : List (K × X)) (mended : List (K × Y)) : Type 0 where
      pub sorted : T (is_sorted R mended)
      pub exact : (q : K) → find R q mended ≡ mend q (find R q old) (find R q new)

    module _ (none : equal None None ≡ true) where
      one-of : (q : K) (o p : Option X) → is_some (mend q o p) ≡ true → (is_some o ≡ true) ⊎ (is_some p ≡ true)
      one-of q (Some x) p there = inl refl
      one-of q None (Some y) there = inr refl
      one-of q None None there = absurd (let e : is_some (cond true None (Some (call q None))) ≡ true = subst (λ b. is_some (cond b None (Some (call q None))) ≡ true) none there in cc)

      below-mended : (k : K) (old new : List (K × X)) (mended : List (K × Y)) → T (below_all R k old) → T (below_all R k new)
          → Mends old new mended → T (below_all R k mended)
      below-mended k old new mended below-old below-new m =
          below-each k mended (λ q there.
          ⊎_elim (above k q old below-old) (above k q new below-new)
          (one-of q (find R q old) (find R q new) (ap is_some (sym (m.exact q)) ∙ there)))

      pub mends-none : Mends [] [] []
      mends-none = record { sorted = tt; exact = λ q. ap (λ b. cond b None (Some (call q None))) (sym none) }

      module _ (k : K) (o p : Option X) (old new : List (K × X)) (mended : List (K × Y)) where
        pub mends-differing : T (below_all R k old) → T (below_all R k new) → equal o p ≡ false → Mends old new mended
            → Mends (with_front k o old) (with_front k p new) ((k, call k p) ∷ mended)
        mends-differing below-old below-new differ m = record {
          sorted = both _ _ (below-mended k old new mended below-old below-new m) m.sorted;
          exact = λ q. by_tie q k
              (λ is tie. subst
              (λ x. find R x ((k, call k p) ∷ mended) ≡ mend x (find R x (with_front k o old)) (find R x (with_front k p new)))
              (sym is)
              (ap (λ b. cond b (Some (call k p)) (find R k mended)) (itself k)
              ∙ ap (λ b. cond b None (Some (call k p))) (sym differ)
              ∙ λ i. mend k (sym (front-same k o old below-old) i) (sym (front-same k p new below-new) i)))
              (λ apart.
              ap (λ b. cond b (Some (call k p)) (find R q mended)) apart
              ∙ m.exact q
              ∙ λ i. mend q (sym (front-other q k o old apart) i) (sym (front-other q k p new apart) i));
        }

        pub mends-equal : T (below_all R k old) → T (below_all R k new) → equal o p ≡ true → Mends old new mended
            → Mends (with_front k o old) (with_front k p new) mended
        mends-equal below-old below-new alike m = record {
          sorted = m.sorted;
          exact = λ q. by_tie q k
              (λ is tie. subst
              (λ x. find R x mended ≡ mend x (find R x (with_front k o old)) (find R x (with_front k p new)))
              (sym is)
              (m.exact k
              ∙ (λ i. mend k (absent k old below-old i) (absent k new below-new i))
              ∙ ap (λ b. cond b None (Some (call k None))) none
              ∙ ap (λ b. cond b None (Some (call k p))) (sym alike)
              ∙ λ i. mend k (sym (front-same k o old below-old) i) (sym (front-same k p new below-new) i)))
              (λ apart.
              m.exact q
              ∙ λ i. mend q (sym (front-other q k o old apart) i) (sym (front-other q k p new apart) i));
        }

      -- the calls of the keys that pass a test
      abbrev with_calls : (K → Y) → List K → List (K × Y)
      with_calls made keys = map (λ key. (key, made key)) keys

      find-passing : (made : K → Y) (p : K → Bool) (q : K) (keys : List K)
          → find R q (with_calls made (filter p keys)) ≡ cond (p q && list_any (eq_by_cmp R q) keys) (Some (made q)) None
      find-passing made p q [] = elim (p q) as (λ b. None ≡ cond (b && false) (Some (made q)) None) [ true ↦ refl | false ↦ refl ]
      find-passing made p q (k ∷ keys) =
          let rest = find-passing made p q keys in
          by_tie q k
          (λ is tie.
          elim (p k) as (λ b. p q ≡ b → find R q (with_calls made (cond b (k ∷ filter p keys) (filter p keys))) ≡ cond (p q && (eq_by_cmp R q k || list_any (eq_by_cmp R q) keys)) (Some (made q)) None) [
            | true ↦ λ passes.
                ap (λ b. cond b (Some (made k)) (find R q (with_calls made (filter p keys)))) tie
                ∙ ap (λ x. Some (made x)) (sym is)
                ∙ λ i. cond (sym passes i && (sym tie i || list_any (eq_by_cmp R q) keys)) (Some (made q)) None
            | false ↦ λ fails.
                rest
                ∙ (λ i. cond (fails i && list_any (eq_by_cmp R q) keys) (Some (made q)) None)
                ∙ λ i. cond (sym fails i && (eq_by_cmp R q k || list_any (eq_by_cmp R q) keys)) (Some (made q)) None
          ] (ap p is))
          (λ apart.
          elim (p k) as (λ b. find R q (with_calls made (cond b (k ∷ filter p keys) (filter p keys))) ≡ cond (p q && (eq_by_cmp R q k || list_any (eq_by_cmp R q) keys)) (Some (made q)) None) [
            | true ↦
                ap (λ b. cond b (Some (made k)) (find R q (with_calls made (filter p keys)))) apart
                ∙ rest
                ∙ λ i. cond (p q && (sym apart i || list_any (eq_by_cmp R q) keys)) (Some (made q)) None
            | false ↦ rest ∙ λ i. cond (p q && (sym apart i || list_any (eq_by_cmp R q) keys)) (Some (made q)) None
          ])

      passes-where : (o p : Option X) (y : Y) → cond (not (equal o p) && (is_some o || is_some p)) (Some y) None ≡ cond (equal o p) None (Some y)
      passes-where (Some x) p y = elim (equal (Some x) p) as (λ b. cond (not b && true) (Some y) None ≡ cond b None (Some y)) [ true ↦ refl | false ↦ refl ]
      passes-where None (Some x) y = elim (equal None (Some x)) as (λ b. cond (not b && true) (Some y) None ≡ cond b None (Some y)) [ true ↦ refl | false ↦ refl ]
      passes-where None None y = subst (λ b. cond (not b && false) (Some y) None ≡ cond b None (Some y)) (sym none) refl

      -- the keys of two maps whose values differ, with their calls, as a map
      abbrev pub differing : FinMap R X → FinMap R X → FinMap R Y
      differing old new =
          finite.from_entries
          (with_calls (λ key. call key (finite.get new key))
          (filter (λ key. not (equal (finite.get old key) (finite.get new key))) (finite.keys old ++ finite.keys new)))

      either : (q : K) (xs ys : List K) → list_any (eq_by_cmp R q) (xs ++ ys) ≡ (list_any (eq_by_cmp R q) xs || list_any (eq_by_cmp R q) ys)
      either q [] ys = refl
      either q (x ∷ xs) ys =
          elim (eq_by_cmp R q x) as (λ b. (b || list_any (eq_by_cmp R q) (xs ++ ys)) ≡ ((b || list_any (eq_by_cmp R q) xs) || list_any (eq_by_cmp R q) ys)) [
            | true ↦ refl
            | false ↦ either q xs ys
          ]

      pub get-differing : (old new : FinMap R X) (q : K)
          → finite.get (differing old new) q ≡ mend q (finite.get old q) (finite.get new q)
      get-differing old new q =
          let p = λ (key : K). not (equal (finite.get old key) (finite.get new key)) in
          let made = λ (key : K). call key (finite.get new key) in
          finite.get-from_entries total (with_calls made (filter p (finite.keys old ++ finite.keys new))) q
          ∙ find-passing made p q (finite.keys old ++ finite.keys new)
          ∙ ap (λ b. cond (p q && b) (Some (made q)) None)
          (either q (finite.keys old) (finite.keys new)
          ∙ λ i. sym (finite.contains_key-keys old q) i || sym (finite.contains_key-keys new q) i)
          ∙ passes-where (finite.get old q) (finite.get new q) (made q)

      -- calls that mend two maps are those of the map
      pub mends-unique : (old new : FinMap R X) (mended : List (K × Y)) → Mends (finite.entries old) (finite.entries new) mended
          → mended ≡ finite.entries (differing old new)
      mends-unique old new mended m =
          same_entries R total same mended (finite.entries (differing old new)) m.sorted
          (finite.entries_sorted (differing old new))
          (λ q.
          m.exact q
          ∙ (λ i. mend q (sym (finite.get-entries old q) i) (sym (finite.get-entries new q) i))
          ∙ sym (get-differing old new q)
          ∙ finite.get-entries (differing old new) q)
