-- The calls that are kept: between two maps, as far as two walks over them have come, and of a map shown anew.
use Rattle.std.proofs.Common.{◌≡◌, ◌⊎◌, inl, inr, ⊎_elim, ◌≢◌, ℕ, zero, suc, ◌+◌, ◌<◌, ◌≤◌, Bool, true, false, cond, T, List, [], ◌∷◌, ◌++◌, map, length, take, drop, Option, Some, None, arith, append_assoc, add-one, refl, sym, ap, subst, ◌∙◌}
use Rattle.std.specs.List.{slice_get}
use Rattle.std.specs.Option.{option_map}
use Rattle.std.specs.declared.cmp.Ordering.{Ordering}
use Rattle.std.specs.declared.cmp.Ordering.TheVariants.{Less, Equal, Greater}
use Rattle.std.specs.Ordering.{is_lt, ordering_reverse}
use Rattle.std.specs.Cmp.{IsTotalOrder, tied_itself}
use Rattle.std.specs.FinMap as finite
use Rattle.std.specs.FinMap.Entries.{below_all}
use Rattle.std.proofs.lemmas.List.{map-append, append-nil}
use Rattle.std.proofs.Math.Seq.{take-length}
use Rattle.chart_model.specs.declared.drawing.Block.{Block}
use Rattle.chart_model.specs.declared.drawing.PanelKey.{PanelKey}
use Rattle.chart_model.proofs.SortedEntries.{first, less}
use Rattle.panel_port.specs.PanelKey.{panel_key_cmp}
use Rattle.panel_port.specs.Panel.{Scene as Blocks}
use Rattle.panel_port.proofs.PanelKeys.{panel_key_cmp-total, panel_key_cmp-IsAntisymmetric}
use Rattle.scene_sync.specs.declared.call.Call.{Call}
use Rattle.scene_sync.specs.declared.call.Call.TheVariants.{Put}
use Rattle.scene_sync.specs.Same.{same_blocks}
use Rattle.scene_sync.specs.Calls.{PanelCall, StandFor, clear, put, call_at, call_in, calls_between, calls_for, kept_at}
use Rattle.scene_sync.specs.Walk.{IsLeast, Position, first_key_of, least_of, left_of, with_front}
use Rattle.scene_sync.proofs.Merge.{Mends, mends-none, mends-differing, mends-equal, mends-unique}

abbrev Entries : Type 0
Entries = List (PanelKey × Block)

abbrev MendsTo : Entries → Entries → List (PanelKey × PanelCall) → Type 0
MendsTo old new mended = Mends panel_key_cmp-total panel_key_cmp-IsAntisymmetric same_blocks call_at old new mended

-- these calls, and those for what is left of two maps, are all between the maps
pub record Continues (shown target : Blocks) (calls : List Call) (old new : Position) : Type 0 where
  pub of_target : new.entries ≡ finite.entries target
  pub all : (mended : List (PanelKey × PanelCall)) → MendsTo (left_of old) (left_of new) mended
      → map (call_in target) calls ++ map Some (map (λ entry. entry.1) mended) ≡ map Some (calls_between shown target)

-- the position before all entries
abbrev front_of : Blocks → Position
front_of blocks = record { entries = finite.entries blocks; place = 0 }

begins : (shown target : Blocks) → Continues shown target [] (front_of shown) (front_of target)
begins shown target = record {
  of_target = refl;
  all = λ mended mends.
      ap (λ (entries : List (PanelKey × PanelCall)). map Some (map (λ entry. entry.1) entries))
      (mends-unique panel_key_cmp-total panel_key_cmp-IsAntisymmetric same_blocks call_at refl shown target mended mends);
}

pub begins-at : (shown target : Blocks) (calls : List Call) (old new : Position) → calls ≡ []
    → old ≡ record { entries = finite.entries shown; place = 0 } → new ≡ record { entries = finite.entries target; place = 0 }
    → Continues shown target calls old new
begins-at shown target calls old new no-calls all-old all-new =
    subst (λ cs. Continues shown target cs old new) (sym no-calls)
    (subst (λ walk. Continues shown target [] walk new) (sym all-old)
    (subst (λ walk. Continues shown target [] (front_of shown) walk) (sym all-new) (begins shown target)))

pub ends : (shown target : Blocks) (calls : List Call) (old new : Position) → left_of old ≡ [] → left_of new ≡ []
    → Continues shown target calls old new → StandFor target calls (calls_between shown target)
ends shown target calls old new no-old no-new c =
    sym (append-nil (map (call_in target) calls))
    ∙ c.all []
    (subst (λ es. MendsTo es (left_of new) []) (sym no-old)
    (subst (λ es. MendsTo [] es []) (sym no-new)
    (mends-none panel_key_cmp-total panel_key_cmp-IsAntisymmetric same_blocks call_at refl)))

get-front : {X : Type 0} (place : ℕ) (all : List X) (e : X) (rest : List X) → drop place all ≡ e ∷ rest → slice_get all place ≡ Some e
get-front zero [] e rest is = cc
get-front zero (x ∷ all) e rest is = cc
get-front (suc place) [] e rest is = cc
get-front (suc place) (x ∷ all) e rest is = get-front place all e rest is

-- the call that is kept for a key stands for what the target has under it
stands : (target : Blocks) (key : PanelKey) (p : Option Block) (new rest : Position) → new.entries ≡ finite.entries target
    → left_of new ≡ with_front key p (left_of rest) → call_in target (kept_at key new.place p) ≡ Some (call_at key p)
stands target key None new rest of-target is = refl
stands target key (Some block) new rest of-target is =
    ap (λ (o : Option (PanelKey × Block)). option_map (λ entry. put entry.0 entry.1) o)
    (ap (λ (es : Entries). slice_get es new.place) (sym of-target)
    ∙ get-front new.place new.entries (key, block) (left_of rest) is)

module _ (shown target : Blocks) (calls : List Call) (key : PanelKey) (o p : Option Block) (old new old' new' : Position) where
  pub goes-on-differing : (call : Call) → call ≡ kept_at key new.place p
      → left_of old ≡ with_front key o (left_of old') → left_of new ≡ with_front key p (left_of new') → new'.entries ≡ new.entries
      → T (below_all panel_key_cmp key (left_of old')) → T (below_all panel_key_cmp key (left_of new')) → same_blocks o p ≡ false
      → Continues shown target calls old new → Continues shown target (calls ++ call ∷ []) old' new'
  goes-on-differing call kept is-old is-new same below-old below-new differ c = record {
    of_target = same ∙ c.of_target;
    all = λ mended mends.
        ap (λ (made : List (Option PanelCall)). made ++ map Some (map (λ entry. entry.1) mended))
        (map-append (call_in target) calls (call ∷ []))
        ∙ append_assoc (map (call_in target) calls) (call_in target call ∷ []) (map Some (map (λ entry. entry.1) mended))
        ∙ ap (λ (made : Option PanelCall). map (call_in target) calls ++ made ∷ map Some (map (λ entry. entry.1) mended))
        (ap (call_in target) kept ∙ stands target key p new new' c.of_target is-new)
        ∙ c.all ((key, call_at key p) ∷ mended)
        (subst (λ rest. MendsTo rest (left_of new) ((key, call_at key p) ∷ mended)) (sym is-old)
        (subst (λ rest. MendsTo (with_front key o (left_of old')) rest ((key, call_at key p) ∷ mended)) (sym is-new)
        (mends-differing panel_key_cmp-total panel_key_cmp-IsAntisymmetric same_blocks call_at refl key o p (left_of old')
        (left_of new') mended below-old below-new differ mends)));
  }

  pub goes-on-equal : left_of old ≡ with_front key o (left_of old') → left_of new ≡ with_front key p (left_of new')
      → new'.entries ≡ new.entries
      → T (below_all panel_key_cmp key (left_of old')) → T (below_all panel_key_cmp key (left_of new')) → same_blocks o p ≡ true
      → Continues shown target calls old new → Continues shown target calls old' new'
  goes-on-equal is-old is-new same below-old below-new alike c = record {
    of_target = same ∙ c.of_target;
    all = λ mended mends.
        c.all mended
        (subst (λ rest. MendsTo rest (left_of new) mended) (sym is-old)
        (subst (λ rest. MendsTo (with_front key o (left_of old')) rest mended) (sym is-new)
        (mends-equal panel_key_cmp-total panel_key_cmp-IsAntisymmetric same_blocks call_at refl key o p (left_of old')
        (left_of new') mended below-old below-new alike mends)));
  }

put-more : {X Y : Type 0} (f : X → Y) (xs : List X) (i : ℕ) → i < length xs
    → map Some (map f (take (suc i) xs)) ≡ map Some (map f (take i xs)) ++ option_map f (slice_get xs i) ∷ []
put-more f [] i below = absurd (omega (arith, below))
put-more f (x ∷ xs) zero below = refl
put-more {X} {Y} f (x ∷ xs) (suc i) below = ap (λ (made : List (Option Y)). Some (f x) ∷ made) (put-more f xs i (omega (arith, below)))

-- a call that takes out all blocks, and one for each of the first entries of the target
abbrev pub AreAnew : Blocks → List Call → ℕ → Type 0
AreAnew target calls count = StandFor target calls (clear ∷ map (λ entry. put entry.0 entry.1) (take count (finite.entries target)))

pub anew-more : (target : Blocks) (calls calls' : List Call) (count : ℕ) → count < length (finite.entries target)
    → calls' ≡ calls ++ Put count ∷ [] → AreAnew target calls count → AreAnew target calls' (count + 1)
anew-more target calls calls' count below is so-far =
    ap (map (call_in target)) is
    ∙ map-append (call_in target) calls (Put count ∷ [])
    ∙ ap (λ (made : List (Option PanelCall)). made ++ call_in target (Put count) ∷ []) so-far
    ∙ ap (λ (made : List (Option PanelCall)). Some clear ∷ made)
    (sym (put-more (λ (entry : PanelKey × Block). put entry.0 entry.1) (finite.entries target) count below))
    ∙ ap (λ n. map Some (clear ∷ map (λ entry. put entry.0 entry.1) (take n (finite.entries target)))) (sym (add-one count))

pub anew-all : (target : Blocks) (calls : List Call) (count : ℕ) → count ≡ length (finite.entries target)
    → AreAnew target calls count → StandFor target calls (calls_for None target)
anew-all target calls count all so-far =
    so-far
    ∙ ap (λ (es : Entries). map Some (clear ∷ map (λ entry. put entry.0 entry.1) es))
    (ap (λ n. take n (finite.entries target)) all ∙ take-length (finite.entries target))

lesser : {K : Type 0} {R : K → K → Ordering} → IsTotalOrder R → (j k : K)
    → (R (cond (is_lt (R k j)) k j) j ≢ Greater) × (R (cond (is_lt (R k j)) k j) k ≢ Greater)
lesser {R = R} total j k =
    elim (R k j) as (λ o. R k j ≡ o → (R (cond (is_lt o) k j) j ≢ Greater) × (R (cond (is_lt o) k j) k ≢ Greater)) [
      | Less ↦ λ e. (
        λ (g : R k j ≡ Greater). let bad : Less ≡ Greater = sym e ∙ g in cc,
        λ (g : R k k ≡ Greater). let bad : Equal ≡ Greater = sym (tied_itself total k) ∙ g in cc,
      )
      | Equal ↦ λ e. (
        λ (g : R j j ≡ Greater). let bad : Equal ≡ Greater = sym (tied_itself total j) ∙ g in cc,
        λ (g : R j k ≡ Greater). let bad : Equal ≡ Greater = sym (total.antisymm j k ∙ ap ordering_reverse e) ∙ g in cc,
      )
      | Greater ↦ λ e. (
        λ (g : R j j ≡ Greater). let bad : Equal ≡ Greater = sym (tied_itself total j) ∙ g in cc,
        λ (g : R j k ≡ Greater). let bad : Less ≡ Greater = sym (total.antisymm j k ∙ ap ordering_reverse e) ∙ g in cc,
      )
    ] refl

not-above : (j k : PanelKey) → Some j ≡ Some k → panel_key_cmp k j ≢ Greater
not-above j k e =
    let same : j ≡ k = cc in
    let tied : panel_key_cmp k j ≡ Equal = ap (panel_key_cmp k) same ∙ tied_itself panel_key_cmp-total k in
    λ g. let bad : Equal ≡ Greater = sym tied ∙ g in cc

at-least : (j k key : PanelKey) → Some (cond (is_lt (panel_key_cmp k j)) k j) ≡ Some key
    → (panel_key_cmp key j ≢ Greater) × (panel_key_cmp key k ≢ Greater)
at-least j k key e =
    let same : cond (is_lt (panel_key_cmp k j)) k j ≡ key = cc in
    subst (λ (m : PanelKey). (panel_key_cmp m j ≢ Greater) × (panel_key_cmp m k ≢ Greater)) same (lesser panel_key_cmp-total j k)

-- the least key of two walks is above neither's first
pub least-first : (es fs : List (PanelKey × Block)) (key : PanelKey) → least_of (first_key_of es) (first_key_of fs) ≡ Some key
    → IsLeast key es × IsLeast key fs
least-first [] [] key e = cc
least-first [] (f ∷ fs) key e = (tt, not-above f.0 key e)
least-first (e ∷ es) [] key is = (not-above e.0 key is, tt)
least-first (e ∷ es) (f ∷ fs) key is = at-least e.0 f.0 key is

-- and where there is none, both are at their end
pub none-left : (es fs : List (PanelKey × Block)) → least_of (first_key_of es) (first_key_of fs) ≡ None → (es ≡ []) × (fs ≡ [])
none-left [] [] e = (refl, refl)
none-left [] (f ∷ fs) e = cc
none-left (e ∷ es) [] is = cc
none-left (e ∷ es) (f ∷ fs) is = cc

either-of : (b : Bool) (j k key : PanelKey) → Some (cond b k j) ≡ Some key → (Some j ≡ Some key) ⊎ (Some k ≡ Some key)
either-of true j k key e = inr e
either-of false j k key e = inl e

-- it is the first key of one of them
first-of-one : (es fs : List (PanelKey × Block)) (key : PanelKey) → least_of (first_key_of es) (first_key_of fs) ≡ Some key
    → (first_key_of es ≡ Some key) ⊎ (first_key_of fs ≡ Some key)
first-of-one [] fs key e = inr e
first-of-one (e ∷ es) [] key is = inl is
first-of-one (e ∷ es) (f ∷ fs) key is = either-of (is_lt (panel_key_cmp f.0 e.0)) e.0 f.0 key is

no-longer : (key : PanelKey) (o : Option Block) (es old : List (PanelKey × Block)) → es ≡ with_front key o old → length old ≤ length es
no-longer key None es old is = omega (arith, ap length is)
no-longer key (Some block) es old is = omega (arith, ap length is)

apart-first : (key : PanelKey) (old : List (PanelKey × Block)) → first_key_of old ≡ Some key → T (below_all panel_key_cmp key old) → ⊥
apart-first key [] is below = cc
apart-first key (e ∷ old) is below =
    let same : e.0 ≡ key = cc in
    let tied : panel_key_cmp key e.0 ≡ Equal = ap (panel_key_cmp key) same ∙ tied_itself panel_key_cmp-total key in
    let lower : T (is_lt (panel_key_cmp key e.0)) = first (is_lt (panel_key_cmp key e.0)) (below_all panel_key_cmp key old) below in
    let bad : Equal ≡ Less = sym tied ∙ less (panel_key_cmp key e.0) lower in
    cc

shorter : (key : PanelKey) (o : Option Block) (es old : List (PanelKey × Block)) → es ≡ with_front key o old
    → T (below_all panel_key_cmp key old) → first_key_of es ≡ Some key → length old < length es
shorter key None es old is below at = absurd (apart-first key old (ap first_key_of (sym is) ∙ at) below)
shorter key (Some block) es old is below at = omega (arith, ap length is)

-- so the walks come nearer to their ends
pub nearer : (key : PanelKey) (o p : Option Block) (es fs old new : List (PanelKey × Block))
    → es ≡ with_front key o old → fs ≡ with_front key p new
    → T (below_all panel_key_cmp key old) → T (below_all panel_key_cmp key new)
    → least_of (first_key_of es) (first_key_of fs) ≡ Some key → length old + length new < length es + length fs
nearer key o p es fs old new is-es is-fs below-old below-new least =
    let old-no-longer = no-longer key o es old is-es in
    let new-no-longer = no-longer key p fs new is-fs in
    ⊎_elim
    (λ at. let fewer = shorter key o es old is-es below-old at in omega (arith, fewer, old-no-longer, new-no-longer))
    (λ at. let fewer = shorter key p fs new is-fs below-new at in omega (arith, fewer, old-no-longer, new-no-longer))
    (first-of-one es fs key least)
