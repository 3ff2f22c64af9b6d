-- What calls that were made leave of a panel.
use Rattle.std.proofs.Common.{◌≡◌, ℕ, zero, suc, ◌+◌, ◌-◌, ◌≤◌, ◌<◌, min, Bool, List, [], ◌∷◌, ◌++◌, map, length, take, drop, get_or, Option, Some, None, is_some, IsSome, IfSome, arith, refl, sym, ap, subst, ◌∙◌}
use Rattle.std.specs.List.{All, cons_option, filter_map, slice_get}
use Rattle.std.specs.Option.{option_map}
use Rattle.std.specs.FinMap as finite
use Rattle.std.proofs.Math.Seq.{take-length}
use Rattle.std.proofs.lemmas.List.{length-map, take_more, take-map, drop-map}
use Rattle.std.proofs.lemmas.List.Elements.{All-nil, All-cons, filter_map-append}
use Rattle.std.proofs.Common.{length-drop}
use Rattle.chart_ports.specs.Count.{one_more}
use Rattle.panel_port.specs.Panel.{Scene as Blocks}
use Rattle.chart_model.specs.declared.drawing.Block.{Block}
use Rattle.chart_model.specs.declared.drawing.PanelKey.{PanelKey}
use Rattle.scene_sync.specs.declared.call.Call.{Call}
use Rattle.scene_sync.specs.declared.call.Call.TheVariants.{Put}
use Rattle.scene_sync.specs.Calls.{PanelCall, put, after_call, after_calls, call_in, more_calls}
use Rattle.scene_sync.proofs.Counts.{more-one, take-min}
use Rattle.scene_sync.proofs.Shows.{after-append}

-- these calls were made of a panel since then, and so many were counted
pub record Made {P : Type 0} (calls : List PanelCall) (count : ℕ) (told tells : Bool) (before now : Option Blocks)
    (counted-before counted : ℕ) (faults-before faults : ℕ) (panel-before panel : P) : Type 0 where
  pub shown : now ≡ after_calls told calls before
  pub tells-same : tells ≡ told
  pub counts : counted ≡ more_calls count counted-before
  pub later : faults-before ≤ faults
  pub untouched : count ≡ 0 → panel ≡ panel-before

-- one call more was made
pub made-on : {P : Type 0} (calls calls' : List PanelCall) (call : PanelCall) (count : ℕ) (told tells tells' : Bool)
    → (before now after : Option Blocks) (counted-before counted counted' : ℕ) (faults-before faults faults' : ℕ)
    → (panel-before panel panel' : P)
    → Made calls count told tells before now counted-before counted faults-before faults panel-before panel
    → calls' ≡ calls ++ call ∷ [] → after ≡ after_call tells call now → tells' ≡ tells → counted' ≡ one_more counted → faults ≤ faults'
    → Made calls' (count + 1) told tells' before after counted-before counted' faults-before faults' panel-before panel'
made-on calls calls' call count told tells tells' before now after counted-before counted counted' faults-before faults faults' panel-before panel panel' m is shown same counts later =
    record {
      shown =
          shown
          ∙ (λ i. after_call (m.tells-same i) call (m.shown i))
          ∙ sym (after-append told calls (call ∷ []) before)
          ∙ ap (λ made. after_calls told made before) (sym is);
      tells-same = same ∙ m.tells-same;
      counts = counts ∙ more-one count counted-before counted m.counts;
      later = omega (arith, m.later, later);
      untouched = λ none. absurd (omega (arith, none));
    }

-- the calls that kept ones stand for, up to the next place
pub one-further : {X Y : Type 0} (f : X → Option Y) (xs : List X) (i : ℕ) (x : X) (y : Y) → i < length xs → x ≡ get_or xs i x → f x ≡ Some y
    → filter_map f (take (i + 1) xs) ≡ filter_map f (take i xs) ++ y ∷ []
one-further f xs i x y below is called =
    ap (filter_map f) (take_more xs i x below)
    ∙ filter_map-append f (take i xs) (get_or xs i x ∷ [])
    ∙ ap (λ o. filter_map f (take i xs) ++ cons_option o []) (ap f (sym is) ∙ called)

entry-there : {X Y : Type 0} (f : X → Y) (es : List X) (place : ℕ) (e : X) → IsSome (option_map f (slice_get es place)) → e ≡ get_or es place e
    → option_map f (slice_get es place) ≡ Some (f e)
entry-there f [] place e there at = cc
entry-there f (x ∷ es) zero e there at = ap (λ y. Some (f y)) (sym at)
entry-there f (x ∷ es) (suc place) e there at = entry-there f es place e there at

-- what holds of the call that puts an entry holds of the kept one with its place
pub put-called : (P : PanelCall → Type 0) (target : Blocks) (call : Call) (place : ℕ) (entries : List (PanelKey × Block)) (entry : PanelKey × Block)
    → call ≡ Put place → entries ≡ finite.entries target → IsSome (call_in target call) → entry ≡ get_or entries place entry
    → P (put entry.0 entry.1) → IfSome (call_in target call) P
put-called P target call place entries entry is all there at holds =
    subst (λ c. IfSome (call_in target c) P) (sym is)
    (subst (λ o. IfSome o P)
    (sym
    (entry-there (λ e. put e.0 e.1) (finite.entries target) place entry (subst (λ c. IsSome (call_in target c)) is there)
    (at ∙ ap (λ (es : List (PanelKey × Block)). get_or es place entry) all)))
    holds)

-- a call that was made, where there is one
pub call-made : {P : PanelCall → Type 0} (o : Option PanelCall) → IsSome o → IfSome o P → (call : PanelCall) × (o ≡ Some call) × P call
call-made None there made = cc
call-made (Some call) there made = (call, refl, made)

module _ {X Y : Type 0} (f : X → Option Y) where
  -- what stands for calls, one for one
  pub called : (xs : List X) (ys : List Y) → map f xs ≡ map Some ys → filter_map f xs ≡ ys
  called [] [] are = refl
  called [] (y ∷ ys) are = cc
  called (x ∷ xs) [] are = cc
  called (x ∷ xs) (y ∷ ys) are =
      let here : f x ≡ Some y = cc in
      let others : map f xs ≡ map Some ys = cc in
      ap (λ o. cons_option o (filter_map f xs)) here ∙ ap (λ (zs : List Y). y ∷ zs) (called xs ys others)

  pub each-called : (xs : List X) (ys : List Y) → map f xs ≡ map Some ys → All (λ x. IsSome (f x)) xs
  each-called [] ys are = All-nil (λ x. IsSome (f x))
  each-called (x ∷ xs) [] are = cc
  each-called (x ∷ xs) (y ∷ ys) are =
      let here : f x ≡ Some y = cc in
      let others : map f xs ≡ map Some ys = cc in
      All-cons (λ x. IsSome (f x)) x xs (ap is_some here) (each-called xs ys others)

  pub as-many : (xs : List X) (ys : List Y) → map f xs ≡ map Some ys → length xs ≡ length ys
  as-many xs ys are = sym (length-map xs f) ∙ ap length are ∙ length-map ys Some

  -- no call is made where none is left or asked for
  pub none-next : (xs : List X) (ys : List Y) → map f xs ≡ map Some ys → ys ≡ [] → xs ≡ []
  none-next [] ys are none = refl
  none-next (x ∷ xs) [] are none = cc
  none-next (x ∷ xs) (y ∷ ys) are none = cc

  -- the next n calls, or those left where they are fewer
  next-are : (n made : ℕ) (xs : List X) (ys : List Y) → map f xs ≡ map Some ys
      → map f (take (min (length (drop made xs)) n) (drop made xs)) ≡ map Some (take n (drop made ys))
  next-are n made xs ys are =
      ap (map f) (take-min n (drop made xs))
      ∙ sym (take-map f n (drop made xs))
      ∙ ap (take n) (sym (drop-map f made xs) ∙ ap (drop made) are ∙ drop-map Some made ys)
      ∙ take-map Some n (drop made ys)

  -- the same, of a list that is read by its places
  pub next-of : (n made count : ℕ) (xs xs' : List X) (ys : List Y) → xs ≡ xs' → map f xs' ≡ map Some ys
      → count ≡ min (length (take (length xs - made) (drop made xs))) n
      → map f (take count (take (length xs - made) (drop made xs))) ≡ map Some (take n (drop made ys))
  next-of n made count xs xs' ys same are counted =
      let rest : take (length xs - made) (drop made xs) ≡ drop made xs =
      ap (λ k. take k (drop made xs)) (sym (length-drop made xs)) ∙ take-length (drop made xs) in
      (λ i. map f (take (counted i) (rest i)))
      ∙ ap (λ (zs : List X). map f (take (min (length zs) n) (drop made xs))) rest
      ∙ next-are n made xs ys (ap (map f) same ∙ are)
