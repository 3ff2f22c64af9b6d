-- What the calls of a refresh make of what is shown.
use Rattle.std.proofs.Common.{arith, ◌≡◌, ◌≢◌, ℕ, zero, suc, Bool, true, false, cond, ◌&&◌, ◌||◌, List, [], ◌∷◌, ◌++◌, map, Option, Some, None, is_some, is_none, nat_eq, take as taken, refl, sym, ap, ◌∙◌}
use Rattle.std.specs.Ordering.{eq_by_cmp}
use Rattle.std.specs.List.{list_any}
use Rattle.std.proofs.lemmas.Bool.Decides.{nat_tests}
use Rattle.std.specs.FinMap as finite
use Rattle.chart_model.specs.declared.drawing.Block.{Block}
use Rattle.chart_model.specs.declared.drawing.PanelKey.{PanelKey}
use Rattle.panel_port.specs.PanelKey.{panel_key_cmp}
use Rattle.panel_port.specs.Panel.{Scene as Blocks}
use Rattle.panel_port.proofs.PanelKeys.{panel_key_cmp-total, panel_key_cmp-IsAntisymmetric}
use Rattle.scene_sync.specs.Same.{same_blocks}
use Rattle.scene_sync.specs.Calls.{PanelCall, put, take, clear, after_call, after_calls, call_at, call_for, calls_between, calls_for, changes}
use Rattle.scene_sync.specs.Scene.{Agrees}
use Rattle.scene_sync.proofs.Blocks.{options}
use Rattle.scene_sync.proofs.Merge.{by_tie, called-each, each-found, get-differing}

-- the blocks after a call for a key
shown-after : Blocks → PanelKey → Option Block → Blocks
shown-after shown key (Some block) = finite.insert shown key block
shown-after shown key None = finite.remove shown key

after-one : (target shown : Blocks) (key : PanelKey) (o : Option Block)
    → after_call true (call_at key o) (Some shown) ≡ Some (shown-after shown key o)
unfolding shown-after
after-one target shown key (Some block) = refl
after-one target shown key None = refl

get-after : (shown : Blocks) (key q : PanelKey) (o : Option Block)
    → finite.get (shown-after shown key o) q ≡ cond (eq_by_cmp panel_key_cmp q key) o (finite.get shown q)
unfolding shown-after
get-after shown key q (Some block) = finite.get-insert panel_key_cmp-total shown key block q
get-after shown key q None = finite.get-remove panel_key_cmp-total shown key q

-- after the calls for some keys, these show what the target has, and all others what they showed
pub shows-keys : (target shown : Blocks) (keys : List PanelKey)
    → (after : Blocks) × (after_calls true (map (call_for target) keys) (Some shown) ≡ Some after)
    × ((q : PanelKey) → finite.get after q ≡ cond (list_any (eq_by_cmp panel_key_cmp q) keys) (finite.get target q) (finite.get shown q))
shows-keys target shown [] = (shown, refl, λ q. refl)
shows-keys target shown (key ∷ keys) =
    let o = finite.get target key in
    let rest = shows-keys target (shown-after shown key o) keys in (
      rest.0,
      ap (after_calls true (map (call_for target) keys)) (after-one target shown key o) ∙ rest.1,
      λ q.
          rest.2 q
          ∙ ap (cond (list_any (eq_by_cmp panel_key_cmp q) keys) (finite.get target q)) (get-after shown key q o)
          ∙ by_tie panel_key_cmp-total panel_key_cmp-IsAntisymmetric q key
          (λ is tie.
          elim (list_any (eq_by_cmp panel_key_cmp q) keys) as (λ b. cond b (finite.get target q) (cond (eq_by_cmp panel_key_cmp q key) o (finite.get shown q)) ≡ cond (eq_by_cmp panel_key_cmp q key || b) (finite.get target q) (finite.get shown q)) [
            | true ↦ elim (eq_by_cmp panel_key_cmp q key) as (λ b. finite.get target q ≡ cond (b || true) (finite.get target q) (finite.get shown q)) [ true ↦ refl | false ↦ refl ]
            | false ↦
                ap (λ b. cond b o (finite.get shown q)) tie
                ∙ ap (finite.get target) (sym is)
                ∙ ap (λ b. cond (b || false) (finite.get target q) (finite.get shown q)) (sym tie)
          ])
          (λ apart.
          ap (λ b. cond (list_any (eq_by_cmp panel_key_cmp q) keys) (finite.get target q) (cond b o (finite.get shown q))) apart
          ∙ ap (λ b. cond (b || list_any (eq_by_cmp panel_key_cmp q) keys) (finite.get target q) (finite.get shown q)) (sym apart)),
    )

-- so where they are all those that differ, what is shown is the target
ends-at : (shown target : Blocks) (keys : List PanelKey)
    → ((q : PanelKey) → cond (list_any (eq_by_cmp panel_key_cmp q) keys) (finite.get target q) (finite.get shown q) ≡ finite.get target q)
    → after_calls true (map (call_for target) keys) (Some shown) ≡ Some target
ends-at shown target keys all =
    let after = shows-keys target shown keys in
    after.1
    ∙ ap Some
    (finite.same_map panel_key_cmp-total panel_key_cmp-IsAntisymmetric after.0 target (λ q. after.2 q ∙ all q))

is-called : (b : Bool) (x y : PanelCall) → cond b None (Some x) ≡ Some y → y ≡ x
is-called true x y e = cc
is-called false x y e = cc

where-equal : (o p : Option Block) (call : PanelCall) → cond (is_some (cond (same_blocks o p) None (Some call))) p o ≡ p
where-equal o p call =
    elim (same_blocks o p) as (λ b. same_blocks o p ≡ b → cond (is_some (cond b None (Some call))) p o ≡ p) [
      | true ↦ λ e. (options o p).0 e
      | false ↦ λ e. refl
    ] refl

where-there : (o : Option Block) → cond (is_some o) o None ≡ o
where-there None = refl
where-there (Some block) = refl

get-changes : (shown target : Blocks) (q : PanelKey)
    → finite.get (changes shown target) q ≡ cond (same_blocks (finite.get shown q) (finite.get target q)) None (Some (call_for target q))
get-changes shown target q =
    get-differing panel_key_cmp-total panel_key_cmp-IsAntisymmetric same_blocks call_at refl shown target q

told-apart : (o p : Option Block) → (o ≢ p) → same_blocks o p ≡ false
told-apart o p differ =
    elim (same_blocks o p) as (λ b. same_blocks o p ≡ b → b ≡ false) [
      | true ↦ λ e. absurd (differ ((options o p).0 e))
      | false ↦ λ e. refl
    ] refl

pub get-differing-change : (shown target : Blocks) (key : PanelKey) → (finite.get shown key ≢ finite.get target key)
    → finite.get (changes shown target) key ≡ Some (call_for target key)
get-differing-change shown target key differ =
    get-changes shown target key
    ∙ ap (λ b. cond b None (Some (call_for target key))) (told-apart (finite.get shown key) (finite.get target key) differ)

pub get-equal-change : (shown target : Blocks) (key : PanelKey) → finite.get shown key ≡ finite.get target key
    → finite.get (changes shown target) key ≡ None
get-equal-change shown target key equal =
    get-changes shown target key
    ∙ ap (λ b. cond b None (Some (call_for target key))) ((options (finite.get shown key) (finite.get target key)).1 equal)

between-called : (shown target : Blocks) → calls_between shown target ≡ map (call_for target) (finite.keys (changes shown target))
between-called shown target =
    called-each panel_key_cmp-total panel_key_cmp-IsAntisymmetric (call_for target) (finite.entries (changes shown target))
    (finite.entries_sorted (changes shown target))
    (λ q call there.
    is-called _ _ _ (sym (get-changes shown target q) ∙ finite.get-entries (changes shown target) q ∙ there))

anew-called : (target : Blocks) → calls_for None target ≡ clear ∷ map (call_for target) (finite.keys target)
anew-called target =
    ap (λ (calls : List PanelCall). clear ∷ calls)
    (each-found panel_key_cmp-total panel_key_cmp-IsAntisymmetric call_at (finite.get target) (finite.entries target)
    (finite.entries_sorted target) (λ q there. finite.get-entries target q))

-- a finished refresh shows its target, whatever was shown before
pub shows-target : (shown : Option Blocks) (target : Blocks) → after_calls true (calls_for shown target) shown ≡ Some target
shows-target (Some shown) target =
    ap (λ calls. after_calls true calls (Some shown)) (between-called shown target)
    ∙ ends-at shown target (finite.keys (changes shown target)) (λ q.
    ap (λ b. cond b (finite.get target q) (finite.get shown q))
    (sym (finite.contains_key-keys (changes shown target) q) ∙ ap is_some (get-changes shown target q))
    ∙ where-equal (finite.get shown q) (finite.get target q) (call_for target q))
shows-target None target =
    ap (λ calls. after_calls true calls None) (anew-called target)
    ∙ ends-at finite.empty target (finite.keys target) (λ q.
    (λ i. cond (sym (finite.contains_key-keys target q) i) (finite.get target q) (finite.get-empty panel_key_cmp q i))
    ∙ where-there (finite.get target q))

-- calls after calls
pub after-append : (tells : Bool) (xs ys : List PanelCall) (shown : Option Blocks)
    → after_calls tells (xs ++ ys) shown ≡ after_calls tells ys (after_calls tells xs shown)
after-append tells [] ys shown = refl
after-append tells (x ∷ xs) ys shown = after-append tells xs ys (after_call tells x shown)

agree-one : (call : PanelCall) (shown told : Option Blocks) → Agrees shown told → Agrees (after_call true call shown) (after_call true call told)
agree-one clear shown told agrees = refl
agree-one (put key block) None told agrees = tt
agree-one (put key block) (Some shown) told agrees = ap (after_call true (put key block)) agrees
agree-one (take key) None told agrees = tt
agree-one (take key) (Some shown) told agrees = ap (after_call true (take key)) agrees

-- what the calls make of a scene they make of a panel that tells
pub agree : (calls : List PanelCall) (shown told : Option Blocks) → Agrees shown told → Agrees (after_calls true calls shown) (after_calls true calls told)
agree [] shown told agrees = agrees
agree (call ∷ calls) shown told agrees = agree calls (after_call true call shown) (after_call true call told) (agree-one call shown told agrees)

known-on : (calls : List PanelCall) (shown : Blocks) → is_none (after_calls true calls (Some shown)) ≡ false
known-on [] shown = refl
known-on (clear ∷ calls) shown = known-on calls finite.empty
known-on (put key block ∷ calls) shown = known-on calls (finite.insert shown key block)
known-on (take key ∷ calls) shown = known-on calls (finite.remove shown key)

not-zero : (n : ℕ) → nat_eq (suc n) 0 ≡ false
not-zero n = grind (arith, nat_tests)

-- what is shown isn't known only before the first call of a refresh of which it wasn't known
pub not-known : (before : Option Blocks) (target : Blocks) (made : ℕ)
    → is_none (after_calls true (taken made (calls_for before target)) before) ≡ (is_none before && nat_eq made 0)
not-known (Some shown) target made = known-on (taken made (calls_for (Some shown) target)) shown
not-known None target zero = refl
not-known None target (suc n) =
    known-on (taken n (map (λ entry. put entry.0 entry.1) (finite.entries target))) finite.empty ∙ sym (not-zero n)
