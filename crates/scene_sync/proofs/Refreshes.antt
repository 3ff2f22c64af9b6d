-- What a refresh shows when some of its calls were made, and when all were.
use Rattle.std.proofs.Common.{◌≡◌, ℕ, ◌+◌, Bool, true, false, if◌then◌else◌, nat_eq, List, ◌++◌, length, take, drop, Option, Some, None, IsTrue, refl, sym, ap, subst, ◌∙◌}
use Rattle.std.proofs.Math.Seq.{take-add, take-length}
use Rattle.std.proofs.lemmas.Bool.Decides.{Decides-eqb}
use Rattle.panel_port.specs.Panel.{Scene as Blocks}
use Rattle.scene_sync.specs.Calls.{PanelCall, after_calls}
use Rattle.scene_sync.specs.Scene.{Agrees, UnderWay, advanced, calls_of, is_finished, next_calls, shown_by, under_way_in, unless_finished}
use Rattle.scene_sync.specs.declared.refresh.Refresh.{Refresh}
use Rattle.scene_sync.proofs.Counts.{take-taken}
use Rattle.scene_sync.proofs.Shows.{after-append, agree, shows-target}

-- all calls were made
pub all-shown : (refresh : Refresh) → is_finished (under_way_in refresh) ≡ true → shown_by refresh ≡ Some refresh.target
all-shown refresh all =
    ap (λ made. after_calls true (take made (calls_of refresh)) refresh.before)
    ((Decides-eqb refresh.made (length (calls_of refresh))).0 all)
    ∙ ap (λ calls. after_calls true calls refresh.before) (take-length (calls_of refresh))
    ∙ shows-target refresh.before refresh.target

none-left : (b : Bool) (u : UnderWay) → (if b then None else Some u) ≡ None → b ≡ true
none-left true u e = refl
none-left false u e = cc

pub finished-shows : (refresh : Refresh) → unless_finished (under_way_in refresh) ≡ None → shown_by refresh ≡ Some refresh.target
finished-shows refresh finished =
    all-shown refresh (none-left (is_finished (under_way_in refresh)) (under_way_in refresh) finished)

after-next : (before : Option Blocks) (calls : List PanelCall) (made n : ℕ)
    → after_calls true (take (made + length (take n (drop made calls))) calls) before
    ≡ after_calls true (take n (drop made calls)) (after_calls true (take made calls) before)
after-next before calls made n =
    ap (λ some. after_calls true some before)
    (take-add made (length (take n (drop made calls))) calls
    ∙ ap (λ more. take made calls ++ more) (take-taken n (drop made calls)))
    ∙ after-append true (take made calls) (take n (drop made calls)) before

-- the next calls were made
pub painted : (old new : Refresh) (n : ℕ) → under_way_in new ≡ advanced n (under_way_in old) → new.before ≡ old.before
    → shown_by new ≡ after_calls true (next_calls n (under_way_in old)) (shown_by old)
painted old new n made same =
    ap (λ (u : UnderWay). after_calls true (take u.made u.calls) new.before) made
    ∙ ap (after_calls true (take (advanced n (under_way_in old)).made (calls_of old))) same
    ∙ after-next old.before (calls_of old) old.made n

-- a panel that tells goes on showing what the scene says
pub agrees-on : (tells : Bool) (calls : List PanelCall) (shown told shown' told' : Option Blocks) → IsTrue tells
    → shown' ≡ after_calls true calls shown → told' ≡ after_calls tells calls told → Agrees shown told → Agrees shown' told'
agrees-on tells calls shown told shown' told' tell is-shown is-told agrees =
    subst (λ s. Agrees s told') (sym is-shown)
    (subst (Agrees (after_calls true calls shown)) (sym (is-told ∙ ap (λ t. after_calls t calls told) tell))
    (agree calls shown told agrees))
