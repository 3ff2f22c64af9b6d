-- Counts of faults and of calls, from the beginning of a session on.
use Rattle.std.proofs.Common.{◌≡◌, ⊎_elim, ℕ, zero, suc, ◌+◌, ◌-◌, ◌≤◌, min, nat_eq, false}
use Rattle.std.proofs.Common.{if◌then◌else◌, List, [], ◌∷◌, length, Option, Some, None, IfSome, unwrap_or}
use Rattle.std.proofs.Common.{arith, refl, sym, ap, ◌∙◌}
use Rattle.std.specs.Option.{option_map}
use Rattle.std.proofs.lemmas.Bool.Decides.{nat_tests}
use Rattle.std.proofs.lemmas.Option.{none-some}
use Rattle.chart_ports.specs.Count.{IsSteady, LAST, RoseBy}
use Rattle.panel_port.specs.Panel.{up_to_last}
use Rattle.panel_port.specs.declared.summary.Summary.{Summary}
use Rattle.scene_sync.specs.Calls.{more_calls}
use Rattle.scene_sync.specs.Scene.{UnderWay, made_after, next_calls, progress_of}
use Rattle.scene_sync.specs.declared.progress.Progress.{Progress}

some-more : (more count : ℕ) → more_calls (suc more) count ≡ min (count + suc more) LAST
some-more more count =
    let e : nat_eq (suc more) 0 ≡ false = grind (arith, nat_tests) in
    ap (λ b. if b then count else min (count + suc more) LAST) e

-- a number of calls that stays at its last value tells as much as one that doesn't
pub more-kept : (made more count : ℕ) → more_calls more (more_calls made count) ≡ more_calls (up_to_last (made + more)) count
more-kept zero zero count = let e : zero ≡ up_to_last (zero + zero) = omega arith in ap (λ n. more_calls n count) e
more-kept (suc made) zero count =
    let e : suc (min made (LAST - 1)) ≡ up_to_last (suc made + zero) = omega arith in
    let sum : min (count + suc made) LAST ≡ min (count + suc (min made (LAST - 1))) LAST = omega arith in
    some-more made count
    ∙ sum
    ∙ sym (some-more (min made (LAST - 1)) count)
    ∙ ap (λ n. more_calls n count) e
more-kept zero (suc more) count =
    let e : suc (min more (LAST - 1)) ≡ up_to_last (zero + suc more) = omega arith in
    let sum : min (count + suc more) LAST ≡ min (count + suc (min more (LAST - 1))) LAST = omega arith in
    some-more more count
    ∙ sum
    ∙ sym (some-more (min more (LAST - 1)) count)
    ∙ ap (λ n. more_calls n count) e
more-kept (suc made) (suc more) count =
    let e : suc (min (made + suc more) (LAST - 1)) ≡ up_to_last (suc made + suc more) = omega arith in
    let sum : min (min (count + suc made) LAST + suc more) LAST ≡ min (count + suc (min (made + suc more) (LAST - 1))) LAST =
    omega arith in
    ap (more_calls (suc more)) (some-more made count)
    ∙ some-more more (min (count + suc made) LAST)
    ∙ sum
    ∙ sym (some-more (min (made + suc more) (LAST - 1)) count)
    ∙ ap (λ n. more_calls n count) e

-- what didn't rise up to now didn't rise before
pub steady-before : (much start before now : ℕ) → RoseBy much start before → before ≤ now → IsSteady start now
    → IsSteady start before
steady-before much start before now rose later steady = record {
  same = ⊎_elim (λ rises. omega (arith, steady.same, steady.below)) (λ last. absurd (omega (arith, steady.below))) rose;
  below = omega (arith, steady.below);
}

counted-on : (much start before now made more made' calls called called' : ℕ) → RoseBy much start before → before ≤ now
    → called' ≡ more_calls more called → made' ≡ up_to_last (made + more)
    → (IsSteady start before → called ≡ more_calls made calls) → IsSteady start now → called' ≡ more_calls made' calls
counted-on much start before now made more made' calls called called' rose later more-called more-made known steady =
    more-called
    ∙ ap (more_calls more) (known (steady-before much start before now rose later steady))
    ∙ more-kept made more calls
    ∙ ap (λ n. more_calls n calls) (sym more-made)

-- After the calls of a painting that was answered, what was counted tells how often the panel was called, where it told
-- that before.
pub counted-in : (refresh : Option UnderWay) (before now : Progress) (n much start faults faults₀ faults' : ℕ)
    → (made made₀ made' calls called called₀ called' : ℕ) → option_map progress_of refresh ≡ Some before
    → IfSome refresh (λ it. now ≡ record { done = made_after n it; calls = length it.calls })
    → IfSome refresh (λ it. called' ≡ more_calls (length (next_calls n it)) called₀)
    → faults₀ ≡ faults → called₀ ≡ called → made₀ ≡ made
    → made' ≡ up_to_last (made₀ + (now.done - before.done)) → RoseBy much start faults → faults₀ ≤ faults'
    → (IsSteady start faults → called ≡ more_calls made calls) → IsSteady start faults'
    → called' ≡ more_calls made' calls
counted-in None before now n much start faults faults₀ faults' made made₀ made' calls called called₀ called' is progress counted same same' same'' more rose later known steady =
    absurd (none-some before is)
counted-in (Some it) before now n much start faults faults₀ faults' made made₀ made' calls called called₀ called' is progress counted same same' same'' more rose later known steady =
    let begun : it.made ≡ before.done = ap (λ o. (unwrap_or o before).done) is in
    let ended : now.done ≡ it.made + length (next_calls n it) = ap (λ p. p.done) progress in
    let between : now.done - before.done ≡ length (next_calls n it) = omega (arith, begun, ended) in
    counted-on much start faults faults' made (length (next_calls n it)) made' calls called called' rose
    (omega (arith, same, later))
    (counted ∙ ap (more_calls (length (next_calls n it))) same')
    (more ∙ (λ i. up_to_last (same'' i + between i))) known steady

none-long : {X : Type 0} (xs : List X) → length xs ≡ 0 → xs ≡ []
none-long [] none = refl
none-long (x ∷ xs) none = absurd (omega (arith, none))

-- Where it made no call, and none was made before, the panel has the numbers that it had from the beginning on.
pub first-in : {P : Type 0} (refresh : Option UnderWay) (before now : Progress) (n : ℕ) (panel panel₀ panel' : P)
    → (numbers : P → Summary) (start : Summary) (failures failures₀ made made₀ made' : ℕ)
    → option_map progress_of refresh ≡ Some before
    → IfSome refresh (λ it. now ≡ record { done = made_after n it; calls = length it.calls })
    → IfSome refresh (λ it. next_calls n it ≡ [] → panel' ≡ panel₀)
    → panel₀ ≡ panel → failures₀ ≡ failures → made₀ ≡ made → made' ≡ up_to_last (made₀ + (now.done - before.done))
    → (failures ≡ 0 → made ≡ 0 → numbers panel ≡ start) → failures₀ ≡ 0 → made' ≡ 0 → numbers panel' ≡ start
first-in None before now n panel panel₀ panel' numbers start failures failures₀ made made₀ made' is progress stays same
    same' same'' more known none none' =
    absurd (none-some before is)
first-in (Some it) before now n panel panel₀ panel' numbers start failures failures₀ made made₀ made' is progress stays same
    same' same'' more known none none' =
    let begun : it.made ≡ before.done = ap (λ o. (unwrap_or o before).done) is in
    let ended : now.done ≡ it.made + length (next_calls n it) = ap (λ p. p.done) progress in
    let no-more : length (next_calls n it) ≡ 0 = omega (arith, begun, ended, more, none') in
    let none-yet : made ≡ 0 = omega (arith, same'', more, none') in
    ap numbers (stays (none-long (next_calls n it) no-more) ∙ same) ∙ known (sym same' ∙ none) none-yet
