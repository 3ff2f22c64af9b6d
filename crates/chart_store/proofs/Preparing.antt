-- A cell that was not held stands in its place, and leaves it again.
use Rattle.std.proofs.Common.{◌≡◌, ℕ, ◌≤◌, Bool, true, false, cond, List, Option, Some, None, IsSome}
use Rattle.std.proofs.Common.{refl, sym, ◌∙◌, ap}
use Rattle.std.specs.Prelude.{is_some}
use Rattle.std.specs.Ordering.{eq_by_cmp}
use Rattle.std.specs.FinMap as map
use Rattle.chart_model.specs.Keys.{key_cmp}
use Rattle.chart_model.specs.declared.state.Holding.{Holding}
use Rattle.chart_model.proofs.Keys.{key_cmp-total, key_cmp-IsAntisymmetric}
use Rattle.chart_store.specs.Loaded.{HoldingsByKey, live_bytes, HELD_LIMIT}
use Rattle.chart_store.specs.Next.{cells_with, CanStand}
use Rattle.chart_store.proofs.Holdings.{get-put, tied}

none_there : (o : Option Holding) → is_some o ≡ false → o ≡ None
none_there None e = refl
none_there (Some here) e = absurd (let f : true ≡ false = e in cc)

-- a cell that is not there, put in and taken out again
insert-remove : (cells : HoldingsByKey) (key : List ℕ) (here : Holding) → map.get cells key ≡ None →
    map.remove (map.insert cells key here) key ≡ cells
insert-remove cells key here is = map.same_map key_cmp-total key_cmp-IsAntisymmetric _ _ (λ q.
    map.get-remove key_cmp-total (map.insert cells key here) key q
    ∙ elim (eq_by_cmp key_cmp q key) as (λ b. eq_by_cmp key_cmp q key ≡ b → cond b None
    (map.get (map.insert cells key here) q) ≡ map.get cells q) [
      | true ↦ λ e. sym is ∙ map.get_tied key_cmp-total cells q key (tied (key_cmp q key) e)
      | false ↦ λ e. map.get-insert key_cmp-total cells key here q
          ∙ ap (λ (b : Bool). cond b (Some here) (map.get cells q)) e
    ] refl)

there-not : (cells : HoldingsByKey) (key : List ℕ) → map.contains_key cells key ≡ false →
    IsSome (map.get cells key) → true ≡ false
there-not cells key absent there = sym there ∙ absent

pub put-taken : (cells : HoldingsByKey) (key : List ℕ) (holding : Option Holding) (bytes : ℕ) →
    map.contains_key cells key ≡ false → CanStand cells key holding bytes →
    map.remove (cells_with cells key holding) key ≡ cells
put-taken cells key None bytes absent stands =
    absurd (let f : true ≡ false = there-not cells key absent (stands.there refl) in cc)
put-taken cells key (Some here) bytes absent stands =
    insert-remove cells key here (none_there (map.get cells key) absent)

put-there : (cells : HoldingsByKey) (key : List ℕ) (holding : Option Holding) (bytes : ℕ) →
    map.contains_key cells key ≡ false → CanStand cells key holding bytes →
    IsSome (map.get (cells_with cells key holding) key)
put-there cells key None bytes absent stands =
    absurd (let f : true ≡ false = there-not cells key absent (stands.there refl) in cc)
put-there cells key (Some here) bytes absent stands = ap is_some (get-put cells key here)

-- it can be given up
pub can-give_up : (cells : HoldingsByKey) (key : List ℕ) (holding : Option Holding) (bytes before : ℕ) →
    map.contains_key cells key ≡ false → CanStand cells key holding bytes → before ≡ live_bytes cells →
    before ≤ HELD_LIMIT → CanStand (cells_with cells key holding) key None before
can-give_up cells key holding bytes before absent stands counted within = record {
  holds = tt;
  closed = tt;
  there = λ _. put-there cells key holding bytes absent stands;
  counted = counted ∙ sym (ap live_bytes (put-taken cells key holding bytes absent stands));
  within = within;
}
