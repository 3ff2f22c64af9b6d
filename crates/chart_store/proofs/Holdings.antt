-- What is held, when a cell is put in.
use Rattle.std.proofs.Common.{◌≡◌, ℕ, ◌+◌, ◌-◌, ◌<◌, ◌≤◌, leb, Ok, Err, Bool, true, false, cond, List, [], ◌∷◌}
use Rattle.std.proofs.Common.{◌++◌, length, sum_by, Option, Some, None, arith, refl, sym, ◌∙◌, ap, subst}
use Rattle.std.specs.Cmp.{tied_itself}
use Rattle.std.specs.Prelude.{is_some, map as list_map}
use Rattle.std.proofs.Common.{IfSome}
use Rattle.std.specs.declared.cmp.Ordering.{Ordering}
use Rattle.std.specs.declared.cmp.Ordering.TheVariants.{Less, Equal, Greater}
use Rattle.std.specs.Ordering.{is_eq, eq_by_cmp}
use Rattle.std.specs.FinMap as map
use Rattle.std.proofs.lemmas.List.Sums.{sum_by-append, sum_by-cons}
use Rattle.chart_model.specs.Keys.{key_cmp}
use Rattle.chart_model.specs.State.{StateValue, IsState, IsHolding}
use Rattle.chart_model.specs.declared.state.Holding.{Holding}
use Rattle.chart_model.proofs.Keys.{key_cmp-total, key_cmp-IsAntisymmetric}
use Rattle.chart_model.proofs.Maps.{each-empty, each-insert, each-remove}
use Rattle.chart_model.proofs.Trees.{entries-empty}
use Rattle.update_sequence.specs.declared.effect.Effect.{Effect}
use Rattle.update_sequence.specs.declared.effect.Effect.TheVariants.{Replace, Extend, Cancel}
use Rattle.chart_store.specs.Loaded.{HoldingsByKey, files_of, files_after, bytes_of, live_bytes, STORE_LIMIT, HELD_LIMIT}
use Rattle.chart_store.specs.Loaded.{store_within, nothing_held}
use Rattle.chart_store.specs.Live.{IsLive, AreLive, HasClosedChart, AreClosed, IsCounted, IsStore}
use Rattle.chart_store.specs.Next.{cells_with, CanStand}
use Rattle.chart_store.specs.Taken.{replaced_bytes}
use Rattle.chart_store.specs.declared.refusal.Refusal.TheVariants.{StoreFull}
use Rattle.std.proofs.lemmas.Bool.Decides.{nat_tests}
use Rattle.chart_store.proofs.MapSums.{weight_found, weight-insert, weight-get}

-- ---- bytes

found_bytes : (before : Option Holding) →
    weight_found (λ (here : Holding). bytes_of here.files) before ≡ bytes_of (files_of before)
found_bytes None = refl
found_bytes (Some here) = refl

pub live_bytes-insert : (cells : HoldingsByKey) (key : List ℕ) (here : Holding)
    → live_bytes (map.insert cells key here) + bytes_of (files_of (map.get cells key)) ≡ live_bytes cells + bytes_of
    here.files
live_bytes-insert cells key here =
    ap (λ (n : ℕ). live_bytes (map.insert cells key here) + n) (sym (found_bytes (map.get cells key)))
    ∙ weight-insert key_cmp-total (λ (here : Holding). bytes_of here.files) cells key here

-- no cell's files are more than all
pub bytes_of-le-live_bytes : (cells : HoldingsByKey) (key : List ℕ) →
    bytes_of (files_of (map.get cells key)) ≤ live_bytes cells
bytes_of-le-live_bytes cells key =
    subst (λ (n : ℕ). n ≤ live_bytes cells) (found_bytes (map.get cells key))
    (weight-get (λ (here : Holding). bytes_of here.files) cells key)

pub bytes_of-one : (file : List ℕ) → bytes_of (file ∷ []) ≡ length file
bytes_of-one file = sum_by-cons length file [] ∙ omega arith

pub bytes_of-append : (files : List (List ℕ)) (file : List ℕ) →
    bytes_of (files ++ file ∷ []) ≡ bytes_of files + length file
bytes_of-append files file =
    sum_by-append length files (file ∷ []) ∙ ap (λ (n : ℕ). bytes_of files + n) (bytes_of-one file)

bytes_of-after : (before : Option Holding) (effect : Effect) (file : List ℕ)
    → bytes_of (files_after (files_of before) effect file) + replaced_bytes before effect ≡ bytes_of
    (files_of before) + length file
bytes_of-after before Replace file = omega (arith, bytes_of-one file)
bytes_of-after before Extend file = omega (arith, bytes_of-append (files_of before) file)
bytes_of-after before Cancel file = omega (arith, bytes_of-append (files_of before) file)

pub replaced_bytes-le : (before : Option Holding) (effect : Effect) →
    replaced_bytes before effect ≤ bytes_of (files_of before)
replaced_bytes-le before Replace = omega arith
replaced_bytes-le before Extend = omega arith
replaced_bytes-le before Cancel = omega arith

-- the count of the bytes, with the file and without those that it replaces
pub live_bytes-put : (cells : HoldingsByKey) (key : List ℕ) (effect : Effect) (file : List ℕ) (here : Holding)
    (count : ℕ)
    → count ≡ live_bytes cells → here.files ≡ files_after (files_of (map.get cells key)) effect file
    → live_bytes (map.insert cells key here) ≡ count - replaced_bytes (map.get cells key) effect + length file
live_bytes-put cells key effect file here count counted files =
    omega (
      arith,
      live_bytes-insert cells key here,
      ap bytes_of files,
      bytes_of-after (map.get cells key) effect file,
      bytes_of-le-live_bytes cells key,
      replaced_bytes-le (map.get cells key) effect,
    )

-- ---- maps

pub tied : (r : Ordering) → is_eq r ≡ true → r ≡ Equal
tied Less e = absurd (let f : false ≡ true = e in cc)
tied Equal e = refl
tied Greater e = absurd (let f : false ≡ true = e in cc)

same_key : (key : List ℕ) → eq_by_cmp key_cmp key key ≡ true
same_key key = ap is_eq (tied_itself key_cmp-total key)

-- what is held of the cell once this is put in place
pub get-with : (cells : HoldingsByKey) (key : List ℕ) (holding : Option Holding) →
    map.get (cells_with cells key holding) key ≡ holding
get-with cells key None =
    map.get-remove key_cmp-total cells key key ∙ ap (λ (b : Bool). cond b None (map.get cells key)) (same_key key)
get-with cells key (Some here) =
    map.get-insert key_cmp-total cells key here key ∙ ap (λ (b : Bool). cond b (Some here) (map.get cells key)) (same_key key)

pub get-put : (cells : HoldingsByKey) (key : List ℕ) (here : Holding) → map.get (map.insert cells key here) key ≡ Some here
get-put cells key here = map.get-insert key_cmp-total cells key here key
    ∙ ap (λ (b : Bool). cond b (Some here) (map.get cells key)) (same_key key)

-- a cell that is there, taken out and put in again
pub remove-insert : (cells : HoldingsByKey) (key : List ℕ) (here : Holding) → map.get cells key ≡ Some here →
    map.insert (map.remove cells key) key here ≡ cells
remove-insert cells key here is = map.same_map key_cmp-total key_cmp-IsAntisymmetric _ _ (λ q.
    map.get-insert key_cmp-total (map.remove cells key) key here q
    ∙ elim (eq_by_cmp key_cmp q key) as (λ b. eq_by_cmp key_cmp q key ≡ b → cond b (Some here)
    (map.get (map.remove cells key) q) ≡ map.get cells q) [
      | true ↦ λ e. sym is ∙ map.get_tied key_cmp-total cells q key (tied (key_cmp q key) e)
      | false ↦ λ e. map.get-remove key_cmp-total cells key q ∙ ap (λ (b : Bool). cond b None (map.get cells q)) e
    ] refl)

pub get-taken : (cells : HoldingsByKey) (key : List ℕ) → map.get (map.remove cells key) key ≡ None
get-taken cells key = map.get-remove key_cmp-total cells key key
    ∙ ap (λ (b : Bool). cond b None (map.get cells key)) (same_key key)

-- the bytes without those of a cell that is taken away
pub live_bytes-remove : (cells : HoldingsByKey) (key : List ℕ) (here : Holding) → map.get cells key ≡ Some here →
    live_bytes (map.remove cells key) + bytes_of here.files ≡ live_bytes cells
live_bytes-remove cells key here is =
    omega (
      arith,
      live_bytes-insert (map.remove cells key) key here,
      ap (λ (o : Option Holding). bytes_of (files_of o)) (get-taken cells key),
      ap live_bytes (remove-insert cells key here is),
    )

-- a cell that was found among cells that are these is there
pub found-there : (found cells : HoldingsByKey) (key : List ℕ) (here : Holding) → Some here ≡ map.get found key
    → found ≡ cells → map.get cells key ≡ Some here
found-there found cells key here is same = sym (is ∙ ap (λ (m : HoldingsByKey). map.get m key) same)

pub bytes_of-held : (cells : HoldingsByKey) (key : List ℕ) (here : Holding) → map.get cells key ≡ Some here →
    bytes_of here.files ≤ live_bytes cells
bytes_of-held cells key here is =
    subst (λ (o : Option Holding). bytes_of (files_of o) ≤ live_bytes cells) is (bytes_of-le-live_bytes cells key)

-- ---- states

pub IsState-nothing : IsState nothing_held
IsState-nothing = record { cells = each-empty key_cmp IsHolding }

pub IsCounted-nothing : IsCounted nothing_held 0
IsCounted-nothing = record {
  counted = sym (ap (λ (es : List (List ℕ × Holding)). sum_by (λ (here : Holding). bytes_of here.files)
      (list_map (λ (e : List ℕ × Holding). e.1) es)) (entries-empty key_cmp Holding));
  within = omega arith;
}

pub IsState-insert : (state : StateValue) (key : List ℕ) (here : Holding) → IsState state → IsHolding key here →
    IsState (record { cells = map.insert state.cells key here })
IsState-insert state key here h x =
    record { cells = each-insert key_cmp-total key_cmp-IsAntisymmetric IsHolding state.cells key here h.cells x }

pub AreLive-nothing : AreLive map.empty
AreLive-nothing = each-empty key_cmp IsLive

pub AreLive-insert : (cells : HoldingsByKey) (key : List ℕ) (here : Holding) → AreLive cells → IsLive key here →
    AreLive (map.insert cells key here)
AreLive-insert cells key here h x = each-insert key_cmp-total key_cmp-IsAntisymmetric IsLive cells key here h x

-- ---- a cell put in place, or taken away

pub IsState-with : (state : StateValue) (key : List ℕ) (holding : Option Holding) → IsState state →
    IfSome holding (IsHolding key) → IsState (record { cells = cells_with state.cells key holding })
IsState-with state key None h x = record { cells = each-remove key_cmp-total IsHolding state.cells key h.cells }
IsState-with state key (Some here) h x = IsState-insert state key here h x

pub AreLive-with : (cells : HoldingsByKey) (key : List ℕ) (holding : Option Holding) → AreLive cells →
    IfSome holding (IsLive key) → AreLive (cells_with cells key holding)
AreLive-with cells key None h x = each-remove key_cmp-total IsLive cells key h
AreLive-with cells key (Some here) h x = AreLive-insert cells key here h x

AreClosed-with : (cells : HoldingsByKey) (key : List ℕ) (holding : Option Holding) → AreClosed cells →
    IfSome holding (HasClosedChart key) → AreClosed (cells_with cells key holding)
AreClosed-with cells key None h x = each-remove key_cmp-total HasClosedChart cells key h
AreClosed-with cells key (Some here) h x =
    each-insert key_cmp-total key_cmp-IsAntisymmetric HasClosedChart cells key here h x

pub IsStore-with : (state : StateValue) (key : List ℕ) (holding : Option Holding) (old bytes : ℕ) →
    IsStore state old → CanStand state.cells key holding bytes →
    IsStore (record { cells = cells_with state.cells key holding }) bytes
IsStore-with state key holding old bytes h can = record {
  count = record { counted = can.counted; within = can.within };
  closed = AreClosed-with state.cells key holding h.closed can.closed;
}

-- a cell of which the first files are kept
pub can-keep : (cells : HoldingsByKey) (key : List ℕ) (here next : Holding) (rest : List (List ℕ)) (all own less : ℕ)
    → map.get cells key ≡ Some here → here.files ≡ next.files ++ rest → IsHolding key next → HasClosedChart key next →
    all ≡ live_bytes cells → all ≤ HELD_LIMIT → own ≡ bytes_of here.files → less ≡ bytes_of next.files →
    CanStand cells key (Some next) (all - own + less)
can-keep cells key here next rest all own less there parts holds closed counted within owns keeps =
    let put = live_bytes-insert cells key next in
    let was = ap (λ (o : Option Holding). bytes_of (files_of o)) there in
    let kept = ap bytes_of parts ∙ sum_by-append length next.files rest in
    let held = bytes_of-held cells key here there in
    record {
      holds = holds;
      closed = closed;
      there = λ none. absurd (let f : true ≡ false = none in cc);
      counted = omega (arith, put, was, counted, owns, keeps, held);
      within = omega (arith, counted, within, owns, keeps, held, kept);
    }

-- a cell that is taken away
pub can-drop : (cells : HoldingsByKey) (key : List ℕ) (here : Holding) (all own : ℕ)
    → map.get cells key ≡ Some here → all ≡ live_bytes cells → all ≤ HELD_LIMIT → own ≡ bytes_of here.files →
    CanStand cells key None (all - own)
can-drop cells key here all own there counted within owns = record {
  holds = tt;
  closed = tt;
  there = λ _. ap is_some there;
  counted = omega (arith, live_bytes-remove cells key here there, counted, owns);
  within = omega (arith, within);
}

-- a file that is taken over
pub can-take : (cells : HoldingsByKey) (key : List ℕ) (effect : Effect) (file : List ℕ) (here : Holding) (bytes : ℕ)
    → here.files ≡ files_after (files_of (map.get cells key)) effect file → IsHolding key here →
    HasClosedChart key here → bytes ≡ live_bytes cells - replaced_bytes (map.get cells key) effect + length file → bytes ≤ STORE_LIMIT →
    CanStand cells key (Some here) bytes
can-take cells key effect file here bytes files holds closed counted within = record {
  holds = holds;
  closed = closed;
  there = λ none. absurd (let f : true ≡ false = none in cc);
  counted = counted ∙ sym (live_bytes-put cells key effect file here (live_bytes cells) refl files);
  within = omega (arith, within);
}

pub IsStore-nothing : IsStore nothing_held 0
IsStore-nothing = record { count = IsCounted-nothing; closed = each-empty key_cmp HasClosedChart }

-- ---- limits

pub store_within-full : (cells : HoldingsByKey) (count : ℕ) → live_bytes cells ≡ count → STORE_LIMIT < count →
    store_within cells ≡ Err (StoreFull count)
store_within-full cells count is over =
    ap (λ (n : ℕ). cond (leb n STORE_LIMIT) (Ok (record { cells = cells })) (Err (StoreFull n))) is
    ∙ ap (λ (b : Bool). cond b (Ok (record { cells = cells })) (Err (StoreFull count)))
    (let no : leb count STORE_LIMIT ≡ false = grind (arith, nat_tests) in no)

pub store_within-room : (cells : HoldingsByKey) (count : ℕ) → live_bytes cells ≡ count → count ≤ STORE_LIMIT →
    store_within cells ≡ Ok (record { cells = cells })
store_within-room cells count is within =
    ap (λ (n : ℕ). cond (leb n STORE_LIMIT) (Ok (record { cells = cells })) (Err (StoreFull n))) is
    ∙ ap (λ (b : Bool). cond b (Ok (record { cells = cells })) (Err (StoreFull count)))
    (let yes : leb count STORE_LIMIT ≡ true = grind (arith, nat_tests) in yes)
