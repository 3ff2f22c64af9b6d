-- Cell files that are loaded, and a route that is read.
use Rattle.std.proofs.Common.{◌≡◌, ℕ, ◌+◌, ◌<◌, ◌≤◌, Bool, List, [], ◌∷◌, Result, Ok, Err, arith, drop, get_or, length, map, refl, sym, ◌∙◌, ap, subst}
use Rattle.std.proofs.lemmas.List.{at_drop_all, at_drop_more}
use Rattle.std.specs.Prelude.{IsErrAnd, IsTrue}
use Rattle.chart_model.specs.Answers.{◌>>=◌, or_fault_as}
use Rattle.chart_model.specs.Memory as memory
use Rattle.chart_model.specs.State.{StateValue}
use Rattle.chart_store.specs.Loaded.{Outcome, loaded, nothing_held}
use Rattle.chart_store.specs.declared.fault.TakeFault.{TakeFault}
use Rattle.chart_store.specs.declared.fault.TakeFault.TheVariants as take
use Rattle.chart_store.specs.declared.refusal.Refusal.{Refusal}
use Rattle.route_check.specs.Reading.{route_in}
use Rattle.route_check.specs.declared.fault.RouteFault.{RouteFault}
use Rattle.route_check.specs.declared.fault.RouteFault.TheVariants as of_route
use Rattle.route_check.specs.Report.{report_of}
use Rattle.route_check.specs.declared.danger.Danger.{Danger}
use Rattle.route_check.specs.declared.route.Route.{Route}
use Rattle.chart_model.specs.declared.settings.Settings.{Settings}
use Rattle.session_core.specs.Fetch.{Files}
use Rattle.session_core.specs.Route.{refusal_of_route}
use Rattle.session_core.specs.declared.refusal.LineRefusal.TheVariants.{RouteLine, RouteFew, RouteMany, Store}
use Rattle.chart_picture.specs.End.{Gives, told}
use Rattle.chart_picture.specs.Fetching.{IsFetched, IsRead}
use Rattle.chart_picture.specs.Files.{IsLoadEnd, IsRouteEnd, end_of_route, end_of_store, load_of, loads_from, route_as, taken_as, with_dangers}
use Rattle.chart_picture.specs.declared.run.fault.FileFault.TheVariants as faults
use Rattle.chart_picture.specs.declared.run.end.Place.{Place}
use Rattle.chart_picture.specs.declared.run.end.Place.TheVariants as places
use Rattle.chart_picture.specs.declared.run.end.End.{End}
use Rattle.chart_picture.specs.declared.run.end.End.TheVariants.{ShelfFault}
use Rattle.chart_picture.specs.declared.run.voyage.CheckedRoute.{CheckedRoute}
use Rattle.chart_picture.proofs.Ends.{memory-read, passed-is, refused-read, same-end, same-err, told-up}
use Rattle.chart_picture.proofs.Fetching.{done-read, rose-later}

-- ---- one file

store-taken : (wanted : Result Outcome Refusal) (done : Outcome) → or_fault_as take.Refused wanted ≡ Ok done → wanted ≡ Ok done
store-taken (Ok x) done e = cc
store-taken (Err refusal) done e = absurd cc

store-refused : (wanted : Result Outcome Refusal) (refusal : Refusal)
    → memory.Fails take.NoMemory (take.Refused refusal) (or_fault_as take.Refused wanted) → wanted ≡ Err refusal
store-refused (Ok x) refusal h =
    absurd (let e : ◌≡◌ {A = Result Outcome TakeFault} (Ok x) (Err (take.Refused refusal)) = h (λ same. absurd cc) in cc)
store-refused (Err other) refusal h =
    let e : ◌≡◌ {A = Result Outcome TakeFault} (Err (take.Refused other)) (Err (take.Refused refusal)) = h (λ same. absurd cc) in cc

taken-is : (place : Place) (name : List ℕ) (state : StateValue) (file : List ℕ)
    → taken_as place name state file ≡ (or_fault_as (end_of_store place name) (loaded state file) >>= λ done. Ok done.state)
unfolding taken_as
taken-is place name state file = refl

pub taken-done : (place : Place) (name : List ℕ) (state : StateValue) (file : List ℕ) (done : Outcome)
    → or_fault_as take.Refused (loaded state file) ≡ Ok done → IsRead (Ok done.state) (taken_as place name state file)
taken-done place name state file done e =
    done-read done.state (taken_as place name state file)
    (taken-is place name state file
    ∙ ap (λ (w : Result Outcome Refusal). or_fault_as (end_of_store place name) w >>= λ (d : Outcome). Ok d.state)
    (store-taken (loaded state file) done e))

pub taken-failed : (place : Place) (name : List ℕ) (state : StateValue) (file : List ℕ) (fault : TakeFault) (end : End)
    → memory.Fails take.NoMemory fault (or_fault_as take.Refused (loaded state file)) → IsLoadEnd place name fault end
    → IsRead (Err end) (taken_as place name state file)
taken-failed place name state file (take.Refused refusal) end h refused =
    refused-read place name (faults.Refused (Store refusal)) end (taken_as place name state file) refused
    (taken-is place name state file
    ∙ ap (λ (w : Result Outcome Refusal). or_fault_as (end_of_store place name) w >>= λ (d : Outcome). Ok d.state)
    (store-refused (loaded state file) refusal h))
taken-failed place name state file take.NoMemory end h none = memory-read end (taken_as place name state file) none

-- ---- several files

pub loads-nil : (files : Files) (state : StateValue) (number : ℕ) → loads_from files state number [] ≡ Ok state
unfolding loads_from
loads-nil files state number = refl

pub loads-cons : (files : Files) (state : StateValue) (number : ℕ) (name : List ℕ) (more : List (List ℕ))
    → loads_from files state number (name ∷ more)
    ≡ (load_of files state number name >>= λ next. loads_from files next (number + 1) more)
unfolding loads_from
loads-cons files state number name more = refl

module _ {L N : Type 0} (tells : Bool) (files : L → Files) (faults : L → ℕ) (start : L) (shown : N → List ℕ) (names : List N) where
  -- what the files that are left leave of what is held now, all of them leave of nothing
  abbrev Rest : StateValue → ℕ → ℕ → Type 0
  Rest live number index =
      IsTrue tells → loads_from (files start) live number (map shown (drop index names))
      ≡ loads_from (files start) nothing_held 1 (map shown names)

  abbrev left_behind : ℕ → ℕ → StateValue → Result StateValue End
  left_behind number index next = loads_from (files start) next (number + 1) (map shown (drop (index + 1) names))

  next-rest : (live : StateValue) (number index : ℕ) (name : N) → index < length names → name ≡ get_or names index name
      → Rest live number index → IsTrue tells
      → (load_of (files start) live number (shown name) >>= left_behind number index)
      ≡ loads_from (files start) nothing_held 1 (map shown names)
  next-rest live number index name inside is rest t =
      sym (loads-cons (files start) live number (shown name) (map shown (drop (index + 1) names)))
      ∙ ap (λ (n : N). loads_from (files start) live number (shown n ∷ map shown (drop (index + 1) names))) is
      ∙ sym (at_drop_more (λ (left : List N). loads_from (files start) live number (map shown left)) names index name inside)
      ∙ rest t

  -- one of them is not loaded
  pub load-stops : (before now : L) (live : StateValue) (number index : ℕ) (name : N) (text : List ℕ) (end : End) (r : Result StateValue End)
      → index < length names → name ≡ get_or names index name → text ≡ shown name → (IsTrue tells → files before ≡ files start)
      → faults start ≤ faults before → Rest live number index → IsErrAnd r (λ passed. passed ≡ end)
      → IsFetched tells files faults before now (Err end) (λ fs. load_of fs live number text)
      → IsFetched tells files faults start now r (λ fs. loads_from fs nothing_held 1 (map shown names))
  load-stops before now live number index name text end r inside is read stay late rest passed h =
      subst (λ (q : Result StateValue End). IsFetched tells files faults start now q (λ fs. loads_from fs nothing_held 1 (map shown names)))
      (sym (passed-is r end passed))
      (record {
        found = λ t.
            subst (λ (w : Result StateValue End). Gives {A = StateValue} (Err end) w) (next-rest live number index name inside is rest t)
            (told-up (told end) (load_of (files start) live number (shown name)) (left_behind number index)
            (subst (λ (w : Result StateValue End). Gives {A = StateValue} (Err end) w)
            (ap (λ (fs : Files). load_of fs live number text) (stay t) ∙ ap (load_of (files start) live number) read) (h.found t)));
        ends = h.ends;
        failed = λ f.
            rose-later (faults start) (faults before) (faults now) late
            (h.failed (same-err StateValue end ShelfFault (same-end {A = StateValue} end ShelfFault f)));
        files_stay = λ t. h.files_stay t ∙ stay t;
        later = let further = h.later in omega (arith, late, further);
      })

  -- one of them is loaded
  pub load-goes : (before now : L) (live : StateValue) (number index : ℕ) (name : N) (text : List ℕ) (next : StateValue)
      → index < length names → name ≡ get_or names index name → text ≡ shown name → (IsTrue tells → files before ≡ files start)
      → Rest live number index → IsFetched tells files faults before now (Ok next) (λ fs. load_of fs live number text)
      → Rest next (number + 1) (index + 1)
  load-goes before now live number index name text next inside is read stay rest h t =
      let loaded : load_of (files start) live number (shown name) ≡ Ok next =
      sym (ap (λ (fs : Files). load_of fs live number text) (stay t) ∙ ap (load_of (files start) live number) read) ∙ h.found t in
      ap (λ (w : Result StateValue End). w >>= left_behind number index) (sym loaded) ∙ next-rest live number index name inside is rest t

  -- all of them are loaded
  pub load-ends : (now : L) (live : StateValue) (number index : ℕ) → length names ≤ index → (IsTrue tells → files now ≡ files start)
      → faults start ≤ faults now → Rest live number index
      → IsFetched tells files faults start now (Ok live) (λ fs. loads_from fs nothing_held 1 (map shown names))
  load-ends now live number index outside stay late rest = record {
    found = λ t.
        sym (rest t)
        ∙ at_drop_all (λ (left : List N). loads_from (files start) live number (map shown left)) names index outside
        ∙ loads-nil (files start) live number;
    ends = tt;
    failed = λ f. absurd cc;
    files_stay = stay;
    later = late;
  }

-- ---- the route

route-is : (name bytes : List ℕ) → route_as name bytes ≡ or_fault_as (end_of_route name) (route_in bytes)
unfolding route_as
route-is name bytes = refl

pub route-done : (name bytes : List ℕ) (route : Route) → route_in bytes ≡ Ok route → IsRead (Ok route) (route_as name bytes)
route-done name bytes route h =
    done-read route (route_as name bytes)
    (route-is name bytes ∙ ap (λ (w : Result Route RouteFault). or_fault_as (end_of_route name) w) h)

pub route-refused : (name bytes : List ℕ) (fault : RouteFault) (end : End) → memory.Fails of_route.NoMemory fault (route_in bytes)
    → IsRouteEnd name (refusal_of_route fault) end → IsRead (Err end) (route_as name bytes)
route-refused name bytes (of_route.BadLine line) end h is =
    refused-read places.Route name (faults.Refused (RouteLine line)) end (route_as name bytes) is
    (route-is name bytes ∙ ap (λ (w : Result Route RouteFault). or_fault_as (end_of_route name) w) (h (λ same. absurd cc)))
route-refused name bytes (of_route.Few points) end h is =
    refused-read places.Route name (faults.Refused (RouteFew points)) end (route_as name bytes) is
    (route-is name bytes ∙ ap (λ (w : Result Route RouteFault). or_fault_as (end_of_route name) w) (h (λ same. absurd cc)))
route-refused name bytes (of_route.Many points) end h is =
    refused-read places.Route name (faults.Refused (RouteMany points)) end (route_as name bytes) is
    (route-is name bytes ∙ ap (λ (w : Result Route RouteFault). or_fault_as (end_of_route name) w) (h (λ same. absurd cc)))
route-refused name bytes of_route.NoMemory end h is = memory-read end (route_as name bytes) is

-- a route with the dangers that are found along it
pub checked-is : (settings : Settings) (state : StateValue) (route : Route) (dangers : List Danger)
    → dangers ≡ report_of state settings route
    → ◌≡◌ {A = Result CheckedRoute End} (Ok (with_dangers settings state route)) (Ok (record { route = route; dangers = dangers }))
checked-is settings state route dangers e =
    let checked : List Danger → Result CheckedRoute End = λ d. Ok (record { route = route; dangers = d }) in ap checked (sym e)
