-- The rows that are found by asking the grids are those of the relation.
use Rattle.std.proofs.Common.{◌≡◌, inl, ℕ, ◌+◌, ◌-◌, Bool, true, cond, List, [], ◌∷◌, ◌++◌, Option, Some, None, refl, sym, ap, ◌∙◌, subst, arith}
use Rattle.std.specs.Prelude.{◌↔◌}
use Rattle.std.specs.List.{Contains, slice_get, flat_map}
use Rattle.std.specs.FinMap as finite
use Rattle.common_lemmas.proofs.Choices.{some_is}
use Rattle.chart_model.specs.declared.name.Name.{Name}
use Rattle.chart_model.specs.declared.cell.Feature.{Feature}
use Rattle.chart_model.specs.declared.settings.Settings.{Settings}
use Rattle.chart_model.specs.declared.state.Holding.{Holding}
use Rattle.chart_model.specs.Cell.{CellValue}
use Rattle.chart_model.specs.Codes.{FEATURE}
use Rattle.chart_model.specs.State.{StateValue, IsState}
use Rattle.chart_model.proofs.Names.{name_cmp-total, name_cmp-IsAntisymmetric}
use Rattle.chart_model.proofs.Keys.{key_cmp-total, key_cmp-IsAntisymmetric}
use Rattle.route_geometry.specs.declared.leg.Leg.{Leg}
use Rattle.route_check.specs.declared.asks.Ask.{Ask}
use Rattle.route_check.specs.declared.danger.Danger.{Danger}
use Rattle.route_check.specs.declared.route.Route.{Route}
use Rattle.route_check.specs.Route.{legs_of}
use Rattle.route_check.specs.Meeting.{meets_shape}
use Rattle.route_check.specs.Object.{ObjectValue}
use Rattle.route_check.specs.Danger.{IsObject}
use Rattle.route_check.specs.Grids.{GridValue, GridsValue, IsAsked}
use Rattle.route_check.specs.Report.{IsRow, row_of, row_at, rows_of}
use Rattle.route_check.specs.Ask.{objects_of_found, objects_named, rows_with, rows_asked, IsAsk, IsRowOn, IsRowUnder}
use Rattle.common_lemmas.proofs.Members.{Has, has_out, has_in}
use Rattle.route_check.proofs.Members.{comes, goes}
use Rattle.route_check.proofs.Held.{entry_held, held_entry}
use Rattle.route_check.proofs.Dangerous.{one_has, object_out, object_in}
use Rattle.route_check.proofs.Meets.{Decides-shape}
use Rattle.route_check.proofs.InOrder.{kind_of, cell_of}
use Rattle.route_check.specs.Gains.{Gains}
use Rattle.route_check.proofs.Gaining.{GivenBy, AreGiven, gains_list, gains_same, joined_out, joined_in}

module _ (settings : Settings) (key : List ℕ) (cell : CellValue) where
  -- the object is one of the feature of the name
  record IsNamed (name : Name) (o : ObjectValue) : Type 0 where
    feature : Feature
    there : finite.get cell.features name ≡ Some feature
    key_is : o.key ≡ key
    rcid_is : o.rcid ≡ name.rcid
    object_is : IsObject cell settings feature o.place o.shape

  named_out : (name : Name) (o : ObjectValue) → Has o (objects_named settings key cell name) → IsNamed name o
  named_out name o h = by (finite.get cell.features name) refl h
    where
      by : (found : Option Feature) → finite.get cell.features name ≡ found → Has o (objects_of_found settings key cell name.rcid found) → IsNamed name o
      by None is h = absurd h
      by (Some feature) is h =
          let of = object_out settings key cell name.rcid feature o h in
          record { feature = feature; there = is; key_is = of.key_is; rcid_is = of.rcid_is; object_is = of.object_is }

  -- the row is that of an object of the feature, which the leg meets
  record IsMet (route : Route) (ask : Ask) (d : Danger) : Type 0 where
    leg : Leg
    on_route : slice_get (legs_of route) ask.before ≡ Some leg
    object : ObjectValue
    named : IsNamed ask.name object
    met : meets_shape leg object.shape ≡ true
    row : row_of (ask.before + 1) object ≡ d

  met_out : (route : Route) (ask : Ask) (d : Danger) → Has d (rows_asked settings key cell route ask) → IsMet route ask d
  met_out route ask d h = by (slice_get (legs_of route) ask.before) refl h
    where
      by : (found : Option Leg) → slice_get (legs_of route) ask.before ≡ found → Has d (rows_with (objects_named settings key cell ask.name) ask.before found) → IsMet route ask d
      by None is h = absurd h
      by (Some leg) is h =
          let c = comes (row_at (ask.before + 1, leg)) (objects_named settings key cell ask.name) d h in
          let one = one_has (meets_shape leg c.from.shape) (row_of (ask.before + 1) c.from) d c.gives in
          record { leg = leg; on_route = is; object = c.from; named = named_out ask.name c.from c.among; met = one.0; row = one.1 }

module _ (grids : GridsValue) (state : StateValue) (settings : Settings) (route : Route) where
  abbrev IsWanted : Danger → Type 0
  IsWanted d = IsRow state settings route d × IsAsked grids route d

  -- what an entry of the state gives
  abbrev pub IsEntryRow : List ℕ × Holding → Danger → Type 0
  IsEntryRow entry d = IsRowUnder grids settings route entry.0 entry.1.chart d

  wanted_of : (key : List ℕ) (holding : Holding) (cell : CellValue) (grid : GridValue) (ask : Ask) (d : Danger)
      → finite.get state.cells key ≡ Some holding → holding.chart ≡ Some cell → finite.get grids key ≡ Some grid
      → IsAsk grid route ask → ask.name.rcnm ≡ FEATURE → IsMet settings key cell route ask d → IsWanted d
  wanted_of key holding cell grid ask d held charted there asked kind m =
      let o = m.object in
      let named = m.named in
      let name : ask.name ≡ record { rcnm = FEATURE; rcid = o.rcid } = λ i. record { rcnm = kind i; rcid = sym named.rcid_is i } in
      let number : (ask.before + 1) - 1 ≡ ask.before = omega arith in
      subst IsWanted m.row (
        record {
          counted = omega arith;
          leg = m.leg;
          on_route = ap (slice_get (legs_of route)) number ∙ m.on_route;
          holding = holding;
          held = ap (finite.get state.cells) named.key_is ∙ held;
          chart = cell;
          charted = charted;
          feature = named.feature;
          there = ap (finite.get cell.features) (sym name) ∙ named.there;
          shape = o.shape;
          dangerous = named.object_is;
          meets = (Decides-shape m.leg o.shape).0 m.met;
        },
        record {
          leg = asked.leg;
          on_route = ap (slice_get (legs_of route)) number ∙ asked.on_route;
          grid = grid;
          there = ap (finite.get grids) named.key_is ∙ there;
          candidate = record {
            box = asked.candidate.box;
            there = ap (finite.get grid) (sym name) ∙ asked.candidate.there;
            meets = asked.candidate.meets;
          };
        },
      )

  wanted : IsState state → (entry : List ℕ × Holding) → Has entry (finite.entries state.cells) → (d : Danger) → IsEntryRow entry d → IsWanted d
  wanted is entry among d under =
      let on = under.row in
      let m = met_out settings entry.0 under.cell route on.ask d (has_out _ d on.row) in
      let cell = cell_of state is entry among under.cell under.charted in
      let kind =
      kind_of under.cell cell (on.ask.name, m.named.feature) (held_entry name_cmp-total name_cmp-IsAntisymmetric under.cell.features on.ask.name m.named.feature m.named.there) in
      wanted_of entry.0 entry.1 under.cell under.grid on.ask d
      (entry_held key_cmp-total key_cmp-IsAntisymmetric state.cells entry.0 entry.1 among)
      under.charted under.there on.asked kind m

  given : (d : Danger) → IsWanted d → GivenBy IsEntryRow (finite.entries state.cells) d
  given d w =
      let row = w.0 in
      let asked = w.1 in
      let ask : Ask = record { name = record { rcnm = FEATURE; rcid = d.rcid }; before = d.leg - 1 } in
      let o : ObjectValue = record { key = d.key; rcid = d.rcid; place = d.place; shape = row.shape } in
      let number : (d.leg - 1) + 1 ≡ d.leg = omega (arith, row.counted) in
      let made : row_of ((d.leg - 1) + 1) o ≡ d = λ i. record { leg = number i; key = d.key; rcid = d.rcid; place = d.place } in
      let met = (Decides-shape row.leg row.shape).1 row.meets in
      let object : Has o (objects_named settings d.key row.chart ask.name) =
      subst (λ (found : Option Feature). Has o (objects_of_found settings d.key row.chart d.rcid found)) (sym row.there)
      (object_in settings d.key row.chart d.rcid row.feature d.place row.shape row.dangerous) in
      let tried : Has d (rows_of (objects_named settings d.key row.chart ask.name) ((d.leg - 1) + 1, row.leg)) =
      goes (row_at ((d.leg - 1) + 1, row.leg)) (objects_named settings d.key row.chart ask.name) o d object
      (subst (λ (b : Bool). Has d (cond b (row_of ((d.leg - 1) + 1) o ∷ []) [])) (sym met) (inl made)) in
      let there : Has d (rows_asked settings d.key row.chart route ask) =
      subst (λ (found : Option Leg). Has d (rows_with (objects_named settings d.key row.chart ask.name) (d.leg - 1) found)) (sym row.on_route) tried in
      record {
        by = (d.key, row.holding);
        among = held_entry key_cmp-total key_cmp-IsAntisymmetric state.cells d.key row.holding row.held;
        gives = record {
          cell = row.chart;
          charted = row.charted;
          grid = asked.grid;
          there = asked.there;
          row = record {
            ask = ask;
            asked = record {
              leg = asked.leg;
              on_route = asked.on_route;
              candidate = asked.candidate;
            };
            row = has_in _ d there;
          };
        };
      }

  -- the rows that all entries give
  pub rows_are_wanted : IsState state → (rows : List Danger) → AreGiven IsEntryRow (finite.entries state.cells) rows
      → (d : Danger) → Contains rows d ↔ (IsRow state settings route d × IsAsked grids route d)
  rows_are_wanted is rows all d = (
    λ h. let g = (all d).0 h in wanted is g.by g.among d g.gives,
    λ w. (all d).1 (given d w),
  )

-- ---- what a chart adds

pub chart_gains : (grid : GridValue) (settings : Settings) (key : List ℕ) (cell : CellValue) (route : Route) (asks : List Ask) (old new : List Danger)
    → ((ask : Ask) → Contains asks ask ↔ IsAsk grid route ask) → new ≡ old ++ flat_map (rows_asked settings key cell route) asks
    → Gains (IsRowOn grid settings key cell route) old new
chart_gains grid settings key cell route asks old new all e =
    gains_list (IsRowOn grid settings key cell route) old new (flat_map (rows_asked settings key cell route) asks) e (λ d. (
      λ h.
          let g = joined_out (rows_asked settings key cell route) asks d h in
          record { ask = g.from; asked = (all g.from).0 g.among; row = g.gives },
      λ on. joined_in (rows_asked settings key cell route) asks on.ask d ((all on.ask).1 on.asked) on.row,
    ))

module _ (grids : GridsValue) (settings : Settings) (route : Route) (key : List ℕ) where
  pub held_gains : (chart : Option CellValue) (cell : CellValue) (grid : GridValue) (old new : List Danger) → chart ≡ Some cell → finite.get grids key ≡ Some grid
      → Gains (IsRowOn grid settings key cell route) old new → Gains (IsRowUnder grids settings route key chart) old new
  held_gains chart cell grid old new charted there =
      gains_same (IsRowOn grid settings key cell route) (IsRowUnder grids settings route key chart) old new (λ d. (
        λ on. record { cell = cell; charted = charted; grid = grid; there = there; row = on },
        λ under. here d under,
      ))
    where
      here : (d : Danger) → IsRowUnder grids settings route key chart d → IsRowOn grid settings key cell route d
      here d under =
          let cells : under.cell ≡ cell = some_is under.cell cell (sym under.charted ∙ charted) in
          let both : under.grid ≡ grid = some_is under.grid grid (sym under.there ∙ there) in
          subst (λ (g : GridValue). IsRowOn g settings key cell route d) both
          (subst (λ (c : CellValue). IsRowOn under.grid settings key c route d) cells under.row)
