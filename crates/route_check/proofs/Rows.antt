-- What trying every leg with every object gives is the report.
use Rattle.std.proofs.Common.{◌≡◌, inl, ℕ, Bool, cond, List, [], ◌∷◌, Option, Some, None, refl, sym, ap, ◌∙◌, subst}
use Rattle.std.specs.List.{enumerate_from}
use Rattle.std.specs.FinMap as finite
use Rattle.chart_model.specs.declared.name.Name.{Name}
use Rattle.chart_model.specs.declared.cell.Feature.{Feature}
use Rattle.chart_model.specs.declared.settings.Settings.{Settings}
use Rattle.chart_model.specs.declared.state.Holding.{Holding}
use Rattle.chart_model.specs.Cell.{CellValue}
use Rattle.chart_model.specs.Codes.{FEATURE}
use Rattle.chart_model.specs.State.{StateValue, IsState}
use Rattle.chart_model.proofs.Names.{name_cmp-total, name_cmp-IsAntisymmetric}
use Rattle.chart_model.proofs.Keys.{key_cmp-total, key_cmp-IsAntisymmetric}
use Rattle.route_check.specs.declared.danger.Danger.{Danger}
use Rattle.route_check.specs.declared.route.Route.{Route}
use Rattle.route_check.specs.Route.{legs_of}
use Rattle.route_check.specs.Meeting.{meets_shape}
use Rattle.route_check.specs.Object.{ObjectValue}
use Rattle.route_check.specs.Danger.{IsObject, objects_at, objects_on, objects_of}
use Rattle.route_check.specs.Report.{IsRow, IsReport, row_of, row_at, rows_of, report_of}
use Rattle.common_lemmas.proofs.Members.{Has, has_out, has_in, all_pairs}
use Rattle.route_check.proofs.Members.{comes, goes}
use Rattle.route_check.proofs.Numbered.{numbered_out, numbered_again}
use Rattle.route_check.proofs.Held.{entry_held, held_entry}
use Rattle.route_check.proofs.Dangerous.{one_has, object_out, object_in}
use Rattle.route_check.proofs.Meets.{Decides-shape}
use Rattle.route_check.proofs.InOrder.{Above, kind_of, cell_of, report_rises}

module _ (state : StateValue) (settings : Settings) where
  abbrev held_objects : List ℕ × Holding → List ObjectValue
  held_objects e = objects_on settings e.0 e.1.chart

  abbrev feature_objects : List ℕ → CellValue → Name × Feature → List ObjectValue
  feature_objects key cell entry = objects_at settings key cell entry.0.rcid entry.1

  -- where an object comes from
  record IsHeld (o : ObjectValue) : Type 0 where
    pub holding : Holding
    pub held : finite.get state.cells o.key ≡ Some holding
    pub chart : CellValue
    pub charted : holding.chart ≡ Some chart
    pub feature : Feature
    pub there : finite.get chart.features (record { rcnm = FEATURE; rcid = o.rcid }) ≡ Some feature
    pub dangerous : IsObject chart settings feature o.place o.shape

  object_held : IsState state → (o : ObjectValue) → Has o (objects_of settings state) → IsHeld o
  object_held is o h =
      let c = comes held_objects (finite.entries state.cells) o h in
      by c.from c.among c.from.1.chart refl c.gives
    where
      by : (e : List ℕ × Holding) → Has e (finite.entries state.cells) → (chart : Option CellValue) → e.1.chart ≡ chart → Has o (objects_on settings e.0 chart) → IsHeld o
      by e among None charted h = absurd h
      by e among (Some cell) charted h =
          let c = comes (feature_objects e.0 cell) (finite.entries cell.features) o h in
          let of = object_out settings e.0 cell c.from.0.rcid c.from.1 o c.gives in
          let kind = kind_of cell (cell_of state is e among cell charted) c.from c.among in
          let name : c.from.0 ≡ record { rcnm = FEATURE; rcid = o.rcid } = λ i. record { rcnm = kind i; rcid = sym of.rcid_is i } in
          record {
            holding = e.1;
            held = ap (finite.get state.cells) of.key_is ∙ entry_held key_cmp-total key_cmp-IsAntisymmetric state.cells e.0 e.1 among;
            chart = cell;
            charted = charted;
            feature = c.from.1;
            there = ap (finite.get cell.features) (sym name) ∙ entry_held name_cmp-total name_cmp-IsAntisymmetric cell.features c.from.0 c.from.1 c.among;
            dangerous = of.object_is;
          }

  held_object : (o : ObjectValue) → IsHeld o → Has o (objects_of settings state)
  held_object o q =
      goes held_objects (finite.entries state.cells) (o.key, q.holding) o
      (held_entry key_cmp-total key_cmp-IsAntisymmetric state.cells o.key q.holding q.held)
      (subst (λ (chart : Option CellValue). Has o (objects_on settings o.key chart)) (sym q.charted)
      (goes (feature_objects o.key q.chart) (finite.entries q.chart.features) (record { rcnm = FEATURE; rcid = o.rcid }, q.feature) o
      (held_entry name_cmp-total name_cmp-IsAntisymmetric q.chart.features (record { rcnm = FEATURE; rcid = o.rcid }) q.feature q.there)
      (object_in settings o.key q.chart o.rcid q.feature o.place o.shape q.dangerous)))

  module _ (route : Route) where
    row_out : IsState state → (d : Danger) → Has d (report_of state settings route) → IsRow state settings route d
    row_out is d h =
        let objects = objects_of settings state in
        let c = comes (rows_of objects) (enumerate_from 1 (legs_of route)) d h in
        let r = comes (row_at c.from) objects d c.gives in
        let one = one_has (meets_shape c.from.1 r.from.shape) (row_of c.from.0 r.from) d r.gives in
        let numbered = numbered_out (legs_of route) 1 c.from.0 c.from.1 c.among in
        let held = object_held is r.from r.among in
        subst (IsRow state settings route) one.1 (record {
          counted = numbered.from;
          leg = c.from.1;
          on_route = numbered.there;
          holding = held.holding;
          held = held.held;
          chart = held.chart;
          charted = held.charted;
          feature = held.feature;
          there = held.there;
          shape = r.from.shape;
          dangerous = held.dangerous;
          meets = (Decides-shape c.from.1 r.from.shape).0 one.0;
        })

    row_in : (d : Danger) → IsRow state settings route d → Has d (report_of state settings route)
    row_in d row =
        let objects = objects_of settings state in
        let o : ObjectValue = record { key = d.key; rcid = d.rcid; place = d.place; shape = row.shape } in
        let held : IsHeld o = record {
          holding = row.holding;
          held = row.held;
          chart = row.chart;
          charted = row.charted;
          feature = row.feature;
          there = row.there;
          dangerous = row.dangerous;
        } in
        let met = (Decides-shape row.leg row.shape).1 row.meets in
        goes (rows_of objects) (enumerate_from 1 (legs_of route)) (d.leg, row.leg) d
        (numbered_again (legs_of route) 1 d.leg row.leg (record { from = row.counted; there = row.on_route }))
        (goes (row_at (d.leg, row.leg)) objects o d (held_object o held)
        (subst (λ (b : Bool). Has d (cond b (d ∷ []) [])) (sym met) (inl refl)))

    pub report_is : IsState state → IsReport state settings route (report_of state settings route)
    report_is is = record {
      rows = λ d. (λ h. row_out is d (has_out _ d h), λ row. has_in _ d (row_in d row));
      ordered = all_pairs Above _ (report_rises state settings (legs_of route) is);
    }
