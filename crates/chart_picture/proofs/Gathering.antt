-- What a picture is drawn from is gathered, one after the other.
use Rattle.std.proofs.Common.{◌≡◌, ℕ, Bool, List, Option, Result, Ok, Err, refl}
use Rattle.std.specs.Prelude.{IsErrAnd}
use Rattle.chart_model.specs.Answers.{◌>>=◌}
use Rattle.chart_model.specs.State.{StateValue}
use Rattle.chart_store.specs.Loaded.{nothing_held}
use Rattle.colour_table.specs.declared.swatch.Swatch.{Swatch}
use Rattle.lookup_table.specs.declared.line.TableLine.{TableLine}
use Rattle.session_core.specs.Fetch.{Files}
use Rattle.picture_words.specs.Reading.{PictureValue}
use Rattle.chart_picture.specs.Fetching.{IsFetched}
use Rattle.chart_picture.specs.Files.{checked_in, loads_from}
use Rattle.chart_picture.specs.Material.{material_in}
use Rattle.chart_ports.specs.Fetched.{fetched_of}
use Rattle.chart_picture.specs.Tables.{TABLES_LIMIT, colours_by, colours_in, table_in}
use Rattle.chart_picture.specs.declared.run.end.End.{End}
use Rattle.chart_picture.specs.declared.run.material.Material.{Material}
use Rattle.chart_picture.specs.declared.run.voyage.CheckedRoute.{CheckedRoute}
use Rattle.chart_picture.proofs.Fetching.{done-read, named, reworded, stop, then-fetch, then-read}

abbrev with_checked : List TableLine → List Swatch → StateValue → Option CheckedRoute → Result Material End
with_checked table colours live checked = Ok (record { table = table; colours = colours; live = live; checked = checked })

abbrev with_live : PictureValue → List TableLine → List Swatch → Files → StateValue → Result Material End
with_live words table colours files live =
    checked_in files words.settings live words.route >>= with_checked table colours live

abbrev with_colours : PictureValue → List TableLine → Files → List Swatch → Result Material End
with_colours words table files colours =
    loads_from files nothing_held 1 words.files >>= with_live words table colours files

abbrev with_table : PictureValue → Files → List TableLine → Result Material End
with_table words files table = colours_in files words >>= with_colours words table files

material-is : (words : PictureValue) (files : Files) → material_in files words ≡ (table_in files words >>= with_table words files)
unfolding material_in
material-is words files = refl

module _ {L : Type 0} (tells : Bool) (files : L → Files) (faults : L → ℕ) (words : PictureValue) where
  abbrev Gathered : L → L → Result Material End → Type 0
  Gathered before now answer = IsFetched tells files faults before now answer (λ fs. material_in fs words)

  abbrev whole : (before now : L) (answer : Result Material End)
      → IsFetched tells files faults before now answer (λ fs. table_in fs words >>= with_table words fs) → Gathered before now answer
  whole before now answer h = reworded tells files faults before now answer _ _ (material-is words) h

  pub no-table : (before now : L) (end : End) (r : Result Material End) → IsErrAnd r (λ passed. passed ≡ end)
      → IsFetched tells files faults before now (Err end) (λ fs. table_in fs words) → Gathered before now r
  no-table before now end r passed h =
      whole before now r (stop tells files faults before now (λ fs. table_in fs words) (with_table words) end r passed h)

  pub behind-table : (before mid now : L) (table : List TableLine) (r : Result Material End)
      → IsFetched tells files faults before mid (Ok table) (λ fs. table_in fs words)
      → IsFetched tells files faults mid now r (λ fs. with_table words fs table) → Gathered before now r
  behind-table before mid now table r h k =
      whole before now r (then-fetch tells files faults before mid now (λ fs. table_in fs words) (with_table words) table r h k)

  pub no-colours : (before now : L) (table : List TableLine) (end : End) (r : Result Material End) → IsErrAnd r (λ passed. passed ≡ end)
      → IsFetched tells files faults before now (Err end) (λ fs. colours_in fs words)
      → IsFetched tells files faults before now r (λ fs. with_table words fs table)
  no-colours before now table end r passed h =
      stop tells files faults before now (λ fs. colours_in fs words) (with_colours words table) end r passed h

  pub behind-colours : (before mid now : L) (table : List TableLine) (colours : List Swatch) (r : Result Material End)
      → IsFetched tells files faults before mid (Ok colours) (λ fs. colours_in fs words)
      → IsFetched tells files faults mid now r (λ fs. with_colours words table fs colours)
      → IsFetched tells files faults before now r (λ fs. with_table words fs table)
  behind-colours before mid now table colours r h k =
      then-fetch tells files faults before mid now (λ fs. colours_in fs words) (with_colours words table) colours r h k

  pub no-live : (before now : L) (table : List TableLine) (colours : List Swatch) (end : End) (r : Result Material End)
      → IsErrAnd r (λ passed. passed ≡ end)
      → IsFetched tells files faults before now (Err end) (λ fs. loads_from fs nothing_held 1 words.files)
      → IsFetched tells files faults before now r (λ fs. with_colours words table fs colours)
  no-live before now table colours end r passed h =
      stop tells files faults before now (λ fs. loads_from fs nothing_held 1 words.files) (with_live words table colours) end r passed h

  pub behind-live : (before mid now : L) (table : List TableLine) (colours : List Swatch) (live : StateValue) (r : Result Material End)
      → IsFetched tells files faults before mid (Ok live) (λ fs. loads_from fs nothing_held 1 words.files)
      → IsFetched tells files faults mid now r (λ fs. with_live words table colours fs live)
      → IsFetched tells files faults before now r (λ fs. with_colours words table fs colours)
  behind-live before mid now table colours live r h k =
      then-fetch tells files faults before mid now (λ fs. loads_from fs nothing_held 1 words.files) (with_live words table colours) live r h k

  pub no-checked : (before now : L) (table : List TableLine) (colours : List Swatch) (live : StateValue) (end : End)
      (r : Result Material End) → IsErrAnd r (λ passed. passed ≡ end)
      → IsFetched tells files faults before now (Err end) (λ fs. checked_in fs words.settings live words.route)
      → IsFetched tells files faults before now r (λ fs. with_live words table colours fs live)
  no-checked before now table colours live end r passed h =
      stop tells files faults before now (λ fs. checked_in fs words.settings live words.route)
      (λ fs. with_checked table colours live) end r passed h

  pub with-all : (before now : L) (table : List TableLine) (colours : List Swatch) (live : StateValue) (checked : Option CheckedRoute)
      → IsFetched tells files faults before now (Ok checked) (λ fs. checked_in fs words.settings live words.route)
      → IsFetched tells files faults before now (with_checked table colours live checked) (λ fs. with_live words table colours fs live)
  with-all before now table colours live checked h =
      then-read tells files faults before now (λ fs. checked_in fs words.settings live words.route)
      (with_checked table colours live) checked (with_checked table colours live checked) h
      (done-read _ (with_checked table colours live checked) refl)

  -- ---- what is asked for, in the words of each call

  -- of the file of this name
  pub shown-colours : (before now : L) (answer : Result (List Swatch) End) (name : List ℕ) → name ≡ words.colours
      → IsFetched tells files faults before now answer (λ fs. colours_by (fetched_of TABLES_LIMIT (fs name)))
      → IsFetched tells files faults before now answer (λ fs. colours_in fs words)
  shown-colours before now answer name is h =
      named tells files faults before now answer (λ (shown : List ℕ) (fs : Files). colours_by (fetched_of TABLES_LIMIT (fs shown)))
      name words.colours is h

  -- of the files of these names
  pub shown-live : (before now : L) (answer : Result StateValue End) (names : List (List ℕ)) → names ≡ words.files
      → IsFetched tells files faults before now answer (λ fs. loads_from fs nothing_held 1 names)
      → IsFetched tells files faults before now answer (λ fs. loads_from fs nothing_held 1 words.files)
  shown-live before now answer names is h =
      named tells files faults before now answer (λ (shown : List (List ℕ)) (fs : Files). loads_from fs nothing_held 1 shown)
      names words.files is h

  -- of the route of this name, over what is held
  pub shown-checked : (before now : L) (answer : Result (Option CheckedRoute) End) (state live : StateValue) (route : Option (List ℕ))
      → state ≡ live → route ≡ words.route
      → IsFetched tells files faults before now answer (λ fs. checked_in fs words.settings state route)
      → IsFetched tells files faults before now answer (λ fs. checked_in fs words.settings live words.route)
  shown-checked before now answer state live route held is h =
      named tells files faults before now answer (λ (shown : StateValue) (fs : Files). checked_in fs words.settings shown words.route)
      state live held
      (named tells files faults before now answer (λ (shown : Option (List ℕ)) (fs : Files). checked_in fs words.settings state shown)
      route words.route is h)
