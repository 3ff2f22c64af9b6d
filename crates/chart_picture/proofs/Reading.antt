-- What files say.
use Rattle.std.proofs.Common.{◌≡◌, ℕ, Option, Some, None, Result, Ok, Err, refl, sym, ◌∙◌, ap, subst}
use Rattle.std.specs.Prelude.{List, unwrap_or}
use Rattle.chart_model.specs.Memory as memory
use Rattle.object_catalogue.specs.Codes.{CatalogueValue}
use Rattle.object_catalogue.specs.Reading.{catalogue_in}
use Rattle.object_catalogue.specs.declared.fault.CatalogueFault.{CatalogueFault}
use Rattle.object_catalogue.specs.declared.fault.CatalogueFault.TheVariants as of_catalogue
use Rattle.lookup_table.specs.Lines as lookup
use Rattle.lookup_table.specs.declared.fault.TableFault as of_lookup
use Rattle.lookup_table.specs.declared.fault.TableFault.TheVariants as of_table
use Rattle.lookup_table.specs.declared.line.TableLine.{TableLine}
use Rattle.colour_table.specs.Reading as colours
use Rattle.colour_table.specs.declared.fault.ColoursFault.{ColoursFault}
use Rattle.colour_table.specs.declared.fault.ColoursFault.TheVariants as of_colours
use Rattle.colour_table.specs.declared.swatch.Swatch.{Swatch}
use Rattle.chart_picture.specs.Fetching.{IsRead}
use Rattle.chart_picture.specs.Tables.{catalogue_of, colours_of, end_by, fault_of_catalogue, fault_of_colours, fault_of_table, lines_of, or_faulty}
use Rattle.chart_picture.specs.declared.run.fault.TableFault.{TableFault}
use Rattle.chart_picture.specs.declared.run.fault.TableFault.TheVariants.{Absent}
use Rattle.chart_picture.specs.declared.run.end.End.{End}
use Rattle.chart_picture.specs.declared.run.end.End.TheVariants.{Tables}
use Rattle.chart_picture.proofs.Ends.{memory-read}
use Rattle.chart_picture.proofs.Fetching.{done-read}

-- a fault below is the end of its row
row-read : {A E : Type 0} (which : ℕ) (fault_of : E → Option TableFault) (silent fault : E) (wanted : Result A E)
    (end : End) (row : Option TableFault) → fault_of silent ≡ None → memory.Fails silent fault wanted → fault_of fault ≡ row
    → end ≡ end_by which row → IsRead {A = A} (Err end) (or_faulty which fault_of wanted)
row-read {A = A} which fault_of silent fault wanted end None none h e is = memory-read end (or_faulty which fault_of wanted) is
row-read {A = A} {E = E} which fault_of silent fault wanted end (Some x) none h e is =
    subst (λ (n : End). IsRead {A = A} (Err n) (or_faulty which fault_of wanted)) (sym is)
    (record {
      read =
          ap (λ (w : Result A E). or_faulty which fault_of w)
          (h (λ same. let f : ◌≡◌ {A = Option TableFault} (Some x) None = sym e ∙ ap fault_of same ∙ none in cc))
          ∙ ap (λ (o : Option TableFault). Err (Tables which (unwrap_or o Absent))) e;
      ends = refl;
    })

-- ---- the catalogue

catalogue-is : (bytes : List ℕ) → catalogue_of bytes ≡ or_faulty 0 fault_of_catalogue (catalogue_in bytes)
unfolding catalogue_of
catalogue-is bytes = refl

pub catalogue-done : (bytes : List ℕ) (value : CatalogueValue) → catalogue_in bytes ≡ Ok value → IsRead (Ok value) (catalogue_of bytes)
catalogue-done bytes value h =
    done-read value (catalogue_of bytes)
    (catalogue-is bytes ∙ ap (λ (w : Result CatalogueValue CatalogueFault). or_faulty 0 fault_of_catalogue w) h)

pub catalogue-refused : (bytes : List ℕ) (fault : CatalogueFault) (end : End) → memory.Fails of_catalogue.NoMemory fault (catalogue_in bytes)
    → end ≡ end_by 0 (fault_of_catalogue fault) → IsRead (Err end) (catalogue_of bytes)
catalogue-refused bytes fault end h is =
    subst (λ (w : Result CatalogueValue End). IsRead (Err end) w) (sym (catalogue-is bytes))
    (row-read 0 fault_of_catalogue of_catalogue.NoMemory fault (catalogue_in bytes) end (fault_of_catalogue fault) refl h refl is)

-- ---- the table

lines-is : (catalogue : CatalogueValue) (bytes : List ℕ)
    → lines_of catalogue bytes ≡ or_faulty 1 fault_of_table (lookup.table_in catalogue bytes)
unfolding lines_of
lines-is catalogue bytes = refl

pub lines-done : (catalogue : CatalogueValue) (bytes : List ℕ) (value : List TableLine) → lookup.table_in catalogue bytes ≡ Ok value
    → IsRead (Ok value) (lines_of catalogue bytes)
lines-done catalogue bytes value h =
    done-read value (lines_of catalogue bytes)
    (lines-is catalogue bytes ∙ ap (λ (w : Result (List TableLine) of_lookup.TableFault). or_faulty 1 fault_of_table w) h)

pub lines-refused : (catalogue : CatalogueValue) (bytes : List ℕ) (fault : of_lookup.TableFault) (end : End)
    → memory.Fails of_table.NoMemory fault (lookup.table_in catalogue bytes)
    → end ≡ end_by 1 (fault_of_table fault) → IsRead (Err end) (lines_of catalogue bytes)
lines-refused catalogue bytes fault end h is =
    subst (λ (w : Result (List TableLine) End). IsRead (Err end) w) (sym (lines-is catalogue bytes))
    (row-read 1 fault_of_table of_table.NoMemory fault (lookup.table_in catalogue bytes) end (fault_of_table fault) refl h refl is)

-- ---- the colours

colours-is : (bytes : List ℕ) → colours_of bytes ≡ or_faulty 2 fault_of_colours (colours.colours_in bytes)
unfolding colours_of
colours-is bytes = refl

pub colours-done : (bytes : List ℕ) (value : List Swatch) → colours.colours_in bytes ≡ Ok value → IsRead (Ok value) (colours_of bytes)
colours-done bytes value h =
    done-read value (colours_of bytes)
    (colours-is bytes ∙ ap (λ (w : Result (List Swatch) ColoursFault). or_faulty 2 fault_of_colours w) h)

pub colours-refused : (bytes : List ℕ) (fault : ColoursFault) (end : End) → memory.Fails of_colours.NoMemory fault (colours.colours_in bytes)
    → end ≡ end_by 2 (fault_of_colours fault) → IsRead (Err end) (colours_of bytes)
colours-refused bytes fault end h is =
    subst (λ (w : Result (List Swatch) End). IsRead (Err end) w) (sym (colours-is bytes))
    (row-read 2 fault_of_colours of_colours.NoMemory fault (colours.colours_in bytes) end (fault_of_colours fault) refl h refl is)
