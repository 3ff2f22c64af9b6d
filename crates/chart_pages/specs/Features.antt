-- Feature records (S-57 Part 3, FRID and FOID).
use Rattle.std.specs.Prelude.{ℕ, ◌<◌, ◌^◌, ◌==◌, nat_le, Bool, ◌&&◌, ◌||◌, List, ◌++◌}
use Rattle.std.specs.Int.{w16, w32}
use Rattle.std.specs.List.{list_all}
use Rattle.std.specs.FinMap as map
use Rattle.chart_model.specs.declared.name.Name.{Name}
use Rattle.chart_model.specs.declared.name.Foid.{Foid}
use Rattle.chart_model.specs.declared.record.Pointer.{Pointer}
use Rattle.chart_model.specs.declared.record.Related.{Related}
use Rattle.chart_model.specs.declared.cell.Feature.{Feature}
use Rattle.chart_model.specs.Attrs.{Attrs}
use Rattle.chart_model.specs.Codes.{AREA, FEATURE, NO_PRIMITIVE, NULL, POINT}
use Rattle.page_parts.specs.Reader.{Reader, seen_as, that, then_at}
use Rattle.page_parts.specs.Numbers.{byte, byte_at, number, number_at}
use Rattle.page_parts.specs.Lists.{AreInRange, counted_list, counted_list_at}
use Rattle.page_parts.specs.Pointers.{IsPointerInRange, pointer, pointer_at}
use Rattle.page_parts.specs.RelatedObjects.{IsFoidInRange, IsRelatedInRange, foid, foid_at}
use Rattle.page_parts.specs.RelatedObjects.{related_object, related_object_at}
use Rattle.page_parts.specs.Attributes.{IsEntryInRange, attributes, attributes_at}

-- RCID, PRIM, GRUP, class and version, the identifier, attributes, related objects and pointers
unfoldable pub feature_record : Name × Feature → List ℕ
feature_record entry =
    number w32 entry.0.rcid ++ byte entry.1.prim ++ byte entry.1.grup ++ number w16 entry.1.class
    ++ number w16 entry.1.version ++ foid entry.1.foid ++ attributes entry.1.attrs
    ++ counted_list related_object entry.1.related ++ counted_list pointer entry.1.pointers

-- each number is within its width, and so is the number of each list's parts
pub record IsFeatureInRange (entry : Name × Feature) : Type 0 where
  pub rcid : entry.0.rcid < 2 ^ 32
  pub grup : entry.1.grup < 256
  pub class : entry.1.class < 2 ^ 16
  pub version : entry.1.version < 2 ^ 16
  pub foid : IsFoidInRange entry.1.foid
  pub attrs : AreInRange IsEntryInRange (map.entries entry.1.attrs)
  pub related : AreInRange IsRelatedInRange entry.1.related
  pub pointers : AreInRange IsPointerInRange entry.1.pointers

-- ---- read

abbrev pub feature_name : ℕ → Name
feature_name rcid = record { rcnm = FEATURE; rcid = rcid }

unfoldable pub feature_name_at : Reader Name
feature_name_at bytes = seen_as feature_name (number_at w32) bytes

-- a point, a line, an area or none of these
abbrev pub is_prim : ℕ → Bool
is_prim prim = (nat_le POINT prim && nat_le prim AREA) || (prim == NO_PRIMITIVE)

unfoldable pub prim_at : Reader ℕ
prim_at bytes = that is_prim byte_at bytes

-- no pointer says which end of an edge it names
abbrev pub have_no_topology : List Pointer → Bool
have_no_topology pointers = list_all (λ value. value.topi == NULL) pointers

unfoldable pub feature_pointers_at : Reader (List Pointer)
feature_pointers_at bytes = that have_no_topology (counted_list_at pointer_at) bytes

abbrev pub Fields : Type 0
Fields = Name × (ℕ × (ℕ × (ℕ × (ℕ × (Foid × (Attrs × (List Related × List Pointer)))))))

abbrev pub feature_of : Fields → Name × Feature
feature_of fields = (
  fields.0,
  record {
    prim = fields.1.0;
    grup = fields.1.1.0;
    class = fields.1.1.1.0;
    version = fields.1.1.1.1.0;
    foid = fields.1.1.1.1.1.0;
    attrs = fields.1.1.1.1.1.1.0;
    related = fields.1.1.1.1.1.1.1.0;
    pointers = fields.1.1.1.1.1.1.1.1;
  },
)

unfoldable pub feature_at : Reader (Name × Feature)
feature_at bytes =
    seen_as feature_of
    (then_at feature_name_at (then_at prim_at (then_at byte_at (then_at (number_at w16) (then_at (number_at w16)
    (then_at foid_at (then_at attributes_at (then_at (counted_list_at related_object_at) feature_pointers_at))))))))
    bytes
