-- The change that the fields of an update record are.
use Rattle.chart_model.specs.declared.update_record.UpdateRecord.TheInside.{Inside}
use Rattle.chart_model.specs.Change.{Change}

abbrev pub change_of : Inside → Change
change_of fields = record {
  target = fields.target;
  ruin = fields.ruin;
  version = fields.version;
  prim = fields.prim;
  grup = fields.grup;
  class = fields.class;
  foid = fields.foid;
  attrs = fields.attrs;
  pointer_edit = fields.pointer_edit;
  pointers = fields.pointers;
  coord_edit = fields.coord_edit;
  coords = fields.coords;
  related_edit = fields.related_edit;
  related = fields.related;
}
