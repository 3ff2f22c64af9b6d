-- Records that are written, as they are read (ISO/IEC 8211, records).
use Rattle.std.specs.Prelude.{◌≡◌, ℕ, false, List, map}
use Rattle.iso8211_leader.specs.Leader.{Frame}
use Rattle.iso8211_leader.specs.declared.entry.Entry.{Entry}
use Rattle.iso8211_records.specs.Record.{IsRecord, field_bytes}
use Rattle.cell_bytes.specs.Record.{Field}

-- the bytes are a data record whose directory names these fields in their order, each by its tag and with its bytes
pub record HasFields (tags : List (List ℕ)) (bytes : List ℕ) (fields : List Field) : Type 0 where
  pub frame : Frame
  pub entries : List Entry
  pub is_record : IsRecord tags false bytes frame entries
  pub named : map (λ entry. (entry.tag, field_bytes frame bytes entry)) entries ≡ fields
