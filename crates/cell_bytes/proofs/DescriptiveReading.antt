-- The data descriptive record is read as the layouts of all fields: the reading is computed.
use Rattle.std.proofs.Common.{◌≡◌, List, [], ◌++◌, Ok, refl, sym, subst, ◌∙◌, ap, append-nil, ℕ}
use Rattle.iso8211_leader.specs.Digits.{AreDigits}
use Rattle.iso8211_leader.specs.Leader.{frame_of}
use Rattle.iso8211_leader.specs.Entry.{entry_of}
use Rattle.iso8211_formats.specs.Reading.{at_most, before_end, behind, binary_format, closed_label, count_of, cut_at}
use Rattle.iso8211_formats.specs.Reading.{descriptor_of, digits_and_rest, format_of, format_with, formats_of, grouped_labels}
use Rattle.iso8211_formats.specs.Reading.{item_of, items_of, items_text, labels_of, layout_with, counting_number_of as format_number}
use Rattle.iso8211_formats.specs.Reading.{open_format, parts_of, plain_labels, sized_format}
use Rattle.iso8211_records.specs.Frames.{is_entry, is_leader}
use Rattle.iso8211_records.specs.Reading.{data_records_at, descriptive_record_at, descriptors_in, directory_at, ends_at}
use Rattle.iso8211_records.specs.Reading.{entries_at, leader_at, record_at, spans_at}
use Rattle.iso8211_records.specs.Record.{IsDescriptiveRecord}
use Rattle.iso8211_records.specs.RecordFile.{IsRecordFile, record_file_of}
use Rattle.cell_bytes.specs.Descriptive.{descriptive_record}
use Rattle.cell_bytes.specs.Layouts.{layouts, tags_read}
use Rattle.cell_bytes.specs.Record.{digits, entries, entry, field, field_area, record_bytes, leader_of, record_of}

pub computed : record_file_of tags_read descriptive_record ≡ Ok (record { descriptors = layouts; records = [] })
unfolding record_file_of descriptive_record_at record_at leader_at directory_at entries_at spans_at ends_at descriptors_in data_records_at is_leader is_entry frame_of entry_of AreDigits at_most before_end behind binary_format closed_label count_of cut_at descriptor_of digits_and_rest format_of format_with formats_of grouped_labels item_of items_of items_text labels_of layout_with format_number open_format parts_of plain_labels sized_format descriptive_record record_of record_bytes leader_of entries entry digits field_area field layouts
computed = refl

pub described : IsRecordFile tags_read descriptive_record (record { descriptors = layouts; records = [] })
    → IsDescriptiveRecord tags_read descriptive_record layouts
described file =
    subst (λ (l : List ℕ). IsDescriptiveRecord tags_read l layouts)
    (sym (file.pieces ∙ ap (λ (l : List ℕ). file.first ++ l) file.data_records ∙ append-nil file.first)) file.descriptive
