use Rattle.std.proofs.Common.{arith, sym}
use Rattle.iso8211_formats.proofs.Fields.{descriptor_of_found}
use Rattle.iso8211_formats.proofs.Stages.{no_parts, long_array, no_labels, no_formats, not_as_many, made}
use Rattle.iso8211_formats.proofs.field.read.Goals as goal

pub returns-in_default : goal.returns-in_default
returns-in_default c = sym (no_parts c.args.field.now (sym c.in_default.ensures))

pub returns-then-array-gt-LONGEST_ARRAY : goal.returns-then-array-gt-LONGEST_ARRAY
returns-then-array-gt-LONGEST_ARRAY c = sym (long_array c.args.field.now _ (sym c.in-Some.ensures) (omega arith))

pub returns-in_default-read_labels : goal.returns-in_default-read_labels
returns-in_default-read_labels c = sym (no_labels c.args.field.now _ (sym c.in-Some.ensures) (sym c.in_default-read_labels.ensures))

pub returns-in_default-read_formats : goal.returns-in_default-read_formats
returns-in_default-read_formats c =
    sym (no_formats c.args.field.now (c.in-Some.array.now, c.in-Some.controls.now) (c.in-Some-read_labels.labels.items, c.in-Some-read_labels.repeats_from) 64 (sym c.in-Some.ensures) (sym c.in-Some-read_labels.ensures) (omega arith) (sym c.in_default-read_formats.ensures))

pub returns-then-len-count : goal.returns-then-len-count
returns-then-len-count c =
    sym (not_as_many c.args.field.now (c.in-Some.array.now, c.in-Some.controls.now) (c.in-Some-read_labels.labels.items, c.in-Some-read_labels.repeats_from) 64 _ (sym c.in-Some.ensures) (sym c.in-Some-read_labels.ensures) (sym c.in-Some-read_formats.ensures) (λ same. c.if-len-count.true (omega arith)))

pub returns : goal.returns
returns c =
    sym (made c.args.field.now (c.in-Some.array.now, c.in-Some.controls.now) (c.in-Some-read_labels.labels.items, c.in-Some-read_labels.repeats_from) 64 _ (sym c.in-Some.ensures) (sym c.in-Some-read_labels.ensures) (sym c.in-Some-read_formats.ensures) (omega arith) (omega arith))

pub invariant_of-result : goal.invariant_of-result
invariant_of-result c =
    let whole = made c.args.field.now (c.in-Some.array.now, c.in-Some.controls.now) (c.in-Some-read_labels.labels.items, c.in-Some-read_labels.repeats_from) 64 _ (sym c.in-Some.ensures) (sym c.in-Some-read_labels.ensures) (sym c.in-Some-read_formats.ensures) (omega arith) (omega arith) in
    (descriptor_of_found c.args.field.now _ whole).is_layout
