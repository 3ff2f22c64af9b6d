use Rattle.std.proofs.Common.{◌≡◌, length, filter}
use Rattle.std.specs.Str.{bytes_eq}
use Rattle.s57_subfields.proofs.row_fields.from_first.Given as goal

-- the fields that were passed over have other tags
abbrev pub invariant-loop-first : goal.invariant-loop-first
invariant-loop-first l =
    filter (λ field. bytes_eq field.tag l.tag) l.rest ≡ filter (λ field. bytes_eq field.tag l.tag) l.fn.fields

abbrev pub decreases-loop-first : goal.decreases-loop-first
decreases-loop-first l = length l.rest
