-- Where the parts of a bank lie in its bytes.
use Rattle.std.specs.Prelude.{ℕ, ◌≤◌, List, map}
use Rattle.std.specs.List.{slice_range}
use Rattle.bank_journal.specs.declared.content.Span.{Span}
use Rattle.bank_journal.specs.Content.{Content}

-- a span lies within so many bytes
abbrev pub IsWithin : ℕ → Span → Type 0
IsWithin length span = (span.from ≤ span.to) × (span.to ≤ length)

-- the bytes of a span
abbrev pub part_of : List ℕ → Span → List ℕ
part_of bytes span = slice_range bytes span.from span.to

-- the content whose checkpoint and bodies lie there
abbrev pub content_at : List ℕ → Span → List Span → Content
content_at bytes checkpoint bodies =
    record { checkpoint = part_of bytes checkpoint; bodies = map (part_of bytes) bodies }
