use Rattle.std.proofs.Common.{None, Some, arith, refl, ◌∙◌}
use Rattle.iso8211_records.proofs.ListedTags.{field_by-none, field_by-some, listed-by}
use Rattle.iso8211_records.proofs.data.read_field.Goals as goal

pub returns-in_default-clause-read : goal.returns-in_default-clause-read
returns-in_default-clause-read c = rw c.requires.ended (field_by-none _ _ _ _ c.in_default.ensures)

pub returns-in_default-clause-taken : goal.returns-in_default-clause-taken
returns-in_default-clause-taken c = rw (listed-by _ _ None c.in_default.ensures) (omega arith)

pub returns-in-Ok-clause-read : goal.returns-in-Ok-clause-read
returns-in-Ok-clause-read c = field_by-some _ _ _ _ _ c.in-Some.ensures ∙ rw c.in-Ok.ensures.read refl

pub returns-in-Ok-clause-taken : goal.returns-in-Ok-clause-taken
returns-in-Ok-clause-taken c = rw (listed-by _ _ (Some _) c.in-Some.ensures) c.in-Ok.ensures.taken

pub returns-in-Err-Unspelled-clause-read : goal.returns-in-Err-Unspelled-clause-read
returns-in-Err-Unspelled-clause-read c = λ _. field_by-some _ _ _ _ _ c.in-Some.ensures ∙ rw (rw c.in-Err-Unspelled.field-0-is at c.in-Err-Unspelled.ensures.read) refl
