use Rattle.iso8211_records.proofs.KindLaws.{descriptive-shorter, descriptive-listed, records-fit}
use Rattle.iso8211_records.proofs.file.read_all.Goals as goal

pub overflow_sub-at : goal.overflow_sub-at
overflow_sub-at g c = descriptive-shorter _ _ _ _ c.in_ok-descriptors.ensures

pub of-requires : goal.of-requires
of-requires g c = descriptive-listed _ _ _ _ c.in_ok-descriptors.ensures

pub invariant_of-result : goal.invariant_of-result
invariant_of-result g c = records-fit _ _ _ _ _ _ _ (descriptive-listed _ _ _ _ c.in_ok-descriptors.ensures) (rw c.in_ok-wanted.ensures at c.in_ok-records.ensures.read)
