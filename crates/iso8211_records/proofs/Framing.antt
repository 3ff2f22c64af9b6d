-- The frame of a record, step by step.
use Rattle.std.proofs.Common.{◌≡◌, ℕ, ◌+◌, ◌≤◌, Bool, true, false, cond, List, [], ◌∷◌, length, take, Option, Some, None, Result, Ok, Err, refl, leb}
use Rattle.std.specs.List.{AllByRecursion}
use Rattle.iso8211_leader.specs.Leader.{Frame, HasLeader, frame_of}
use Rattle.iso8211_leader.specs.Entry.{entry_size}
use Rattle.iso8211_leader.specs.declared.entry.Entry.{Entry}
use Rattle.iso8211_records.specs.declared.fault.FileFault.{FileFault}
use Rattle.iso8211_records.specs.declared.fault.FileFault.TheVariants.{Leader, Span}
use Rattle.iso8211_records.specs.Frames.{is_leader}
use Rattle.iso8211_records.specs.Record.{IsInside}
use Rattle.iso8211_records.specs.Reading.{unless_at, place_without, is_inside, leader_at, directory_at, spans_at, ends_at, record_at}
use Rattle.iso8211_records.proofs.FrameTests.{is_leader-is, is_leader-from}
use Rattle.iso8211_records.proofs.Results.{cond_ok}
use Rattle.iso8211_records.proofs.PassedTests.{le-is}

-- ---- leaders

pub leader_at-none : (first : Bool) (at : ℕ) (bytes : List ℕ) → (HasLeader first (take 24 bytes) → ⊥) → leader_at first at bytes ≡ Err (Leader at)
unfolding leader_at
leader_at-none first at bytes none =
    elim (is_leader first (take 24 bytes)) as (λ b. is_leader first (take 24 bytes) ≡ b → cond {A = Result Frame FileFault} b (Ok (frame_of (take 24 bytes))) (Err (Leader at)) ≡ Err (Leader at)) [
      | true ↦ λ e. absurd (none (is_leader-is first (take 24 bytes) e))
      | false ↦ λ e. refl
    ] refl

pub leader_at-some : (first : Bool) (at : ℕ) (bytes : List ℕ) (frame : Frame) → HasLeader first (take 24 bytes) → frame ≡ frame_of (take 24 bytes) → leader_at first at bytes ≡ Ok frame
unfolding leader_at
leader_at-some first at bytes frame leader says = rw (is_leader-from first (take 24 bytes) leader, says) refl

-- ---- the steps of a record

pub record_at-leader : (fault : FileFault) (tags : List (List ℕ)) (first : Bool) (at : ℕ) (bytes : List ℕ) → leader_at first at bytes ≡ Err fault → record_at tags first at bytes ≡ Err fault
unfolding record_at
record_at-leader fault tags first at bytes h = rw h refl

pub record_at-directory : (fault : FileFault) (tags : List (List ℕ)) (first : Bool) (at : ℕ) (bytes : List ℕ) (frame : Frame) → leader_at first at bytes ≡ Ok frame
    → directory_at at frame bytes ≡ Err fault → record_at tags first at bytes ≡ Err fault
unfolding record_at
record_at-directory fault tags first at bytes frame leader h = rw (leader, h) refl

pub record_at-spans : (fault : FileFault) (tags : List (List ℕ)) (first : Bool) (at : ℕ) (bytes : List ℕ) (frame : Frame) (entries : List Entry) → leader_at first at bytes ≡ Ok frame → directory_at at frame bytes ≡ Ok entries
    → spans_at at frame bytes entries ≡ Err fault → record_at tags first at bytes ≡ Err fault
unfolding record_at
record_at-spans fault tags first at bytes frame entries leader directory h = rw (leader, directory, h) refl

pub record_at-ends : (fault : FileFault) (tags : List (List ℕ)) (first : Bool) (at : ℕ) (bytes : List ℕ) (frame : Frame) (entries : List Entry) → leader_at first at bytes ≡ Ok frame → directory_at at frame bytes ≡ Ok entries
    → spans_at at frame bytes entries ≡ Ok tt → ends_at tags at frame bytes entries ≡ Err fault → record_at tags first at bytes ≡ Err fault
unfolding record_at
record_at-ends fault tags first at bytes frame entries leader directory spans h = rw (leader, directory, spans, h) refl

pub record_at-all : (tags : List (List ℕ)) (first : Bool) (at : ℕ) (bytes : List ℕ) (frame : Frame) (entries : List Entry) → leader_at first at bytes ≡ Ok frame → directory_at at frame bytes ≡ Ok entries
    → spans_at at frame bytes entries ≡ Ok tt → ends_at tags at frame bytes entries ≡ Ok tt → record_at tags first at bytes ≡ Ok (record { frame = frame; entries = entries })
unfolding record_at
record_at-all tags first at bytes frame entries leader directory spans ends = rw (leader, directory, spans, ends) refl

-- ---- what the spans say

-- where no place fails, each passes
pub place_without-none : (passes : Entry → Bool) (P : Entry → Type 0) (size place : ℕ) (entries : List Entry) → ((entry : Entry) → passes entry ≡ true → P entry) → place_without passes size place entries ≡ None → AllByRecursion P entries
place_without-none passes P size place [] is h = tt
place_without-none passes P size place (entry ∷ entries) is h =
    elim (passes entry) as (λ b. passes entry ≡ b → cond b (place_without passes size (place + size) entries) (Some place) ≡ None → AllByRecursion P (entry ∷ entries)) [
      | true ↦ λ e k. (is entry e, place_without-none passes P size (place + size) entries is k)
      | false ↦ λ e k. absurd cc
    ] refl h

unless_at-ok : (fault : ℕ → FileFault) (o : Option ℕ) → unless_at fault o ≡ Ok tt → o ≡ None
unless_at-ok fault None h = refl
unless_at-ok fault (Some place) h = absurd cc

pub spans_at-whole : (at : ℕ) (frame : Frame) (bytes : List ℕ) (entries : List Entry) → spans_at at frame bytes entries ≡ Ok tt → frame.length ≤ length bytes
unfolding spans_at
spans_at-whole at frame bytes entries h =
    le-is _ _ (cond_ok (leb frame.length (length bytes)) (unless_at (λ place. Span (at + place)) (place_without (is_inside frame) (entry_size frame) 24 entries)) (Span at) tt h).0

pub spans_at-inside : (at : ℕ) (frame : Frame) (bytes : List ℕ) (entries : List Entry) → spans_at at frame bytes entries ≡ Ok tt → AllByRecursion (IsInside frame) entries
unfolding spans_at
spans_at-inside at frame bytes entries h =
    let p = cond_ok (leb frame.length (length bytes)) (unless_at (λ place. Span (at + place)) (place_without (is_inside frame) (entry_size frame) 24 entries)) (Span at) tt h in
    place_without-none (is_inside frame) (IsInside frame) (entry_size frame) 24 entries (λ entry e. le-is _ _ e) (unless_at-ok _ _ p.1)
