-- Reading a directory, an entry at a time.
use Rattle.std.proofs.Common.{◌≡◌, ℕ, zero, suc, ◌-◌, ◌+◌, ◌≤◌, ◌<◌, true, false, List, [], ◌∷◌, ◌++◌, Result, Ok, Err, refl, sym, ap, ◌∙◌, append_assoc, ltb, leb, arith, inl, inr}
use Rattle.std.specs.Prelude.{◌&&◌}
use Rattle.std.proofs.lemmas.List.{append-nil}
use Rattle.std.proofs.lemmas.Bool.{cases_lt}
use Rattle.std.proofs.lemmas.Bool.Decides.{nat_tests}
use Rattle.iso8211_leader.specs.Leader.{Frame}
use Rattle.iso8211_leader.specs.Entry.{HasEntry, entry_size, entry_of, entry_text}
use Rattle.iso8211_leader.specs.declared.entry.Entry.{Entry}
use Rattle.iso8211_records.specs.declared.fault.FileFault.{FileFault}
use Rattle.iso8211_records.specs.declared.fault.FileFault.TheVariants.{Directory}
use Rattle.iso8211_records.specs.Frames.{is_entry}
use Rattle.chart_model.specs.Answers.{◌>>=◌}
use Rattle.iso8211_records.specs.Reading.{entries_at, has_closing}
use Rattle.iso8211_records.proofs.PassedTests.{both, both_parts, le-test, le-is}
use Rattle.iso8211_records.proofs.FrameTests.{is_entry-is, is_entry-from}

-- what was read, behind what was read before it
abbrev pub behind : {A : Type 0} → List A → Result (List A) FileFault → Result (List A) FileFault
behind front read = read >>= λ more. Ok (front ++ more)

pub join : {A : Type 0} (front : List A) (item : A) (read : Result (List A) FileFault) → behind front (read >>= λ items. Ok (item ∷ items)) ≡ behind (front ++ item ∷ []) read
join front item (Err fault) = refl
join {A} front item (Ok items) = ap (λ (all : List A). Ok all) (sym (append_assoc front (item ∷ []) items))

pub nothing-before : {A : Type 0} (read : Result (List A) FileFault) → behind [] read ≡ read
nothing-before (Err fault) = refl
nothing-before (Ok items) = refl

pub lt-test : (a b : ℕ) → a < b → ltb a b ≡ true
lt-test a b h = grind (arith, nat_tests)

pub ge-test : (a b : ℕ) → b ≤ a → ltb a b ≡ false
ge-test a b h = grind (arith, nat_tests)

-- a bound on the entries is enough where it is more than what is left of the directory
pub entries_at-bound : (bound other at : ℕ) (frame : Frame) (bytes : List ℕ) (place : ℕ) → frame.base - 1 - place < bound → frame.base - 1 - place < other → entries_at bound at frame bytes place ≡ entries_at other at frame bytes place
unfolding entries_at
entries_at-bound zero other at frame bytes place enough enough_too = absurd (omega arith)
entries_at-bound (suc bound) zero at frame bytes place enough enough_too = absurd (omega arith)
entries_at-bound (suc bound) (suc other) at frame bytes place enough enough_too =
    elim (cases_lt place (frame.base - 1)) [
      | inl left ↦ rw (entries_at-bound bound other at frame bytes (place + entry_size frame) (omega arith) (omega arith)) refl
      | inr done ↦ rw (ge-test place (frame.base - 1) done) refl
    ]

-- the tests of an entry
pub entry-tests : (frame : Frame) (bytes : List ℕ) (place : ℕ) → HasEntry frame bytes 0 place → (leb (place + entry_size frame) (frame.base - 1) && is_entry frame (entry_text frame bytes place)) ≡ true
entry-tests frame bytes place h =
    both _ _ (le-test _ _ (let b = h.before_closing in omega arith)) (is_entry-from frame (entry_text frame bytes place) h.entry)

pub entry-from-tests : (frame : Frame) (bytes : List ℕ) (place : ℕ) → (leb (place + entry_size frame) (frame.base - 1) && is_entry frame (entry_text frame bytes place)) ≡ true → HasEntry frame bytes 0 place
entry-from-tests frame bytes place h =
    let p = both_parts (leb (place + entry_size frame) (frame.base - 1)) (is_entry frame (entry_text frame bytes place)) h in
    let low : place + entry_size frame ≤ frame.base - 1 = le-is _ _ p.0 in
    record { before_closing = omega arith; entry = is_entry-is frame (entry_text frame bytes place) p.1 }

-- one entry
pub entries_at-step : (bound at : ℕ) (frame : Frame) (bytes : List ℕ) (place : ℕ) → place < frame.base - 1 → frame.base - 1 - place < bound → HasEntry frame bytes 0 place
    → entries_at bound at frame bytes place ≡ (entries_at bound at frame bytes (place + entry_size frame) >>= λ entries. Ok (entry_of frame (entry_text frame bytes place) ∷ entries))
unfolding entries_at
entries_at-step zero at frame bytes place left enough h = absurd (omega arith)
entries_at-step (suc bound) at frame bytes place left enough h =
    let same : entries_at bound at frame bytes (place + entry_size frame) ≡ entries_at (suc bound) at frame bytes (place + entry_size frame) =
    entries_at-bound bound (suc bound) at frame bytes (place + entry_size frame) (omega arith) (omega arith) in
    rw (lt-test place (frame.base - 1) left, entry-tests frame bytes place h)
    (ap (λ (read : Result (List Entry) FileFault). read >>= λ entries. Ok (entry_of frame (entry_text frame bytes place) ∷ entries)) same)

-- or none
pub entries_at-stop : (bound at : ℕ) (frame : Frame) (bytes : List ℕ) (place : ℕ) → place < frame.base - 1 → (HasEntry frame bytes 0 place → ⊥) → entries_at bound at frame bytes place ≡ Err (Directory (at + place))
unfolding entries_at
entries_at-stop zero at frame bytes place left none = refl
entries_at-stop (suc bound) at frame bytes place left none =
    let test : (leb (place + entry_size frame) (frame.base - 1) && is_entry frame (entry_text frame bytes place)) ≡ false =
    elim (leb (place + entry_size frame) (frame.base - 1) && is_entry frame (entry_text frame bytes place))
    as (λ b. (leb (place + entry_size frame) (frame.base - 1) && is_entry frame (entry_text frame bytes place)) ≡ b → b ≡ false) [
      | true ↦ λ e. absurd (none (entry-from-tests frame bytes place e))
      | false ↦ λ e. refl
    ] refl in
    rw (lt-test place (frame.base - 1) left, test) refl

-- the closing byte
pub entries_at-closed : (bound at : ℕ) (frame : Frame) (bytes : List ℕ) (place : ℕ) → frame.base - 1 ≤ place → 0 < bound → has_closing bytes place ≡ true → entries_at bound at frame bytes place ≡ Ok []
unfolding entries_at
entries_at-closed zero at frame bytes place done some is = absurd (omega arith)
entries_at-closed (suc bound) at frame bytes place done some is =
    rw (ge-test place (frame.base - 1) done, is) refl

pub entries_at-open : (bound at : ℕ) (frame : Frame) (bytes : List ℕ) (place : ℕ) → frame.base - 1 ≤ place → has_closing bytes place ≡ false → entries_at bound at frame bytes place ≡ Err (Directory (at + place))
unfolding entries_at
entries_at-open zero at frame bytes place done open_there = refl
entries_at-open (suc bound) at frame bytes place done open_there = rw (ge-test place (frame.base - 1) done, open_there) refl

-- ---- the loop

pub directory-more : (at : ℕ) (front : List Entry) (frame : Frame) (bytes : List ℕ) (place : ℕ) (entry : Entry) (total : Result (List Entry) FileFault)
    → place < frame.base - 1 → HasEntry frame bytes 0 place → entry ≡ entry_of frame (entry_text frame bytes place)
    → behind front (entries_at frame.base at frame bytes place) ≡ total → behind (front ++ entry ∷ []) (entries_at frame.base at frame bytes (place + entry_size frame)) ≡ total
directory-more at front frame bytes place entry total left h is so_far =
    let one = entries_at-step frame.base at frame bytes place left (omega arith) h in
    let named : entries_at frame.base at frame bytes place ≡ (entries_at frame.base at frame bytes (place + entry_size frame) >>= λ entries. Ok (entry ∷ entries)) = one ∙ rw (← is) refl in
    sym (join front entry (entries_at frame.base at frame bytes (place + entry_size frame))) ∙ ap (behind front) (sym named) ∙ so_far

pub directory-none : (at : ℕ) (front : List Entry) (frame : Frame) (bytes : List ℕ) (place : ℕ) (total : Result (List Entry) FileFault)
    → place < frame.base - 1 → (HasEntry frame bytes 0 place → ⊥) → behind front (entries_at frame.base at frame bytes place) ≡ total → total ≡ Err (Directory (at + place))
directory-none at front frame bytes place total left none so_far = sym so_far ∙ ap (behind front) (entries_at-stop frame.base at frame bytes place left none)

pub directory-closed : (at : ℕ) (front : List Entry) (frame : Frame) (bytes : List ℕ) (place : ℕ) (total : Result (List Entry) FileFault)
    → frame.base - 1 ≤ place → 0 < frame.base → has_closing bytes place ≡ true → behind front (entries_at frame.base at frame bytes place) ≡ total → total ≡ Ok front
directory-closed at front frame bytes place total done some is so_far =
    sym so_far ∙ ap (behind front) (entries_at-closed frame.base at frame bytes place done some is) ∙ ap (λ (es : List Entry). Ok es) (append-nil front)

pub directory-open : (at : ℕ) (front : List Entry) (frame : Frame) (bytes : List ℕ) (place : ℕ) (total : Result (List Entry) FileFault)
    → frame.base - 1 ≤ place → has_closing bytes place ≡ false → behind front (entries_at frame.base at frame bytes place) ≡ total → total ≡ Err (Directory (at + place))
directory-open at front frame bytes place total done open_there so_far = sym so_far ∙ ap (behind front) (entries_at-open frame.base at frame bytes place done open_there)
