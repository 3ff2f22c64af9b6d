-- The directory that is read stands in the record, and the one that stands there is read; and the same of the first place
-- where there is none.
use Rattle.std.proofs.Common.{◌≡◌, ◌≢◌, ℕ, zero, suc, ◌-◌, ◌+◌, ◌*◌, ◌≤◌, ◌<◌, true, false, List, [], ◌∷◌, ◌++◌, length, get_or, take, drop, Some, Result, Ok, Err, refl, sym, ap, ◌∙◌, subst, ltb, leb, eqb, arith, inl, inr}
use Rattle.std.specs.Prelude.{◌&&◌, ◌⊎◌, slice_get}
use Rattle.std.specs.List.{slice_range}
use Rattle.std.proofs.Math.Seq.{take-append_seam, drop-append_seam}
use Rattle.std.proofs.lemmas.List.{append-nil, length-append, length-take, length-drop, take-take, drop-drop, take-append-drop, drop-take}
use Rattle.std.proofs.lemmas.Bool.{cases_lt}
use Rattle.std.proofs.lemmas.Option.{slice_get-get_or, slice_get_within, get_or_from_slice_get}
use Rattle.iso8211_leader.specs.Leader.{Frame}
use Rattle.iso8211_leader.specs.Entry.{IsEntry, HasEntry, entry_size, entry_of, entry_text}
use Rattle.iso8211_leader.specs.declared.entry.Entry.{Entry}
use Rattle.iso8211_records.specs.declared.fault.FileFault.{FileFault}
use Rattle.iso8211_records.specs.declared.fault.FileFault.TheVariants.{Directory}
use Rattle.iso8211_records.specs.Frames.{is_entry}
use Rattle.iso8211_records.specs.Record.{IsDirectory}
use Rattle.chart_model.specs.Answers.{◌>>=◌}
use Rattle.iso8211_records.specs.Reading.{entries_at, has_closing}
use Rattle.iso8211_records.proofs.PassedTests.{both, both_parts, lt-is, eq-test, eq-is}
use Rattle.iso8211_records.proofs.Directory.{lt-test, entries_at-step, entries_at-stop, entries_at-closed, entries_at-open, entry-from-tests, entry-tests, behind, nothing-before}

-- the text between two places: its front, and what stands behind that
pub front-text : (bytes : List ℕ) (place size end : ℕ) → place + size ≤ end → take size (slice_range bytes place end) ≡ take size (drop place bytes)
front-text bytes place size end inside = take-take size (end - place) (drop place bytes) (omega arith)

pub rest-text : (bytes : List ℕ) (place size end : ℕ) → place + size ≤ end → drop size (slice_range bytes place end) ≡ slice_range bytes (place + size) end
rest-text bytes place size end inside =
    let e : end - place ≡ size + (end - (place + size)) = omega arith in
    rw e (drop-take size (end - (place + size)) (drop place bytes) ∙ ap (λ (l : List ℕ). take (end - (place + size)) l) (drop-drop size place bytes))

pub cut-text : (bytes : List ℕ) (place size end : ℕ) → place + size ≤ end → slice_range bytes place end ≡ take size (drop place bytes) ++ slice_range bytes (place + size) end
cut-text bytes place size end inside =
    sym (take-append-drop size (slice_range bytes place end)) ∙ rw (front-text bytes place size end inside, rest-text bytes place size end inside) refl

pub no-text : (bytes : List ℕ) (place end : ℕ) → end ≤ place → slice_range bytes place end ≡ []
no-text bytes place end done = let e : end - place ≡ 0 = omega arith in rw e refl

pub text-length : (bytes : List ℕ) (place end : ℕ) → end ≤ length bytes → length (slice_range bytes place end) ≡ end - place
text-length bytes place end inside = omega (arith, length-take (end - place) (drop place bytes), length-drop place bytes)

-- the closing byte
pub has_closing-is : (bytes : List ℕ) (place : ℕ) → has_closing bytes place ≡ true → slice_get bytes place ≡ Some 30
has_closing-is bytes place h =
    let p = both_parts (ltb place (length bytes)) (eqb (get_or bytes place 0) 30) h in
    slice_get-get_or bytes place 0 (lt-is _ _ p.0) ∙ ap (λ byte. Some byte) (eq-is _ _ p.1)

pub has_closing-from : (bytes : List ℕ) (place : ℕ) → slice_get bytes place ≡ Some 30 → has_closing bytes place ≡ true
has_closing-from bytes place h = both _ _ (lt-test _ _ (slice_get_within bytes place 30 h)) (eq-test _ _ (get_or_from_slice_get bytes place 30 0 h))

pub has_closing-not : (bytes : List ℕ) (place : ℕ) → slice_get bytes place ≢ Some 30 → has_closing bytes place ≡ false
has_closing-not bytes place other =
    elim (has_closing bytes place) as (λ b. has_closing bytes place ≡ b → b ≡ false) [
      | true ↦ λ e. absurd (other (has_closing-is bytes place e))
      | false ↦ λ e. refl
    ] refl

-- an entry at the front of the text between two places
pub record IsNext (frame : Frame) (bytes : List ℕ) (place end : ℕ) (front rest : List ℕ) : Type 0 where
  pub inside : place + entry_size frame ≤ end
  pub entry : HasEntry frame bytes 0 place
  pub front_is : entry_text frame bytes place ≡ front
  pub rest_is : slice_range bytes (place + entry_size frame) end ≡ rest

-- the text is an entry and a rest
next-entry : (frame : Frame) (bytes : List ℕ) (place end : ℕ) (front rest : List ℕ) → end ≤ frame.base - 1 → length (slice_range bytes place end) ≡ end - place
    → slice_range bytes place end ≡ front ++ rest → IsEntry frame front → IsNext frame bytes place end front rest
next-entry frame bytes place end front rest low len parts h =
    let size : length front ≡ entry_size frame = h.whole in
    let sum : length (slice_range bytes place end) ≡ length front + length rest = ap length parts ∙ length-append front rest in
    let inside : place + entry_size frame ≤ end = place-inside place end (entry_size frame) (length rest) (sym len ∙ sum ∙ ap (λ n. n + length rest) size) (entry-some frame) in
    let front_is : take (entry_size frame) (slice_range bytes place end) ≡ front = rw (parts, ← size) (take-append_seam front rest) in
    let rest_is : drop (entry_size frame) (slice_range bytes place end) ≡ rest = rw (parts, ← size) (drop-append_seam front rest) in
    let text_is : entry_text frame bytes place ≡ front = sym (front-text bytes place (entry_size frame) end inside) ∙ front_is in
    record {
      inside = inside;
      entry = record { before_closing = omega arith; entry = subst (λ (text : List ℕ). IsEntry frame text) (sym text_is) h };
      front_is = text_is;
      rest_is = sym (rest-text bytes place (entry_size frame) end inside) ∙ rest_is;
    }
  where
    place-inside : (place end size more : ℕ) → end - place ≡ size + more → 4 ≤ size → place + size ≤ end
    place-inside place end size more e some = omega arith

    entry-some : (frame : Frame) → 4 ≤ entry_size frame
    entry-some frame = omega arith

-- ---- over a directory

-- a directory's entries have so many bytes
pub IsDirectory-length : (frame : Frame) (entries : List Entry) (text : List ℕ) → IsDirectory frame entries text → length text ≡ entry_size frame * length entries
IsDirectory-length frame [] text h = rw h (omega arith)
IsDirectory-length frame (entry ∷ entries) text h =
    let others = IsDirectory-length frame entries h.1 h.5 in
    let first = let e : IsEntry frame h.0 = h.3 in e.whole in
    let len : length text ≡ length h.0 + length h.1 = ap length h.2 ∙ length-append h.0 h.1 in
    let sum : entry_size frame * suc (length entries) ≡ entry_size frame + entry_size frame * length entries = mul-more (entry_size frame) (length entries) in
    len ∙ ap (λ n. n + length h.1) first ∙ ap (λ n. entry_size frame + n) others ∙ sym sum
  where
    mul-more : (a b : ℕ) → a * suc b ≡ a + a * b
    mul-more a b = grind arith

skip-size : (place end size count : ℕ) → end ≡ place + size * suc count → (end - place ≡ size * suc count) × (end ≡ place + size + size * count)
skip-size place end size count is = (omega arith, grind arith)

-- reading goes over the entries of a text
pub entries_at-skip : (bound at : ℕ) (frame : Frame) (bytes : List ℕ) (place end : ℕ) (entries : List Entry) → frame.base - 1 - place < bound → end ≤ frame.base - 1
    → IsDirectory frame entries (slice_range bytes place end) → end ≡ place + entry_size frame * length entries → entries_at bound at frame bytes place ≡ behind entries (entries_at bound at frame bytes end)
entries_at-skip bound at frame bytes place end [] enough low h end_is =
    let same : end ≡ place = omega arith in
    rw same (sym (nothing-before (entries_at bound at frame bytes place)))
entries_at-skip bound at frame bytes place end (entry ∷ entries) enough low h end_is =
    let sizes = skip-size place end (entry_size frame) (length entries) end_is in
    let len : length (slice_range bytes place end) ≡ end - place = IsDirectory-length frame (entry ∷ entries) (slice_range bytes place end) h ∙ sym sizes.0 in
    let next = next-entry frame bytes place end h.0 h.1 low len h.2 h.3 in
    let inside : place + entry_size frame ≤ end = next.inside in
    let step = entries_at-step bound at frame bytes place (before-end (entry_size frame) place end frame.base inside low (entry-some frame)) enough next.entry in
    let named : entry_of frame (entry_text frame bytes place) ≡ entry = ap (entry_of frame) next.front_is ∙ sym h.4 in
    let others : entries_at bound at frame bytes (place + entry_size frame) ≡ behind entries (entries_at bound at frame bytes end) =
    entries_at-skip bound at frame bytes (place + entry_size frame) end entries (omega arith) low (subst (λ (text : List ℕ). IsDirectory frame entries text) (sym next.rest_is) h.5) sizes.1 in
    step ∙ rw (named, others) (put-first entry entries (entries_at bound at frame bytes end))
  where
    put-first : (entry : Entry) (entries : List Entry) (read : Result (List Entry) FileFault) → (behind entries read >>= λ more. Ok (entry ∷ more)) ≡ behind (entry ∷ entries) read
    put-first entry entries (Err fault) = refl
    put-first entry entries (Ok more) = refl

    entry-some : (frame : Frame) → 4 ≤ entry_size frame
    entry-some frame = omega arith

    before-end : (size place end base : ℕ) → place + size ≤ end → end ≤ base - 1 → 4 ≤ size → place < base - 1
    before-end size place end base inside low some = omega arith

same-fault : {f g : FileFault} → (let r : Result (List Entry) FileFault = Err f in r ≡ Err g) → f ≡ g
same-fault e = cc

-- how reading ends: with the closing byte, or where there is no entry, or no closing byte
data Ends (frame : Frame) (bytes : List ℕ) (end : ℕ) : Type 0 where
  closed : end ≡ frame.base - 1 → slice_get bytes end ≡ Some 30 → Ends frame bytes end
  lacks_entry : end < frame.base - 1 → (HasEntry frame bytes 0 end → ⊥) → Ends frame bytes end
  lacks_closing : end ≡ frame.base - 1 → slice_get bytes end ≢ Some 30 → Ends frame bytes end

pub record Walk (frame : Frame) (bytes : List ℕ) (place : ℕ) : Type 0 where
  entries : List Entry
  end : ℕ
  low : end ≤ frame.base - 1
  directory : IsDirectory frame entries (slice_range bytes place end)
  end_is : end ≡ place + entry_size frame * length entries
  ends : Ends frame bytes end

none-yet : (frame : Frame) (bytes : List ℕ) (place : ℕ) → place ≤ frame.base - 1 → Ends frame bytes place → Walk frame bytes place
none-yet frame bytes place low ends = record { entries = []; end = place; low = low; directory = no-text bytes place place (omega arith); end_is = omega arith; ends = ends }

walk : (bound : ℕ) (frame : Frame) (bytes : List ℕ) (place : ℕ) → place ≤ frame.base - 1 → frame.base - 1 - place < bound → Walk frame bytes place
walk zero frame bytes place low enough = absurd (omega arith)
walk (suc bound) frame bytes place low enough =
    elim (cases_lt place (frame.base - 1)) [
      | inl left ↦
          elim (leb (place + entry_size frame) (frame.base - 1) && is_entry frame (entry_text frame bytes place))
          as (λ b. (leb (place + entry_size frame) (frame.base - 1) && is_entry frame (entry_text frame bytes place)) ≡ b → Walk frame bytes place) [
            | true ↦ λ e. longer bound frame bytes place (entry-from-tests frame bytes place e) (let inside = (entry-from-tests frame bytes place e).before_closing in walk bound frame bytes (place + entry_size frame) (omega arith) (omega arith))
            | false ↦ λ e. none-yet frame bytes place low (lacks_entry left (λ h. (let yes = entry-tests frame bytes place h in let no : true ≡ false = sym yes ∙ e in cc)))
          ] refl
      | inr done ↦
          elim (has_closing bytes place) as (λ b. has_closing bytes place ≡ b → Walk frame bytes place) [
            | true ↦ λ e. none-yet frame bytes place low (closed (omega arith) (has_closing-is bytes place e))
            | false ↦ λ e. none-yet frame bytes place low (lacks_closing (omega arith) (λ is. (let yes = has_closing-from bytes place is in let no : true ≡ false = sym yes ∙ e in cc)))
          ] refl
    ]
  where
    mul-more : (a b c d : ℕ) → d ≡ a + b + b * c → d ≡ a + b * suc c
    mul-more a b c d h = grind arith

    longer : (bound : ℕ) (frame : Frame) (bytes : List ℕ) (place : ℕ) → HasEntry frame bytes 0 place → Walk frame bytes (place + entry_size frame) → Walk frame bytes place
    longer bound frame bytes place h w =
        let inside : place + entry_size frame ≤ w.end = let e = w.end_is in omega arith in
        record {
          entries = entry_of frame (entry_text frame bytes place) ∷ w.entries;
          end = w.end;
          low = w.low;
          directory = (entry_text frame bytes place, slice_range bytes (place + entry_size frame) w.end, cut-text bytes place (entry_size frame) w.end inside, h.entry, refl, w.directory);
          end_is = mul-more place (entry_size frame) (length w.entries) w.end w.end_is;
          ends = w.ends;
        }

-- ---- a directory that is read

pub entries_at-again : (bound at : ℕ) (frame : Frame) (bytes : List ℕ) (place : ℕ) (entries : List Entry) → frame.base - 1 - place < bound → frame.base ≤ length bytes → place ≤ frame.base - 1
    → IsDirectory frame entries (slice_range bytes place (frame.base - 1)) → slice_get bytes (frame.base - 1) ≡ Some 30 → entries_at bound at frame bytes place ≡ Ok entries
entries_at-again bound at frame bytes place entries enough whole low h closing =
    let len : frame.base - 1 - place ≡ entry_size frame * length entries = sym (text-length bytes place (frame.base - 1) (omega arith)) ∙ IsDirectory-length frame entries (slice_range bytes place (frame.base - 1)) h in
    let end_is : frame.base - 1 ≡ place + entry_size frame * length entries = omega arith in
    entries_at-skip bound at frame bytes place (frame.base - 1) entries enough (omega arith) h end_is
    ∙ ap (behind entries) (entries_at-closed bound at frame bytes (frame.base - 1) (omega arith) (omega arith) (has_closing-from bytes (frame.base - 1) closing))
    ∙ ap (λ (es : List Entry). Ok es) (append-nil entries)

pub entries_at-broken : (bound at : ℕ) (frame : Frame) (bytes : List ℕ) (place end : ℕ) (entries : List Entry) → frame.base - 1 - place < bound
    → IsDirectory frame entries (slice_range bytes place end) → end ≡ place + entry_size frame * length entries
    → ((end < frame.base - 1) × ¬ HasEntry frame bytes 0 end) ⊎ ((end ≡ frame.base - 1) × (slice_get bytes end ≢ Some 30)) → entries_at bound at frame bytes place ≡ Err (Directory (at + end))
entries_at-broken bound at frame bytes place end entries enough h end_is (inl breaks) =
    entries_at-skip bound at frame bytes place end entries enough (let left = breaks.0 in omega arith) h end_is
    ∙ ap (behind entries) (entries_at-stop bound at frame bytes end breaks.0 breaks.1)
entries_at-broken bound at frame bytes place end entries enough h end_is (inr breaks) =
    entries_at-skip bound at frame bytes place end entries enough (let left = breaks.0 in omega arith) h end_is
    ∙ ap (behind entries) (entries_at-open bound at frame bytes end (let left = breaks.0 in omega arith) (has_closing-not bytes end breaks.1))

closed-value : (bound at : ℕ) (frame : Frame) (bytes : List ℕ) (place : ℕ) (entries : List Entry) (end : ℕ) → frame.base - 1 - place < bound → IsDirectory frame entries (slice_range bytes place end)
    → end ≡ place + entry_size frame * length entries → end ≡ frame.base - 1 → slice_get bytes end ≡ Some 30 → entries_at bound at frame bytes place ≡ Ok entries
closed-value bound at frame bytes place entries end enough h end_is at_end closing =
    entries_at-skip bound at frame bytes place end entries enough (omega arith) h end_is
    ∙ ap (behind entries) (entries_at-closed bound at frame bytes end (omega arith) (omega arith) (has_closing-from bytes end closing))
    ∙ ap (λ (es : List Entry). Ok es) (append-nil entries)

-- and the way back: reading ends as the walk does
pub entries_at-found : (bound at : ℕ) (frame : Frame) (bytes : List ℕ) (place : ℕ) (entries : List Entry) → place ≤ frame.base - 1 → frame.base - 1 - place < bound → entries_at bound at frame bytes place ≡ Ok entries
    → IsDirectory frame entries (slice_range bytes place (frame.base - 1)) × (slice_get bytes (frame.base - 1) ≡ Some 30)
entries_at-found bound at frame bytes place entries low enough h =
    let w = walk bound frame bytes place low enough in
    by-end w w.ends
  where
    by-end : (w : Walk frame bytes place) → Ends frame bytes w.end → IsDirectory frame entries (slice_range bytes place (frame.base - 1)) × (slice_get bytes (frame.base - 1) ≡ Some 30)
    by-end w (closed at_end closing) =
        let e : entries_at bound at frame bytes place ≡ Ok w.entries = closed-value bound at frame bytes place w.entries w.end enough w.directory w.end_is at_end closing in
        let same : w.entries ≡ entries = let ok : (let r : Result (List Entry) FileFault = Ok w.entries in r ≡ Ok entries) = sym e ∙ h in cc in (
          subst (λ (es : List Entry). IsDirectory frame es (slice_range bytes place (frame.base - 1))) same (subst (λ n. IsDirectory frame w.entries (slice_range bytes place n)) at_end w.directory),
          subst (λ n. slice_get bytes n ≡ Some 30) at_end closing,
        )
    by-end w (lacks_entry left none) = absurd (let e = entries_at-broken bound at frame bytes place w.end w.entries enough w.directory w.end_is (inl (left, none)) in let no : Ok entries ≡ Err (Directory (at + w.end)) = sym h ∙ e in cc)
    by-end w (lacks_closing at_end other) = absurd (let e = entries_at-broken bound at frame bytes place w.end w.entries enough w.directory w.end_is (inr (at_end, other)) in let no : Ok entries ≡ Err (Directory (at + w.end)) = sym h ∙ e in cc)

pub entries_at-breaks : (bound at : ℕ) (frame : Frame) (bytes : List ℕ) (place : ℕ) (fault : FileFault) → place ≤ frame.base - 1 → frame.base - 1 - place < bound → entries_at bound at frame bytes place ≡ Err fault
    → (entries : List Entry) × (end : ℕ) × (fault ≡ Directory (at + end)) × IsDirectory frame entries (slice_range bytes place end) × (end ≡ place + entry_size frame * length entries)
    × (((end < frame.base - 1) × ¬ HasEntry frame bytes 0 end) ⊎ ((end ≡ frame.base - 1) × (slice_get bytes end ≢ Some 30)))
entries_at-breaks bound at frame bytes place fault low enough h =
    let w = walk bound frame bytes place low enough in
    by-end w w.ends
  where
    by-end : (w : Walk frame bytes place) → Ends frame bytes w.end
        → (entries : List Entry) × (end : ℕ) × (fault ≡ Directory (at + end)) × IsDirectory frame entries (slice_range bytes place end) × (end ≡ place + entry_size frame * length entries)
        × (((end < frame.base - 1) × ¬ HasEntry frame bytes 0 end) ⊎ ((end ≡ frame.base - 1) × (slice_get bytes end ≢ Some 30)))
    by-end w (closed at_end closing) = absurd (let e = closed-value bound at frame bytes place w.entries w.end enough w.directory w.end_is at_end closing in let no : Ok w.entries ≡ Err fault = sym e ∙ h in cc)
    by-end w (lacks_entry left none) =
        let e = entries_at-broken bound at frame bytes place w.end w.entries enough w.directory w.end_is (inl (left, none)) in
        (w.entries, w.end, same-fault (sym h ∙ e), w.directory, w.end_is, inl (left, none))
    by-end w (lacks_closing at_end other) =
        let e = entries_at-broken bound at frame bytes place w.end w.entries enough w.directory w.end_is (inr (at_end, other)) in
        (w.entries, w.end, same-fault (sym h ∙ e), w.directory, w.end_is, inr (at_end, other))
