-- The frame of a record that is read stands at the front of the bytes, and the one that stands there is read; and the
-- same of its first fault.
use Rattle.std.proofs.Common.{◌≡◌, ℕ, suc, ◌-◌, ◌+◌, ◌≤◌, ◌<◌, Bool, true, false, cond, not, List, [], ◌∷◌, ◌++◌, length, get_or, take, drop, Option, Some, None, Result, Ok, Err, refl, sym, ap, ◌∙◌, subst, ltb, leb, eqb, arith, inl, inr, drop-cons}
use Rattle.std.specs.Prelude.{◌||◌, ◌⊎◌, slice_get, IsTrue}
use Rattle.std.specs.List.{slice_range, AllByRecursion}
use Rattle.std.proofs.Math.ListN.{get_or-append, drop_of_length-le}
use Rattle.std.proofs.lemmas.List.{length-append, length-take, length-drop, take-append-drop, take-append-le, drop-append-le}
use Rattle.std.proofs.lemmas.Bool.{cases_lt}
use Rattle.std.proofs.lemmas.Bool.Decides.{nat_tests}
use Rattle.std.proofs.lemmas.Option.{slice_get-get_or, slice_get_within, get_or_from_slice_get}
use Rattle.iso8211_leader.specs.Leader.{Frame, HasLeader, frame_of}
use Rattle.iso8211_leader.specs.Entry.{entry_size}
use Rattle.iso8211_leader.specs.declared.entry.Entry.{Entry}
use Rattle.iso8211_records.specs.declared.fault.FileFault.{FileFault}
use Rattle.iso8211_records.specs.declared.fault.FileFault.TheVariants.{Leader, Directory, Span, Terminator, Descriptor, Subfield, NoMemory}
use Rattle.iso8211_records.specs.Tags.{is_listed}
use Rattle.iso8211_records.specs.Frames.{is_leader}
use Rattle.iso8211_records.specs.Record.{IsDirectory, IsRecord, IsInside, IsEnded, field_end, field_bytes}
use Rattle.iso8211_records.specs.Reading.{unless_at, place_without, leader_at, directory_at, spans_at, ends_at, record_at, Framed, is_inside, is_ended, has_end}
use Rattle.iso8211_records.specs.Fault.{IsFirstWithout, entry_place, HasDirectory, BreaksDirectory, BreaksSpan, BreaksEnd, HasFrameFault}
use Rattle.iso8211_records.proofs.PassedTests.{both, both_parts, lt-is, le-test, le-is, eq-test, eq-is}
use Rattle.iso8211_records.proofs.Results.{cond_ok, err_is}
use Rattle.iso8211_records.proofs.FrameTests.{is_leader-is, is_leader-from}
use Rattle.iso8211_records.proofs.Firsts.{IsTest, place_without-some, place_without-none, place_without-each, place_without-is}
use Rattle.iso8211_records.proofs.Directory.{lt-test}
use Rattle.iso8211_records.proofs.DirectoryLaws.{entries_at-found, entries_at-again, entries_at-breaks, entries_at-broken}
use Rattle.iso8211_records.proofs.Framing.{leader_at-none, leader_at-some, record_at-leader, record_at-directory, record_at-spans, record_at-ends, record_at-all, spans_at-whole, spans_at-inside}
use Rattle.iso8211_records.proofs.Records.{IsFramed, record_at-is}

-- ---- tests

pub is_inside-test : (frame : Frame) → IsTest (is_inside frame) (IsInside frame)
is_inside-test frame = record {
  yes = λ entry e. le-is _ _ e;
  no = λ entry e h. (let yes = le-test (field_end frame entry) frame.length h in let no : true ≡ false = sym yes ∙ e in cc);
}

last-byte : (bytes : List ℕ) → has_end bytes ≡ true → (text : List ℕ) × (bytes ≡ text ++ 30 ∷ [])
last-byte bytes h =
    let p = both_parts (ltb 0 (length bytes)) (eqb (get_or bytes (length bytes - 1) 0) 30) h in
    let some : 0 < length bytes = lt-is _ _ p.0 in
    let ends : get_or bytes (length bytes - 1) 0 ≡ 30 = eq-is _ _ p.1 in
    let none : drop (suc (length bytes - 1)) bytes ≡ [] = drop_of_length-le bytes {i = suc (length bytes - 1)} (omega arith) in
    let after : drop (length bytes - 1) bytes ≡ 30 ∷ [] = drop-cons bytes (length bytes - 1) 0 (omega arith) ∙ rw (ends, none) refl in
    (take (length bytes - 1) bytes, sym (take-append-drop (length bytes - 1) bytes) ∙ rw after refl)

pub has_end-from : (text : List ℕ) → has_end (text ++ 30 ∷ []) ≡ true
has_end-from text =
    let len : length (text ++ 30 ∷ []) ≡ suc (length text) = omega (arith, length-append text (30 ∷ [])) in
    let less : length (text ++ 30 ∷ []) - 1 ≡ length text = omega arith in
    both _ _ (lt-test _ _ (omega arith)) (eq-test _ _ (ap (λ n. get_or (text ++ 30 ∷ []) n 0) less ∙ end-byte text))
  where
    end-byte : (text : List ℕ) → get_or (text ++ 30 ∷ []) (length text) 0 ≡ 30
    end-byte [] = refl
    end-byte (byte ∷ text) = end-byte text

pub is_ended-test : (tags : List (List ℕ)) (frame : Frame) (bytes : List ℕ) → IsTest (is_ended tags frame bytes) (IsEnded tags frame bytes)
is_ended-test tags frame bytes = record {
  yes = λ entry. yes (is_listed tags entry.tag) (field_bytes frame bytes entry);
  no = λ entry. no (is_listed tags entry.tag) (field_bytes frame bytes entry);
}
  where
    yes : (listed : Bool) (field : List ℕ) → (not listed || has_end field) ≡ true → IsTrue listed → (text : List ℕ) × (field ≡ text ++ 30 ∷ [])
    yes true field e l = last-byte field e
    yes false field e l = absurd cc

    no : (listed : Bool) (field : List ℕ) → (not listed || has_end field) ≡ false → (IsTrue listed → (text : List ℕ) × (field ≡ text ++ 30 ∷ [])) → ⊥
    no true field e h = let p = h refl in let yes : has_end field ≡ true = ap has_end p.1 ∙ has_end-from p.0 in let bad : true ≡ false = sym yes ∙ e in cc
    no false field e h = cc

-- ---- spans

abbrev pub SpanBreaks : Frame → List ℕ → List Entry → ℕ → Type 0
SpanBreaks frame bytes entries place = ((length bytes < frame.length) × (place ≡ 0))
    ⊎ ((frame.length ≤ length bytes) × (count : ℕ) × (entry : Entry) × IsFirstWithout (IsInside frame) entries count entry × (place ≡ entry_place frame count))

gt-test : (a b : ℕ) → b < a → leb a b ≡ false
gt-test a b h = grind (arith, nat_tests)

pub spans_at-fine : (at : ℕ) (frame : Frame) (bytes : List ℕ) (entries : List Entry) → frame.length ≤ length bytes → AllByRecursion (IsInside frame) entries → spans_at at frame bytes entries ≡ Ok tt
unfolding spans_at
spans_at-fine at frame bytes entries whole inside =
    rw (le-test _ _ whole, place_without-each (is_inside frame) (IsInside frame) (entry_size frame) 24 entries (is_inside-test frame) inside) refl

pub spans_at-broken : (at : ℕ) (frame : Frame) (bytes : List ℕ) (entries : List Entry) (place : ℕ) → SpanBreaks frame bytes entries place → spans_at at frame bytes entries ≡ Err (Span (at + place))
unfolding spans_at
spans_at-broken at frame bytes entries place (inl h) = rw (gt-test _ _ h.0, h.1) (ap (λ n. Err (Span n)) (omega arith))
spans_at-broken at frame bytes entries place (inr h) =
    rw (le-test _ _ h.0, place_without-is (is_inside frame) (IsInside frame) (entry_size frame) 24 entries h.1 h.2 (is_inside-test frame) h.3, ← h.4) refl

pub spans_at-breaks : (at : ℕ) (frame : Frame) (bytes : List ℕ) (entries : List Entry) (fault : FileFault) → spans_at at frame bytes entries ≡ Err fault → (place : ℕ) × (fault ≡ Span (at + place)) × SpanBreaks frame bytes entries place
unfolding spans_at
spans_at-breaks at frame bytes entries fault h =
    elim (cases_lt (length bytes) frame.length) [
      | inl short ↦ (0, (let e : Err (Span at) ≡ Err fault = sym (rw (gt-test frame.length (length bytes) short) refl) ∙ h in sym (err_is e) ∙ ap (λ n. Span n) (omega arith)), inl (short, refl))
      | inr whole ↦ by-place (place_without (is_inside frame) (entry_size frame) 24 entries) refl whole (sym (rw (le-test frame.length (length bytes) whole) refl) ∙ h)
    ]
  where
    by-place : (o : Option ℕ) → place_without (is_inside frame) (entry_size frame) 24 entries ≡ o → frame.length ≤ length bytes
        → unless_at (λ place. Span (at + place)) (place_without (is_inside frame) (entry_size frame) 24 entries) ≡ Err fault → (place : ℕ) × (fault ≡ Span (at + place)) × SpanBreaks frame bytes entries place
    by-place None e whole k = absurd (let bad : Ok tt ≡ Err fault = sym (ap (unless_at (λ place. Span (at + place))) e) ∙ k in cc)
    by-place (Some q) e whole k =
        let p = place_without-some (is_inside frame) (IsInside frame) (entry_size frame) 24 entries q (is_inside-test frame) e in
        let is : Err (Span (at + q)) ≡ Err fault = sym (ap (unless_at (λ place. Span (at + place))) e) ∙ k in
        (q, sym (err_is is), inr (whole, p.0, p.1, p.2, p.3))

-- ---- ends

abbrev pub EndBreaks : List (List ℕ) → Frame → List ℕ → List Entry → ℕ → Type 0
EndBreaks tags frame bytes entries place = (count : ℕ) × (entry : Entry) × IsFirstWithout (IsEnded tags frame bytes) entries count entry × (place ≡ entry_place frame count)

pub ends_at-fine : (tags : List (List ℕ)) (at : ℕ) (frame : Frame) (bytes : List ℕ) (entries : List Entry) → AllByRecursion (IsEnded tags frame bytes) entries → ends_at tags at frame bytes entries ≡ Ok tt
unfolding ends_at
ends_at-fine tags at frame bytes entries ended =
    rw (place_without-each (is_ended tags frame bytes) (IsEnded tags frame bytes) (entry_size frame) 24 entries (is_ended-test tags frame bytes) ended) refl

pub ends_at-all : (tags : List (List ℕ)) (at : ℕ) (frame : Frame) (bytes : List ℕ) (entries : List Entry) → ends_at tags at frame bytes entries ≡ Ok tt → AllByRecursion (IsEnded tags frame bytes) entries
unfolding ends_at
ends_at-all tags at frame bytes entries h =
    by-place (place_without (is_ended tags frame bytes) (entry_size frame) 24 entries) refl
  where
    by-place : (o : Option ℕ) → place_without (is_ended tags frame bytes) (entry_size frame) 24 entries ≡ o → AllByRecursion (IsEnded tags frame bytes) entries
    by-place None e = place_without-none (is_ended tags frame bytes) (IsEnded tags frame bytes) (entry_size frame) 24 entries (is_ended-test tags frame bytes) e
    by-place (Some q) e = absurd (let bad : Err (Terminator (at + q)) ≡ Ok tt = sym (ap (unless_at (λ place. Terminator (at + place))) e) ∙ h in cc)

pub ends_at-broken : (tags : List (List ℕ)) (at : ℕ) (frame : Frame) (bytes : List ℕ) (entries : List Entry) (place : ℕ) → EndBreaks tags frame bytes entries place → ends_at tags at frame bytes entries ≡ Err (Terminator (at + place))
unfolding ends_at
ends_at-broken tags at frame bytes entries place h =
    rw (place_without-is (is_ended tags frame bytes) (IsEnded tags frame bytes) (entry_size frame) 24 entries h.0 h.1 (is_ended-test tags frame bytes) h.2, ← h.3) refl

pub ends_at-breaks : (tags : List (List ℕ)) (at : ℕ) (frame : Frame) (bytes : List ℕ) (entries : List Entry) (fault : FileFault) → ends_at tags at frame bytes entries ≡ Err fault
    → (place : ℕ) × (fault ≡ Terminator (at + place)) × EndBreaks tags frame bytes entries place
unfolding ends_at
ends_at-breaks tags at frame bytes entries fault h =
    by-place (place_without (is_ended tags frame bytes) (entry_size frame) 24 entries) refl
  where
    by-place : (o : Option ℕ) → place_without (is_ended tags frame bytes) (entry_size frame) 24 entries ≡ o → (place : ℕ) × (fault ≡ Terminator (at + place)) × EndBreaks tags frame bytes entries place
    by-place None e = absurd (let bad : Ok tt ≡ Err fault = sym (ap (unless_at (λ place. Terminator (at + place))) e) ∙ h in cc)
    by-place (Some q) e =
        let p = place_without-some (is_ended tags frame bytes) (IsEnded tags frame bytes) (entry_size frame) 24 entries q (is_ended-test tags frame bytes) e in
        let is : Err (Terminator (at + q)) ≡ Err fault = sym (ap (unless_at (λ place. Terminator (at + place))) e) ∙ h in
        (q, sym (err_is is), (p.0, p.1, p.2, p.3))

-- ---- directories

pub frame-facts : (text : List ℕ) (first : Bool) (frame : Frame) → HasLeader first text → frame ≡ frame_of text → (25 ≤ frame.base) × (frame.base ≤ frame.length)
unfolding frame_of
frame-facts text first frame h says = rw says (h.directory, h.field_area)

pub directory_at-found : (at : ℕ) (first : Bool) (frame : Frame) (bytes : List ℕ) (entries : List Entry) → HasLeader first (take 24 bytes) → frame ≡ frame_of (take 24 bytes) → directory_at at frame bytes ≡ Ok entries → HasDirectory first bytes frame entries
unfolding directory_at
directory_at-found at first frame bytes entries leader says h =
    let facts = frame-facts (take 24 bytes) first frame leader says in
    let p = entries_at-found frame.base at frame bytes 24 entries (omega arith) (omega arith) h in
    record { leader = leader; says = says; directory = p.0; closing = p.1 }

pub directory_at-again : (at : ℕ) (first : Bool) (frame : Frame) (bytes : List ℕ) (entries : List Entry) → HasDirectory first bytes frame entries → directory_at at frame bytes ≡ Ok entries
unfolding directory_at
directory_at-again at first frame bytes entries h =
    let facts = frame-facts (take 24 bytes) first frame h.leader h.says in
    let within = slice_get_within bytes (frame.base - 1) 30 h.closing in
    entries_at-again frame.base at frame bytes 24 entries (omega arith) (omega arith) (omega arith) h.directory h.closing

pub directory_at-breaks : (at : ℕ) (first : Bool) (frame : Frame) (bytes : List ℕ) (fault : FileFault) → HasLeader first (take 24 bytes) → frame ≡ frame_of (take 24 bytes) → directory_at at frame bytes ≡ Err fault
    → (place : ℕ) × (fault ≡ Directory (at + place)) × BreaksDirectory first bytes place
unfolding directory_at
directory_at-breaks at first frame bytes fault leader says h =
    let facts = frame-facts (take 24 bytes) first frame leader says in
    let p = entries_at-breaks frame.base at frame bytes 24 fault (omega arith) (omega arith) h in
    (p.1, p.2, record { frame = frame; entries = p.0; leader = leader; says = says; directory = p.3; place_is = p.4; breaks = p.5 })

pub directory_at-broken : (at : ℕ) (first : Bool) (bytes : List ℕ) (place : ℕ) (h : BreaksDirectory first bytes place) → directory_at at h.frame bytes ≡ Err (Directory (at + place))
unfolding directory_at
directory_at-broken at first bytes place h =
    let facts = frame-facts (take 24 bytes) first h.frame h.leader h.says in
    entries_at-broken h.frame.base at h.frame bytes 24 place h.entries (omega arith) h.directory h.place_is h.breaks

-- ---- a record at the front

-- bytes of the front are the same where others follow
pub same-range : (piece rest : List ℕ) (i j : ℕ) → i ≤ j → j ≤ length piece → slice_range (piece ++ rest) i j ≡ slice_range piece i j
same-range piece rest i j order inside =
    let low : i ≤ length piece = omega arith in
    let some : j - i ≤ length (drop i piece) = omega (arith, length-drop i piece) in
    rw (drop-append-le i piece rest low, take-append-le (j - i) (drop i piece) rest some) refl

pub same-field : (piece rest : List ℕ) (frame : Frame) (entry : Entry) → length piece ≡ frame.length → IsInside frame entry → field_bytes frame (piece ++ rest) entry ≡ field_bytes frame piece entry
same-field piece rest frame entry len inside = same-range piece rest (frame.base + entry.position) (field_end frame entry) (omega arith) (omega arith)

pub each-map : {A : Type 0} (P Q R : A → Type 0) (xs : List A) → ((x : A) → P x → Q x → R x) → AllByRecursion P xs → AllByRecursion Q xs → AllByRecursion R xs
each-map P Q R [] f h k = tt
each-map P Q R (x ∷ xs) f h k = (f x h.0 k.0, each-map P Q R xs f h.1 k.1)

pub record-piece : (tags : List (List ℕ)) (first : Bool) (at : ℕ) (piece rest : List ℕ) (framed : Framed) → length piece ≡ framed.frame.length → IsFramed tags first at (piece ++ rest) framed → IsRecord tags first piece framed.frame framed.entries
record-piece tags first at piece rest framed len f =
    let frame : Frame = framed.frame in
    let facts = frame-facts (take 24 (piece ++ rest)) first framed.frame f.leader f.says in
    let low : 25 ≤ framed.frame.base = facts.0 in
    let high : framed.frame.base ≤ framed.frame.length = facts.1 in
    let head : take 24 (piece ++ rest) ≡ take 24 piece = take-append-le 24 piece rest (omega arith) in
    let d = directory_at-found at first framed.frame (piece ++ rest) framed.entries f.leader f.says f.directory in
    let same : slice_range (piece ++ rest) 24 (framed.frame.base - 1) ≡ slice_range piece 24 (framed.frame.base - 1) = same-range piece rest 24 (framed.frame.base - 1) (omega arith) (omega arith) in
    let inside = spans_at-inside at framed.frame (piece ++ rest) framed.entries f.spans in
    record {
      leader = subst (λ (text : List ℕ). HasLeader first text) head f.leader;
      says = f.says ∙ ap frame_of head;
      directory = subst (λ (text : List ℕ). IsDirectory framed.frame framed.entries text) same d.directory;
      closing = sym (get_or-append piece rest 0 (framed.frame.base - 1) (omega arith)) ∙ get_or_from_slice_get (piece ++ rest) (framed.frame.base - 1) 30 0 d.closing;
      whole = len;
      inside = inside;
      ended = each-map (IsInside framed.frame) (IsEnded tags framed.frame (piece ++ rest)) (IsEnded tags framed.frame piece) framed.entries
          (λ entry within ended. (λ listed. (let p = ended listed in (p.0, sym (same-field piece rest framed.frame entry len within) ∙ p.1))))
          inside (ends_at-all tags at framed.frame (piece ++ rest) framed.entries f.ends);
    }

-- a record that begins the bytes, with what stands after it
pub record Begins (tags : List (List ℕ)) (first : Bool) (bytes : List ℕ) (framed : Framed) : Type 0 where
  pub piece : List ℕ
  pub rest : List ℕ
  pub parts : bytes ≡ piece ++ rest
  pub rest_is : rest ≡ drop framed.frame.length bytes
  pub is_record : IsRecord tags first piece framed.frame framed.entries

pub record_at-found : (tags : List (List ℕ)) (first : Bool) (at : ℕ) (bytes : List ℕ) (framed : Framed) → record_at tags first at bytes ≡ Ok framed → Begins tags first bytes framed
record_at-found tags first at bytes framed h =
    let f = record_at-is tags first at bytes framed h in
    let whole = spans_at-whole at framed.frame bytes framed.entries f.spans in
    let piece : List ℕ = take framed.frame.length bytes in
    let rest : List ℕ = drop framed.frame.length bytes in
    let parts : bytes ≡ piece ++ rest = sym (take-append-drop framed.frame.length bytes) in
    let len : length piece ≡ framed.frame.length = omega (arith, length-take framed.frame.length bytes) in
    record {
      piece = piece;
      rest = rest;
      parts = parts;
      rest_is = refl;
      is_record = record-piece tags first at piece rest framed len (subst (λ (l : List ℕ). IsFramed tags first at l framed) parts f);
    }

pub record_at-again : (tags : List (List ℕ)) (first : Bool) (at : ℕ) (piece rest : List ℕ) (frame : Frame) (entries : List Entry) → IsRecord tags first piece frame entries → record_at tags first at (piece ++ rest) ≡ Ok (record { frame = frame; entries = entries })
record_at-again tags first at piece rest frame entries h =
    let facts = frame-facts (take 24 piece) first frame h.leader h.says in
    let low : 25 ≤ frame.base = facts.0 in
    let high : frame.base ≤ frame.length = facts.1 in
    let len : length piece ≡ frame.length = h.whole in
    let head : take 24 piece ≡ take 24 (piece ++ rest) = sym (take-append-le 24 piece rest (omega arith)) in
    let leader : HasLeader first (take 24 (piece ++ rest)) = subst (λ (text : List ℕ). HasLeader first text) head h.leader in
    let says : frame ≡ frame_of (take 24 (piece ++ rest)) = h.says ∙ ap frame_of head in
    let same : slice_range piece 24 (frame.base - 1) ≡ slice_range (piece ++ rest) 24 (frame.base - 1) = sym (same-range piece rest 24 (frame.base - 1) (omega arith) (omega arith)) in
    let more : length (piece ++ rest) ≡ length piece + length rest = length-append piece rest in
    let closing : slice_get (piece ++ rest) (frame.base - 1) ≡ Some 30 =
    slice_get-get_or (piece ++ rest) (frame.base - 1) 0 (omega arith) ∙ ap (λ byte. Some byte) (get_or-append piece rest 0 (frame.base - 1) (omega arith) ∙ h.closing) in
    let directory = directory_at-again at first frame (piece ++ rest) entries (record { leader = leader; says = says; directory = subst (λ (text : List ℕ). IsDirectory frame entries text) same h.directory; closing = closing }) in
    let ended = each-map (IsInside frame) (IsEnded tags frame piece) (IsEnded tags frame (piece ++ rest)) entries
    (λ entry within ended. (λ listed. (let p = ended listed in (p.0, same-field piece rest frame entry len within ∙ p.1)))) h.inside h.ended in
    record_at-all tags first at (piece ++ rest) frame entries (leader_at-some first at (piece ++ rest) frame leader says) directory
    (spans_at-fine at frame (piece ++ rest) entries (omega arith) h.inside) (ends_at-fine tags at frame (piece ++ rest) entries ended)

-- ---- its fault

pub record_at-faulty : (tags : List (List ℕ)) (first : Bool) (at : ℕ) (bytes : List ℕ) (fault : FileFault) → HasFrameFault tags first at bytes fault → record_at tags first at bytes ≡ Err fault
record_at-faulty tags first at bytes (Leader offset) h =
    record_at-leader (Leader at) tags first at bytes (leader_at-none first at bytes h.1) ∙ ap (λ n. Err (Leader n)) (sym h.0)
record_at-faulty tags first at bytes (Directory offset) h =
    let b : BreaksDirectory first bytes h.0 = h.2 in
    record_at-directory (Directory (at + h.0)) tags first at bytes b.frame (leader_at-some first at bytes b.frame b.leader b.says) (directory_at-broken at first bytes h.0 b)
    ∙ ap (λ n. Err (Directory n)) (sym h.1)
record_at-faulty tags first at bytes (Span offset) h =
    let b : BreaksSpan first bytes h.0 = h.2 in
    let d : HasDirectory first bytes b.frame b.entries = b.has_directory in
    record_at-spans (Span (at + h.0)) tags first at bytes b.frame b.entries (leader_at-some first at bytes b.frame d.leader d.says) (directory_at-again at first b.frame bytes b.entries d)
    (spans_at-broken at b.frame bytes b.entries h.0 b.breaks)
    ∙ ap (λ n. Err (Span n)) (sym h.1)
record_at-faulty tags first at bytes (Terminator offset) h =
    let b : BreaksEnd tags first bytes h.0 = h.2 in
    let d : HasDirectory first bytes b.frame b.entries = b.has_directory in
    record_at-ends (Terminator (at + h.0)) tags first at bytes b.frame b.entries (leader_at-some first at bytes b.frame d.leader d.says) (directory_at-again at first b.frame bytes b.entries d)
    (spans_at-fine at b.frame bytes b.entries b.whole b.inside)
    (ends_at-broken tags at b.frame bytes b.entries h.0 (b.count, b.entry, b.breaks, b.place_is))
    ∙ ap (λ n. Err (Terminator n)) (sym h.1)
record_at-faulty tags first at bytes (Descriptor tag) h = absurd h
record_at-faulty tags first at bytes (Subfield number tag) h = absurd h
record_at-faulty tags first at bytes NoMemory h = absurd h

leader_at-is : (first : Bool) (at : ℕ) (bytes : List ℕ) (frame : Frame) → leader_at first at bytes ≡ Ok frame → HasLeader first (take 24 bytes) × (frame ≡ frame_of (take 24 bytes))
unfolding leader_at
leader_at-is first at bytes frame h =
    let p = cond_ok (is_leader first (take 24 bytes)) (Ok (frame_of (take 24 bytes))) (Leader at) frame h in
    (is_leader-is first (take 24 bytes) p.0, (let ok : (let r : Result Frame FileFault = Ok (frame_of (take 24 bytes)) in r ≡ Ok frame) = p.1 in cc))

leader_at-fault : (first : Bool) (at : ℕ) (bytes : List ℕ) (fault : FileFault) → leader_at first at bytes ≡ Err fault → (fault ≡ Leader at) × (HasLeader first (take 24 bytes) → ⊥)
unfolding leader_at
leader_at-fault first at bytes fault h =
    elim (is_leader first (take 24 bytes)) as (λ b. is_leader first (take 24 bytes) ≡ b → cond {A = Result Frame FileFault} b (Ok (frame_of (take 24 bytes))) (Err (Leader at)) ≡ Err fault → (fault ≡ Leader at) × (HasLeader first (take 24 bytes) → ⊥)) [
      | true ↦ λ e k. absurd cc
      | false ↦ λ e k. (sym (err_is {A = Frame} k), λ leader. (let yes = is_leader-from first (take 24 bytes) leader in let no : true ≡ false = sym yes ∙ e in cc))
    ] refl h

to-fault : (tags : List (List ℕ)) (first : Bool) (at : ℕ) (bytes : List ℕ) (fault found : FileFault) → fault ≡ found → HasFrameFault tags first at bytes found → HasFrameFault tags first at bytes fault
to-fault tags first at bytes fault found e h = subst (λ (f : FileFault). HasFrameFault tags first at bytes f) (sym e) h

-- the fault of each step, where the steps before it had none
after-ends : (tags : List (List ℕ)) (first : Bool) (at : ℕ) (bytes : List ℕ) (fault : FileFault) (frame : Frame) (entries : List Entry) → record_at tags first at bytes ≡ Err fault
    → leader_at first at bytes ≡ Ok frame → directory_at at frame bytes ≡ Ok entries → spans_at at frame bytes entries ≡ Ok tt
    → (r : Result (Unit {0}) FileFault) → ends_at tags at frame bytes entries ≡ r → HasFrameFault tags first at bytes fault
after-ends tags first at bytes fault frame entries h leader directory spans (Ok u) e =
    absurd (let fine = record_at-all tags first at bytes frame entries leader directory spans e in let no : (let r : Result Framed FileFault = Ok (record { frame = frame; entries = entries }) in r ≡ Err fault) = sym fine ∙ h in cc)
after-ends tags first at bytes fault frame entries h leader directory spans (Err found) e =
    let l = leader_at-is first at bytes frame leader in
    let b = ends_at-breaks tags at frame bytes entries found e in
    let at_end : ends_at tags at frame bytes entries ≡ Err (Terminator (at + b.0)) = e ∙ ap (λ (f : FileFault). Err f) b.1 in
    let same : Terminator (at + b.0) ≡ fault = err_is {A = Framed} (sym (record_at-ends (Terminator (at + b.0)) tags first at bytes frame entries leader directory spans at_end) ∙ h) in
    to-fault tags first at bytes fault (Terminator (at + b.0)) (sym same) (
      b.0,
      refl,
      record {
        frame = frame;
        entries = entries;
        has_directory = directory_at-found at first frame bytes entries l.0 l.1 directory;
        whole = spans_at-whole at frame bytes entries spans;
        inside = spans_at-inside at frame bytes entries spans;
        count = b.2.0;
        entry = b.2.1;
        breaks = b.2.2;
        place_is = b.2.3;
      },
    )

after-spans : (tags : List (List ℕ)) (first : Bool) (at : ℕ) (bytes : List ℕ) (fault : FileFault) (frame : Frame) (entries : List Entry) → record_at tags first at bytes ≡ Err fault
    → leader_at first at bytes ≡ Ok frame → directory_at at frame bytes ≡ Ok entries
    → (r : Result (Unit {0}) FileFault) → spans_at at frame bytes entries ≡ r → HasFrameFault tags first at bytes fault
after-spans tags first at bytes fault frame entries h leader directory (Ok u) e = after-ends tags first at bytes fault frame entries h leader directory e (ends_at tags at frame bytes entries) refl
after-spans tags first at bytes fault frame entries h leader directory (Err found) e =
    let l = leader_at-is first at bytes frame leader in
    let b = spans_at-breaks at frame bytes entries found e in
    let at_span : spans_at at frame bytes entries ≡ Err (Span (at + b.0)) = e ∙ ap (λ (f : FileFault). Err f) b.1 in
    let same : Span (at + b.0) ≡ fault = err_is {A = Framed} (sym (record_at-spans (Span (at + b.0)) tags first at bytes frame entries leader directory at_span) ∙ h) in
    to-fault tags first at bytes fault (Span (at + b.0)) (sym same)
    (b.0, refl, record { frame = frame; entries = entries; has_directory = directory_at-found at first frame bytes entries l.0 l.1 directory; breaks = b.2 })

after-directory : (tags : List (List ℕ)) (first : Bool) (at : ℕ) (bytes : List ℕ) (fault : FileFault) (frame : Frame) → record_at tags first at bytes ≡ Err fault
    → leader_at first at bytes ≡ Ok frame → (r : Result (List Entry) FileFault) → directory_at at frame bytes ≡ r → HasFrameFault tags first at bytes fault
after-directory tags first at bytes fault frame h leader (Ok entries) e = after-spans tags first at bytes fault frame entries h leader e (spans_at at frame bytes entries) refl
after-directory tags first at bytes fault frame h leader (Err found) e =
    let l = leader_at-is first at bytes frame leader in
    let b = directory_at-breaks at first frame bytes found l.0 l.1 e in
    let at_place : directory_at at frame bytes ≡ Err (Directory (at + b.0)) = e ∙ ap (λ (f : FileFault). Err f) b.1 in
    let same : Directory (at + b.0) ≡ fault = err_is {A = Framed} (sym (record_at-directory (Directory (at + b.0)) tags first at bytes frame leader at_place) ∙ h) in
    to-fault tags first at bytes fault (Directory (at + b.0)) (sym same) (b.0, refl, b.2)

after-leader : (tags : List (List ℕ)) (first : Bool) (at : ℕ) (bytes : List ℕ) (fault : FileFault) → record_at tags first at bytes ≡ Err fault
    → (r : Result Frame FileFault) → leader_at first at bytes ≡ r → HasFrameFault tags first at bytes fault
after-leader tags first at bytes fault h (Ok frame) e = after-directory tags first at bytes fault frame h e (directory_at at frame bytes) refl
after-leader tags first at bytes fault h (Err found) e =
    let p = leader_at-fault first at bytes found e in
    let same : found ≡ fault = err_is {A = Framed} (sym (record_at-leader found tags first at bytes e) ∙ h) in
    to-fault tags first at bytes fault (Leader at) (sym same ∙ p.0) (refl, p.1)

pub record_at-fault : (tags : List (List ℕ)) (first : Bool) (at : ℕ) (bytes : List ℕ) (fault : FileFault) → record_at tags first at bytes ≡ Err fault → HasFrameFault tags first at bytes fault
record_at-fault tags first at bytes fault h = after-leader tags first at bytes fault h (leader_at first at bytes) refl
