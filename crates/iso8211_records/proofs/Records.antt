-- Reading data records one after the other, as a loop does.
use Rattle.std.proofs.Common.{◌≡◌, ℕ, zero, suc, ◌-◌, ◌+◌, ◌≤◌, ◌<◌, Bool, false, List, [], ◌∷◌, ◌++◌, length, take, drop, Result, Ok, Err, refl, sym, ap, ◌∙◌, subst, arith}
use Rattle.std.proofs.lemmas.List.{append-nil, length-append, length-drop}
use Rattle.iso8211_leader.specs.Leader.{Frame, HasLeader, frame_of}
use Rattle.iso8211_formats.specs.Layout.{Layout}
use Rattle.iso8211_records.specs.declared.record.RawField.{RawField}
use Rattle.iso8211_records.specs.declared.fault.FileFault.{FileFault}
use Rattle.iso8211_records.specs.declared.fault.FileFault.TheVariants.{Leader, NoMemory}
use Rattle.iso8211_records.specs.Answers.{Fails}
use Rattle.iso8211_records.specs.Frames.{is_leader}
use Rattle.chart_model.specs.Answers.{◌>>=◌}
use Rattle.iso8211_records.specs.Reading.{or_zero, first_without, is_described, unless_undescribed, leader_at, directory_at, spans_at, ends_at, record_at, Framed, fields_of, data_record_at, data_records_at, come_to}
use Rattle.iso8211_records.proofs.FrameTests.{is_leader-is}
use Rattle.iso8211_records.proofs.Directory.{behind, join}
use Rattle.iso8211_records.proofs.Framing.{spans_at-whole}
use Rattle.iso8211_records.proofs.Results.{Fails-bind, Fails-same, Fails-err, bind_ok, cond_ok}

-- ---- what a record that was read says

pub record IsFramed (tags : List (List ℕ)) (first : Bool) (at : ℕ) (bytes : List ℕ) (framed : Framed) : Type 0 where
  pub leader : HasLeader first (take 24 bytes)
  pub says : framed.frame ≡ frame_of (take 24 bytes)
  pub directory : directory_at at framed.frame bytes ≡ Ok framed.entries
  pub spans : spans_at at framed.frame bytes framed.entries ≡ Ok tt
  pub ends : ends_at tags at framed.frame bytes framed.entries ≡ Ok tt

same_ok : {A : Type 0} (x y : A) → (let r : Result A FileFault = Ok x in r ≡ Ok y) → x ≡ y
same_ok x y e = cc

unit_is : (u : Unit {0}) → u ≡ tt
unit_is u = refl

pub record_at-is : (tags : List (List ℕ)) (first : Bool) (at : ℕ) (bytes : List ℕ) (framed : Framed) → record_at tags first at bytes ≡ Ok framed → IsFramed tags first at bytes framed
unfolding record_at leader_at
record_at-is tags first at bytes framed h =
    let p = bind_ok (leader_at first at bytes)
    (λ frame. directory_at at frame bytes >>= λ entries. spans_at at frame bytes entries >>= λ _. ends_at tags at frame bytes entries >>= λ _. Ok (record { frame = frame; entries = entries })) framed h in
    let l = cond_ok (is_leader first (take 24 bytes)) (Ok (frame_of (take 24 bytes))) (Leader at) p.0 p.1 in
    let frame_is : frame_of (take 24 bytes) ≡ p.0 = same_ok _ _ l.1 in
    let q = bind_ok (directory_at at p.0 bytes) (λ entries. spans_at at p.0 bytes entries >>= λ _. ends_at tags at p.0 bytes entries >>= λ _. Ok (record { frame = p.0; entries = entries })) framed p.2 in
    let r = bind_ok (spans_at at p.0 bytes q.0) (λ _. ends_at tags at p.0 bytes q.0 >>= λ _. Ok (record { frame = p.0; entries = q.0 })) framed q.2 in
    let s = bind_ok (ends_at tags at p.0 bytes q.0) (λ _. Ok (record { frame = p.0; entries = q.0 })) framed r.2 in
    let found : Framed = record { frame = p.0; entries = q.0 } in
    let is : found ≡ framed = same_ok found framed s.2 in
    subst (λ (f : Framed). IsFramed tags first at bytes f) is
    (record { leader = is_leader-is first (take 24 bytes) l.0; says = sym frame_is; directory = q.1; spans = r.1; ends = s.1 })

pub frame-length : (text : List ℕ) (first : Bool) → HasLeader first text → 25 ≤ (frame_of text).length
unfolding frame_of
frame-length text first h = let a = h.directory in let b = h.field_area in omega arith

-- ---- the size of a data record

pub record IsRead (tags : List (List ℕ)) (descriptors : List (List ℕ × Layout)) (number at : ℕ) (bytes : List ℕ) (fields : List RawField) (size : ℕ) : Type 0 where
  pub framed : Framed
  pub is_framed : IsFramed tags false at bytes framed
  pub described : unless_undescribed (first_without (is_described tags descriptors) framed.entries) ≡ Ok tt
  pub has_fields : fields_of tags descriptors number framed.frame bytes framed.entries ≡ Ok fields
  pub size_is : framed.frame.length ≡ size

pub data_record_at-is : (tags : List (List ℕ)) (descriptors : List (List ℕ × Layout)) (number at : ℕ) (bytes : List ℕ) (fields : List RawField) (size : ℕ) → data_record_at tags descriptors number at bytes ≡ Ok (fields, size) → IsRead tags descriptors number at bytes fields size
unfolding data_record_at
data_record_at-is tags descriptors number at bytes fields size h =
    let p = bind_ok (record_at tags false at bytes)
    (λ framed. unless_undescribed (first_without (is_described tags descriptors) framed.entries) >>= λ _. fields_of tags descriptors number framed.frame bytes framed.entries >>= λ fields. Ok (fields, framed.frame.length)) (fields, size) h in
    let q = bind_ok (unless_undescribed (first_without (is_described tags descriptors) p.0.entries))
    (λ _. fields_of tags descriptors number p.0.frame bytes p.0.entries >>= λ fields. Ok (fields, p.0.frame.length)) (fields, size) p.2 in
    let r = bind_ok (fields_of tags descriptors number p.0.frame bytes p.0.entries) (λ fields. Ok (fields, p.0.frame.length)) (fields, size) q.2 in
    let pair : List RawField × ℕ = (r.0, p.0.frame.length) in
    let is : pair ≡ (fields, size) = same_ok pair (fields, size) r.2 in
    record {
      framed = p.0;
      is_framed = record_at-is tags false at bytes p.0 p.1;
      described = q.1;
      has_fields = r.1 ∙ ap (λ (x : List RawField × ℕ). Ok x.0) is;
      size_is = ap (λ (x : List RawField × ℕ). x.1) is;
    }

pub data_record-size : (tags : List (List ℕ)) (descriptors : List (List ℕ × Layout)) (number at : ℕ) (bytes : List ℕ) (fields : List RawField) (size : ℕ) → data_record_at tags descriptors number at bytes ≡ Ok (fields, size)
    → (25 ≤ size) × (size ≤ length bytes)
data_record-size tags descriptors number at bytes fields size h =
    let r = data_record_at-is tags descriptors number at bytes fields size h in
    let f : IsFramed tags false at bytes r.framed = r.is_framed in
    let low = frame-length (take 24 bytes) false f.leader in
    let same : (frame_of (take 24 bytes)).length ≡ r.framed.frame.length = ap (λ (x : Frame). x.length) (sym f.says) in
    let whole = spans_at-whole at r.framed.frame bytes r.framed.entries f.spans in
    let is = r.size_is in
    (omega arith, omega arith)

drop-shorter : (tags : List (List ℕ)) (descriptors : List (List ℕ × Layout)) (number at : ℕ) (bytes : List ℕ) (fields : List RawField) (size : ℕ) → data_record_at tags descriptors number at bytes ≡ Ok (fields, size) → length (drop size bytes) < length bytes
drop-shorter tags descriptors number at bytes fields size h =
    let s = data_record-size tags descriptors number at bytes fields size h in
    let len : length (drop size bytes) ≡ length bytes - size = length-drop size bytes in
    omega arith

-- a bound on the data records is enough where it is the bytes' length
pub records-bound : (bound other : ℕ) (tags : List (List ℕ)) (descriptors : List (List ℕ × Layout)) (number at : ℕ) (bytes : List ℕ) → length bytes ≤ bound → length bytes ≤ other
    → data_records_at bound tags descriptors number at bytes ≡ data_records_at other tags descriptors number at bytes
unfolding data_records_at
records-bound zero zero tags descriptors number at [] enough enough_too = refl
records-bound zero (suc other) tags descriptors number at [] enough enough_too = refl
records-bound (suc bound) zero tags descriptors number at [] enough enough_too = refl
records-bound (suc bound) (suc other) tags descriptors number at [] enough enough_too = refl
records-bound zero other tags descriptors number at (byte ∷ bytes) enough enough_too = absurd (omega arith)
records-bound (suc bound) zero tags descriptors number at (byte ∷ bytes) enough enough_too = absurd (omega arith)
records-bound (suc bound) (suc other) tags descriptors number at (byte ∷ bytes) enough enough_too =
    after-record (data_record_at tags descriptors number at (byte ∷ bytes)) (λ fields size h.
    let less = drop-shorter tags descriptors number at (byte ∷ bytes) fields size h in
    records-bound bound other tags descriptors (number + 1) (at + size) (drop size (byte ∷ bytes)) (omega arith) (omega arith))
  where
    after-record : (read : Result (List RawField × ℕ) FileFault)
        → ((fields : List RawField) (size : ℕ) → read ≡ Ok (fields, size) → data_records_at bound tags descriptors (number + 1) (at + size) (drop size (byte ∷ bytes)) ≡ data_records_at other tags descriptors (number + 1) (at + size) (drop size (byte ∷ bytes)))
        → (read >>= λ x. data_records_at bound tags descriptors (number + 1) (at + x.1) (drop x.1 (byte ∷ bytes)) >>= λ others. Ok (x.0 ∷ others))
        ≡ (read >>= λ x. data_records_at other tags descriptors (number + 1) (at + x.1) (drop x.1 (byte ∷ bytes)) >>= λ others. Ok (x.0 ∷ others))
    after-record (Err fault) same = refl
    after-record (Ok x) same = rw (same x.0 x.1 refl) refl

pub come_to-bound : (bound other : ℕ) (tags : List (List ℕ)) (descriptors : List (List ℕ × Layout)) (number at : ℕ) (bytes : List ℕ) → length bytes ≤ bound → length bytes ≤ other
    → come_to bound tags descriptors number at bytes ≡ come_to other tags descriptors number at bytes
unfolding come_to
come_to-bound zero zero tags descriptors number at [] enough enough_too = refl
come_to-bound zero (suc other) tags descriptors number at [] enough enough_too = refl
come_to-bound (suc bound) zero tags descriptors number at [] enough enough_too = refl
come_to-bound (suc bound) (suc other) tags descriptors number at [] enough enough_too = refl
come_to-bound zero other tags descriptors number at (byte ∷ bytes) enough enough_too = absurd (omega arith)
come_to-bound (suc bound) zero tags descriptors number at (byte ∷ bytes) enough enough_too = absurd (omega arith)
come_to-bound (suc bound) (suc other) tags descriptors number at (byte ∷ bytes) enough enough_too =
    after-record (data_record_at tags descriptors number at (byte ∷ bytes)) (λ fields size h.
    let less = drop-shorter tags descriptors number at (byte ∷ bytes) fields size h in
    come_to-bound bound other tags descriptors (number + 1) (at + size) (drop size (byte ∷ bytes)) (omega arith) (omega arith))
  where
    after-record : (read : Result (List RawField × ℕ) FileFault)
        → ((fields : List RawField) (size : ℕ) → read ≡ Ok (fields, size) → come_to bound tags descriptors (number + 1) (at + size) (drop size (byte ∷ bytes)) ≡ come_to other tags descriptors (number + 1) (at + size) (drop size (byte ∷ bytes)))
        → 1 + or_zero (λ (x : List RawField × ℕ). come_to bound tags descriptors (number + 1) (at + x.1) (drop x.1 (byte ∷ bytes))) read
        ≡ 1 + or_zero (λ (x : List RawField × ℕ). come_to other tags descriptors (number + 1) (at + x.1) (drop x.1 (byte ∷ bytes))) read
    after-record (Err fault) same = refl
    after-record (Ok x) same = rw (same x.0 x.1 refl) refl

-- one data record read
pub records-step : (tags : List (List ℕ)) (descriptors : List (List ℕ × Layout)) (number at : ℕ) (bytes : List ℕ) (fields : List RawField) (size : ℕ) → 0 < length bytes → data_record_at tags descriptors number at bytes ≡ Ok (fields, size)
    → data_records_at (length bytes) tags descriptors number at bytes ≡ (data_records_at (length (drop size bytes)) tags descriptors (number + 1) (at + size) (drop size bytes) >>= λ others. Ok (fields ∷ others))
unfolding data_records_at
records-step tags descriptors number at [] fields size left h = absurd (omega arith)
records-step tags descriptors number at (byte ∷ bytes) fields size left h =
    let less = drop-shorter tags descriptors number at (byte ∷ bytes) fields size h in
    rw (h, records-bound (length bytes) (length (drop size (byte ∷ bytes))) tags descriptors (number + 1) (at + size) (drop size (byte ∷ bytes)) (omega arith) (omega arith)) refl

pub come_to-step : (tags : List (List ℕ)) (descriptors : List (List ℕ × Layout)) (number at : ℕ) (bytes : List ℕ) (fields : List RawField) (size : ℕ) → 0 < length bytes → data_record_at tags descriptors number at bytes ≡ Ok (fields, size)
    → come_to (length bytes) tags descriptors number at bytes ≡ 1 + come_to (length (drop size bytes)) tags descriptors (number + 1) (at + size) (drop size bytes)
unfolding come_to
come_to-step tags descriptors number at [] fields size left h = absurd (omega arith)
come_to-step tags descriptors number at (byte ∷ bytes) fields size left h =
    let less = drop-shorter tags descriptors number at (byte ∷ bytes) fields size h in
    rw (h, come_to-bound (length bytes) (length (drop size (byte ∷ bytes))) tags descriptors (number + 1) (at + size) (drop size (byte ∷ bytes)) (omega arith) (omega arith)) refl

pub come_to-some : (tags : List (List ℕ)) (descriptors : List (List ℕ × Layout)) (number at : ℕ) (bytes : List ℕ) → 0 < length bytes → 1 ≤ come_to (length bytes) tags descriptors number at bytes
unfolding come_to
come_to-some tags descriptors number at [] left = absurd (omega arith)
come_to-some tags descriptors number at (byte ∷ bytes) left = omega arith

pub come_to-last : (fault : FileFault) (tags : List (List ℕ)) (descriptors : List (List ℕ × Layout)) (number at : ℕ) (bytes : List ℕ) → 0 < length bytes → data_record_at tags descriptors number at bytes ≡ Err fault → come_to (length bytes) tags descriptors number at bytes ≡ 1
unfolding come_to
come_to-last fault tags descriptors number at [] left h = absurd (omega arith)
come_to-last fault tags descriptors number at (byte ∷ bytes) left h = rw h refl

pub come_to-failed : (fault : FileFault) (tags : List (List ℕ)) (descriptors : List (List ℕ × Layout)) (number at : ℕ) (bytes : List ℕ) → 0 < length bytes → Fails fault (data_record_at tags descriptors number at bytes) → (fault ≡ NoMemory → ⊥)
    → come_to (length bytes) tags descriptors number at bytes ≡ 1
come_to-failed fault tags descriptors number at bytes left bad other = come_to-last fault tags descriptors number at bytes left (Fails-err fault (data_record_at tags descriptors number at bytes) bad other)

pub come_to-none : (tags : List (List ℕ)) (descriptors : List (List ℕ × Layout)) (number at : ℕ) (bytes : List ℕ) → length bytes ≡ 0 → come_to (length bytes) tags descriptors number at bytes ≡ 0
unfolding come_to
come_to-none tags descriptors number at [] done = refl
come_to-none tags descriptors number at (byte ∷ bytes) done = absurd (omega arith)

-- ---- the loop

pub records-more : (tags : List (List ℕ)) (descriptors : List (List ℕ × Layout)) (front : List (List RawField)) (at : ℕ) (bytes : List ℕ) (fields : List RawField) (size : ℕ) (total : Result (List (List RawField)) FileFault)
    → 0 < length bytes → data_record_at tags descriptors (length front + 1) at bytes ≡ Ok (fields, size)
    → behind front (data_records_at (length bytes) tags descriptors (length front + 1) at bytes) ≡ total
    → behind (front ++ fields ∷ []) (data_records_at (length (drop size bytes)) tags descriptors (length (front ++ fields ∷ []) + 1) (at + size) (drop size bytes)) ≡ total
records-more tags descriptors front at bytes fields size total left h so_far =
    let next : length (front ++ fields ∷ []) + 1 ≡ length front + 1 + 1 = omega (arith, length-append front (fields ∷ [])) in
    rw next (sym (join front fields (data_records_at (length (drop size bytes)) tags descriptors (length front + 1 + 1) (at + size) (drop size bytes)))
    ∙ ap (behind front) (sym (records-step tags descriptors (length front + 1) at bytes fields size left h)) ∙ so_far)

pub records-fail : (fault : FileFault) (tags : List (List ℕ)) (descriptors : List (List ℕ × Layout)) (front : List (List RawField)) (number at : ℕ) (bytes : List ℕ) (total : Result (List (List RawField)) FileFault)
    → 0 < length bytes → Fails fault (data_record_at tags descriptors number at bytes)
    → behind front (data_records_at (length bytes) tags descriptors number at bytes) ≡ total → Fails fault total
unfolding data_records_at
records-fail fault tags descriptors front number at [] total left bad so_far = absurd (omega arith)
records-fail fault tags descriptors front number at (byte ∷ bytes) total left bad so_far =
    Fails-same fault _ _ so_far (Fails-bind fault _ _ (Fails-bind fault _ _ bad))

pub records-all : (tags : List (List ℕ)) (descriptors : List (List ℕ × Layout)) (front : List (List RawField)) (number at : ℕ) (bytes : List ℕ) (total : Result (List (List RawField)) FileFault)
    → length bytes ≡ 0 → behind front (data_records_at (length bytes) tags descriptors number at bytes) ≡ total → total ≡ Ok front
unfolding data_records_at
records-all tags descriptors front number at [] total done so_far = sym so_far ∙ ap (λ (rs : List (List RawField)). Ok rs) (append-nil front)
records-all tags descriptors front number at (byte ∷ bytes) total done so_far = absurd (omega arith)

pub counted-more : (tags : List (List ℕ)) (descriptors : List (List ℕ × Layout)) (front : List (List RawField)) (at : ℕ) (bytes : List ℕ) (fields : List RawField) (size : ℕ)
    → 0 < length bytes → data_record_at tags descriptors (length front + 1) at bytes ≡ Ok (fields, size)
    → come_to (length bytes) tags descriptors (length front + 1) at bytes ≡ 1 + come_to (length (drop size bytes)) tags descriptors (length (front ++ fields ∷ []) + 1) (at + size) (drop size bytes)
counted-more tags descriptors front at bytes fields size left h =
    let next : length (front ++ fields ∷ []) + 1 ≡ length front + 1 + 1 = omega (arith, length-append front (fields ∷ [])) in
    rw next (come_to-step tags descriptors (length front + 1) at bytes fields size left h)

pub counted-all : (tags : List (List ℕ)) (descriptors : List (List ℕ × Layout)) (number at : ℕ) (bytes : List ℕ) (now total : ℕ) → length bytes ≡ 0 → now + come_to (length bytes) tags descriptors number at bytes ≡ total → now ≡ total
counted-all tags descriptors number at bytes now total done so_far = let none = come_to-none tags descriptors number at bytes done in omega arith
