-- What the bytes of a bank say.
use Rattle.std.specs.Prelude.{◌≡◌, ◌⊎◌, ℕ, ◌+◌, ◌%◌, ◌<◌, ◌≤◌, List, [], ◌∷◌, ◌++◌, length, drop, slice_index}
use Rattle.std.specs.List.{sum_by}
use Rattle.byteorder.specs.Endian.{big_number, big_bytes}
use Rattle.bank_journal.specs.Content.{Content}

-- ---- records

-- what stands behind the gate of a record, and the gate that closes the bank behind it: the body's length in four
-- bytes, the most significant first, the body, and a closed gate
abbrev pub frame_of : List ℕ → List ℕ
frame_of body = big_bytes 4 (length body) ++ (body ++ 0 ∷ [])

-- a body's length can be said in four bytes
abbrev pub IsBodyLength : ℕ → Type 0
IsBodyLength n = n < 4294967296

-- a gate is open where its lowest bit is 1
abbrev pub IsOpen : ℕ → Type 0
IsOpen gate = gate % 2 ≡ 1

-- a record begins the bytes, and more stands behind it: an open gate, the body's length in four bytes, the body
pub record BeginsRecord (bytes body more : List ℕ) : Type 0 where
  pub gate : ℕ
  pub size : List ℕ
  pub parts : bytes ≡ gate ∷ (size ++ (body ++ more))
  pub opened : IsOpen gate
  pub four : length size ≡ 4
  pub counted : big_number 4 size ≡ length body

-- the bytes are records with these bodies, one behind the other, and then the rest
abbrev pub AreRecords : List ℕ → List (List ℕ) → List ℕ → Type 0
AreRecords bytes [] rest = bytes ≡ rest
AreRecords bytes (body ∷ bodies) rest = (more : List ℕ) × BeginsRecord bytes body more × AreRecords more bodies rest

-- a closed gate begins the bytes
pub record IsShut (bytes : List ℕ) : Type 0 where
  pub gate : ℕ
  pub behind : List ℕ
  pub parts : bytes ≡ gate ∷ behind
  pub closed : ¬ IsOpen gate

-- an open gate begins the bytes, and its record or the gate behind that passes their end
pub record IsCutShort (bytes : List ℕ) : Type 0 where
  pub gate : ℕ
  pub behind : List ℕ
  pub parts : bytes ≡ gate ∷ behind
  pub opened : IsOpen gate
  pub passes : length behind ≤ 4 + big_number 4 behind

-- ---- the header

-- the checkpoint's length stands in bytes 1 to 7
abbrev pub checkpoint_length : List ℕ → ℕ
checkpoint_length bytes = big_number 7 (drop 1 bytes)

-- byte 0 is the layout, which is 0, and a gate at least stands behind the checkpoint
pub record HasHeader (bytes : List ℕ) : Type 0 where
  pub layout : slice_index bytes 0 ≡ 0
  pub fits : 8 + checkpoint_length bytes < length bytes

-- ---- the whole

-- no checkpoint, and no record
abbrev pub empty_content : Content
empty_content = record { checkpoint = []; bodies = [] }

-- the layout 0, the checkpoint's length in seven bytes, the checkpoint, records with these bodies, a closed gate, and
-- then anything
pub record HasContent (bytes : List ℕ) (content : Content) : Type 0 where
  pub size : List ℕ
  pub records : List ℕ
  pub last : List ℕ
  pub parts : bytes ≡ 0 ∷ (size ++ (content.checkpoint ++ records))
  pub seven : length size ≡ 7
  pub counted : big_number 7 size ≡ length content.checkpoint
  pub bodies : AreRecords records content.bodies last
  pub shut : IsShut last

-- the place of the closed gate: behind eight bytes, the checkpoint, and five bytes more than each body has
abbrev pub gate_of : Content → ℕ
gate_of content = 8 + length content.checkpoint + sum_by (λ body. 5 + length body) content.bodies

-- the content with one body more
abbrev pub with_body : Content → List ℕ → Content
with_body content body = record { checkpoint = content.checkpoint; bodies = content.bodies ++ body ∷ [] }

-- the bytes read so: as the empty content where there are at most nine, whatever they are; else as they say
abbrev pub ReadsAs : List ℕ → Content → Type 0
ReadsAs bytes content =
    ((length bytes ≤ 9) × (content ≡ empty_content)) ⊎ ((9 < length bytes) × HasContent bytes content)

-- whole records stand up to this place, and there one is cut short
pub record IsCutAt (bytes : List ℕ) (offset : ℕ) : Type 0 where
  pub bodies : List (List ℕ)
  pub rest : List ℕ
  pub records : AreRecords (drop (8 + checkpoint_length bytes) bytes) bodies rest
  pub cut : IsCutShort rest
  pub place : offset + length rest ≡ length bytes

-- this is the place of the first fault: 0 where there is no header, else that of the first open gate whose record
-- is cut short
abbrev pub HasFault : List ℕ → ℕ → Type 0
HasFault bytes offset =
    (9 < length bytes)
    × ((¬ HasHeader bytes × (offset ≡ 0)) ⊎ (HasHeader bytes × IsCutAt bytes offset))
