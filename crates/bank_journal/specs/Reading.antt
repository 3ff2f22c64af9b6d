-- What the bytes of a bank say, as a function.
use Rattle.std.specs.Prelude.{ℕ, zero, suc, ◌+◌, ◌-◌, ◌%◌, ◌==◌, ◌&&◌, nat_le, nat_lt, if◌then◌else◌, List, [], ◌∷◌}
use Rattle.std.specs.Prelude.{◌++◌, length, take, drop, slice_index, Result, Ok, Err}
use Rattle.byteorder.specs.Endian.{big_number}
use Rattle.bank_journal.specs.Content.{Content}
use Rattle.bank_journal.specs.Bank.{checkpoint_length, empty_content}

-- these bodies before those that are read
abbrev pub behind_bodies : List (List ℕ) → Result (List (List ℕ)) ℕ → Result (List (List ℕ)) ℕ
behind_bodies bodies (Ok more) = Ok (bodies ++ more)
behind_bodies bodies (Err left) = Err left

-- the body whose length begins the bytes
abbrev pub body_in : List ℕ → List ℕ
body_in bytes = take (big_number 4 bytes) (drop 4 bytes)

-- the bodies of the records behind the first bytes, of which so many are passed, up to the first closed gate; or how
-- many bytes are left at the first open gate whose record is cut short
unfoldable pub bodies_in : ℕ → List ℕ → Result (List (List ℕ)) ℕ
bodies_in passed [] = Err 0
bodies_in (suc passed) (first ∷ bytes) = bodies_in passed bytes
bodies_in zero (gate ∷ behind) =
    if gate % 2 == 1
    then if nat_lt (4 + big_number 4 behind) (length behind)
    then behind_bodies (body_in behind ∷ []) (bodies_in (4 + big_number 4 behind) behind)
    else Err (length (gate ∷ behind))
    else Ok []

-- the content with these bodies, or the place of what is left
abbrev pub content_of : List ℕ → Result (List (List ℕ)) ℕ → Result Content ℕ
content_of bytes (Ok bodies) =
    Ok (record { checkpoint = take (checkpoint_length bytes) (drop 8 bytes); bodies = bodies })
content_of bytes (Err left) = Err (length bytes - left)

-- the content of a bank with these bytes, or the place of the first fault
unfoldable pub bank_of : List ℕ → Result Content ℕ
bank_of bytes =
    if nat_le (length bytes) 9 then Ok empty_content
    else if (slice_index bytes 0 == 0) && nat_lt (8 + checkpoint_length bytes) (length bytes)
    then content_of bytes (bodies_in (8 + checkpoint_length bytes) bytes)
    else Err 0
