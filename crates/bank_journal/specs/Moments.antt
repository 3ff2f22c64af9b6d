-- What a crash leaves of a bank at each moment.
use Rattle.std.specs.Prelude.{◌≡◌, ◌≢◌, ◌⊎◌, ℕ, List, [], ◌∷◌, Ok}
use Rattle.chart_ports.specs.declared.images.Images.{Images}
use Rattle.chart_ports.specs.Disk.{Only}
use Rattle.chart_ports.specs.Moments.{image_of}
use Rattle.bank_journal.specs.Content.{Content}
use Rattle.bank_journal.specs.Bank.{with_body, HasContent, gate_of}
use Rattle.bank_journal.specs.Reading.{bank_of}

-- the bytes of a bank's file have this content, with the closed gate at this place, and a crash leaves what a read
-- gives
pub record IsInStep (bytes : List ℕ) (may_leave : List ℕ → Type 0) (place : ℕ) (content : Content) : Type 0 where
  pub has : HasContent bytes content
  pub reads : bank_of bytes ≡ Ok content
  pub gate : place ≡ gate_of content
  pub settled : Only bytes may_leave

-- nothing more is said, a crash leaves each other file as it might have been left before, and this one so that it has
-- P
pub record LeavesFile (file : ℕ) (may_leave : ℕ → List ℕ → Type 0) (said : List ℕ) (P : List ℕ
    → Type 0) (images : Images) (so_far : List ℕ) : Type 0 where
  pub silent : so_far ≡ said
  pub others : (other : ℕ) → other ≢ file → may_leave other (image_of images other)
  pub this : P (image_of images file)

-- what is written over the bytes of a bank that has at most nine
abbrev pub nine_zeros : List ℕ
nine_zeros = 0 ∷ 0 ∷ 0 ∷ 0 ∷ 0 ∷ 0 ∷ 0 ∷ 0 ∷ 0 ∷ []

-- the bytes read as the content before the record, or as the content with it
abbrev pub IsBeforeOrAfter : Content → List ℕ → List ℕ → Type 0
IsBeforeOrAfter content body bytes = (bank_of bytes ≡ Ok content) ⊎ (bank_of bytes ≡ Ok (with_body content body))
