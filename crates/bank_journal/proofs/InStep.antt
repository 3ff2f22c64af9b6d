-- A bank that was opened is in step.
use Rattle.std.proofs.Common.{◌≡◌, inl, inr, ℕ, ◌<◌, ◌≤◌, List, [], ◌∷◌, ◌++◌, length, Result, Ok}
use Rattle.std.proofs.Common.{Err, IfOk, refl, sym, ◌∙◌, ap, subst, arith}
use Rattle.std.proofs.lemmas.List.{drop_all}
use Rattle.chart_ports.specs.Disk.{Only, Torn, with_bytes}
use Rattle.chart_ports.specs.Moments.{LeavesOnly}
use Rattle.chart_ports.specs.declared.images.Images.{Images}
use Rattle.bank_journal.specs.declared.bank.Bank.{Bank}
use Rattle.bank_journal.specs.Content.{Content}
use Rattle.bank_journal.specs.declared.fault.BankFault.{BankFault}
use Rattle.bank_journal.specs.Bank.{empty_content, HasContent, gate_of, ReadsAs}
use Rattle.bank_journal.specs.Handle.{place_of}
use Rattle.bank_journal.specs.Moments.{IsInStep, LeavesFile, nine_zeros}
use Rattle.bank_journal.specs.Reading.{bank_of}
use Rattle.bank_journal.proofs.Appending.{file_weaker}
use Rattle.bank_journal.proofs.BankRead.{reading_tells, short_bank}

-- ---- a bank of at most nine bytes

zeros_have_nothing : HasContent nine_zeros empty_content
zeros_have_nothing = record {
  size = 0 ∷ 0 ∷ 0 ∷ 0 ∷ 0 ∷ 0 ∷ 0 ∷ [];
  records = 0 ∷ [];
  last = 0 ∷ [];
  parts = refl;
  seven = refl;
  counted = refl;
  bodies = refl;
  shut = record { gate = 0; behind = []; parts = refl; closed = omega arith };
}

pub zeros_written : (old : List ℕ) → length old ≤ 9 → with_bytes 0 nine_zeros old ≡ nine_zeros
zeros_written old short = ap (λ (l : List ℕ). nine_zeros ++ l) (drop_all 9 old short)

pub zeros_in_step : (old next : List ℕ) (may_leave : List ℕ → Type 0) → length old ≤ 9
    → next ≡ with_bytes 0 nine_zeros old → Only next may_leave → IsInStep next may_leave 8 empty_content
zeros_in_step old next may_leave short next_is settled =
    let is : next ≡ nine_zeros = next_is ∙ zeros_written old short in
    record {
      has = subst (λ (l : List ℕ). HasContent l empty_content) (sym is) zeros_have_nothing;
      reads = short_bank next (omega (arith, ap length is));
      gate = refl;
      settled = settled;
    }

-- whatever stands in them reads as nothing
torn_zeros : (old image : List ℕ) → length old ≤ 9 → Torn 0 9 old image → bank_of image ≡ bank_of old
torn_zeros old image short torn = short_bank image (omega (arith, torn.no_longer)) ∙ sym (short_bank old short)

-- while the empty bank is written over it, it reads at each moment as before
pub zeros_at_each_moment : {D : Type 0} {clock : D → ℕ} {might : D → ℕ → Images → List ℕ → Type 0} {old new : D}
    {file : ℕ} {may_leave : ℕ → List ℕ → Type 0} {said bytes : List ℕ} → length bytes ≤ 9
    → LeavesOnly clock might old new (LeavesFile file may_leave said (Torn 0 9 bytes))
    → LeavesOnly clock might old new (LeavesFile file may_leave said (λ image. bank_of image ≡ bank_of bytes))
zeros_at_each_moment {clock = clock} {might = might} {bytes = bytes} short run =
    file_weaker clock might _ _ _ _ _ (Torn 0 9 bytes) (λ image. bank_of image ≡ bank_of bytes)
    (λ image torn. torn_zeros bytes image short torn) run

-- ---- a longer one

has_read : (bytes : List ℕ) (content : Content) → 9 < length bytes → ReadsAs bytes content
    → HasContent bytes content
has_read bytes content long (inl short) = absurd (omega (arith, short.0))
has_read bytes content long (inr has) = has.1

pub read_in_step : (old next : List ℕ) (may_leave : List ℕ → Type 0) (place : ℕ) (content : Content)
    → 9 < length old → bank_of old ≡ Ok content → place ≡ gate_of content → next ≡ old → Only next may_leave
    → IsInStep next may_leave place content
read_in_step old next may_leave place content long reads gate same settled =
    let has = has_read old content long (reading_tells old content reads) in
    record {
      has = subst (λ (l : List ℕ). HasContent l content) (sym same) has;
      reads = ap bank_of same ∙ reads;
      gate = gate;
      settled = settled;
    }

-- ---- by the answers of the parts

pub zeros_opened : (old next : List ℕ) (content : Content) (may_leave : List ℕ → Type 0) (place : ℕ) → length old ≤ 9
    → next ≡ with_bytes 0 nine_zeros old → Only next may_leave → place ≡ 8 → content ≡ empty_content
    → IsInStep next may_leave place content
zeros_opened old next content may_leave place short next_is settled place_is none =
    let step = zeros_in_step old next may_leave short next_is settled in
    subst (λ (p : ℕ). IsInStep next may_leave p content) (sym place_is)
    (subst (IsInStep next may_leave 8) (sym none) step)

abbrev pub Opened : Type 0
Opened = Result (Bank × Content) BankFault

pub read_opened_in_step : (old next bytes : List ℕ) (may_leave : List ℕ → Type 0) (result : Opened) → bytes ≡ old
    → 9 < length bytes → IfOk result (λ opened. bank_of bytes ≡ Ok opened.1)
    → IfOk result (λ opened. place_of opened.0 ≡ gate_of opened.1) → next ≡ old → Only next may_leave
    → IfOk result (λ opened. IsInStep next may_leave (place_of opened.0) opened.1)
read_opened_in_step old next bytes may_leave (Ok opened) same long reads gate kept settled =
    read_in_step old next may_leave (place_of opened.0) opened.1 (omega (arith, ap length same)) (ap bank_of (sym same)
    ∙ reads) gate kept settled
read_opened_in_step old next bytes may_leave (Err fault) same long reads gate kept settled = tt

pub short_content : (old : List ℕ) (result : Opened) → length old ≤ 9 → IfOk result (λ opened. opened.1 ≡ empty_content)
    → IfOk result (λ opened. bank_of old ≡ Ok opened.1)
short_content old (Ok opened) short none = short_bank old short ∙ ap (λ (c : Content). Ok c) (sym none)
short_content old (Err fault) short none = tt

pub still_settled : (may_leave then_may : List ℕ → Type 0) (old next : List ℕ) → Only old may_leave
    → ((image : List ℕ) → then_may image → may_leave image) → next ≡ old → Only next then_may
still_settled may_leave then_may old next settled less same = λ image left. settled image (less image left) ∙ sym same
