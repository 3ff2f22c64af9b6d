-- Files that are refused are left as they are: a bank of nine bytes or fewer reads, and any other isn't written.
use Rattle.std.proofs.Common.{◌≡◌, ℕ, ◌+◌, ◌<◌, ◌≤◌, List, length, Result, Ok, Err, refl, ◌∙◌, arith, inl, inr}
use Rattle.std.proofs.lemmas.Bool.{cases_lt}
use Rattle.chart_ports.specs.Disk.{SameFiles}
use Rattle.chart_ports.specs.Moments.{images_of}
use Rattle.bank_journal.specs.Bank.{gate_of, empty_content}
use Rattle.bank_journal.proofs.BankRead.{short_bank}
use Rattle.bank_pair.specs.Head.{bank_named}
use Rattle.chart_store.specs.Checkpoint.{checkpoint_in}
use Rattle.chart_store.specs.Images.{Place, read_of, state_by}
use Rattle.chart_store.specs.Loaded.{nothing_held}
use Rattle.chart_store.proofs.Naming.{says_read}
use Rattle.chart_store.proofs.Reading.{state_in}

no_both : {A B : Type 0} (r : Result A B) (a : A) (b : B) → r ≡ Ok a → r ≡ Err b → ⊥
no_both r a b x y = cc

empty_holds : state_by empty_content ≡ Ok nothing_held
unfolding state_by checkpoint_in
empty_holds = refl

short_reads : (contents : ℕ → List ℕ) → length (contents (bank_named (contents 0))) ≤ 9
    → read_of (images_of contents) ≡ Ok (record { state = nothing_held; used = gate_of empty_content + 1 })
short_reads contents short =
    state_in (images_of contents) empty_content nothing_held
    (says_read contents (bank_named (contents 0)) refl ∙ short_bank (contents (bank_named (contents 0))) short) empty_holds

-- the files are left where what the bank holds isn't taken
pub content_left : (contents new : ℕ → List ℕ) (place : Place) → read_of (images_of contents) ≡ Err place
    → (9 < length (contents (bank_named (contents 0))) → SameFiles contents new) → SameFiles contents new
content_left contents new place none long =
    elim (cases_lt 9 (length (contents (bank_named (contents 0))))) [
      | inl h ↦ long h
      | inr h ↦ absurd (no_both (read_of (images_of contents))
          (record { state = nothing_held; used = gate_of empty_content + 1 }) place
          (short_reads contents (omega (arith, h))) none)
    ]
