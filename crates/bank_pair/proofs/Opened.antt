-- A pair of banks that is opened.
use Rattle.std.proofs.Common.{◌≡◌, inl, inr, ℕ, ◌<◌, List, length, Err, sym, ◌∙◌, ap, arith}
use Rattle.std.proofs.lemmas.Bool.{cases_lt}
use Rattle.std.specs.Int.{IsInRange}
use Rattle.chart_ports.specs.declared.images.Images.{Images}
use Rattle.chart_ports.specs.Disk.{Only, SameFiles}
use Rattle.chart_ports.specs.Moments.{LeavesOnly, images_of}
use Rattle.chart_ports.proofs.Moments.{and_then, weaker}
use Rattle.bank_journal.specs.declared.fault.BankFault.{BankFault}
use Rattle.bank_journal.specs.declared.fault.BankFault.TheVariants.{DeskFault, Foreign, NoMemory}
use Rattle.bank_journal.specs.Fault.{ForeignHas}
use Rattle.bank_journal.specs.Moments.{LeavesFile}
use Rattle.bank_journal.specs.Reading.{bank_of}
use Rattle.bank_journal.proofs.BankRead.{short_bank}
use Rattle.bank_pair.specs.Head.{bank_named, content_named}
use Rattle.bank_pair.specs.Pair.{LeavesNamed}
use Rattle.bank_pair.proofs.Naming.{content_in, content_read}

abbrev pub Leaving : Type 1
Leaving = ℕ → List ℕ → Type 0

module _ (contents mid : ℕ → List ℕ) (file : ℕ) (bank : IsInRange 1 2 file) (named : file ≡ bank_named (contents 0))
    (same : SameFiles contents mid) where
  pub opened_content : content_named (images_of contents) ≡ bank_of (mid file)
  opened_content = content_read contents file bank (sym named) ∙ ap bank_of (sym (same file))

  -- ---- a bank that is refused

  pub foreign_named : (fault : BankFault)
      → ForeignHas (λ bank offset. (bank ≡ file) × (bank_of (mid file) ≡ Err offset)) fault
      → ForeignHas
      (λ bank offset. (bank ≡ bank_named (contents 0)) × (content_named (images_of contents) ≡ Err offset)) fault
  foreign_named DeskFault has = tt
  foreign_named (Foreign bank offset) has = (has.0 ∙ named, opened_content ∙ has.1)
  foreign_named NoMemory has = tt

  -- a bank that has a fault has more than nine bytes, and those aren't written
  faulty_is_long : (offset : ℕ) → bank_of (mid file) ≡ Err offset → 9 < length (mid file)
  faulty_is_long offset fault =
      elim (cases_lt 9 (length (mid file))) [
        | inl long ↦ long
        | inr short ↦ let reads = short_bank (mid file) (omega (arith, short)) in cc
      ]

  pub refused_left : (new : ℕ → List ℕ) (fault : BankFault)
      → ForeignHas (λ bank offset. (bank ≡ file) × (bank_of (mid file) ≡ Err offset)) fault
      → (9 < length (mid file) → SameFiles mid new) → ForeignHas (λ _ _. SameFiles contents new) fault
  refused_left new DeskFault has long = tt
  refused_left new (Foreign bank offset) has long = λ other. long (faulty_is_long offset has.1) other ∙ same other
  refused_left new NoMemory has long = tt

  -- ---- by moments

  -- the bank reads as it did before, beside a head that is on the disk
  reads_same : (may_leave then_may : Leaving) (said then_said : List ℕ) → Only (mid 0) (then_may 0) → then_said ≡ said
      → (images : Images) (so_far : List ℕ)
      → LeavesFile file then_may then_said (λ image. bank_of image ≡ bank_of (mid file)) images so_far
      → LeavesNamed contents may_leave said images so_far
  reads_same may_leave then_may said then_said settled silent images so_far leaves =
      let head = ap bank_named (settled images.head (leaves.others 0 (λ e. omega (arith, e, bank.0))) ∙ same 0) in
      record {
        silent = leaves.silent ∙ silent;
        either = inr (record {
          file = head;
          content = content_in images file (head ∙ sym named) ∙ leaves.this ∙ sym opened_content;
        });
      }

  -- the files are brought to the disk, and then the bank is opened
  pub opens_behind : {D : Type 0} (clock : D → ℕ) (might : D → ℕ → Images → List ℕ → Type 0) (old between new : D)
      (may_leave then_may : Leaving) (said then_said : List ℕ)
      → LeavesOnly clock might old between (LeavesNamed contents may_leave said)
      → Only (mid 0) (then_may 0) → then_said ≡ said
      → LeavesOnly clock might between new
      (LeavesFile file then_may then_said (λ image. bank_of image ≡ bank_of (mid file)))
      → LeavesOnly clock might old new (LeavesNamed contents may_leave said)
  opens_behind clock might old between new may_leave then_may said then_said before settled silent opened =
      and_then clock might old between new (LeavesNamed contents may_leave said) before
      (weaker clock might between new
      (LeavesFile file then_may then_said (λ image. bank_of image ≡ bank_of (mid file)))
      (LeavesNamed contents may_leave said)
      (reads_same may_leave then_may said then_said settled silent) opened)
