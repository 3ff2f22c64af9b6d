-- A store that is opened: what the bank that the head names holds.
use Rattle.std.proofs.Common.{◌≡◌, ℕ, List, Option, Some, None, IfSome, IfOk, Result, Ok, Err, refl, sym, ◌∙◌, ap, subst}
use Rattle.std.specs.Prelude.{IfErr}
use Rattle.std.proofs.lemmas.Result.{IfErr-weaker, IfOk-weaker}
use Rattle.chart_model.specs.State.{StateValue}
use Rattle.chart_ports.specs.Disk.{SameFiles, SameOthers}
use Rattle.chart_ports.specs.Moments.{images_of}
use Rattle.bank_journal.specs.Content.{Content}
use Rattle.bank_journal.specs.declared.fault.BankFault.{BankFault}
use Rattle.bank_journal.specs.declared.fault.BankFault.TheVariants as banks
use Rattle.bank_journal.specs.Fault as of_bank
use Rattle.bank_pair.specs.Head.{bank_named, content_named}
use Rattle.bank_pair.specs.Pair.{IsPairInStep}
use Rattle.bank_pair.specs.Saving.{SaveValue}
use Rattle.chart_store.specs.declared.open_fault.OpenFault.{OpenFault}
use Rattle.chart_store.specs.declared.store.Store.{Store}
use Rattle.chart_store.specs.Checkpoint.{checkpoint_in}
use Rattle.chart_store.specs.Images.{Place, first_gate, in_bank, read_of, state_after_records, state_by}
use Rattle.chart_store.specs.Opened.{ForeignHas, fault_of_bank}
use Rattle.chart_store.specs.Store.{IsKept, IsSaveOf, pair_of, save_of, state_of}
use Rattle.chart_store.proofs.Naming.{head_apart}
use Rattle.chart_store.proofs.Reading.{SpelledLaw, carried_from, foreign_leads, no_content, not_held, state-holds}

-- the bank was named before
pub named_before : (old new : ℕ → List ℕ) (file : ℕ) → bank_named (new 0) ≡ file → SameOthers (bank_named (old 0)) old new
    → file ≡ bank_named (old 0)
named_before old new file named same = sym named ∙ ap bank_named (same 0 (head_apart old (bank_named (old 0)) refl))

-- ---- the first fault

pub bank_foreign : (contents : ℕ → List ℕ) (fault : BankFault)
    → of_bank.ForeignHas
    (λ bank offset. (bank ≡ bank_named (contents 0)) × (content_named (images_of contents) ≡ Err offset)) fault
    → ForeignHas (λ place. read_of (images_of contents) ≡ Err place) (fault_of_bank fault)
bank_foreign contents banks.DeskFault has = tt
bank_foreign contents (banks.Foreign bank at) has =
    no_content (images_of contents) at has.1 ∙ (λ i. Err (in_bank (sym has.0 i) at))
bank_foreign contents banks.NoMemory has = tt

pub bank_left : (old new : ℕ → List ℕ) (fault : BankFault) → of_bank.ForeignHas (λ _ _. SameFiles old new) fault
    → ForeignHas (λ _. SameFiles old new) (fault_of_bank fault)
bank_left old new banks.DeskFault has = tt
bank_left old new (banks.Foreign bank at) has = has
bank_left old new banks.NoMemory has = tt

-- a place in the bank where what it holds has its first fault
abbrev pub IsFaultOf : Content → ℕ → Place → Type 0
IsFaultOf content bank place = (place.bank ≡ bank) × (state_by content ≡ Err place.at)

pub held_foreign : (contents : ℕ → List ℕ) (content : Content) (file : ℕ) → content_named (images_of contents) ≡ Ok content
    → file ≡ bank_named (contents 0) → (place : Place) → IsFaultOf content file place
    → read_of (images_of contents) ≡ Err place
held_foreign contents content file says named place is =
    not_held (images_of contents) content place.at says is.1
    ∙ (λ i. Err (in_bank (sym (is.0 ∙ named) i) place.at))

-- ---- what a bank holds, by its records

-- a place in the bank where what its records hold has its first fault
abbrev pub IsFaultBehind : Content → StateValue → ℕ → ℕ → Place → Type 0
IsFaultBehind content first gate bank place =
    (place.bank ≡ bank) × (state_after_records first gate content.bodies ≡ Err place.at)

module _ (content : Content) (first : StateValue) (starts : checkpoint_in content.checkpoint ≡ Some first) where
  held_at : (gate : ℕ) → gate ≡ first_gate content
      → state_by content ≡ state_after_records first gate content.bodies
  held_at gate place =
      carried_from content first starts ∙ ap (λ (n : ℕ). state_after_records first n content.bodies) (sym place)

  pub hold-state : (gate : ℕ) (result : Result StateValue OpenFault)
      → IfOk result (λ after. state_after_records first gate content.bodies ≡ Ok after) → gate ≡ first_gate content
      → IfOk result (λ live. state_by content ≡ Ok live)
  hold-state gate result holds place =
      IfOk-weaker result (λ after. state_after_records first gate content.bodies ≡ Ok after)
      (λ live. state_by content ≡ Ok live) (λ live e. held_at gate place ∙ e) holds

  behind_leads : (gate bank : ℕ) → gate ≡ first_gate content → (place : Place)
      → IsFaultBehind content first gate bank place → IsFaultOf content bank place
  behind_leads gate bank here place (in_bank_is, fault) = (in_bank_is, held_at gate here ∙ fault)

  pub hold-foreign : (gate bank : ℕ) (result : Result StateValue OpenFault)
      → IfErr result (ForeignHas (IsFaultBehind content first gate bank)) → gate ≡ first_gate content
      → IfErr result (ForeignHas (IsFaultOf content bank))
  hold-foreign gate bank result has here =
      IfErr-weaker result (ForeignHas (IsFaultBehind content first gate bank)) (ForeignHas (IsFaultOf content bank))
      (foreign_leads (IsFaultBehind content first gate bank) (IsFaultOf content bank) (behind_leads gate bank here)) has

-- ---- what is opened

pub opened-kept : SpelledLaw → (contents : ℕ → List ℕ) (may_leave : ℕ → List ℕ → Type 0) (content : Content)
    (store : Store) → IsPairInStep contents may_leave (pair_of store) content → state_by content ≡ Ok (state_of store)
    → save_of store ≡ None → IsKept contents may_leave store
opened-kept law contents may_leave content store step holds idle = record {
  content = content;
  pair = step;
  holds = state-holds law content (state_of store) holds;
  save = subst (λ (s : Option SaveValue). IfSome s (IsSaveOf content)) (sym idle) tt;
}
