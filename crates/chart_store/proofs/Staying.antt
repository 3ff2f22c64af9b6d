-- What a desk that keeps a store leaves of it, and how long a desk keeps it.
use Rattle.std.proofs.Common.{◌≡◌, ℕ, ◌+◌, List, Ok, sym, ap, ◌∙◌, subst}
use Rattle.chart_ports.specs.declared.images.Images.{Images}
use Rattle.chart_ports.specs.Disk.{LeavesNoMore, SameFiles}
use Rattle.chart_ports.specs.Moments.{MayBeLeft}
use Rattle.bank_journal.specs.Bank.{HasContent}
use Rattle.bank_journal.specs.Reading.{bank_of}
use Rattle.bank_pair.specs.Head.{bank_named, other_than}
use Rattle.bank_pair.specs.Pair.{HasSlices}
use Rattle.chart_store.specs.declared.store.Store.{Store}
use Rattle.chart_store.specs.Images.{read_of}
use Rattle.chart_store.specs.Store.{IsKept, pair_of, state_of, used_of}
use Rattle.chart_store.proofs.Naming.{left_says}
use Rattle.chart_store.proofs.Reading.{SpelledLaw, holds-read}

module _ (contents : ℕ → List ℕ) (may_leave : ℕ → List ℕ → Type 0) (store : Store)
    (kept : IsKept contents may_leave store) where
  pub kept-read : SpelledLaw → (images : Images) → MayBeLeft may_leave images →
      read_of images ≡ Ok (record { state = state_of store; used = used_of store })
  kept-read law images left =
      holds-read law images kept.content (state_of store)
      (left_says contents may_leave (pair_of store) kept.content kept.pair images left) kept.holds
      ∙ ap (λ (gate : ℕ). Ok (record { state = state_of store; used = gate + 1 })) (sym kept.pair.bank.gate)

  pub kept-stays : (next : ℕ → List ℕ) (then_may : ℕ → List ℕ → Type 0) → SameFiles contents next →
      LeavesNoMore may_leave then_may → IsKept next then_may store
  kept-stays next then_may same no_more =
      let pair = pair_of store in
      record {
        content = kept.content;
        pair = record {
          named = ap bank_named (same 0) ∙ kept.pair.named;
          head = λ image left. kept.pair.head image (no_more 0 image left) ∙ sym (same 0);
          bank = record {
            has = subst (λ (bytes : List ℕ). HasContent bytes kept.content) (sym (same pair.file)) kept.pair.bank.has;
            reads = ap bank_of (same pair.file) ∙ kept.pair.bank.reads;
            gate = kept.pair.bank.gate;
            settled = λ image left. kept.pair.bank.settled image (no_more pair.file image left) ∙ sym (same pair.file);
          };
          slices = subst (λ (bytes : List ℕ). HasSlices bytes pair.save) (sym (same (other_than pair.file)))
              kept.pair.slices;
        };
        holds = kept.holds;
        save = kept.save;
      }
