-- What a crash leaves while a store is opened.
use Rattle.std.proofs.Common.{ℕ, List, ⊎_elim, inl, inr, ◌∙◌}
use Rattle.chart_ports.specs.declared.images.Images.{Images}
use Rattle.chart_ports.specs.Moments.{LeavesOnly, images_of}
use Rattle.chart_ports.proofs.Moments.{weaker}
use Rattle.bank_pair.specs.Pair.{LeavesNamed}
use Rattle.chart_store.specs.Store.{LeavesReading}
use Rattle.chart_store.proofs.Reading.{same_reading}

abbrev pub Leaving : Type 1
Leaving = ℕ → List ℕ → Type 0

-- a bank that is named as before and says what it said is read as before, and stands for what it did
reads_same : (contents : ℕ → List ℕ) (may_leave : Leaving) (said : List ℕ) (images : Images) (so_far : List ℕ)
    → LeavesNamed contents may_leave said images so_far → LeavesReading contents may_leave said images so_far
reads_same contents may_leave said images so_far leaves = record {
  silent = leaves.silent;
  either = ⊎_elim (λ left. inl left)
      (λ same. inr (record {
        reads = same_reading images (images_of contents) same;
        stands = λ state stood. record {
          content = stood.content;
          says = same.content ∙ stood.says;
          holds = stood.holds;
          reached = stood.reached;
        };
      }))
      leaves.either;
}

pub opens : {D : Type 0} (clock : D → ℕ) (might : D → ℕ → Images → List ℕ → Type 0) (old new : D)
    (contents : ℕ → List ℕ) (may_leave : Leaving) (said : List ℕ)
    → LeavesOnly clock might old new (LeavesNamed contents may_leave said)
    → LeavesOnly clock might old new (LeavesReading contents may_leave said)
opens clock might old new contents may_leave said run =
    weaker clock might old new (LeavesNamed contents may_leave said) (LeavesReading contents may_leave said)
    (reads_same contents may_leave said) run
