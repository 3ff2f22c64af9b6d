-- Update sequences.
use Rattle.std.proofs.Common.{◌≡◌, ◌≢◌, inl, inr, ℕ, true, List, [], ◌∷◌, ◌++◌, length, Option, None, Ok, refl, sym, ◌∙◌, ap, subst}
use Rattle.std.proofs.lemmas.List.{append_assoc}
use Rattle.std.specs.Result.{is_ok}
use Rattle.chart_model.specs.Cell.{CellValue}
use Rattle.chart_model.specs.Dataset.{DatasetValue}
use Rattle.chart_model.specs.State.{IsFileLength}
use Rattle.chart_model.specs.declared.state.Held.{Held}
use Rattle.update_sequence.specs.declared.effect.Effect.{Effect}
use Rattle.update_sequence.specs.Reading.{data_set_in}
use Rattle.update_sequence.specs.Judged.{judged}
use Rattle.update_sequence.specs.Built.{built}
use Rattle.update_sequence.specs.Rebuilt.{held_by, rebuilt}
use Rattle.update_sequence.specs.Sequence.{Follows, IsUpdateSequence}
use Rattle.update_sequence.proofs.Lists.{split_more}

no_files : (files : List (List ℕ)) (file : List ℕ) → files ++ file ∷ [] ≢ []
no_files [] file e = cc
no_files (first ∷ files) file e = cc

pub sequence-next : (key : List ℕ) (files : List (List ℕ)) (file : List ℕ) → ((before after : List (List ℕ)) (file : List ℕ) → files ≡ before ++ file ∷ after → Follows key before file) →
    Follows key files file → IsUpdateSequence key (files ++ file ∷ [])
sequence-next key files file each follows = record {
  some = no_files files file;
  each = λ before after other e.
      elim (split_more files file before after other e) [
        | inl h ↦ subst (λ (f : List ℕ). Follows key before f) (sym h.1) (subst (λ (b : List (List ℕ)). Follows key b file) (sym h.0) follows)
        | inr h ↦ each before h.0 other h.1
      ];
}

none_before : (before after : List (List ℕ)) (file : List ℕ) → [] ≢ before ++ file ∷ after
none_before [] after file e = cc
none_before (first ∷ before) after file e = cc

pub sequence-first : (key file : List ℕ) → Follows key [] file → IsUpdateSequence key (file ∷ [])
sequence-first key file follows = sequence-next key [] file (λ before after other e. absurd (none_before before after other e)) follows

pub sequence-before : (key : List ℕ) (files rest : List (List ℕ)) → files ≢ [] → IsUpdateSequence key (files ++ rest) → IsUpdateSequence key files
sequence-before key files rest some sequence = record {
  some = some;
  each = λ before after file e. sequence.each before (after ++ rest) file (ap (λ (l : List (List ℕ)). l ++ rest) e ∙ append_assoc before (file ∷ after) rest);
}

-- a base file that is read, judged and built alone may come first
pub follows-first : (file : List ℕ) (dataset : DatasetValue) (effect : Effect) (cell : CellValue) → held_by [] ≡ None → rebuilt [] ≡ None → IsFileLength (length file) →
    data_set_in file ≡ Ok dataset → dataset.base ≡ true → judged None dataset ≡ Ok effect → built None dataset ≡ Ok cell → Follows dataset.header.key [] file
follows-first file dataset effect cell held chart short reads base accepted made = record {
  dataset = dataset;
  short = short;
  reads = reads;
  keyed = refl;
  first = (λ _. refl, λ _. base);
  accepted = ap is_ok (ap (λ (h : Option Held). judged h dataset) held ∙ accepted);
  builds = λ _. ap is_ok (ap (λ (c : Option CellValue). built c dataset) chart ∙ made);
}
