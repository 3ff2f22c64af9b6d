-- What an answer says, where it is what the function on lists gives.
use Rattle.std.proofs.Common.{◌≡◌, ◌≢◌, ℕ, ◌+◌, length, Result, Ok, Err, refl, sym, ap, ◌∙◌, arith, inl, inr}
use Rattle.std.specs.Prelude.{◌⊎◌, IfOk, IfErr}
use Rattle.iso8211_records.specs.declared.fault.FileFault.{FileFault}
use Rattle.iso8211_records.specs.declared.fault.FileFault.TheVariants.{Leader, Directory, Span, Terminator, Descriptor, Subfield, NoMemory}
use Rattle.iso8211_records.specs.FileValue.{FileValue}
use Rattle.iso8211_records.specs.Answers.{Gives}
use Rattle.iso8211_records.proofs.Results.{Fails-err}

-- memory ran out, or it is another fault
pub by-memory : (fault : FileFault) → (fault ≡ NoMemory) ⊎ (fault ≡ NoMemory → ⊥)
by-memory (Leader at) = inr (λ e. cc)
by-memory (Directory at) = inr (λ e. cc)
by-memory (Span at) = inr (λ e. cc)
by-memory (Terminator at) = inr (λ e. cc)
by-memory (Descriptor tag) = inr (λ e. cc)
by-memory (Subfield number tag) = inr (λ e. cc)
by-memory NoMemory = inl refl

pub answer-ok : (P : FileValue → Type 0) (answer read : Result FileValue FileFault) → Gives answer read → ((file : FileValue) → read ≡ Ok file → P file) → IfOk answer P
answer-ok P (Ok file) read h f = f file h
answer-ok P (Err fault) read h f = tt

pub answer-err : (P : FileFault → Type 0) (answer read : Result FileValue FileFault) → Gives answer read → ((fault : FileFault) → read ≡ Err fault → P fault) → IfErr answer (λ fault. fault ≢ NoMemory → P fault)
answer-err P (Ok file) read h f = tt
answer-err P (Err fault) read h f = λ other. f fault (Fails-err fault read h other)

pub answer-is : (answer read wanted : Result FileValue FileFault) → Gives answer read → read ≡ wanted → (answer ≡ wanted) ⊎ (answer ≡ Err NoMemory)
answer-is (Ok file) read wanted h is = inl (sym h ∙ is)
answer-is (Err fault) read wanted h is =
    elim (by-memory fault) [
      | inl memory ↦ inr (ap (λ (f : FileFault). Err f) memory)
      | inr other ↦ inl (sym (Fails-err fault read h other) ∙ is)
    ]

pub answer-counted : (answer read : Result FileValue FileFault) (old new count : ℕ) → Gives answer read → (answer ≢ Err NoMemory → new ≡ old + count) → ((file : FileValue) → read ≡ Ok file → count ≡ length file.records)
    → IfOk answer (λ file. new ≡ old + length file.records)
answer-counted (Ok file) read old new count h counted f = let now = counted (λ e. cc) in let all = f file h in omega arith
answer-counted (Err fault) read old new count h counted f = tt
