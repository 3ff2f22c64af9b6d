-- What a run says, and how it ends.
use Rattle.std.specs.Prelude.{◌≡◌, ◌⊎◌, ℕ, ◌≤◌, Bool, true, List, Option, Some, None, Result, Ok}
use Rattle.std.specs.Prelude.{IsTrue, IsErrOf, IfOk, IfErr}
use Rattle.chart_model.specs.Answers.{FailsBy}
use Rattle.chart_ports.specs.Count.{Rose}
use Rattle.session_core.specs.Fetch.{Files}
use Rattle.picture_words.specs.Reading.{PictureValue, are_refused, ask, words_of}
use Rattle.chart_picture.specs.End.{ends_fetching, told}
use Rattle.chart_picture.specs.Material.{IsDrawn, material_in}
use Rattle.chart_picture.specs.declared.run.end.End.{End}
use Rattle.chart_picture.specs.declared.run.end.End.TheVariants.{NoMemory, ShelfFault, Words}
use Rattle.chart_picture.specs.declared.run.material.Material.{Material}

-- ---- what is said

-- the document that the words ask for, of what lies on the shelf
pub record IsDrawnFrom (files : Files) (said : PictureValue) (document : List ℕ) : Type 0 where
  pub material : Material
  pub gathered : material_in files said ≡ Ok material
  pub drawn : IsDrawn said material document

-- the document; or some text, where the words ask for the help or the version
abbrev pub IsAnswerBy : Files → List (List ℕ) → Option PictureValue → List ℕ → Type 0
IsAnswerBy files words (Some said) bytes = IsDrawnFrom files said bytes
IsAnswerBy files words None bytes = ask words ≡ true

abbrev pub IsAnswer : Files → List (List ℕ) → List ℕ → Type 0
IsAnswer files words bytes = IsAnswerBy files words (words_of words) bytes

-- ---- what there is to say

-- The document is drawn of what lies on the shelf, where that is told; or the first file is told that is refused,
-- unless the shelf failed or memory ran out. The shelf's files stay, and its count of faults doesn't fall.
pub record IsPictured {L : Type 0} (tells : Bool) (files : L → Files) (faults : L → ℕ) (before now : L)
    (said : PictureValue) (answer : Result (List ℕ) End) : Type 0 where
  pub drawn : IsTrue tells → IfOk answer (IsDrawnFrom (files before) said)
  pub refused : IsTrue tells → IfErr answer (λ end. FailsBy told end (material_in (files before) said))
  pub ends : IfErr answer (λ end. IsTrue (ends_fetching end))
  pub failed : IsErrOf answer ShelfFault → Rose (faults before) (faults now)
  pub files_stay : IsTrue tells → files now ≡ files before
  pub later : faults before ≤ faults now

-- the run ends at the words, which are refused; or there is no memory
abbrev pub IsWordsEnd : List (List ℕ) → End → Type 0
IsWordsEnd words end = ((end ≡ Words) × (are_refused words ≡ true)) ⊎ (end ≡ NoMemory)

-- No file is fetched. A text is asked for, or the words are refused.
pub record IsUnread {L : Type 0} (before now : L) (words : List (List ℕ)) (answer : Result (List ℕ) End) : Type 0 where
  pub unread : now ≡ before
  pub asked : IfOk answer (λ bytes. ask words ≡ true)
  pub ends : IfErr answer (IsWordsEnd words)

-- what is answered to words that say this, or nothing
abbrev pub IsAnswered : {L : Type 0} → Bool → (L → Files) → (L → ℕ) → L → L → List (List ℕ) → Option PictureValue
    → Result (List ℕ) End → Type 0
IsAnswered tells files faults before now words (Some said) answer = IsPictured tells files faults before now said answer
IsAnswered tells files faults before now words None answer = IsUnread before now words answer
