-- Ends that are passed up.
use Rattle.std.proofs.Common.{◌≡◌, ◌≢◌, ℕ, true, false, Option, Some, None, Result, Err, refl, sym, ◌∙◌, ap, subst, inl, inr}
use Rattle.std.specs.Prelude.{IsErrAnd, IsTrue, IfSome, List}
use Rattle.std.proofs.lemmas.Result.{err_from_is_err_and}
use Rattle.chart_model.specs.Answers.{◌>>=◌}
use Rattle.chart_picture.specs.End.{Gives, ends_fetching, ends_reading}
use Rattle.chart_picture.specs.Files.{IsRefusedAs}
use Rattle.chart_picture.specs.Fetching.{IsRead}
use Rattle.chart_picture.specs.declared.run.fault.FileFault.{FileFault}
use Rattle.chart_picture.specs.declared.run.end.Place.{Place}
use Rattle.chart_picture.specs.declared.run.end.End.{End}
use Rattle.chart_picture.specs.declared.run.end.End.TheVariants.{Done, Words, Tables, File, OutputFault, NoMemory, ShelfFault}

pub passed-is : {A : Type 0} (r : Result A End) (end : End) → IsErrAnd r (λ passed. passed ≡ end) → r ≡ Err end
passed-is r end passed = let p = err_from_is_err_and r passed in p.1 ∙ ap Err p.2

pub same-end : {A : Type 0} (x y : End) → ◌≡◌ {A = Result A End} (Err x) (Err y) → x ≡ y
same-end x y e = cc

pub same-err : (A : Type 0) (x y : End) → x ≡ y → ◌≡◌ {A = Result A End} (Err x) (Err y)
same-err A x y e = let err : End → Result A End = λ (end : End). Err end in ap err e

-- what a fault below tells of an end, it tells of what comes next
pub told-up : {A B : Type 0} (o : Option End) (wanted : Result A End) (next : A → Result B End)
    → IfSome o (λ what. wanted ≡ Err what) → IfSome o (λ what. (wanted >>= next) ≡ Err what)
told-up None wanted next h = tt
told-up {A = A} (Some what) wanted next h = ap (λ (w : Result A End). w >>= next) h

-- what ends the reading of a file ends the fetching, and is no fault of the shelf
pub reading-fetching : (end : End) → IsTrue (ends_reading end) → IsTrue (ends_fetching end)
reading-fetching Done h = h
reading-fetching Words h = h
reading-fetching (Tables which fault) h = h
reading-fetching (File place name fault) h = h
reading-fetching OutputFault h = h
reading-fetching NoMemory h = h
reading-fetching ShelfFault h = refl

pub reading-steady : (end : End) → IsTrue (ends_reading end) → end ≢ ShelfFault
reading-steady end h is = let e : false ≡ true = sym (ap ends_reading is) ∙ h in cc

pub not-fetching : (end other : End) → ends_fetching other ≡ false → IsTrue (ends_fetching end) → end ≢ other
not-fetching end other none h is = let e : false ≡ true = sym none ∙ (sym (ap ends_fetching is) ∙ h) in cc

-- ---- files that are refused

refused-gives : (A : Type 0) (place : Place) (name : List ℕ) (fault : FileFault) (end : End) → IsRefusedAs place name fault end
    → Gives {A = A} (Err end) (Err (File place name fault))
refused-gives A place name fault end (inl is) =
    subst (λ (e : End). Gives {A = A} (Err e) (Err (File place name fault))) (sym is) refl
refused-gives A place name fault end (inr is) =
    subst (λ (e : End). Gives {A = A} (Err e) (Err (File place name fault))) (sym is) tt

refused-ends : (place : Place) (name : List ℕ) (fault : FileFault) (end : End) → IsRefusedAs place name fault end
    → IsTrue (ends_reading end)
refused-ends place name fault end (inl is) = ap ends_reading is
refused-ends place name fault end (inr is) = ap ends_reading is

pub refused-read : {A : Type 0} (place : Place) (name : List ℕ) (fault : FileFault) (end : End) (wanted : Result A End)
    → IsRefusedAs place name fault end → wanted ≡ Err (File place name fault) → IsRead (Err end) wanted
refused-read {A = A} place name fault end wanted refused is = record {
  read = subst (λ (w : Result A End). Gives (Err end) w) (sym is) (refused-gives A place name fault end refused);
  ends = refused-ends place name fault end refused;
}

-- there is no memory
pub memory-read : {A : Type 0} (end : End) (wanted : Result A End) → end ≡ NoMemory → IsRead (Err end) wanted
memory-read {A = A} end wanted is = record {
  read = subst (λ (e : End). Gives {A = A} (Err e) wanted) (sym is) tt;
  ends = ap ends_reading is;
}
