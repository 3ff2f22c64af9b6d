-- Borders that are four, and others.
use Rattle.std.proofs.Common.{◌≡◌, ℕ, ◌≤◌, ◌<◌, List, [], ◌∷◌, length, get_or, map, Option, None, refl, arith}
use Rattle.std.specs.Borrow.{Bor}
use Rattle.picture_words.specs.View.{ViewValue, view_between, view_of}

abbrev shown : List (Bor (List ℕ)) → List (List ℕ)
shown borders = map (λ border. border.now) borders

pub too_few : (width : ℕ) (borders : List (Bor (List ℕ))) → length borders < 4 → view_of width (shown borders) ≡ None
unfolding view_of
too_few width [] h = refl
too_few width (a ∷ []) h = refl
too_few width (a ∷ b ∷ []) h = refl
too_few width (a ∷ b ∷ c ∷ []) h = refl
too_few width (a ∷ b ∷ c ∷ d ∷ rest) h = absurd (omega arith)

pub too_many : (width : ℕ) (borders : List (Bor (List ℕ))) → 5 ≤ length borders → view_of width (shown borders) ≡ None
unfolding view_of
too_many width [] h = absurd (omega arith)
too_many width (a ∷ []) h = absurd (omega arith)
too_many width (a ∷ b ∷ []) h = absurd (omega arith)
too_many width (a ∷ b ∷ c ∷ []) h = absurd (omega arith)
too_many width (a ∷ b ∷ c ∷ d ∷ []) h = absurd (omega arith)
too_many width (a ∷ b ∷ c ∷ d ∷ e ∷ rest) h = refl

pub four : (width : ℕ) (borders : List (Bor (List ℕ))) (any : Bor (List ℕ)) → 4 ≤ length borders → length borders < 5
    → view_of width (shown borders)
    ≡ view_between width (get_or borders 0 any).now (get_or borders 1 any).now (get_or borders 2 any).now (get_or borders 3 any).now
unfolding view_of
four width [] any h k = absurd (omega arith)
four width (a ∷ []) any h k = absurd (omega arith)
four width (a ∷ b ∷ []) any h k = absurd (omega arith)
four width (a ∷ b ∷ c ∷ []) any h k = absurd (omega arith)
four width (a ∷ b ∷ c ∷ d ∷ []) any h k = refl
four width (a ∷ b ∷ c ∷ d ∷ e ∷ rest) any h k = absurd (omega arith)
