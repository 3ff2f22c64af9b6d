-- What the tests of visible bytes and of keys tell.
use Rattle.std.proofs.Common.{ℕ, ◌≤◌, nat_le, ◌&&◌, List, length, refl}
use Rattle.std.specs.Bool.{Decides}
use Rattle.std.specs.List.{list_all, All}
use Rattle.std.proofs.lemmas.Bool.{leb-true, le-leb}
use Rattle.std.proofs.lemmas.Bool.Decides.{Decides-and, Decides-like, Decides-by_and}
use Rattle.chart_model.specs.Key.{IsKey, IsVisible, is_key, is_visible}

pub Decides-le : (a b : ℕ) → Decides (nat_le a b) (a ≤ b)
Decides-le a b = (leb-true a b, le-leb a b)

Decides-visible : (byte : ℕ) → Decides (is_visible byte) (IsVisible byte)
Decides-visible byte = Decides-and (nat_le 33 byte) (nat_le byte 126) (Decides-le 33 byte) (Decides-le byte 126)

Decides-all : (bytes : List ℕ) → Decides (list_all is_visible bytes) (All IsVisible bytes)
Decides-all bytes = Decides-by_and is_visible IsVisible (list_all is_visible) Decides-visible refl (λ _ _. refl) bytes

-- visible bytes, at least one and at most so many
pub Decides-visible_word : (most : ℕ) (bytes : List ℕ)
    → Decides (nat_le 1 (length bytes) && (nat_le (length bytes) most && list_all is_visible bytes)) ((1 ≤ length bytes) × ((length bytes ≤ most) × All IsVisible bytes))
Decides-visible_word most bytes =
    let short = Decides-and (nat_le (length bytes) most) (list_all is_visible bytes) (Decides-le (length bytes) most) (Decides-all bytes) in
    Decides-and (nat_le 1 (length bytes)) (nat_le (length bytes) most && list_all is_visible bytes) (Decides-le 1 (length bytes)) short

pub Decides-key : (bytes : List ℕ) → Decides (is_key bytes) (IsKey bytes)
Decides-key bytes = Decides-like (is_key bytes)
    (λ h. record { nonempty = h.0; short = h.1.0; visible = h.1.1 })
    (λ k. (k.nonempty, (k.short, k.visible)))
    (Decides-visible_word 32 bytes)
