-- The tests of tokens.
use Rattle.std.proofs.Common.{◌≡◌, ◌≢◌, ℕ, Bool, ◌&&◌, List, length, Some, None, cond, refl, ap, arith}
use Rattle.std.specs.Bool.{Decides}
use Rattle.std.specs.Prelude.{nat_le}
use Rattle.std.specs.List.{All, list_all}
use Rattle.std.proofs.lemmas.Bool.Decides.{Decides-and, Decides-or, Decides-like, Decides-by_and}
use Rattle.std.proofs.lemmas.List.Elements.{All-weaker}
use Rattle.chart_model.proofs.KeyTests.{Decides-le}
use Rattle.text_lines.specs.Lines.{Lacks}
use Rattle.colour_table.specs.Token.{IsTokenByte, IsToken, is_token_byte, is_token, token_of}

Decides-byte : (byte : ℕ) → Decides (is_token_byte byte) (IsTokenByte byte)
Decides-byte byte =
    Decides-or (nat_le 65 byte && nat_le byte 90) (nat_le 48 byte && nat_le byte 57)
    (Decides-and (nat_le 65 byte) (nat_le byte 90) (Decides-le 65 byte) (Decides-le byte 90))
    (Decides-and (nat_le 48 byte) (nat_le byte 57) (Decides-le 48 byte) (Decides-le byte 57))

Decides-bytes : (text : List ℕ) → Decides (list_all is_token_byte text) (All IsTokenByte text)
Decides-bytes text = Decides-by_and is_token_byte IsTokenByte (list_all is_token_byte) Decides-byte refl (λ _ _. refl) text

pub Decides-token : (text : List ℕ) → Decides (is_token text) (IsToken text)
unfolding is_token
Decides-token text =
    Decides-like (is_token text)
    (λ h. record { long = h.0; spelled = h.1 })
    (λ t. (t.long, t.spelled))
    (Decides-and (nat_le 1 (length text) && nat_le (length text) 8) (list_all is_token_byte text)
    (Decides-and (nat_le 1 (length text)) (nat_le (length text) 8) (Decides-le 1 (length text)) (Decides-le (length text) 8))
    (Decides-bytes text))

pub token_some : (text : List ℕ) → IsToken text → token_of text ≡ Some text
token_some text h = ap (λ (b : Bool). cond b (Some text) None) ((Decides-token text).1 h)

no_space : (byte : ℕ) → IsTokenByte byte → byte ≢ 32
no_space byte h = omega arith

pub token_lacks : (text : List ℕ) → IsToken text → Lacks 32 text
token_lacks text h = All-weaker IsTokenByte (λ b. b ≢ 32) no_space text h.spelled
