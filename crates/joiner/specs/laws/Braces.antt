-- A closing brace is one byte, so a class ends one byte behind the start of its last token.
use Rattle.std.specs.Prelude.{ℕ, ◌+◌, ◌<◌, ◌≡◌, refl, List, length}
use Rattle.std.proofs.Common.{arith, ap, ◌∙◌}
use Rattle.base.specs.Outcome.{accepted}
use Rattle.base.specs.laws.Lists.{get-get_d}
use Rattle.lexer.specs.Kinds.{k_close_brace}
use Rattle.lexer.specs.Tokens.{Token, tokens}
use Rattle.lexer.proofs.laws.ItemLaws.{TokenForm, a_word, a-literal, a-fixed-literal, an-and, a-mark}
use Rattle.lexer.proofs.laws.RowLaws.{token-of}
use Rattle.parser.specs.Stream.{no_more, token_at, kind_at, start_at}
use Rattle.appended.proofs.laws.Items.{word-no-brace}
use Rattle.joining.specs.Join.{end_at}

one_byte : {k : ℕ} {t : List ℕ} → TokenForm k t → k ≡ k_close_brace → length t ≡ 1
one_byte (a_word {t = t} l e) q = absurd (word-no-brace t (e ∙ q))
one_byte a-literal q = absurd (omega arith)
one_byte a-fixed-literal q = absurd (omega arith)
one_byte an-and q = absurd (omega arith)
one_byte (a-mark e) q = refl

pub brace-end : (s : List ℕ) (ts : List Token) → tokens s ≡ accepted ts → (m : ℕ) → m < length ts → kind_at ts m ≡ k_close_brace
    → end_at ts m ≡ start_at ts m + 1
brace-end s ts lexed m l e =
    ap (λ (n : ℕ). start_at ts m + n) (one_byte (token-of s ts lexed m (token_at ts m) (get-get_d ts m no_more l)).form e)
