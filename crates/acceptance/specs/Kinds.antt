-- Document 01, "Tokens to tree", and 16 of "What each operation refuses": whether tokens are a program, and whether a program begins with
-- them, depends on their kinds alone, not on their positions or texts. It holds since the grammar looks at nothing else (KindLaws).
use Rattle.std.specs.Prelude.{ℕ, ◌+◌, ◌≤◌, ◌<◌, ◌≡◌, List, ◌↔◌, length, take}
use Rattle.std.proofs.Common.{sym}
use Rattle.base.specs.Codes.{source_most, not_in_grammar}
use Rattle.base.specs.Outcome.{accepted, refused}
use Rattle.lexer.specs.Tokens.{Token, tokens}
use Rattle.parser.specs.Stream.{start_at}
use Rattle.parser.specs.Grammar.{Sentence, Viable}
use Rattle.parser.specs.Read.{reading}
use Rattle.acceptance.specs.laws.KindLaws.{kinds, same-sentence, same-viable}
use Rattle.acceptance.specs.Read.{refused-at-token}

-- Two lists of tokens with the same kinds are programs together.
pub sentence-by-kinds : (ts us : List Token) → kinds us ≡ kinds ts → Sentence us ↔ Sentence ts
sentence-by-kinds ts us e = (same-sentence us ts (sym e), same-sentence ts us e)

-- Where the first k tokens of two lists have the same kinds, a program begins with those of the one exactly when one begins with those of
-- the other. So where no program begins with some tokens, none begins with any others of their kinds.
pub viable-by-kinds : (ts us : List Token) (k : ℕ) → take k (kinds us) ≡ take k (kinds ts) → Viable us k ↔ Viable ts k
viable-by-kinds ts us k e = (same-viable us ts k (sym e), same-viable ts us k e)

-- So where Read refuses a source with 16 at a token, no program begins with any tokens of the kinds of those up to and including it.
pub refused-by-kinds : (s : List ℕ) → length s ≤ source_most → (ts : List Token) → tokens s ≡ accepted ts → (k : ℕ) → k < length ts
    → reading s ≡ refused not_in_grammar (start_at ts k)
    → (us : List Token) → take (k + 1) (kinds us) ≡ take (k + 1) (kinds ts) → ¬ Viable us (k + 1)
refused-by-kinds s short ts lexed k l e us same v = ((refused-at-token s short ts lexed k l).0 e).1 ((viable-by-kinds ts us (k + 1) same).0 v)
