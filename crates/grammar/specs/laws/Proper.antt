-- Tokens as the lexer makes them: none has the kind that stands for the end, so the first place of that kind is past the last token.
use Rattle.std.specs.Prelude.{ℕ, zero, suc, ◌≤◌, ◌≡◌, List, length}
use Rattle.std.proofs.Common.{suc-le-suc, arith}
use Rattle.base.specs.All.{All, all_nil, all_cons}
use Rattle.lexer.specs.Tokens.{Token}
use Rattle.lexer.specs.Kinds.{k_end}
use Rattle.parser.specs.Stream.{kind_at}

abbrev pub Proper : List Token → Type 0
Proper ts = All (λ t. ¬ (t.kind ≡ k_end)) ts

pub end_of : {ts : List Token} (j : ℕ) → Proper ts → kind_at ts j ≡ k_end → length ts ≤ j
end_of j all_nil e = omega arith
end_of zero (all_cons p h) e = absurd (p e)
end_of (suc j) (all_cons p h) e = suc-le-suc (end_of j h e)
