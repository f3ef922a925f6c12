-- What becomes of a token, by refusals 13 to 15, 60 and 65: in the order in which the definition of a turn looks at them.
use Rattle.std.specs.Prelude.{ℕ, List, Option, Some, None, Result, Ok, Err, eqb, ltb}
use Rattle.base.specs.Choice.{if◌then◌otherwise◌}
use Rattle.base.specs.Codes.{tokens_most, literal_most}
use Rattle.base.specs.declared.refusal.Reason.{Reason}
use Rattle.base.specs.declared.refusal.Reason.TheVariants as reason
use Rattle.lexer.specs.Kinds.{k_literal, k_fixed_literal, is_name_lem}
use Rattle.lexer.specs.Tokens.{decimal, thousandths_of_lem, exceeds_length, zero_first, not_three, too_large}
use Rattle.lexer.specs.declared.limits.Entry.{Entry}
use Rattle.lexer.specs.declared.limits.Entry.TheVariants.{Name, Plain}

-- the value of a literal, where it is not too large
abbrev pub literal_of : ℕ → Option ℕ
literal_of n = if ltb literal_most n then (λ _. None) otherwise λ _. Some n

-- the entry of a literal that has this value
abbrev pub on_literal : Option ℕ → Result Entry Reason
on_literal (Some v) = Ok (Plain v)
on_literal None = Err reason.LiteralTooLarge

-- the number beside a token that is no name
abbrev pub number_beside : ℕ → List ℕ → ℕ
number_beside kind text =
    if eqb kind k_literal then (λ _. decimal 0 text) otherwise λ _.
    if eqb kind k_fixed_literal then (λ _. thousandths_of_lem text) otherwise λ _. 0

unfoldable pub verdict_of : (count kind : ℕ) → List ℕ → Result Entry Reason
verdict_of count kind text =
    if eqb count tokens_most then (λ _. Err reason.TooManyTokens) otherwise λ _.
    if exceeds_length kind text then (λ _. Err reason.NameTooLong) otherwise λ _.
    if zero_first kind text then (λ _. Err reason.LeadingZero) otherwise λ _.
    if not_three kind text then (λ _. Err reason.NotThreeDigits) otherwise λ _.
    if too_large kind text then (λ _. Err reason.LiteralTooLarge) otherwise λ _.
    if is_name_lem kind then (λ _. Ok Name) otherwise λ _. Ok (Plain (number_beside kind text))
