-- Document 01, "What each operation refuses", with 60 and 65 of document 02, (i) and (ix): the numbers with which Read and Check refuse a
-- source.
use Rattle.std.specs.Prelude.{ℕ}
use Rattle.base.specs.Codes.{source_too_long, no_token, comment_not_closed, name_too_long, literal_too_large, too_many_tokens, leading_zero}
use Rattle.base.specs.Codes.{not_three_digits, not_in_grammar, too_deep}
use Rattle.base.specs.Codes.{class_repeated, parent_unknown, chain_endless, field_repeated, type_unknown, method_repeated, bad_redeclaration}
use Rattle.base.specs.Codes.{variable_repeated, too_many_variables, name_unknown, type_wrong, method_unknown, argument_count, this_in_main}

-- 10 to 17, 60 and 65
pub data ReadRefusal : ℕ → Type 0 where
  source-too-long : ReadRefusal source_too_long
  no-token : ReadRefusal no_token
  comment-not-closed : ReadRefusal comment_not_closed
  name-too-long : ReadRefusal name_too_long
  literal-too-large : ReadRefusal literal_too_large
  too-many-tokens : ReadRefusal too_many_tokens
  not-in-grammar : ReadRefusal not_in_grammar
  too-deep : ReadRefusal too_deep
  leading-zero : ReadRefusal leading_zero
  not-three-digits : ReadRefusal not_three_digits

-- Read's, 20 to 28, and 30 to 34
pub data CheckRefusal : ℕ → Type 0 where
  of-read : {n : ℕ} → ReadRefusal n → CheckRefusal n
  class-repeated : CheckRefusal class_repeated
  parent-unknown : CheckRefusal parent_unknown
  chain-endless : CheckRefusal chain_endless
  field-repeated : CheckRefusal field_repeated
  type-unknown : CheckRefusal type_unknown
  method-repeated : CheckRefusal method_repeated
  bad-redeclaration : CheckRefusal bad_redeclaration
  variable-repeated : CheckRefusal variable_repeated
  too-many-variables : CheckRefusal too_many_variables
  name-unknown : CheckRefusal name_unknown
  wrong_type : CheckRefusal type_wrong
  method-unknown : CheckRefusal method_unknown
  argument-count : CheckRefusal argument_count
  this-in-main : CheckRefusal this_in_main
