-- The numbers of the reasons, and what a result says: a value as it is accepted, or the number and the position of a refusal.
use Rattle.std.specs.Prelude.{ℕ, ◌≡◌, Result, Ok, Err}
use Rattle.base.specs.Codes
use Rattle.base.specs.Outcome.{Outcome, accepted, refused}
use Rattle.base.specs.declared.refusal.Reason.{Reason}
use Rattle.base.specs.declared.refusal.Reason.TheVariants as reason
use Rattle.base.specs.declared.refusal.Refusal.{Refusal}

-- the number of a reason
abbrev pub number_of : Reason → ℕ
number_of reason.TableTooShort = Codes.table_too_short
number_of reason.CallLimitOutOfRange = Codes.call_limit_out_of_range
number_of reason.HeapTooLong = Codes.heap_too_long
number_of reason.StripTooShort = Codes.strip_too_short
number_of reason.RegistersNotSixteen = Codes.registers_not_sixteen
number_of reason.TextTooLong = Codes.text_too_long
number_of reason.LibraryRefused = Codes.library_refused
number_of reason.JoinedTooLong = Codes.joined_too_long
number_of reason.FramesTooShort = Codes.frames_too_short
number_of reason.OtherForm = Codes.other_form
number_of reason.FrameFault = Codes.frame_fault
number_of reason.RecordUnfit = Codes.record_unfit
number_of reason.PriceUnfit = Codes.price_unfit
number_of reason.SourceTooLong = Codes.source_too_long
number_of reason.NoToken = Codes.no_token
number_of reason.CommentNotClosed = Codes.comment_not_closed
number_of reason.NameTooLong = Codes.name_too_long
number_of reason.LiteralTooLarge = Codes.literal_too_large
number_of reason.TooManyTokens = Codes.too_many_tokens
number_of reason.LeadingZero = Codes.leading_zero
number_of reason.NotThreeDigits = Codes.not_three_digits
number_of reason.NotInGrammar = Codes.not_in_grammar
number_of reason.TooDeep = Codes.too_deep
number_of reason.ClassRepeated = Codes.class_repeated
number_of reason.ParentUnknown = Codes.parent_unknown
number_of reason.ChainEndless = Codes.chain_endless
number_of reason.FieldRepeated = Codes.field_repeated
number_of reason.TypeUnknown = Codes.type_unknown
number_of reason.MethodRepeated = Codes.method_repeated
number_of reason.BadRedeclaration = Codes.bad_redeclaration
number_of reason.VariableRepeated = Codes.variable_repeated
number_of reason.TooManyVariables = Codes.too_many_variables
number_of reason.NameUnknown = Codes.name_unknown
number_of reason.WrongType = Codes.type_wrong
number_of reason.MethodUnknown = Codes.method_unknown
number_of reason.ArgumentCount = Codes.argument_count
number_of reason.ThisInMain = Codes.this_in_main
number_of reason.NullReference = Codes.null_reference
number_of reason.IndexOutOfRange = Codes.index_out_of_range
number_of reason.NegativeSize = Codes.negative_size
number_of reason.RegisterOutOfRange = Codes.register_out_of_range
number_of reason.ValueOutOfRange = Codes.value_out_of_range
number_of reason.BudgetSpent = Codes.budget_spent
number_of reason.HeapFull = Codes.heap_full
number_of reason.CallsFull = Codes.calls_full
number_of reason.OutputFull = Codes.output_full
number_of reason.Broken = 99

-- the refusal for a reason at a position
abbrev pub refusal : {A : Type 0} → Reason → (position : ℕ) → Result A Refusal
refusal reason p = Err (record { reason = reason; position = p })

-- the outcome of a stage that a result tells
abbrev pub outcome : {A B : Type 0} → (A → B) → Result A Refusal → Outcome B
outcome of (Ok a) = accepted (of a)
outcome of (Err r) = refused (number_of r.reason) r.position

-- a result is the refusal of this number at this position
abbrev pub Refuses : {A : Type 0} → Result A Refusal → (number position : ℕ) → Type 0
Refuses r n p = ◌≡◌ {A = Outcome (Unit {0})} (outcome (λ _. tt) r) (refused n p)
