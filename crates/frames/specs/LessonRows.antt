-- The writer's and the runner's answers for a whole lesson, computed.
use Rattle.std.specs.Prelude.{ℕ, ◌≡◌, refl, List, [], ◌∷◌, ◌++◌, replicate}
use Rattle.base.specs.Bytes.{bytes}
use Rattle.lexer.specs.Bytes as Bytes
use Rattle.lexer.specs.Kinds as Kinds
use Rattle.lexer.specs.Tokens as Tokens
use Rattle.parser.specs.Measure as Measure
use Rattle.parser.specs.Parse as Parse
use Rattle.parser.specs.Read as Read
use Rattle.parser.specs.Stream as Stream
use Rattle.typesystem.specs.Check as Check
use Rattle.typesystem.specs.ClassTable as ClassTable
use Rattle.typesystem.specs.Declarations as Declarations
use Rattle.typesystem.specs.Judge as Judge
use Rattle.typesystem.specs.Operators as Operators
use Rattle.semantics.specs.Machine as Machine
use Rattle.semantics.specs.Ends.{printing}
use Rattle.codegen.specs.promises.Code as Code
use Rattle.codegen.specs.promises.Compile as Compile
use Rattle.base.specs.Write.{WriteResult, write_refusal}
use Rattle.frames.specs.Lines as Lines
use Rattle.frames.specs.Encode as Encode
use Rattle.frames.specs.Operations as Operations

-- what the writer depends on unfolds with it
unfoldable pub written : (source : List ℕ) → (before : List ℕ) → WriteResult
unfolding Bytes.is_blank Bytes.is_letter Bytes.is_digit_lem Bytes.is_name_part_lem Kinds.is_name_lem Kinds.words Kinds.word_kind_lem Kinds.mark_kind_lem
    Tokens.longest_run Tokens.closing Tokens.decimal Tokens.thousandths_of_lem Tokens.item Tokens.turn Tokens.tokens_from Tokens.tokens
    Measure.deep Measure.methods_deep Measure.classes_deep Measure.program_deep Parse.begins_statement_lem Parse.begins_type_lem Parse.element_type_lem
    Parse.step Parse.parse_as Parse.type_from Parse.variable_from Parse.begins_variable Parse.variables_from Parse.some_parameters_lem
    Parse.parameters_from Parse.method_from Parse.methods_from Parse.parent_from Parse.class_from Parse.classes_from Parse.program_from
    Parse.parse Read.reading Stream.operator_of Check.bodies Check.class_bodies Check.all_bodies Check.judged Check.checking
    ClassTable.class_named ClassTable.method_named_lem ClassTable.variable_named ClassTable.chain_within ClassTable.chain ClassTable.ends_within
    ClassTable.same_element ClassTable.same_type ClassTable.known ClassTable.among ClassTable.on_chain_lem ClassTable.fits ClassTable.layout
    ClassTable.fields_of ClassTable.nearest_field ClassTable.nearest_method ClassTable.method_of Machine.search ClassTable.meaning
    ClassTable.occurs Operators.result_in Operators.printable Declarations.distinct_classes Declarations.known_parents
    Declarations.ending_chains Declarations.fields Declarations.variables Declarations.same_types_lem Declarations.heads
    Declarations.declarations Judge.arity Judge.judge
    Compile.end Compile.emit Compile.end_methods Compile.emit_methods Compile.named_of Compile.emit_classes Compile.rows_of Compile.compile
    Code.row_named Code.entry_named Code.climb Lines.in_hex Lines.text Encode.place_of Encode.declared Encode.once Encode.tables Encode.frames_of
    Operations.frames_text Operations.encode
written s before = Operations.encode s 16384 before

-- a line and its line feed
abbrev ln : List ℕ → List ℕ
ln s = s ++ 10 ∷ []

-- println(1+2): the statement, the sum, 1 and 2 are marked
pub sum-of-two : written (printing (bytes "1+2")) (replicate 101 7) ≡ record {
  answer = record { number = 0; position = 0; count = 99 };
  strip = ln (bytes "000000002c") ++ ln (bytes "000000003f") ++ ln (bytes "000000003f") ++ ln (bytes "0100000001") ++ ln (bytes "0000000041")
      ++ ln (bytes "0100000002") ++ ln (bytes "0800000001") ++ ln (bytes "0f0000002c") ++ ln (bytes "0700000000") ++ 7 ∷ 7 ∷ [];
}
unfolding written
sum-of-two = refl

-- a strip that is a byte too short, and a lesson that Check refuses
pub refused : written (printing (bytes "1+2")) (replicate 98 7) ∷ written (printing (bytes "this")) [] ∷ []
    ≡ record { answer = write_refusal 68 0; strip = replicate 98 7 } ∷ record { answer = write_refusal 34 63; strip = [] } ∷ []
unfolding written
refused = refl

-- a class with a method, and one that inherits it and one that does not: `call` names the table behind the code, which has a line for each
abbrev lesson : List ℕ
lesson = printing (bytes "new B().f(4)") ++ bytes " class A{public int f(int x){return x;}} class B extends A{} class C{}"

pub with-tables : written lesson (replicate 198 7) ≡ record {
  answer = record { number = 0; position = 0; count = 165 };
  strip = ln (bytes "000000002c") ++ ln (bytes "000000003f") ++ ln (bytes "000000003f") ++ ln (bytes "1100010000") ++ ln (bytes "0000000049")
      ++ ln (bytes "0100000004") ++ ln (bytes "1200000c01") ++ ln (bytes "0f0000002c") ++ ln (bytes "0700000000")
      ++ ln (bytes "0000000073") ++ ln (bytes "0200000000") ++ ln (bytes "0600000000") ++ ln (bytes "1600000009") ++ ln (bytes "1600000009")
      ++ ln (bytes "1700000000") ++ replicate 33 7;
}
unfolding written
with-tables = refl
