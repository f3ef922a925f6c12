-- Document 02, (v): rows, computed with the definitions. What the lesson below prints is E; one row has declarations and statements.
use Rattle.std.specs.Prelude.{ℕ, ◌≡◌, refl, List, [], ◌∷◌, ◌++◌, map, length, replicate}
use Rattle.base.specs.Bytes.{bytes}
use Rattle.base.specs.Write.{WriteResult, write_refusal}
use Rattle.lexer.specs.Bytes as Bytes
use Rattle.lexer.specs.Kinds as Kinds
use Rattle.lexer.specs.Tokens as Tokens
use Rattle.parser.specs.Measure as Measure
use Rattle.parser.specs.Parse as Parse
use Rattle.parser.specs.Read as Read
use Rattle.parser.specs.Stream as Stream
use Rattle.typesystem.specs.Check as Check
use Rattle.typesystem.specs.ClassTable as ClassTable
use Rattle.typesystem.specs.Declarations as Declarations
use Rattle.typesystem.specs.Judge as Judge
use Rattle.typesystem.specs.Operators as Operators
use Rattle.printing.specs.Printed as Printed
use Rattle.printing.specs.Print.{print}

-- what the operation answers, with a work table that is long enough; what it depends on unfolds with it
unfoldable pub printed_to : List ℕ → (before : List ℕ) → WriteResult
unfolding Bytes.is_blank Bytes.is_letter Bytes.is_digit_lem Bytes.is_name_part_lem Kinds.is_name_lem Kinds.words Kinds.word_kind_lem Kinds.mark_kind_lem
    Tokens.longest_run Tokens.closing Tokens.decimal Tokens.thousandths_of_lem Tokens.item Tokens.turn Tokens.tokens_from Tokens.tokens
    Measure.deep Measure.methods_deep Measure.classes_deep Measure.program_deep Parse.begins_statement_lem Parse.begins_type_lem Parse.element_type_lem
    Parse.step Parse.parse_as Parse.type_from Parse.variable_from Parse.begins_variable Parse.variables_from Parse.some_parameters_lem
    Parse.parameters_from Parse.method_from Parse.methods_from Parse.parent_from Parse.class_from Parse.classes_from Parse.program_from
    Parse.parse Read.reading Stream.operator_of Check.bodies Check.class_bodies Check.all_bodies Check.judged Check.checking
    ClassTable.class_named ClassTable.method_named_lem ClassTable.variable_named ClassTable.chain_within ClassTable.chain ClassTable.ends_within
    ClassTable.same_element ClassTable.same_type ClassTable.known ClassTable.among ClassTable.on_chain_lem ClassTable.fits ClassTable.layout
    ClassTable.fields_of ClassTable.nearest_field ClassTable.nearest_method ClassTable.method_of ClassTable.meaning
    ClassTable.occurs Operators.result_in Operators.printable Declarations.distinct_classes Declarations.known_parents
    Declarations.ending_chains Declarations.fields Declarations.variables Declarations.same_types_lem Declarations.heads
    Declarations.declarations Judge.arity Judge.judge Printed.marks Printed.spelling Printed.digits_of Printed.digits Printed.fixed_digits
    Printed.bare Printed.type_tokens Printed.declarations_tokens Printed.parameters_tokens Printed.methods_tokens Printed.classes_tokens Printed.program_tokens Printed.separator
    Printed.render Printed.text print
printed_to s before = print s 16384 before

abbrev lines : List (List ℕ) → List ℕ
lines [] = []
lines (l ∷ ls) = l ++ 10 ∷ lines ls

-- document 01's lesson with E in its place, before classes; and its text
abbrev lesson : (e classes : List ℕ) → List ℕ
lesson e classes = bytes "class M{public static void main(String[]a/**/){System.out.println(" ++ e ++ bytes ");}}" ++ classes

abbrev tidy : (e : List ℕ) → (classes : List (List ℕ)) → List ℕ
tidy e classes =
    lines (bytes "class M {" ∷ bytes "public static void main ( String [ ] a ) {" ∷
    (bytes "System . out . println ( " ++ e ++ bytes " ) ;") ∷ bytes "}" ∷ bytes "}" ∷ classes)

pub record PrintRow : Type 0 where
  pub source : List ℕ
  pub text : List ℕ

-- E, and how it is written
abbrev expression_row : (e text : List ℕ) → PrintRow
expression_row e text = record { source = lesson e []; text = tidy text [] }

abbrev pub print_rows : List PrintRow
print_rows =
    -- one pair, where it is needed, and none elsewhere
    expression_row (bytes "((1+2))*(3)-(4-5)") (bytes "( 1 + 2 ) * 3 - ( 4 - 5 )") ∷
    expression_row (bytes "(1*2)+((3-4)-5)") (bytes "1 * 2 + ( 3 - 4 - 5 )") ∷
    -- `new T[e]` needs one before `[` and none before `.`
    expression_row (bytes "(new int[((2))]).length+(new int[2])[(0)]") (bytes "new int [ 2 ] . length + ( new int [ 2 ] ) [ 0 ]") ∷
    -- thousandths, by their count
    expression_row (bytes "(0.000-1.500)*0.001") (bytes "( 0.000 - 1.500 ) * 0.001") ∷
    -- the cable
    expression_row (bytes "Port.get((2))") (bytes "Port . get ( 2 )") ∷
    -- declarations and statements
    (record {
      source = lesson (bytes "1")
          (bytes "class A{boolean[]r;fixed v;public A[]m(int x,B y)" ++
          bytes "{A[]q;q=new A[x];if(!(x<1)&&(true))r[0]=!!(false);else{}return(q);}}class B extends A{}");
      text = tidy (bytes "1")
          (bytes "class A {" ∷ bytes "boolean [ ] r ;" ∷ bytes "fixed v ;" ∷ bytes "public A [ ] m ( int x , B y ) {" ∷ bytes "A [ ] q ;" ∷
          bytes "q = new A [ x ] ;" ∷ bytes "if ( ! ( x < 1 ) && true ) r [ 0 ] = ! ! false ;" ∷ bytes "else {" ∷ bytes "}" ∷
          bytes "return q ;" ∷
          bytes "}" ∷ bytes "}" ∷ bytes "class B extends A {" ∷ bytes "}" ∷ []);
    }) ∷
    []

-- on a strip that is as long as the text
pub rows-print : map (λ (r : PrintRow). printed_to r.source (replicate (length r.text) 9)) print_rows
    ≡ map (λ (r : PrintRow). record { answer = record { number = 0; position = 0; count = length r.text }; strip = r.text }) print_rows
unfolding printed_to
rows-print = refl

-- the rest of the strip is unchanged; 61 where a byte is missing; Check's refusal first
pub strip-left : printed_to (lesson (bytes "1") []) (replicate 92 9)
    ≡ record { answer = record { number = 0; position = 0; count = 88 }; strip = tidy (bytes "1") [] ++ 9 ∷ 9 ∷ 9 ∷ 9 ∷ [] }
unfolding printed_to
strip-left = refl

pub strip-short : printed_to (lesson (bytes "1") []) (replicate 87 9) ≡ record { answer = write_refusal 61 0; strip = replicate 87 9 }
unfolding printed_to
strip-short = refl

pub refused-first : printed_to (lesson (bytes "a") []) [] ≡ record { answer = write_refusal 30 66; strip = [] }
unfolding printed_to
refused-first = refl
