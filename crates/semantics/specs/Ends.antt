-- How a source ends under Run's definition, as a value that a table can list; and how it would end if Check refused nothing.
use Rattle.std.specs.Prelude.{ℕ, List, [], ◌++◌, map, replicate, ℤ}
use Rattle.std.proofs.Math.Option.{Option, none, some}
use Rattle.base.specs.Bytes.{bytes}
use Rattle.base.specs.Codes.{registers_count}
use Rattle.base.specs.Outcome.{Outcome, accepted, refused}
use Rattle.lexer.specs.Bytes as Bytes
use Rattle.lexer.specs.Kinds as Kinds
use Rattle.lexer.specs.Tokens as Tokens
use Rattle.parser.specs.Measure as Measure
use Rattle.parser.specs.Parse as Parse
use Rattle.parser.specs.Read as Read
use Rattle.parser.specs.Stream as Stream
use Rattle.parser.specs.Tree.{Program}
use Rattle.typesystem.specs.Check as Check
use Rattle.typesystem.specs.ClassTable as ClassTable
use Rattle.typesystem.specs.Declarations as Declarations
use Rattle.typesystem.specs.Judge as Judge
use Rattle.typesystem.specs.Operators as Operators
use Rattle.semantics.specs.Limits as Limits
use Rattle.semantics.specs.Machine as Machine

-- a refusal's number and position, or the report of a run
pub data End : Type 0 where
  refused_at : (number position : ℕ) → End
  ran : Limits.Report → End

abbrev pub of_outcome : Limits.Limits → (tape : List ℕ) → Outcome Program → End
of_outcome L tape (accepted p) = ran (Limits.run p L tape)
of_outcome L tape (refused n p) = refused_at n p

-- what the end of a source depends on unfolds with it
unfoldable pub end_on : (tape : List ℕ) → List ℕ → Limits.Limits → End
unfolding Bytes.is_blank Bytes.is_letter Bytes.is_digit_lem Bytes.is_name_part_lem Kinds.is_name_lem Kinds.words Kinds.word_kind_lem Kinds.mark_kind_lem
    Tokens.longest_run Tokens.closing Tokens.decimal Tokens.thousandths_of_lem Tokens.item Tokens.turn Tokens.tokens_from Tokens.tokens
    Measure.deep Measure.methods_deep Measure.classes_deep Measure.program_deep Parse.begins_statement_lem Parse.begins_type_lem Parse.element_type_lem
    Parse.step Parse.parse_as Parse.type_from Parse.variable_from Parse.begins_variable Parse.variables_from Parse.some_parameters_lem
    Parse.parameters_from Parse.method_from Parse.methods_from Parse.parent_from Parse.class_from Parse.classes_from Parse.program_from
    Parse.parse Read.reading Stream.operator_of Check.bodies Check.class_bodies Check.all_bodies Check.judged Check.checking
    ClassTable.class_named ClassTable.method_named_lem ClassTable.variable_named ClassTable.chain_within ClassTable.chain ClassTable.ends_within
    ClassTable.same_element ClassTable.same_type ClassTable.known ClassTable.among ClassTable.on_chain_lem ClassTable.fits ClassTable.layout
    ClassTable.fields_of ClassTable.nearest_field ClassTable.nearest_method ClassTable.method_of Machine.search ClassTable.meaning
    ClassTable.occurs Operators.result_in Operators.printable Declarations.distinct_classes Declarations.known_parents
    Declarations.ending_chains Declarations.fields Declarations.variables Declarations.same_types_lem Declarations.heads
    Declarations.declarations Judge.arity Judge.judge Limits.guard Limits.run_with Limits.run Machine.read_name Machine.write_name
    Machine.begin Machine.begin_statement Machine.second Machine.call_method Machine.next_argument Machine.next_statement Machine.next_of_body
    Machine.new_array_of Machine.new_object_of Machine.go Machine.plan
end_on tape s L = of_outcome L tape (Check.checking s)

-- with an empty tape
unfoldable pub end_of : List ℕ → Limits.Limits → End
unfolding end_on
end_of s L = end_on [] s L

abbrev pub ending_of : Outcome Read.Reading → Limits.Limits → Option Limits.Ending
ending_of (accepted r) L = some (Limits.run r.tree L []).ending
ending_of (refused n p) L = none

-- the ending of what is read, unchecked, with an empty tape; none where Read refuses it
unfoldable pub unchecked_of : List ℕ → Limits.Limits → Option Limits.Ending
unfolding end_of
unchecked_of s L = ending_of (Read.reading s) L

-- an end with a result number and a position, steps, climbs, heap words, printed numbers and registers
abbrev pub ends_with : (number position steps climbs words : ℕ) → List ℤ → (registers : List ℕ) → End
ends_with n p steps climbs words printed registers =
    ran (record {
      ending = Limits.Ending.ended n p;
      steps = steps;
      climbs = climbs;
      words = words;
      printed = printed;
      registers = registers;
    })

-- an end with all registers 0
abbrev pub ends : (number position steps climbs words : ℕ) → List ℤ → End
ends n p steps climbs words printed = ends_with n p steps climbs words printed (replicate registers_count 0)

-- bayrun's limits, with another budget or call limit where a row says so
abbrev pub limits : (budget calls : ℕ) → Limits.Limits
limits budget calls = record { budget = budget; calls = calls; heap = 4096; printed = 256 }

abbrev pub usual : Limits.Limits
usual = limits 100000 64

-- the frame of document 01 with E in its place, at position 63; it is 67 bytes long without E
abbrev pub printing : List ℕ → List ℕ
printing e = bytes "class M{public static void main(String[] a){System.out.println(" ++ e ++ bytes ");}}"

pub record Row : Type 0 where
  pub source : List ℕ
  pub tape : List ℕ
  pub limits : Limits.Limits
  pub end : End

-- with an empty tape
abbrev pub row : List ℕ → Limits.Limits → End → Row
row s L e = record { source = s; tape = []; limits = L; end = e }

abbrev pub taped : (tape : List ℕ) → List ℕ → Limits.Limits → End → Row
taped t s L e = record { source = s; tape = t; limits = L; end = e }

abbrev pub found : List Row → List End
found rows = map (λ r. end_on r.tape r.source r.limits) rows

abbrev pub expected : List Row → List End
expected rows = map (λ r. r.end) rows
