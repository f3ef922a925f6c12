-- Lessons on the three machines (tree, code, words), computed: each reports the same, with budget enough and cut by the budget.
use Rattle.std.specs.Prelude.{ℕ, ◌+◌, ◌*◌, true, List, [], ◌∷◌, ◌≡◌, refl, replicate, pos, negsuc}
use Rattle.std.proofs.Math.Option.{none}
use Rattle.base.specs.Codes.{success, budget_spent, registers_count}
use Rattle.parser.specs.Tree.{Place, Name, Element.int, Ty.plain, Variable, Method, Program, Operator.plus, Operator.minus, Operator.less, Operator.and, Operator.times, Numeral.int_literal, Numeral.fixed_literal}
use Rattle.parser.specs.Tree.{Part.literal, Part.truth, Part.variable, Part.new_object_lem, Part.binary, Part.call, Part.no_arguments, Part.argument, Part.conditional, Part.loop, Part.assign, Part.block, Part.print, Part.no_statements, Part.sequence}
use Rattle.typesystem.specs.ClassTable as ClassTable
use Rattle.typesystem.specs.Judge as Judge
use Rattle.typesystem.specs.Operators as Operators
use Rattle.semantics.specs.Machine as Machine
use Rattle.semantics.specs.Limits as Limits
use Rattle.semantics.specs.Limits.{Limits, begun, Report, ended, run_with, run}
use Rattle.codegen.specs.promises.Code as Code
use Rattle.codegen.specs.promises.Code.{climb}
use Rattle.codegen.specs.promises.Compile as Compile
use Rattle.codegen.specs.promises.Compile.{compile}
use Rattle.codegen.proofs.laws.Demand as Demand
use Rattle.codegen.proofs.laws.Demand.{run_code}
use Rattle.codegen.specs.promises.Words as Words
use Rattle.codegen.specs.promises.Words.{word_at, word_due}
use Rattle.codegen.proofs.laws.WordRuns.{word_size}

abbrev on : ℕ → Place
on n = record { row = n; start = n }

abbrev name : List ℕ → Name
name x = record { row = 0; start = 0; text = x }

abbrev number : List ℕ → Variable
number x = record { type = record { row = 0; start = 0; type = plain int }; name = name x }

-- class A { t; f(n) { s; while (0 < n && true) { s = s + n; t = t + 1; n = n - 1; } return s + t; } }
abbrev n : List ℕ
n = 110 ∷ []

abbrev s : List ℕ
s = 115 ∷ []

abbrev t : List ℕ
t = 116 ∷ []

abbrev f : List ℕ
f = 102 ∷ []

abbrev A : List ℕ
A = 65 ∷ []

abbrev sum : Method
sum =
    record {
      result = record { row = 0; start = 0; type = plain int };
      name = name f;
      parameters = number n ∷ [];
      locals = number s ∷ [];
      body =
          sequence
          (loop (on 20)
          (binary (on 21) and (binary (on 22) less (literal (on 22) (int_literal 0)) (variable (on 23) n)) (truth (on 24) true))
          (block (on 25)
          (sequence (assign (on 26) s (binary (on 27) plus (variable (on 27) s) (variable (on 28) n)))
          (sequence (assign (on 29) t (binary (on 30) plus (variable (on 30) t) (literal (on 31) (int_literal 1))))
          (sequence (assign (on 32) n (binary (on 33) minus (variable (on 33) n) (literal (on 34) (int_literal 1)))) no_statements)))))
          no_statements;
      value = binary (on 40) plus (variable (on 40) s) (variable (on 41) t);
    }

-- main prints new A().f(3) if true, else 7
abbrev lesson : Program
lesson =
    record {
      main = name (77 ∷ []);
      parameter = name (97 ∷ []);
      statement =
          conditional (on 1) (truth (on 2) true)
          (print (on 3) (call (on 4) (new_object_lem (on 4) (name A)) (name f) (argument (literal (on 5) (int_literal 3)) no_arguments)))
          (print (on 6) (literal (on 7) (int_literal 7)));
      classes = record { name = name A; parent = none; fields = number t ∷ []; methods = sum ∷ [] } ∷ [];
    }

-- document 02, (ix): main prints (0.000-1.500)*0.001
abbrev volts : Program
volts =
    record {
      main = name (77 ∷ []);
      parameter = name (97 ∷ []);
      statement =
          print (on 1)
          (binary (on 2) times (binary (on 3) minus (literal (on 3) (fixed_literal 0)) (literal (on 4) (fixed_literal 1500)))
          (literal (on 5) (fixed_literal 1)));
      classes = [];
    }

abbrev limits : ℕ → Limits
limits b = record { budget = b; calls = 1; heap = 2; printed = 1 }

-- with enough budget, and with the budget spent in the loop
abbrev whole : Report
whole = record { ending = ended success 0; steps = 68; climbs = 1; words = 2; printed = pos 9 ∷ []; registers = replicate registers_count 0 }

abbrev cut : Report
cut = record { ending = ended budget_spent 30; steps = 37; climbs = 1; words = 2; printed = []; registers = replicate registers_count 0 }

abbrev below : Report
below = record { ending = ended success 0; steps = 6; climbs = 0; words = 0; printed = negsuc 0 ∷ []; registers = replicate registers_count 0 }

on-tree : (run lesson (limits 100) [] ≡ whole) × (run lesson (limits 37) [] ≡ cut) × (run volts (limits 100) [] ≡ below)
unfolding run Limits.run_with Limits.guard Machine.plan Machine.go Machine.begin Machine.begin_statement Machine.second Machine.call_method Machine.next_argument Machine.next_statement
    Machine.next_of_body Machine.new_object_of Machine.search Machine.read_name Machine.write_name
    ClassTable.class_named ClassTable.method_named_lem ClassTable.variable_named ClassTable.chain_within ClassTable.chain ClassTable.layout ClassTable.fields_of ClassTable.nearest_field ClassTable.meaning Judge.arity
on-tree = (refl, refl, refl)

on-code : (run_code (compile lesson) (limits 100) [] ≡ whole) × (run_code (compile lesson) (limits 37) [] ≡ cut)
    × (run_code (compile volts) (limits 100) [] ≡ below)
unfolding run_code Demand.turns_of_code Limits.run_with Limits.guard Code.due Code.act Code.dispatch Code.climb Code.row_named Code.entry_named
    compile Compile.end Compile.emit Compile.end_methods Compile.emit_methods Compile.named_of Compile.emit_classes Compile.rows_of
    ClassTable.class_named ClassTable.method_named_lem ClassTable.variable_named ClassTable.chain_within ClassTable.chain
    ClassTable.layout ClassTable.fields_of ClassTable.nearest_field ClassTable.meaning ClassTable.same_element ClassTable.same_type
    ClassTable.fits Operators.result_in Judge.arity Judge.judge
on-code = (refl, refl, refl)

-- the number of the one class that there is, if any, is 0
abbrev on_words : Program → Limits → Report
on_words p L =
    let P = compile p in
    run_with (word_due P (λ _. 0) (λ _ m. climb 1 P.rows A m)) word_size L (4 * L.budget + 4) (word_at 0 [] [] []) (begun [])

on-words : (on_words lesson (limits 100) ≡ whole) × (on_words lesson (limits 37) ≡ cut) × (on_words volts (limits 100) ≡ below)
unfolding Limits.run_with Limits.guard word_due Words.word_act climb Code.row_named Code.entry_named
    compile Compile.end Compile.emit Compile.end_methods Compile.emit_methods Compile.named_of Compile.emit_classes Compile.rows_of
    ClassTable.class_named ClassTable.method_named_lem ClassTable.variable_named ClassTable.chain_within ClassTable.chain
    ClassTable.layout ClassTable.fields_of ClassTable.nearest_field ClassTable.meaning ClassTable.same_element ClassTable.same_type
    ClassTable.fits Operators.result_in Judge.arity Judge.judge
on-words = (refl, refl, refl)
