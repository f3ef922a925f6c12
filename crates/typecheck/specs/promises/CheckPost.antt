-- What the functions of Check ensure: the answer of the definition, and where it accepts, the tokens, the tree and the index of the
-- classes in the table.
use Rattle.std.specs.Prelude.{ℕ, ◌≡◌, true, List, length, drop}
use Rattle.std.proofs.Math.Option.{none, some}
use Rattle.std.proofs.Math.ListN.{get_elem?}
use Rattle.base.specs.Codes.{success}
use Rattle.base.specs.Outcome.{Outcome, accepted, refused, ◌>>=◌}
use Rattle.lexer.specs.Bytes.{is_name_part_lem}
use Rattle.lexer.specs.Kinds.{is_name_lem}
use Rattle.lexer.specs.Tokens.{Token, longest_run, tokens}
use Rattle.parser.specs.Tree.{Class, Program}
use Rattle.parser.specs.Stream.{name_at}
use Rattle.parser.specs.Measure.{program_deep}
use Rattle.parser.specs.Grammar.{DerivesProgram}
use Rattle.parser.specs.promises.Layout.{row_classes}
use Rattle.parser.specs.Read.{Reading}
use Rattle.reader.specs.promises.ReadPost.{Filling}
use Rattle.typesystem.specs.ClassTable.{class_named}
use Rattle.typesystem.specs.TypingRules.{Ends, ProgramTyped}
use Rattle.typesystem.specs.Declarations.{known_parents, ending_chains, declarations}
use Rattle.typesystem.specs.Check.{all_bodies, judged, CheckAnswer as SpecAnswer, check_answer}
use Rattle.std.specs.Prelude.{Result, Ok, Err}
use Rattle.base.specs.declared.refusal.Refusal.{Refusal}
use Rattle.base.specs.promises.Refusals.{number_of, Refuses}
use Rattle.lookup.specs.declared.sizes.Sizes.{Sizes}
use Rattle.lookup.specs.promises.Answers.{Judged, told}
use Rattle.declarations.specs.promises.Indexing.{Ready}

-- what is found of a source: how many tokens and classes it has, or a refusal
abbrev pub Finding : Type 0
Finding = Result Sizes Refusal

abbrev pub found : (tokens classes : ℕ) → Finding
found n k = Ok (record { tokens = n; classes = k })

-- the code's answer as document 01 counts it: of an accepted source 0 and the number of its classes, of a refused one the refusal
abbrev pub check_answer_of : Finding → SpecAnswer
check_answer_of (Ok z) = record { number = success; position = 0; classes = z.classes }
check_answer_of (Err q) = record { number = number_of q.reason; position = q.position; classes = 0 }

-- of an accepted program with these tokens, the answer and what the table then holds
pub record Holding (ts : List Token) (p : Program) (r : Finding) (tab : List ℕ) : Type 0 where
  pub answer : r ≡ found (length ts) (length p.classes)
  pub ready : Ready tab (length ts) ts p
  pub derived : DerivesProgram ts p

-- the answers and tables that are right for what is found of a tree with these tokens
abbrev pub ProgramDecided : List Token → Outcome Program → Finding → List ℕ → Type 0
ProgramDecided ts (accepted p) r tab = Holding ts p r tab
ProgramDecided ts (refused n q) r tab = Refuses r n q

-- What Check promises of an accepted source, to Menu and to Run: the tokens are those of the source, and a name's text is the run of its
-- bytes from its start; the table holds them and the program that the grammar derives from them, whose main class is named by token 1 and
-- main's parameter by token 11; no node is too deep, the rules hold, and chains end.
pub record Checked (s : List ℕ) (p : Program) (r : Finding) (tab : List ℕ) : Type 0 where
  pub stream : List Token
  pub lexed : tokens s ≡ accepted stream
  pub names : (i : ℕ) (t : Token) → get_elem? stream i ≡ some t → is_name_lem t.kind ≡ true
      → t.text ≡ longest_run is_name_part_lem (drop t.start s)
  pub answer : r ≡ found (length stream) (length p.classes)
  pub ready : Ready tab (length stream) stream p
  pub derived : DerivesProgram stream p
  pub main : p.main ≡ name_at stream 1
  pub parameter : p.parameter ≡ name_at stream 11
  pub shallow : program_deep p ≡ none
  pub typed : ProgramTyped p
  pub ends : (c : List ℕ) {k : Class} → class_named p.classes c ≡ some k → Ends p.classes c

-- the cases and tables that are right for what Check finds of a source
abbrev pub FindsProgram : List ℕ → Outcome Program → Finding → List ℕ → Type 0
FindsProgram s (accepted p) r tab = Checked s p r tab
FindsProgram s (refused n q) r tab = Refuses r n q

-- what is found tells Check's answer, and is left in the table
pub record Leaves (s : List ℕ) (v : Outcome Program) (r : Finding) (tab : List ℕ) : Type 0 where
  pub answers : check_answer_of r ≡ check_answer v
  pub finds : FindsProgram s v r tab

-- declarations and bodies; chains before these; parents before these
abbrev pub contents_of : Program → Outcome (Unit {0})
contents_of p = declarations p.classes p.classes >>= λ _. all_bodies p

abbrev pub chains_on : Program → Outcome (Unit {0})
chains_on p = ending_chains p.classes p.classes >>= λ _. contents_of p

abbrev pub parents_on : Program → Outcome Program
parents_on p = known_parents p.classes p.classes >>= λ _. chains_on p >>= λ _. accepted p

pub record ContentsJudged (tab : List ℕ) (n classes first : ℕ) (r : Judged) : Type 0 where
  pub says : (ts : List Token) (p : Program) → Ready tab n ts p → length p.classes ≡ classes → row_classes p.classes ≡ first
      → told r ≡ contents_of p

pub record ChainedJudged (tab : List ℕ) (n classes first : ℕ) (r : Judged) : Type 0 where
  pub says : (ts : List Token) (p : Program) → Ready tab n ts p → length p.classes ≡ classes → row_classes p.classes ≡ first
      → told r ≡ chains_on p

pub record IndexedJudged (tab : List ℕ) (n : ℕ) (r : Finding) : Type 0 where
  pub says : (ts : List Token) (p : Program) → Ready tab n ts p → DerivesProgram ts p → ProgramDecided ts (parents_on p) r tab

pub record TreeJudged (n : ℕ) (before : List ℕ) (r : Finding) (after : List ℕ) : Type 0 where
  pub says : (rd : Reading) → Filling before rd → length rd.stream ≡ n → ProgramDecided rd.stream (judged rd.tree) r after
