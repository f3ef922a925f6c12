-- Plain instructions in an array, and their frames.
use Rattle.std.specs.Prelude.{ℕ, ◌+◌, ◌*◌, ◌≤◌, ◌<◌, min, ◌≡◌, List, map, length, get_or}
use Rattle.std.proofs.Math.Option.{Option, none, some}
use Rattle.std.proofs.Math.ListN.{get_elem?}
use Rattle.base.specs.All.{All}
use Rattle.parser.specs.Tree.{Operator}
use Rattle.reader.specs.promises.Matches.{operator_kind}
use Rattle.typesystem.specs.ClassTable.{Meaning}
use Rattle.codegen.specs.promises.Code.{Instruction, mark, push, load, save, self, negate, return, halt, scale, operate, jump, unless}
use Rattle.codegen.specs.promises.Code.{keep, fetch, measure, make_array_lem, make_object_lem, call, print, store_element_lem, read_register, write_register, Code}
use Rattle.writer.specs.promises.Words.{encode}
use Rattle.writer.specs.laws.Stored.{StandAt}
use Rattle.frames.specs.Lines.{line}
use Rattle.frames.specs.Encode.{place_of, class_number, method_names, operator_line, frame_of}
use Rattle.encoder.specs.declared.plan.Plan.{Plan}
use Rattle.encoder.specs.promises.Strip.{Puts}

-- INSTRUCTIONS

-- a name has a place
abbrev pub Meant : Option Meaning → Type 0
Meant none = ⊥
Meant (some m) = Unit {0}

-- as every name of an accepted lesson has
abbrev pub Placed : Instruction → Type 0
Placed (mark p) = Unit {0}
Placed (push v) = Unit {0}
Placed (load o) = Meant o
Placed (save o) = Meant o
Placed self = Unit {0}
Placed negate = Unit {0}
Placed return = Unit {0}
Placed halt = Unit {0}
Placed (operate o) = Unit {0}
Placed (jump j) = Unit {0}
Placed (unless j) = Unit {0}
Placed (keep j) = Unit {0}
Placed (fetch p) = Unit {0}
Placed (measure p) = Unit {0}
Placed (make_array_lem p t) = Unit {0}
Placed (print p) = Unit {0}
Placed (store_element_lem p) = Unit {0}
Placed (make_object_lem p c xs) = Unit {0}
Placed (call p m n) = Unit {0}
Placed (read_register p) = Unit {0}
Placed (write_register p) = Unit {0}
Placed scale = Unit {0}

-- an array has these instructions from place i on
pub record HeldFrom (code : List ℕ) (ν : List ℕ → ℕ) (i : ℕ) (k : List Instruction) : Type 0 where
  pub at : (j : ℕ) (x : Instruction) → get_elem? k j ≡ some x → StandAt code (i + j) (encode ν x)

-- the numbers of classes and of method names, by the numbers of their names
pub record NumbersHeld (ν : List ℕ → ℕ) (P : Code) (classes methods : List ℕ) (p : Plan) : Type 0 where
  pub lines : p.lines ≡ length P.instructions
  pub rows : p.classes ≡ length P.rows
  pub class : (c : List ℕ) → min (get_or classes (ν c) 0) p.classes ≡ class_number P.rows c
  pub method : (m : List ℕ) → min (get_or methods (ν m) 0) p.methods ≡ place_of (method_names P.rows) m

-- POSTS

pub record OperatorPost (k r : ℕ) : Type 0 where
  pub says : (o : Operator) → k ≡ operator_kind o → r ≡ operator_line o

pub record OperandPost (code classes methods : List ℕ) (p : Plan) (i op r : ℕ) : Type 0 where
  pub says : (ν : List ℕ → ℕ) (P : Code) → NumbersHeld ν P classes methods p → (x : Instruction) → Placed x → StandAt code i (encode ν x)
      → op ≡ get_or code (4 * i) 0 → line op r ≡ frame_of P x

-- how many instructions there are, where 255 stands behind the last of them, if there is room for it
pub record BehindPost (code : List ℕ) (i left r : ℕ) : Type 0 where
  pub within : r ≤ i + left
  pub says : (ν : List ℕ → ℕ) (k : List Instruction) → HeldFrom code ν i k → length k ≤ left
      → (length k < left → 255 ≤ get_or code (4 * (i + length k)) 0) → r ≡ i + length k

pub record PlainPost (code classes methods : List ℕ) (p : Plan) (i left at : ℕ) (before after : List ℕ) (r : ℕ) : Type 0 where
  pub within : r ≤ at + 11 * left
  pub says : (ν : List ℕ → ℕ) (P : Code) → NumbersHeld ν P classes methods p → (k : List Instruction) → All Placed k → HeldFrom code ν i k
      → length k ≡ left → Puts at (map (frame_of P) k) before after r
