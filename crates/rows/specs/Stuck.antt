-- Document 01, "Stuck means": lessons for each clause of the sentence, and for each place where a value of some kind is needed. Run as
-- they are read, without Check, all get stuck, in one theorem closed by computation: so a machine that never says stuck, of which demand
-- 3 would hold, is not this one.
use Rattle.std.specs.Prelude.{ℕ, ◌≡◌, refl, List, [], ◌∷◌, ◌++◌, map}
use Rattle.std.proofs.Math.Option.{some}
use Rattle.base.specs.Bytes.{bytes}
use Rattle.semantics.specs.Limits.{went_wrong}
use Rattle.semantics.specs.Ends.{unchecked_of, usual, printing}

-- main prints what the method m of an object returns; the object's field z is null
abbrev pub calling : (fields body methods : List ℕ) → List ℕ
calling fields body methods =
    printing (bytes "new A().m()") ++ bytes " class A{int[] z;" ++ fields ++ bytes "public int m(){" ++ body ++ bytes "return 1;}"
    ++ methods ++ bytes "}"

abbrev pub doing : List ℕ → List ℕ
doing body = calling [] body []

-- A VALUE OF ANOTHER KIND

-- an expression and its type
pub record Sample : Type 0 where
  pub type : List ℕ
  pub value : List ℕ

abbrev pub integer : Sample
integer = record { type = bytes "int"; value = bytes "1" }

abbrev pub truth : Sample
truth = record { type = bytes "boolean"; value = bytes "true" }

abbrev pub null_array : Sample
null_array = record { type = bytes "int[]"; value = bytes "z" }

abbrev pub array : Sample
array = record { type = bytes "int[]"; value = bytes "(new int[1])" }

abbrev pub object : Sample
object = record { type = bytes "A"; value = bytes "this" }

-- given to a local, a field and a parameter of type t, and as the result of a method of type t; what it is in truth fits the local that
-- takes the result
abbrev pub to_local : (t : List ℕ) → Sample → List ℕ
to_local t g = doing (t ++ bytes " x;x=" ++ g.value ++ bytes ";")

abbrev pub to_field : (t : List ℕ) → Sample → List ℕ
to_field t g = calling (t ++ bytes " f;") (bytes "f=" ++ g.value ++ bytes ";") []

abbrev pub to_parameter : (t : List ℕ) → Sample → List ℕ
to_parameter t g =
    calling [] (bytes "System.out.println(this.k(" ++ g.value ++ bytes "));") (bytes "public int k(" ++ t ++ bytes " p){return 1;}")

abbrev pub as_result : (t : List ℕ) → Sample → List ℕ
as_result t g = calling [] (g.type ++ bytes " y;y=this.r();") (bytes "public " ++ t ++ bytes " r(){return " ++ g.value ++ bytes ";}")

abbrev pub to_type : (t : List ℕ) → Sample → List Sample → List (List ℕ)
to_type t g others = to_local t g ∷ to_field t g ∷ to_parameter t g ∷ as_result t g ∷ map (to_local t) others

abbrev pub variable_lessons : List (List ℕ)
variable_lessons =
    to_type (bytes "int") truth (null_array ∷ array ∷ object ∷ []) ++
    to_type (bytes "boolean") integer (null_array ∷ array ∷ object ∷ []) ++
    to_type (bytes "int[]") object (integer ∷ truth ∷ []) ++
    to_type (bytes "A") array (integer ∷ truth ∷ [])

-- a node around an expression
abbrev pub around : (front back : List ℕ) → Sample → List ℕ
around front back g = doing (front ++ g.value ++ back)

abbrev pub to_print : Sample → List ℕ
to_print = around (bytes "System.out.println(") (bytes ");")

abbrev pub turned_round : Sample → List ℕ
turned_round = around (bytes "if(!") (bytes "){}else{}")

abbrev pub length_of : Sample → List ℕ
length_of = around (bytes "System.out.println(") (bytes ".length);")

abbrev pub asked : Sample → List ℕ
asked = around (bytes "System.out.println(") (bytes ".m());")

-- stored in an array of t, and an element of such an array
abbrev pub to_element : (t : List ℕ) → Sample → List ℕ
to_element t g = doing (t ++ bytes "[] e;e=new " ++ t ++ bytes "[1];e[0]=" ++ g.value ++ bytes ";")

abbrev pub element_sample : (t : List ℕ) → Sample
element_sample t = record { type = t; value = bytes "(new " ++ t ++ bytes "[1])[0]" }

abbrev pub node_lessons : List (List ℕ)
node_lessons =
    -- a number: operands, println, a size, an index, the index of a target, an element of int[]
    around (bytes "System.out.println(") (bytes "+1);") truth ∷
    around (bytes "System.out.println(1+") (bytes ");") object ∷
    around (bytes "System.out.println(") (bytes "-1);") array ∷
    around (bytes "System.out.println(1*") (bytes ");") null_array ∷
    around (bytes "if(") (bytes "<1){}else{}") object ∷
    around (bytes "if(1<") (bytes "){}else{}") truth ∷
    around (bytes "z=new int[") (bytes "];") truth ∷
    around (bytes "System.out.println((new int[1])[") (bytes "]);") object ∷
    around (bytes "z=new int[1];z[") (bytes "]=1;") truth ∷
    map (to_element (bytes "int")) (truth ∷ null_array ∷ array ∷ object ∷ []) ++
    map to_print (truth ∷ null_array ∷ array ∷ object ∷ []) ++
    -- a truth value: operands, the tests of `if` and `while`
    around (bytes "if(") (bytes "&&true){}else{}") integer ∷
    around (bytes "if(true&&") (bytes "){}else{}") object ∷
    around (bytes "if(") (bytes "){}else{}") array ∷
    around (bytes "while(") (bytes "){}") integer ∷
    map turned_round (integer ∷ null_array ∷ array ∷ object ∷ []) ++
    -- a value of another kind than the elements', and an element of another kind than the node needs
    map (to_element (bytes "boolean")) (integer ∷ null_array ∷ array ∷ object ∷ []) ++
    map (to_element (bytes "A")) (integer ∷ truth ∷ array ∷ []) ++
    map to_print (element_sample (bytes "boolean") ∷ element_sample (bytes "A") ∷ []) ++
    map turned_round (element_sample (bytes "int") ∷ element_sample (bytes "A") ∷ []) ++
    map asked (element_sample (bytes "int") ∷ element_sample (bytes "boolean") ∷ []) ++
    -- an array: what is indexed, the target of a stored element, what has a length
    around (bytes "System.out.println(") (bytes "[0]);") object ∷
    doing (bytes "int x;x[0]=1;") ∷
    map length_of (integer ∷ truth ∷ object ∷ []) ++
    -- an object: the receiver
    map asked (integer ∷ truth ∷ array ∷ [])

-- WHAT HAS NO PLACE, AND CALLS

abbrev pub others : List (List ℕ)
others =
    -- a name: read, assigned, indexed, and in main
    doing (bytes "System.out.println(q);") ∷
    doing (bytes "q=1;") ∷
    doing (bytes "q[0]=1;") ∷
    printing (bytes "a") ∷
    -- `this` in main
    printing (bytes "this.m()") ∷
    -- a class, and main's, which is none
    printing (bytes "new B().m()") ∷
    printing (bytes "new M().m()") ∷
    -- a method that the object's chain lacks: no class has it, or one below, or one beside
    (printing (bytes "new A().k()") ++ bytes " class A{}") ∷
    (printing (bytes "new A().k()") ++ bytes " class A{} class B extends A{public int k(){return 1;}}") ∷
    (printing (bytes "new B().k()") ++ bytes " class A{} class B extends A{} class C extends A{public int k(){return 1;}}") ∷
    -- another number of arguments
    (printing (bytes "new A().k()") ++ bytes " class A{public int k(int x){return 1;}}") ∷
    (printing (bytes "new A().k(1,1)") ++ bytes " class A{public int k(int x){return 1;}}") ∷
    []

abbrev pub stuck_lessons : List (List ℕ)
stuck_lessons = variable_lessons ++ node_lessons ++ others

pub stuck : map (λ s. unchecked_of s usual) stuck_lessons ≡ map (λ _. some went_wrong) stuck_lessons
unfolding unchecked_of
stuck = refl
