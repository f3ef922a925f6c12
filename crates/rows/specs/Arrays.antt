-- Rows of our own for document 02, (vi): arrays of booleans and of a class; the ends are worked out by hand.
use Rattle.std.specs.Prelude.{refl, List, [], ◌∷◌, ◌++◌, ℕ, pos}
use Rattle.base.specs.Bytes.{bytes}
use Rattle.base.specs.All.{All}
use Rattle.semantics.specs.Ends.{Row, row, end_of, refused_at, ends, usual, printing}
use Rattle.rows.specs.Answers.{RowHolds, hold}
use Rattle.rows.specs.Further.{declaring, strip_limits}

-- main prints what the method m of an object returns, whose body begins at position 102
abbrev pub method : (body : List ℕ) → List ℕ
method body = printing (bytes "new A().m()") ++ bytes " class A{public int m(){" ++ body ++ bytes "}}"

-- and with a class below A
abbrev pub method_over : (body : List ℕ) → List ℕ
method_over body = method body ++ bytes " class B extends A{}"

abbrev pub grammar_rows : List Row
grammar_rows =
    -- at the begin of a body the third token tells a declaration from an assignment
    row (method (bytes "A[] x;return 1;")) usual (ends 0 0 4 1 1 (pos 1 ∷ [])) ∷
    row (printing (bytes "new A().m(new int[1])") ++ bytes " class A{public int m(int[] C){C[0]=7;return C[0];}}") usual
    (ends 0 0 11 1 3 (pos 7 ∷ [])) ∷
    -- after the first statement `A[]` can only be an assignment
    row (method (bytes "int i;i=1;A[] x;return 1;")) usual (refused_at 16 114) ∷
    -- no array of arrays
    row (method (bytes "A[][] x;return 1;")) usual (refused_at 16 105) ∷
    row (printing (bytes "new A[1][2]") ++ bytes " class A{}") usual (refused_at 16 71) ∷
    row (printing (bytes "new boolean()")) usual (refused_at 16 74) ∷
    []

abbrev pub type_rows : List Row
type_rows =
    -- 24 at the class, before the size is judged; main's name is no element type
    row (printing (bytes "new Q[x].length")) usual (refused_at 24 67) ∷
    row (printing (bytes "new M[1].length")) usual (refused_at 24 67) ∷
    row (method (bytes "Q[] x;return 1;")) usual (refused_at 24 102) ∷
    -- an array type fits only itself, even where the elements fit, as Java has it otherwise: assigned, given, redeclared, returned
    row (method_over (bytes "A[] x;x=new B[2];return 1;")) usual (refused_at 31 110) ∷
    row (printing (bytes "new A().m(new B[1])") ++ bytes " class A{public int m(A[] x){return 1;}} class B extends A{}") usual
    (refused_at 31 73) ∷
    row (method (bytes "boolean[] x;int[] y;x=y;return 1;")) usual (refused_at 31 124) ∷
    row (declaring (bytes " class A{public int m(A[] x){return 1;}} class B extends A{public int m(B[] x){return 1;}}")) usual
    (refused_at 26 138) ∷
    row (declaring (bytes " class A{public A[] m(){return new A[1];}} class B extends A{public B[] m(){return new B[1];}}")) usual
    (refused_at 26 140) ∷
    -- an element that is assigned must fit; println takes int only
    row (method_over (bytes "B[] x;x=new B[1];x[0]=new A();return 1;")) usual (refused_at 31 124) ∷
    row (method (bytes "boolean[] b;b=new boolean[1];b[0]=1;return 1;")) usual (refused_at 31 136) ∷
    row (method (bytes "boolean[] b;b=new boolean[1];System.out.println(b[0]);return 1;")) usual (refused_at 31 150) ∷
    -- no array: at the target's name, and at the part
    row (method (bytes "A x;x=this;x[0]=this;return 1;")) usual (refused_at 31 113) ∷
    row (method (bytes "A x;return x.length;")) usual (refused_at 31 113) ∷
    []

abbrev pub run_rows : List Row
run_rows =
    -- elements begin as false and as null
    row (method (bytes "boolean[] b;int r;b=new boolean[2];if(!b[0])r=1;else r=2;return r;")) usual (ends 0 0 14 1 4 (pos 1 ∷ [])) ∷
    row (method (bytes "A[] x;x=new A[1];return x[0].m();")) usual (ends 40 126 10 1 3 []) ∷
    -- the method of an element is that of the object which was stored
    row (printing (bytes "new A().m()")
    ++ bytes " class A{public int k(){return 1;}public int m(){A[] x;x=new A[1];x[0]=new B();return x[0].k();}}"
    ++ bytes " class B extends A{public int k(){return 2;}}") usual (ends 0 0 14 2 4 (pos 2 ∷ [])) ∷
    row (printing (bytes "new boolean[3].length")) usual (ends 0 0 4 0 4 (pos 3 ∷ [])) ∷
    -- 41, 42 and 51 as for int
    row (method (bytes "A[] x;x=new A[1];x[1]=this;return 1;")) usual (ends 41 119 9 1 3 []) ∷
    row (printing (bytes "new boolean[0-1].length")) usual (ends 42 63 6 0 0 []) ∷
    row (method (bytes "A[] x;x=new A[3];return 1;")) (strip_limits 4 256) (ends 51 110 6 1 1 []) ∷
    row (method (bytes "A[] x;x=new A[3];return 1;")) (strip_limits 5 256) (ends 0 0 7 1 5 (pos 1 ∷ [])) ∷
    []

pub arrays : All RowHolds (grammar_rows ++ type_rows ++ run_rows)
unfolding end_of
arrays = hold _ (record { ends = refl; ranges = refl })
