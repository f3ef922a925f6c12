-- Rows of our own for document 02, (vii): how far calls climb; the ends are worked out by hand. The climbs stand right after the steps.
use Rattle.std.specs.Prelude.{refl, List, [], ◌∷◌, ◌++◌, ℕ, pos}
use Rattle.base.specs.Bytes.{bytes}
use Rattle.base.specs.All.{All}
use Rattle.semantics.specs.Ends.{Row, row, end_of, ends, limits, usual, printing}
use Rattle.rows.specs.Answers.{RowHolds, hold}
use Rattle.rows.specs.Further.{strip_limits}

-- main prints an expression; class A has these members, and B below it none
abbrev pub two_classes : (expression members : List ℕ) → List ℕ
two_classes e members = printing e ++ bytes " class A{" ++ members ++ bytes "} class B extends A{}"

-- main prints what m returns, which A has and the object's class does not; the body of m begins at position 102
abbrev pub inherited : (body : List ℕ) → List ℕ
inherited body = two_classes (bytes "new B().m()") (bytes "public int m(){" ++ body ++ bytes "}")

abbrev pub search_rows : List Row
search_rows =
    -- no call; a method of the object's own class, of the parent, of the parent's parent
    row (two_classes (bytes "1") []) usual (ends 0 0 2 0 0 (pos 1 ∷ [])) ∷
    row (two_classes (bytes "new A().m()") (bytes "public int m(){return 1;}")) usual (ends 0 0 4 1 1 (pos 1 ∷ [])) ∷
    row (inherited (bytes "return 1;")) usual (ends 0 0 4 2 1 (pos 1 ∷ [])) ∷
    row (printing (bytes "new C().m()") ++ bytes " class C extends B{} class B extends A{} class A{public int m(){return 1;}}") usual
    (ends 0 0 4 3 1 (pos 1 ∷ [])) ∷
    -- a class below has the method again: it is found there, and from the class below that
    row (printing (bytes "new B().m()") ++ bytes " class A{public int m(){return 1;}} class B extends A{public int m(){return 2;}}") usual
    (ends 0 0 4 1 1 (pos 2 ∷ [])) ∷
    row (printing (bytes "new C().m()")
    ++ bytes " class A{public int m(){return 1;}} class B extends A{public int m(){return 2;}} class C extends B{}") usual
    (ends 0 0 4 2 1 (pos 2 ∷ [])) ∷
    -- the search begins at the object's class, not at that of the variable or of the method that calls: m climbs 1, then k 2 and 1
    row (two_classes (bytes "new A().m()") (bytes "public int k(){return 1;}public int m(){A x;x=new B();return x.k();}")) usual
    (ends 0 0 8 3 2 (pos 1 ∷ [])) ∷
    row (printing (bytes "new A().m()") ++ bytes " class A{public int k(){return 1;}public int m(){A x;x=new B();return x.k();}}"
    ++ bytes " class B extends A{public int k(){return 2;}}") usual (ends 0 0 8 2 2 (pos 2 ∷ [])) ∷
    -- a field of that name does not end the search, nor does a method of another name
    row (printing (bytes "new B().m()")
    ++ bytes " class A{public int m(){return 1;}} class B extends A{int m;public int k(){return 2;}}") usual
    (ends 0 0 4 2 2 (pos 1 ∷ [])) ∷
    []

abbrev pub total_rows : List Row
total_rows =
    -- a call as an argument of a call, and beside one
    row (two_classes (bytes "new B().f(new B().f(5))") (bytes "public int f(int x){return x;}")) usual (ends 0 0 8 4 2 (pos 5 ∷ [])) ∷
    row (two_classes (bytes "new A().f(2)+new B().f(5)") (bytes "public int f(int x){return x;}")) usual (ends 0 0 10 3 2 (pos 7 ∷ [])) ∷
    -- three rounds of a loop, in a call
    row (two_classes (bytes "new B().m()")
    (bytes "public int m(){int i;while(i<3)i=this.k(i);return i;}public int k(int x){return x+1;}")) usual
    (ends 0 0 38 8 1 (pos 3 ∷ [])) ∷
    []

abbrev pub stopped_rows : List Row
stopped_rows =
    -- 52: the third call adds nothing, and with a call limit of 1 the second
    row (inherited (bytes "return this.m();")) (limits 100000 2) (ends 52 109 7 4 1 []) ∷
    row (inherited (bytes "return this.m();")) (limits 100000 1) (ends 52 109 5 2 1 []) ∷
    -- 40: nor does a call of null
    row (two_classes (bytes "new B().m()") (bytes "A n;public int m(){return n.m();}")) usual (ends 40 113 5 2 2 []) ∷
    -- nor one whose argument ends the run
    row (two_classes (bytes "new B().f(new int[0-1].length)") (bytes "public int f(int x){return x;}")) usual (ends 42 73 8 0 1 []) ∷
    -- 50 before the call is opened, and inside it
    row (inherited (bytes "return 1;")) (limits 2 64) (ends 50 63 2 0 0 []) ∷
    row (inherited (bytes "return 1;")) (limits 3 64) (ends 50 109 3 2 1 []) ∷
    -- so it is with 51 and 53
    row (inherited (bytes "return new int[3].length;")) (strip_limits 4 256) (ends 51 109 6 2 1 []) ∷
    row (inherited (bytes "System.out.println(5);return 1;")) (strip_limits 4096 0) (ends 53 102 5 2 1 []) ∷
    []

pub climbs : All RowHolds (search_rows ++ total_rows ++ stopped_rows)
unfolding end_of
climbs = hold _ (record { ends = refl; ranges = refl })
