-- Document 01, "Mistakes that come easily", and machines that do not say stuck at a value of another kind: each is refuted by how a
-- lesson ends, computed. The rows stand beside the definition of the machine, so that an edit of it fails at its row. The ends are worked
-- out by hand.
use Rattle.std.specs.Prelude.{ℕ, ◌≡◌, refl, List, [], ◌∷◌, ◌++◌, replicate, pos, negsuc}
use Rattle.std.proofs.Math.Option.{some}
use Rattle.base.specs.Bytes.{bytes}
use Rattle.semantics.specs.Limits.{went_wrong}
use Rattle.semantics.specs.Ends.{end_of, end_on, unchecked_of, ends, ends_with, limits, usual, printing}

-- the method is the object's own, not that of the declared type
abbrev pub declared_above : List ℕ
declared_above =
    printing (bytes "new C().k(new B())") ++ bytes " class A{public int m(){return 1;}} class B extends A{public int m(){return 2;}}"
    ++ bytes " class C{public int k(A a){return a.m();}}"

pub own-method : end_of declared_above usual ≡ ends 0 0 7 2 2 (pos 2 ∷ [])
unfolding end_of
own-method = refl

-- the object holds both fields x (with one slot for both it prints 33), and x means the one that the method's own class has (with the
-- object's class it prints 0)
abbrev pub hidden_field : List ℕ
hidden_field =
    printing (bytes "new B().b()") ++ bytes " class A{int x;public int a(){x=3;return x;}}"
    ++ bytes " class B extends A{int x;public int b(){return this.a()*10+x;}}"

pub both-fields : end_of hidden_field usual ≡ ends 0 0 12 3 3 (pos 30 ∷ [])
unfolding end_of
both-fields = refl

-- null is tested after the arguments: the array is made
abbrev pub null_receiver : List ℕ
null_receiver =
    printing (bytes "new A().m()") ++ bytes " class A{A n;public int m(){return n.k(new int[3].length);}public int k(int x){return x;}}"

pub null-after-arguments : end_of null_receiver usual ≡ ends 40 113 8 1 6 []
unfolding end_of
null-after-arguments = refl

-- four tests, three rounds, and one step for the `while` itself
abbrev pub three_rounds : List ℕ
three_rounds = printing (bytes "new A().m()") ++ bytes " class A{public int m(){int i;while(i<3)i=i+1;return i;}}"

pub one-step-for-while : end_of three_rounds usual ≡ ends 0 0 29 1 1 (pos 3 ∷ [])
unfolding end_of
one-step-for-while = refl

-- the elements of a boolean[] begin as false
abbrev pub false_element : List ℕ
false_element =
    printing (bytes "new A().m()")
    ++ bytes " class A{public int m(){boolean[] b;int r;b=new boolean[2];if(!b[0])r=1;else r=2;return r;}}"

pub elements-begin-as-false : end_of false_element usual ≡ ends 0 0 14 1 4 (pos 1 ∷ [])
unfolding end_of
elements-begin-as-false = refl

-- the bound of an array of a class is its own length: here a second array lies behind it
abbrev pub beyond_the_end : List ℕ
beyond_the_end =
    printing (bytes "new A().m()")
    ++ bytes " class A{public int m(){A[] x;A[] y;x=new A[1];y=new A[3];y=x[2].n();return 1;}public A[] n(){return new A[1];}}"

pub bound-of-the-array : end_of beyond_the_end usual ≡ ends 41 138 14 1 7 []
unfolding end_of
bound-of-the-array = refl

-- each of the two calls that are open climbed through one class, and the third, which 52 refuses, through none
abbrev pub endless_calls : List ℕ
endless_calls = printing (bytes "new A().m()") ++ bytes " class A{public int m(){return this.m();}}"

pub refused-call-climbs-nothing : end_of endless_calls (limits 100000 2) ≡ ends 52 109 7 2 1 []
unfolding end_of
refused-call-climbs-nothing = refl

-- document 02, (viii): 63 is tested before 64
abbrev pub put_nowhere : List ℕ
put_nowhere = bytes "class M{public static void main(String[] a){Port.put(16,256);}}"

pub register-before-value : end_of put_nowhere usual ≡ ends 63 44 3 0 0 []
unfolding end_of
register-before-value = refl

-- the sample comes as step 100 is charged: the get that is charged then sees it
abbrev pub sample_awaited : List ℕ
sample_awaited = printing (bytes "new A().m()") ++ bytes " class A{public int m(){while(Port.get(0)<1){}return Port.get(2);}}"

pub sample-with-its-step : end_on (42 ∷ []) sample_awaited usual ≡ ends_with 0 0 105 1 1 (pos 42 ∷ []) (0 ∷ 0 ∷ 42 ∷ replicate 13 0)
unfolding end_on
sample-with-its-step = refl

-- document 02, (ix): "(0.000-1.500)*0.001 prints -1": the quotient is cut toward zero
abbrev pub below_zero : List ℕ
below_zero = printing (bytes "(0.000-1.500)*0.001")

pub toward_zero : end_of below_zero usual ≡ ends 0 0 6 0 0 (negsuc 0 ∷ [])
unfolding end_of
toward_zero = refl

-- Stuck at a value of another kind, in lessons that Check refuses: each would run to its end if the kind were not tested there.
abbrev pub truth_assigned : List ℕ
truth_assigned = printing (bytes "new A().m()") ++ bytes " class A{public int m(){int x;x=true;return 1;}}"

pub stuck-at-local : unchecked_of truth_assigned usual ≡ some went_wrong
unfolding unchecked_of
stuck-at-local = refl

abbrev pub object_assigned : List ℕ
object_assigned = printing (bytes "new A().m()") ++ bytes " class A{int[] x;public int m(){x=this;return 1;}}"

pub stuck-at-field : unchecked_of object_assigned usual ≡ some went_wrong
unfolding unchecked_of
stuck-at-field = refl

abbrev pub truth_given : List ℕ
truth_given = printing (bytes "new A().m(true)") ++ bytes " class A{public int m(int x){return 1;}}"

pub stuck-at-argument : unchecked_of truth_given usual ≡ some went_wrong
unfolding unchecked_of
stuck-at-argument = refl

-- the object that m returns is asked for its method n
abbrev pub object_returned : List ℕ
object_returned = printing (bytes "new A().m().n()") ++ bytes " class A{public int m(){return this;}public int n(){return 1;}}"

pub stuck-at-return : unchecked_of object_returned usual ≡ some went_wrong
unfolding unchecked_of
stuck-at-return = refl

abbrev pub number_stored : List ℕ
number_stored = printing (bytes "new A().m()") ++ bytes " class A{public int m(){boolean[] x;x=new boolean[1];x[0]=1;return 1;}}"

pub stuck-at-element : unchecked_of number_stored usual ≡ some went_wrong
unfolding unchecked_of
stuck-at-element = refl

-- "It never mixes with int"
abbrev pub count_added : List ℕ
count_added = printing (bytes "1+1.000")

pub stuck-at-right-operand : unchecked_of count_added usual ≡ some went_wrong
unfolding unchecked_of
stuck-at-right-operand = refl

abbrev pub integer_returned : List ℕ
integer_returned = printing (bytes "new A().m()") ++ bytes " class A{public fixed m(){return 1;}}"

pub stuck-at-fixed-result : unchecked_of integer_returned usual ≡ some went_wrong
unfolding unchecked_of
stuck-at-fixed-result = refl
