-- Laws on the range of tokens in which a part lies.
use Rattle.std.specs.Prelude.{ℕ, ◌+◌, ◌≤◌, List}
use Rattle.std.proofs.Common.{arith}
use Rattle.lexer.specs.Tokens.{Token}
use Rattle.parser.specs.Tree.{Sort, Part, Expression, Statement}
use Rattle.parser.specs.Tree.{Part.literal, Part.truth, Part.variable, Part.this, Part.new_array_lem, Part.new_object_lem, Part.negation, Part.binary}
use Rattle.parser.specs.Tree.{Part.element, Part.array_length, Part.call, Part.port_get_lem, Part.no_arguments, Part.argument}
use Rattle.parser.specs.Tree.{Part.block, Part.conditional, Part.loop, Part.print, Part.assign, Part.assign_element_lem, Part.port_put_lem}
use Rattle.parser.specs.Tree.{Part.no_statements, Part.sequence}
use Rattle.parser.specs.promises.Layout.{row_of}
use Rattle.parser.specs.Grammar.{Kind, Derives, Derives.operate, Derives.one-operand, Derives.negate, Derives.no-negation}
use Rattle.parser.specs.Grammar.{Derives.make-array, Derives.no-array, Derives.index, Derives.take-length, Derives.invoke}
use Rattle.parser.specs.Grammar.{Derives.no-suffix, Derives.a-literal, Derives.a-true, Derives.a-false, Derives.a-name}
use Rattle.parser.specs.Grammar.{Derives.a-this, Derives.make-object, Derives.get-register, Derives.parentheses, Derives.none-given}
use Rattle.parser.specs.Grammar.{Derives.some-given, Derives.one_argument, Derives.more-arguments, Derives.a-fixed-literal}
use Rattle.parser.specs.Grammar.{Derives.a_block, Derives.an-if, Derives.a-while, Derives.a-print, Derives.an-assignment}
use Rattle.parser.specs.Grammar.{Derives.an-element-assignment, Derives.put-register, Derives.no-statement, Derives.more-statements}
use Rattle.reader.specs.promises.Spans.{Among, Spans}
use Rattle.reader.specs.laws.Counting.{tree-nodes}

-- an expression's row, and a statement's, lies within
pub inside : {i j : ℕ} (e : Expression) → Spans i j e → Among i j (row_of e)
unfolding Spans
inside (literal p n) h = h
inside (truth p b) h = h
inside (variable p x) h = h
inside (this p) h = h
inside (new_array_lem p u e) h = h.0
inside (new_object_lem p c) h = h
inside (negation p e) h = h.0
inside (binary p o l r) h = h.0
inside (element p l r) h = h.0
inside (array_length p e) h = h.0
inside (call p e m es) h = h.0
inside (port_get_lem p e) h = h.0

pub inside-statement : {i j : ℕ} (t : Statement) → Spans i j t → Among i j (row_of t)
unfolding Spans
inside-statement (block p ss) h = h.0
inside-statement (conditional p e s t) h = h.0
inside-statement (loop p e s) h = h.0
inside-statement (print p e) h = h.0
inside-statement (assign p x e) h = h.0
inside-statement (assign_element_lem p x l e) h = h.0
inside-statement (port_put_lem p n e) h = h.0

-- a wider range spans too
among : {i j i' j' row : ℕ} → i' ≤ i → j ≤ j' → Among i j row → Among i' j' row
among a b h = record { low = omega arith; high = omega arith }

pub wider : {s : Sort} (t : Part s) (i j i' j' : ℕ) → i' ≤ i → j ≤ j' → Spans i j t → Spans i' j' t
unfolding Spans
wider (literal p n) i j i' j' a b h = among a b h
wider (truth p v) i j i' j' a b h = among a b h
wider (variable p x) i j i' j' a b h = among a b h
wider (this p) i j i' j' a b h = among a b h
wider (new_array_lem p u e) i j i' j' a b h =
    (among a b h.0, wider e (p.row + 1) j (p.row + 1) j' (omega arith) b h.1)
wider (new_object_lem p c) i j i' j' a b h = among a b h
wider (negation p e) i j i' j' a b h =
    (among a b h.0, wider e (p.row + 1) j (p.row + 1) j' (omega arith) b h.1)
wider (binary p o l r) i j i' j' a b h = (
  among a b h.0,
  wider l i p.row i' p.row a (omega arith) h.1,
  wider r (p.row + 1) j (p.row + 1) j' (omega arith) b h.2,
)
wider (element p l r) i j i' j' a b h = (
  among a b h.0,
  wider l i p.row i' p.row a (omega arith) h.1,
  wider r (p.row + 1) j (p.row + 1) j' (omega arith) b h.2,
)
wider (array_length p e) i j i' j' a b h =
    (among a b h.0, wider e i p.row i' p.row a (omega arith) h.1)
wider (call p e m es) i j i' j' a b h = (
  among a b h.0,
  wider e i p.row i' p.row a (omega arith) h.1,
  wider es (p.row + 1) j (p.row + 1) j' (omega arith) b h.2,
)
wider (port_get_lem p e) i j i' j' a b h =
    (among a b h.0, wider e (p.row + 1) j (p.row + 1) j' (omega arith) b h.1)
wider no_arguments i j i' j' a b h = tt
wider (argument e es) i j i' j' a b h =
    (wider e i j i' j' a b h.0, wider es (row_of e + 1) j (row_of e + 1) j' (omega arith) b h.1)
wider (block p ss) i j i' j' a b h =
    (among a b h.0, wider ss (p.row + 1) j (p.row + 1) j' (omega arith) b h.1)
wider (conditional p e s t) i j i' j' a b h = (
  among a b h.0,
  wider e (p.row + 1) j (p.row + 1) j' (omega arith) b h.1,
  wider s (p.row + 1) j (p.row + 1) j' (omega arith) b h.2,
  wider t (p.row + 1) j (p.row + 1) j' (omega arith) b h.3,
)
wider (loop p e s) i j i' j' a b h = (
  among a b h.0,
  wider e (p.row + 1) j (p.row + 1) j' (omega arith) b h.1,
  wider s (p.row + 1) j (p.row + 1) j' (omega arith) b h.2,
)
wider (print p e) i j i' j' a b h =
    (among a b h.0, wider e (p.row + 1) j (p.row + 1) j' (omega arith) b h.1)
wider (assign p x e) i j i' j' a b h =
    (among a b h.0, wider e (p.row + 1) j (p.row + 1) j' (omega arith) b h.1)
wider (assign_element_lem p x l e) i j i' j' a b h = (
  among a b h.0,
  wider l (p.row + 1) j (p.row + 1) j' (omega arith) b h.1,
  wider e (p.row + 1) j (p.row + 1) j' (omega arith) b h.2,
)
wider (port_put_lem p n e) i j i' j' a b h = (
  among a b h.0,
  wider n (p.row + 1) j (p.row + 1) j' (omega arith) b h.1,
  wider e (p.row + 1) j (p.row + 1) j' (omega arith) b h.2,
)
wider no_statements i j i' j' a b h = tt
wider (sequence s ss) i j i' j' a b h =
    (wider s i j i' j' a b h.0, wider ss (row_of s + 1) j (row_of s + 1) j' (omega arith) b h.1)

own : (i row j : ℕ) → i ≤ row → row + 1 ≤ j → Among i j row
own i row j a b = record { low = omega arith; high = omega arith }

-- what the grammar derives from the tokens i up to j lies among them
module _ {ts : List Token} where
  pub tree-spans : {s : Sort} {k : Kind s} {i j : ℕ} {t : Part s} → Derives ts s k i j t → Spans i j t
  unfolding Spans
  tree-spans (operate {i = i} {m = m} {j = j} d _ d') =
      (own i m j (omega (arith, tree-nodes d)) (omega (arith, tree-nodes d')), tree-spans d, tree-spans d')
  tree-spans (one-operand d) = tree-spans d
  tree-spans (negate {i = i} {j = j} _ d) = (own i i j (omega arith) (omega (arith, tree-nodes d)), tree-spans d)
  tree-spans (no-negation d) = tree-spans d
  tree-spans (make-array {i = i} {j = j} {e = e} _ _ _ d _) = (
    own i i (j + 1) (omega arith) (omega (arith, tree-nodes d)),
    wider e (i + 3) j (i + 1) (j + 1) (omega arith) (omega arith) (tree-spans d),
  )
  tree-spans (no-array d) = tree-spans d
  tree-spans (index {i = i} {m = m} {j = j} {e = e} d _ d' _) = (
    own i m (j + 1) (omega (arith, tree-nodes d)) (omega (arith, tree-nodes d')),
    tree-spans d,
    wider e (m + 1) j (m + 1) (j + 1) (omega arith) (omega arith) (tree-spans d'),
  )
  tree-spans (take-length {i = i} {m = m} d _ _) = (own i m (m + 2) (omega (arith, tree-nodes d)) (omega arith), tree-spans d)
  tree-spans (invoke {i = i} {m = m} {j = j} {es = es} d _ _ _ d' _) = (
    own i m (j + 1) (omega (arith, tree-nodes d)) (omega (arith, tree-nodes d')),
    tree-spans d,
    wider es (m + 3) j (m + 1) (j + 1) (omega arith) (omega arith) (tree-spans d'),
  )
  tree-spans (no-suffix d) = tree-spans d
  tree-spans (a-literal {i = i} _) = own i i (i + 1) (omega arith) (omega arith)
  tree-spans (a-fixed-literal {i = i} _) = own i i (i + 1) (omega arith) (omega arith)
  tree-spans (a-true {i = i} _) = own i i (i + 1) (omega arith) (omega arith)
  tree-spans (a-false {i = i} _) = own i i (i + 1) (omega arith) (omega arith)
  tree-spans (a-name {i = i} _) = own i i (i + 1) (omega arith) (omega arith)
  tree-spans (a-this {i = i} _) = own i i (i + 1) (omega arith) (omega arith)
  tree-spans (make-object {i = i} _ _ _ _) = own i i (i + 4) (omega arith) (omega arith)
  tree-spans (get-register {i = i} {j = j} {e = e} _ _ _ _ d _) = (
    own i i (j + 1) (omega arith) (omega (arith, tree-nodes d)),
    wider e (i + 4) j (i + 1) (j + 1) (omega arith) (omega arith) (tree-spans d),
  )
  tree-spans (parentheses {i = i} {j = j} {e = e} _ d _) = wider e (i + 1) j i (j + 1) (omega arith) (omega arith) (tree-spans d)
  tree-spans none-given = tt
  tree-spans (some-given d) = tree-spans d
  tree-spans (one_argument d) = (tree-spans d, tt)
  tree-spans (more-arguments {i = i} {m = m} {j = j} {e = e} {es = es} d _ d') = (
    wider e i m i j (omega arith) (omega (arith, tree-nodes d')) (tree-spans d),
    wider es (m + 1) j (row_of e + 1) j (omega (arith, (inside e (tree-spans d)).high)) (omega arith) (tree-spans d'),
  )
  tree-spans (a_block {i = i} {j = j} {ss = ss} _ d _) = (
    own i i (j + 1) (omega arith) (omega (arith, tree-nodes d)),
    wider ss (i + 1) j (i + 1) (j + 1) (omega arith) (omega arith) (tree-spans d),
  )
  tree-spans (an-if {i = i} {j = j} {k = k} {n = n} {e = e} {s = s} {t = t} _ _ d _ d' _ d'') =
      let a = tree-nodes d in
      let b = tree-nodes d' in
      let c = tree-nodes d'' in (
        own i i n (omega arith) (omega arith),
        wider e (i + 2) j (i + 1) n (omega arith) (omega arith) (tree-spans d),
        wider s (j + 1) k (i + 1) n (omega arith) (omega arith) (tree-spans d'),
        wider t (k + 1) n (i + 1) n (omega arith) (omega arith) (tree-spans d''),
      )
  tree-spans (a-while {i = i} {j = j} {k = k} {e = e} {s = s} _ _ d _ d') =
      let a = tree-nodes d in
      let b = tree-nodes d' in (
        own i i k (omega arith) (omega arith),
        wider e (i + 2) j (i + 1) k (omega arith) (omega arith) (tree-spans d),
        wider s (j + 1) k (i + 1) k (omega arith) (omega arith) (tree-spans d'),
      )
  tree-spans (a-print {i = i} {j = j} {e = e} _ _ _ _ _ _ d _ _) = (
    own i i (j + 2) (omega arith) (omega (arith, tree-nodes d)),
    wider e (i + 6) j (i + 1) (j + 2) (omega arith) (omega arith) (tree-spans d),
  )
  tree-spans (an-assignment {i = i} {j = j} {e = e} _ _ d _) = (
    own i i (j + 1) (omega arith) (omega (arith, tree-nodes d)),
    wider e (i + 2) j (i + 1) (j + 1) (omega arith) (omega arith) (tree-spans d),
  )
  tree-spans (an-element-assignment {i = i} {j = j} {k = k} {n = n} {e = e} _ _ d _ _ d' _) =
      let a = tree-nodes d in
      let b = tree-nodes d' in (
        own i i (k + 1) (omega arith) (omega arith),
        wider n (i + 2) j (i + 1) (k + 1) (omega arith) (omega arith) (tree-spans d),
        wider e (j + 2) k (i + 1) (k + 1) (omega arith) (omega arith) (tree-spans d'),
      )
  tree-spans (put-register {i = i} {j = j} {k = k} {n = n} {e = e} _ _ _ _ d _ d' _ _) =
      let a = tree-nodes d in
      let b = tree-nodes d' in (
        own i i (k + 2) (omega arith) (omega arith),
        wider n (i + 4) j (i + 1) (k + 2) (omega arith) (omega arith) (tree-spans d),
        wider e (j + 1) k (i + 1) (k + 2) (omega arith) (omega arith) (tree-spans d'),
      )
  tree-spans no-statement = tt
  tree-spans (more-statements {i = i} {m = m} {j = j} {s = s} {ss = ss} d d') = (
    wider s i m i j (omega arith) (omega (arith, tree-nodes d')) (tree-spans d),
    wider ss m j (row_of s + 1) j (omega (arith, (inside-statement s (tree-spans d)).high)) (omega arith) (tree-spans d'),
  )
