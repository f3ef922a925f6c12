-- `lexer::words::mark_kind` meets its contract: each arm is a byte of the definition, and the last is none of them.
use mathlib.Core.Path.{sym, ap}
use borrow.Author.Tests.{ne_eqb}
use Rattle.lexer.specs.Kinds.{mark_kind_lem}
use Rattle.lexer.proofs.words.mark_kind.Goals as goal

pub returns-in-60 : goal.returns-in-60
unfolding mark_kind_lem
returns-in-60 c = sym (ap mark_kind_lem c.in-60.is)

pub returns-in-43 : goal.returns-in-43
unfolding mark_kind_lem
returns-in-43 c = sym (ap mark_kind_lem c.in-43.is)

pub returns-in-45 : goal.returns-in-45
unfolding mark_kind_lem
returns-in-45 c = sym (ap mark_kind_lem c.in-45.is)

pub returns-in-42 : goal.returns-in-42
unfolding mark_kind_lem
returns-in-42 c = sym (ap mark_kind_lem c.in-42.is)

pub returns-in-33 : goal.returns-in-33
unfolding mark_kind_lem
returns-in-33 c = sym (ap mark_kind_lem c.in-33.is)

pub returns-in-61 : goal.returns-in-61
unfolding mark_kind_lem
returns-in-61 c = sym (ap mark_kind_lem c.in-61.is)

pub returns-in-46 : goal.returns-in-46
unfolding mark_kind_lem
returns-in-46 c = sym (ap mark_kind_lem c.in-46.is)

pub returns-in-44 : goal.returns-in-44
unfolding mark_kind_lem
returns-in-44 c = sym (ap mark_kind_lem c.in-44.is)

pub returns-in-59 : goal.returns-in-59
unfolding mark_kind_lem
returns-in-59 c = sym (ap mark_kind_lem c.in-59.is)

pub returns-in-40 : goal.returns-in-40
unfolding mark_kind_lem
returns-in-40 c = sym (ap mark_kind_lem c.in-40.is)

pub returns-in-41 : goal.returns-in-41
unfolding mark_kind_lem
returns-in-41 c = sym (ap mark_kind_lem c.in-41.is)

pub returns-in-91 : goal.returns-in-91
unfolding mark_kind_lem
returns-in-91 c = sym (ap mark_kind_lem c.in-91.is)

pub returns-in-93 : goal.returns-in-93
unfolding mark_kind_lem
returns-in-93 c = sym (ap mark_kind_lem c.in-93.is)

pub returns-in-123 : goal.returns-in-123
unfolding mark_kind_lem
returns-in-123 c = sym (ap mark_kind_lem c.in-123.is)

pub returns-in-125 : goal.returns-in-125
unfolding mark_kind_lem
returns-in-125 c = sym (ap mark_kind_lem c.in-125.is)

pub returns-in_default : goal.returns-in_default
unfolding mark_kind_lem
returns-in_default c =
    simp (
      ne_eqb _ _ c.in_default.in_default-own.rest.0.0.0.0.0.0.0.0.0.0.0.0.0.0.1,
      ne_eqb _ _ c.in_default.in_default-own.rest.0.0.0.0.0.0.0.0.0.0.0.0.0.1,
      ne_eqb _ _ c.in_default.in_default-own.rest.0.0.0.0.0.0.0.0.0.0.0.0.1,
      ne_eqb _ _ c.in_default.in_default-own.rest.0.0.0.0.0.0.0.0.0.0.0.1,
      ne_eqb _ _ c.in_default.in_default-own.rest.0.0.0.0.0.0.0.0.0.0.1,
      ne_eqb _ _ c.in_default.in_default-own.rest.0.0.0.0.0.0.0.0.0.1,
      ne_eqb _ _ c.in_default.in_default-own.rest.0.0.0.0.0.0.0.0.1,
      ne_eqb _ _ c.in_default.in_default-own.rest.0.0.0.0.0.0.0.1,
      ne_eqb _ _ c.in_default.in_default-own.rest.0.0.0.0.0.0.1,
      ne_eqb _ _ c.in_default.in_default-own.rest.0.0.0.0.0.1,
      ne_eqb _ _ c.in_default.in_default-own.rest.0.0.0.0.1,
      ne_eqb _ _ c.in_default.in_default-own.rest.0.0.0.1,
      ne_eqb _ _ c.in_default.in_default-own.rest.0.0.1,
      ne_eqb _ _ c.in_default.in_default-own.rest.0.1,
      ne_eqb _ _ c.in_default.in_default-own.rest.1,
    )
