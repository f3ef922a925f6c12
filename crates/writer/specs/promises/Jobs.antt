-- What finding a part of a node ensures: it is the one to which a column of the node's row leads.
use Rattle.std.specs.Prelude.{ℕ, ◌-◌, ◌<◌, ◌≡◌, List}
use Rattle.base.specs.Word.{modulus}
use Rattle.lookup.specs.promises.HeldClasses.{word_at}
use Rattle.writer.specs.declared.job.Job.{Job}

-- the part to which column k leads, from a place on
abbrev pub part_of : (tab : List ℕ) (k : ℕ) → Job → ℕ → Job
part_of tab k job at = record { left = job.left; row = word_at tab k job.row; at = at }

-- a node behind its mark, and a list behind its first member: one node less, or one member, from a place on
abbrev pub one_less : Job → ℕ → Job
one_less job at = record { left = job.left - 1; row = job.row; at = at }

pub record PartPost (tab : List ℕ) (k : ℕ) (job : Job) (at : ℕ) (r : Job) : Type 0 where
  pub nodes : r.left ≡ job.left
  pub leads : r.row ≡ word_at tab k job.row
  pub begins : r.at ≡ at
  pub low : r.row < modulus
