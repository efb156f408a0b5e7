-- One record of a pass, as the code has it.
--     pass_at p       01's change of the record of thread k, at what the pass is about
use Rattle.std.specs.Prelude.{ℕ}
use Rattle.rules.specs.declared.thread.Thread.{Thread}
use Rattle.rules.specs.Ground.{changed_at}
use Rattle.objects_pass.specs.declared.Pass.{Pass}

abbrev pub pass_at : Pass → ℕ → Thread → Thread
pass_at p k t = changed_at p.change p.active p.object p.by k t
