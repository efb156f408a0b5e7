-- The library's search is 01's.
use Rattle.std.proofs.Common.{rules, sym, ◌∙◌}
use Rattle.std.proofs.lemmas.Iterator.{YieldsList-from_slice}
use Rattle.std.proofs.lemmas.Iterator.Search.{any_from_yields_List}
use Rattle.rules.specs.declared.thread.Thread.{Thread}
use Rattle.rules.specs.Ground.{is_runnable}
use Rattle.turns_after.proofs.Searches.{any_runnable_is}
use Rattle.turns_after.proofs.any_runnable.Goals as goal

pub returns : goal.returns
returns c = any_from_yields_List (λ (t : Thread). is_runnable t.state) _ _ _ c.any.ensures.ran (YieldsList-from_slice c.args.threads cc) (λ x b q k. search rules) ∙ sym (any_runnable_is c.args.threads)
