-- The library's search is 01's.
use Rattle.std.proofs.Common.{rules, sym, ◌∙◌}
use Rattle.std.proofs.lemmas.Iterator.{YieldsList-from_slice}
use Rattle.std.proofs.lemmas.Iterator.Search.{all_from_yields_List}
use Rattle.rules.specs.declared.thread.Thread.{Thread}
use Rattle.rules.specs.Ground.{is_ended}
use Rattle.turns_after.proofs.Searches.{all_ended_is}
use Rattle.turns_after.proofs.all_ended.Goals as goal

pub returns : goal.returns
returns c = all_from_yields_List (λ (t : Thread). is_ended t.state) _ _ _ c.all.ensures.ran (YieldsList-from_slice c.args.threads cc) (λ x b q k. search rules) ∙ sym (all_ended_is c.args.threads)
