-- 01's questions about all threads are the library's, and the search for the lowest thread goes on or is over at each.
use Rattle.std.specs.Prelude.{◌≡◌, refl, Bool, ◌&&◌, ◌||◌, List, [], ◌∷◌}
use Rattle.std.specs.List.{list_all, list_any}
use Rattle.std.proofs.Common.{ap}
use Rattle.rules.specs.declared.thread.Thread.{Thread}
use Rattle.rules.specs.Ground.{is_runnable, is_ended}
use Rattle.rules.specs.Turn.{all_ended, any_runnable}
use Rattle.rules.proofs.AfterLaws.{stuck-passed, stuck-here}

pub all_ended_is : (ts : List Thread) → all_ended ts ≡ list_all (λ t. is_ended t.state) ts
unfolding all_ended
all_ended_is [] = refl
all_ended_is (t ∷ ts) = ap (λ (b : Bool). is_ended t.state && b) (all_ended_is ts)

pub any_runnable_is : (ts : List Thread) → any_runnable ts ≡ list_any (λ t. is_runnable t.state) ts
unfolding any_runnable
any_runnable_is [] = refl
any_runnable_is (t ∷ ts) = ap (λ (b : Bool). is_runnable t.state || b) (any_runnable_is ts)

pub ruleset stuck_steps = (stuck-passed, stuck-here)
