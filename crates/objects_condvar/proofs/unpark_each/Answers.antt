-- `unpark_each` meets its contract: a waiter more is an unpark more.
use Rattle.std.proofs.Common.{rules, ◌≡◌, map, take, List, [], ◌∷◌, ◌++◌, refl, ◌∙◌}
use Rattle.std.proofs.lemmas.Fn.{fold_over, fronts}
use Rattle.std.proofs.lemmas.Iterator.{YieldsList-from_slice, YieldsList-from_take}
use Rattle.std.specs.Iterator.Adapters.{take_steps}
use Rattle.clocks.specs.declared.thread.ThreadId.{ThreadId}
use Rattle.rules.specs.declared.thread.Thread.{Thread}
use Rattle.rules.specs.Ground.{unparks, touched, unpark_thread}
use Rattle.objects_condvar.proofs.unpark_each.Goals as goal

-- the threads once the waiters are unparked
abbrev unparked : ThreadId → List ThreadId → List Thread → List Thread
unparked active ids ts = touched active (map unparks ids) ts

more : (active : ThreadId) (ids : List ThreadId) (id : ThreadId) (ts us : List Thread) → us ≡ unparked active ids ts → unpark_thread active id us ≡ unparked active (ids ++ id ∷ []) ts
more active [] id ts us e = rw e
more active (x ∷ ids) id ts us e = more active ids id _ us e

pub returns : goal.returns
returns c =
    let a = c.args in
    fold_over (take_steps fronts) (λ y. y.now) _ (λ ids ts. ts ≡ unparked a.active ids a.threads) _
    (λ ids ts x us f before call. let next : us ≡ unpark_thread a.active x.now ts = search rules in (next ∙ more a.active ids x.now _ ts before, search rules))
    c.take.result (take a.count a.waiters) _ _ (YieldsList-from_take a.count (YieldsList-from_slice a.waiters (cc)) (cc)).runs refl c.fold.ensures.ran
