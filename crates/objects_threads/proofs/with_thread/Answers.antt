-- The thread is there and is changed, or nothing is.
use Rattle.std.proofs.Common.{rules, arith, ◌≡◌, length, List, refl}
use lib.Seq.{set_out}
use Rattle.clocks.specs.Clock.{max_threads}
use Rattle.clocks.specs.Lists.{get_or-within}
use Rattle.rules.specs.Ground.{absent}
use Rattle.rules.specs.declared.thread.Thread.{Thread}
use Rattle.objects_threads.proofs.with_thread.Goals as goal
use Rattle.objects_threads.proofs.with_thread.Goals.{then-i-lt-THREADS, else-i-lt-THREADS}

pub returns : goal.returns
returns g c =
    let ts : List Thread = c.args.threads in
    let n : length ts ≡ max_threads = search rules in
    let i : c.from-i.result ≡ c.args.id.0 = c.from-i.ensures in
    elim c.if-i-lt-THREADS.branch [
      | then-i-lt-THREADS w ↦
          (_, (λ h. record { shown = _; shows = get_or-within ts c.args.id.0 _ absent (omega arith); left = _; met = rw i at w.f.ensures; leaves = refl }), rw i at w.threads-is)
      | else-i-lt-THREADS w ↦ (absent, (λ h. absurd (omega arith)), (rw (set_out ts c.args.id.0 absent (omega arith)) w.threads-is))
    ]
