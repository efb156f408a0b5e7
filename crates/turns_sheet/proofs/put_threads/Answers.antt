-- A turn writes the next thread, and after the last turn all are written.
use Rattle.std.proofs.Common.{◌≡◌, ◌∙◌, ◌+◌, ◌*◌, arith}
use Rattle.std.proofs.lemmas.List.Edits.{sets}
use Rattle.rules.specs.Ground.{absent}
use Rattle.rules.specs.Limits.{thread_record}
use Rattle.rules.specs.Sheet.{thread_bytes}
use Rattle.rules.proofs.SheetLaws.{thread-length, each-written}
use Rattle.turns_sheet.proofs.put_threads.Goals as goal

pub loop-i-preserved : goal.loop-i-preserved
loop-i-preserved c =
    let a = c.args in
    let l = c.loop-i in
    let at : thread_record * c.from.result ≡ 0 + thread_record * l.i = omega (arith, c.from.ensures) in
    let here = c.put_thread.ensures ∙ (λ i. sets l.sheet (at i) (thread_bytes (c.get-t.ensures i))) in
    each-written a.sheet.now 0 thread_bytes thread_record thread-length absent l.i a.threads l.invariant here

pub returns : goal.returns
returns c = let all : c.loop-i.i ≡ c.args.n = omega arith in rw all at c.loop-i.invariant
