-- No run of an accepted table reads or writes out of range: threads, objects, operations, places of clocks and of queues are there wherever a decision
-- takes one. The decision itself may name a thread that is not there: it reads an ended one, and is refused. The words are in specs/Ranges.antt.
use Rattle.std.specs.Prelude.{◌≡◌, List, ℕ, ◌≤◌, Ok}
use Rattle.std.proofs.Common.{arith}
use Rattle.clocks.specs.Clock.{max_threads}
use Rattle.rules.specs.declared.table.Table.{Table}
use Rattle.rules.specs.declared.world.World.{World}
use Rattle.rules.proofs.TableLaws.{read-within}
use Rattle.rules.specs.Table.{read_table}
use Rattle.theorems.specs.Reached.{Shown}
use Rattle.theorems.proofs.Each.{each_both}
use Rattle.theorems.proofs.Named.{objects_there, ops_named}
use Rattle.theorems.specs.Range.{There}
use Rattle.theorems.proofs.Range.{lengths, there}
use Rattle.theorems.proofs.Phases.{phase_named, orderly}
use Rattle.theorems.specs.Objects.{Lasting}
use Rattle.theorems.proofs.Objects.{lasting, lasting_before}
use Rattle.theorems.proofs.Queues.{queues_last}
use Rattle.theorems.proofs.Holders.{holders_last}
use Rattle.theorems.specs.Kinds.{OfKind}
use Rattle.theorems.proofs.KindLaws.{kinds_last, phase_kind, asked_wait, effect_kind}
use Rattle.theorems.specs.Ranges.{Fit, Placed, InRange}

fit_lasts : (table : Table) → table.thread_count ≤ max_threads → Lasting table.thread_count table.objects (Fit table)
fit_lasts table few =
    let n : ℕ = table.thread_count in
    let p = queues_last n table.objects in
    let q = holders_last n few table.objects in
    let r = kinds_last n table.objects in
    record {
      made = λ k. (p.made k, q.made k, r.made k);
      records = λ k c x e h. (p.records k c x e h.0, q.records k c x e h.1, r.records k c x e h.2);
      effects = λ k c a o by e l h. (p.effects k c a o by e l h.0, q.effects k c a o by e l h.1, r.effects k c a o by e l h.2);
      spurs = λ k e h. (p.spurs k e h.0, q.spurs k e h.1, r.spurs k e h.2);
    }

-- every world that the sheet of an accepted table shows
pub in_range : (bs list : List ℕ) (table : Table) (w : World) → read_table bs ≡ Ok table → Shown table list w → (d : ℕ) → InRange table list w d
in_range bs list table w a e d =
    let n = (read-within bs table a).0 in
    let l = fit_lasts table n.threads in
    let whole = lengths bs list table w a e in
    let o = orderly bs list table w a e in
    record {
      lists = whole;
      sheet = (omega (arith, n.threads, whole.threads.0), omega (arith, n.objects, whole.store), omega (arith, n.objects, objects_there bs table a));
      objects = λ k. lasting table (Fit table) l bs list w a e k.0;
      ops = λ t p k. ops_named bs table a t p k;
      threads = λ t. o.threads.1 t.0;
      phases = λ t. phase_named bs list table w a e t;
      kinds = λ t. phase_kind bs list table w a e t;
      asked = (o.asked, asked_wait bs list table w a e);
      effects =
          λ r.
          each_both (λ t c x ts. (k : ℕ) × Fit table k x) (λ t c x ts. OfKind t c x ts × There t c x ts) (Placed table) d (λ c x ts p q. (p, q.0, q.1)) table w
          (lasting_before table (Fit table) l bs list w a r d)
          (each_both OfKind There (λ t c x ts. OfKind t c x ts × There t c x ts) d (λ c x ts p q. (p, q)) table w (effect_kind bs list table w a r d) (there bs list table w a r d));
    }
