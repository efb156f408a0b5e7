-- The turn number: one more a decision at most, so at most `max_list`, and its type's end is 65,535.
use Rattle.std.specs.Prelude.{◌≡◌, List, ℕ, suc, ◌+◌, ◌≤◌, Ok}
use Rattle.std.proofs.Common.{arith}
use Rattle.clocks.specs.Clock.{risen}
use Rattle.rules.specs.declared.table.Table.{Table}
use Rattle.rules.specs.declared.world.World.{World}
use Rattle.rules.specs.Limits.{max_list}
use Rattle.rules.specs.Table.{read_table}
use Rattle.rules.specs.TableLaws.{Within}
use Rattle.rules.proofs.TableLaws.{read-within}
use Rattle.rules.specs.Turn.{start, spurious, decide}
use Rattle.theorems.specs.Falling.{Good}
use Rattle.theorems.specs.Reached.{Shown}
use Rattle.theorems.proofs.Reached.{shown_by}
use Rattle.theorems.proofs.Each.{decide_passes}

-- u decisions take it to u at most
abbrev Few : ℕ → World → Type 0
Few u w = w.turn ≤ u

-- none is taken at the start
start_few : (table : Table) → Few 0 (start table)
unfolding start
start_few table = omega arith

module _ (table : Table) (n : Within table) (u : ℕ) (w : World) (g : Good table w) (few : Few u w) where
  -- a decision raises it by one at most
  decide_few : (d : ℕ) → Few (suc u) (decide table w d).world
  unfolding spurious
  decide_few =
      decide_passes table n w g (λ t c e ts. Unit {0}) (λ t m v. Few (suc u) v) (Few (suc u)) (omega (arith, few))
      (λ t l.
      record {
        passes = record { sees = λ m v op f i. tt; shows = λ m v i. i; asks = λ m v op a i. i; ends = λ v i. i; announces = λ m v op i. i; goes = λ m v op f z i. i };
        nothing = λ e. omega (arith, few);
        effects = λ op k. tt;
        releases = λ op m k f s. tt;
        operates = λ op m ops k e z s. omega (arith, few);
        waits = λ op a m o e f s. omega (arith, few);
        retakes = λ m o e. omega (arith, few);
      })
      (λ t q r. record { goes = λ op o. omega (arith, few); wakes = λ op o. omega (arith, few) })

-- in every world that the sheet of an accepted table shows
pub turn_few : (bs list : List ℕ) (table : Table) (w : World) → read_table bs ≡ Ok table → Shown table list w → w.turn ≤ max_list
turn_few bs list table w a e =
    let h = read-within bs table a in
    let r = shown_by table h.0 Few (λ u v d g l i. decide_few table h.0 u v g i d) h.1 (start_few table) list w e in
    omega (arith, r.1, r.2)

-- so it rises by one
pub turn_rises : (bs list : List ℕ) (table : Table) (w : World) → read_table bs ≡ Ok table → Shown table list w → risen 65535 w.turn ≡ w.turn + 1
turn_rises bs list table w a e = omega (arith, turn_few bs list table w a e)
