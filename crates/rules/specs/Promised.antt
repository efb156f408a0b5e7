-- What the code promises of bytes. The law is in proofs/Promised.antt.
use Rattle.std.specs.Prelude.{◌≡◌, Bool, true, false, ◌&&◌, ℕ, zero, suc, T, ltb}
use mathlib.Core.List.{List, [], ◌∷◌}
use Rattle.rules.specs.Judge.{Given, judge_of}
use Rattle.rules.specs.Walk.{first_of, next_of}
use Rattle.rules.specs.Cases.{Look, numbers, bytes, runs, walked, Calls, Case, lent, is_written, written_of}

unfoldable pub is_bytes : List ℕ → Bool
is_bytes [] = true
is_bytes (b ∷ bs) = ltb b 256 && is_bytes bs

-- each call gives what the definitions say
pub record Promised (c : Calls) : Type 0 where
  pub judge : (table list buffer : List ℕ) → T (is_bytes table) → T (is_bytes list) → T (is_bytes buffer) → c.judge table list buffer ≡ judge_of table list buffer
  pub first : (table buffer : List ℕ) → T (is_bytes table) → T (is_bytes buffer) → c.first table buffer ≡ first_of table buffer
  pub next : (table list buffer : List ℕ) → T (is_bytes table) → T (is_bytes list) → T (is_bytes buffer) → c.next table list buffer ≡ next_of table list buffer

-- a case asks of bytes only: the table, the list, and for `walked` the lists that the definitions give
abbrev pub lines-fine : ℕ → List ℕ → Given → Bool
lines-fine zero table g = true
lines-fine (suc n) table g = elim (is_written g) [ true ↦ is_bytes (written_of g) && lines-fine n table (next_of table (written_of g) lent) | false ↦ true ]

abbrev pub look_fine : Look → List ℕ → Bool
look_fine numbers table = true
look_fine (bytes from n) table = true
look_fine runs table = true
look_fine walked table = lines-fine 9 table (first_of table lent)

abbrev pub fine : List Case → Bool
fine [] = true
fine (c ∷ cs) = is_bytes c.table && (is_bytes c.list && (look_fine c.look c.table && fine cs))
