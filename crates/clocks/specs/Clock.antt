-- Clocks, as document 01 has them under "Ground rules": over lists of any number of places, and then for the declared `Clock`.
use Rattle.std.specs.Prelude.{Bool, cond, Option, None, Some, List, [], ◌∷◌, ℕ, suc, ◌+◌, ◌*◌, max, min, eqb, ltb, get_or, set, replicate}
use Rattle.clocks.specs.Pass.{pass_from}
use Rattle.clocks.specs.declared.clock.Clock.{Clock}
use Rattle.clocks.specs.declared.clock.Ahead.{Ahead}
use Rattle.clocks.specs.declared.thread.ThreadId.{ThreadId}

-- Join takes the larger count at each place.
abbrev pub joined : List ℕ → List ℕ → List ℕ
joined xs ys = pass_from (λ i x. max x (get_or ys i 0)) 0 xs

-- A count rises by one; at its type's end it stays.
abbrev pub risen : ℕ → ℕ → ℕ
risen end n = min (n + 1) end

-- One place rises by one. A place that is not there changes nothing.
abbrev pub raised : ℕ → List ℕ → List ℕ
raised i xs = set xs i (risen 255 (get_or xs i 0))

-- At which places the second clock is ahead of the first.
abbrev pub aheads : List ℕ → List ℕ → List Bool
aheads [] ys = []
aheads (x ∷ xs) [] = []
aheads (x ∷ xs) (y ∷ ys) = ltb x y ∷ aheads xs ys

-- A bit for each place, the first the lowest.
abbrev pub mask_of : List Bool → ℕ
mask_of [] = 0
mask_of (b ∷ bs) = cond b 1 0 + 2 * mask_of bs

-- The first place that has a yes; one past the last place if none has.
abbrev pub lowest_of : List Bool → ℕ
lowest_of [] = 0
lowest_of (b ∷ bs) = cond b 0 (suc (lowest_of bs))

abbrev pub who_ahead : List Bool → Option Ahead
who_ahead bs = cond (eqb (mask_of bs) 0) None (Some (record { mask = mask_of bs; lowest = record { 0 = lowest_of bs } }))

-- "1 to 6 threads"
abbrev pub max_threads : ℕ
max_threads = 6

-- Clocks have one count per thread, all 0 at the start.
abbrev pub zero_clock : Clock
zero_clock = record { counts = replicate max_threads 0 }

unfoldable pub join_of : Clock → Clock → Clock
join_of c d = record { counts = joined c.counts d.counts }

unfoldable pub inc_of : Clock → ThreadId → Clock
inc_of c t = record { counts = raised t.0 c.counts }

unfoldable pub ahead_of : Clock → Clock → Option Ahead
ahead_of c d = who_ahead (aheads c.counts d.counts)
