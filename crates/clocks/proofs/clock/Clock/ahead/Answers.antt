-- The mask is that of the places from i on, at the end of all; its lowest bit is the lowest place's.
use Rattle.std.proofs.Common.{◌≡◌, ℕ, ◌-◌, ◌<◌, List, Bool, length, sym, ◌∙◌, arith, rules, eq-eqb, ne_eqb}
use Rattle.clocks.specs.Clock.{max_threads, mask_of, aheads, ahead_of}
use Rattle.clocks.proofs.Laws.{aheads-length, aheads_at, lowest_trails, Down, down_start, down_fits, down_here, down_turn, down_end}
use Rattle.clocks.proofs.clock.Clock.ahead.Goals as goal

small : (bs : List Bool) (mask low i : ℕ) → (length bs ≡ max_threads) × Down bs mask low i → mask < 64
small bs mask low i v = rw v.0 at (down_fits v.1)

pub loop-i-init : goal.loop-i-init
loop-i-init c =
    let xs : List ℕ = c.args.self.counts in
    let ys : List ℕ = c.args.other.counts in
    let l : length xs ≡ max_threads = search rules in
    let m : length xs ≡ length ys = search rules in
    let n : length (aheads xs ys) ≡ max_threads = aheads-length xs ys m ∙ l in
    (n, down_here (down_start _ max_threads (sym n)))

pub overflow_mul-mask : goal.overflow_mul-mask
overflow_mul-mask c = omega (arith, small _ _ _ _ c.loop-i.invariant)

pub overflow_add-mask : goal.overflow_add-mask
overflow_add-mask c = search (arith, small _ _ _ _ c.loop-i.invariant)

pub loop-i-preserved : goal.loop-i-preserved
loop-i-preserved c =
    let v = c.loop-i.invariant in
    let xs : List ℕ = c.args.self.counts in
    let ys : List ℕ = c.args.other.counts in
    let l : length xs ≡ max_threads = search rules in
    let m : length xs ≡ length ys = search rules in
    let j : ℕ = c.loop-i.i - 1 in
    (v.0, rw c.from.ensures (down_here (down_turn v.1 j (omega arith) _ (aheads_at xs ys j m (omega arith)))))

pub returns-then-mask-eq0 : goal.returns-then-mask-eq0
unfolding ahead_of
returns-then-mask-eq0 c =
    let e = down_end c.loop-i.invariant.1 c.loop-i-test.false in
    rw (eq-eqb (mask_of (aheads c.args.self.counts c.args.other.counts)) 0 (omega arith))

pub returns : goal.returns
unfolding ahead_of
returns c =
    let v = c.loop-i.invariant in
    let bs : List Bool = aheads c.args.self.counts c.args.other.counts in
    let e = down_end v.1 c.loop-i-test.false in
    rw (ne_eqb (mask_of bs) 0 (omega arith), e, lowest_trails bs 16 (omega arith) (omega arith))
