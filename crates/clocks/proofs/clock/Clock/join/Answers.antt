-- Each place is the larger count, so all of them are the join.
use Rattle.std.proofs.Common.{◌≡◌, ℕ, suc, zero, ◌<◌, List, length, get_or, max, ap, ◌∙◌, sym, arith, rules, ext_get_or}
use Rattle.clocks.specs.declared.clock.Clock.{Clock}
use Rattle.clocks.specs.Clock.{max_threads, joined, join_of}
use Rattle.clocks.proofs.Laws.{join_at, join_length}
use Rattle.clocks.proofs.clock.Clock.join.Goals as goal

abbrev clock : List ℕ → Clock
clock xs = record { counts = xs }

abbrev EachBelow : ℕ → (ℕ → Type 0) → Type 0
EachBelow zero P = Unit {0}
EachBelow (suc n) P = P 0 × EachBelow n (λ i. P (suc i))

at_each : (n : ℕ) (P : ℕ → Type 0) → EachBelow n P → (i : ℕ) → i < n → P i
at_each zero P e i h = absurd (omega arith)
at_each (suc n) P e zero h = e.0
at_each (suc n) P e (suc i) h = at_each n (λ j. P (suc j)) e.1 i (omega arith)

abbrev LargerAt : List ℕ → List ℕ → List ℕ → ℕ → Type 0
LargerAt xs ys zs i = get_or zs i 0 ≡ max (get_or xs i 0) (get_or ys i 0)

is_joined : (xs ys zs : List ℕ) → length xs ≡ max_threads → length zs ≡ max_threads → EachBelow max_threads (LargerAt xs ys zs) → zs ≡ joined xs ys
is_joined xs ys zs l k e =
    ext_get_or 0 zs (joined xs ys) (k ∙ sym l ∙ sym (join_length xs ys))
    (λ i h. at_each max_threads (LargerAt xs ys zs) e i (omega arith) ∙ sym (join_at xs ys i (omega arith)))

pub returns : goal.returns
unfolding join_of
returns c = ap clock (is_joined c.args.self.counts c.args.other.counts c.from_fn.result (search rules) (search rules) (search rules))
