use Rattle.std.proofs.Common.{◌≡◌, ◌≤◌, ◌++◌, sym, ◌∙◌, ap, refl, List, ℕ, replicate, length, arith, length-take-le}
use Rattle.std.proofs.Math.ListN.{take, drop}
use Rattle.std.proofs.lemmas.List.{length-replicate}
use Rattle.rules.specs.Limits.{max_list}
use Rattle.rules.specs.Walk.{hand_over}
use Rattle.walk.specs.Handed.{place_few, raised_ready, raised_made}
use Rattle.walk.proofs.raise.Goals as goal

-- the front of the list to be written
long_front : (n : ℕ) → n ≤ max_list → length {A = ℕ} (take n (replicate max_list 0)) ≡ n
long_front n h = length-take-le n (replicate max_list 0) (omega (arith, h, length-replicate {A = ℕ} max_list 0))

pub slice_bounds-kept-end : goal.slice_bounds-kept-end
slice_bounds-kept-end c = let h = place_few c.args.table c.args.list.now c.args.m c.requires in omega (arith, h)

pub slice_bounds-copy_from_slice-end : goal.slice_bounds-copy_from_slice-end
slice_bounds-copy_from_slice-end c = let h = place_few c.args.table c.args.list.now c.args.m c.requires in sym (long_front c.args.m.at (omega (arith, h)))

pub copy_from_slice-requires : goal.copy_from_slice-requires
copy_from_slice-requires c =
    let h = place_few c.args.table c.args.list.now c.args.m c.requires in
    let i = c.requires.placed.inside in
    long_front c.args.m.at (omega (arith, h)) ∙ sym (length-take-le c.args.m.at c.args.list.now (omega (arith, i)))

pub continued-r-requires : goal.continued-r-requires
continued-r-requires c =
    let a = c.args in
    let copied = ap (λ (front : List ℕ). front ++ drop a.m.at (replicate max_list 0)) c.copy_from_slice.ensures.after in
    raised_ready a.table a.list.now a.m c.requires (replicate max_list 0) refl _ copied

pub shared_ref_as_front-hand_over : goal.shared_ref_as_front-hand_over
shared_ref_as_front-hand_over c = c.continued-r.ensures.inside

pub returns : goal.returns
returns c =
    let a = c.args in
    let copied = ap (λ (front : List ℕ). front ++ drop a.m.at (replicate max_list 0)) c.copy_from_slice.ensures.after in
    let made = raised_made a.table a.list.now a.m c.requires (replicate max_list 0) refl _ copied c.continued-r.result c.continued-r.ensures in
    c.hand_over.ensures ∙ ap (λ (l : List ℕ). hand_over l a.out.now) made
