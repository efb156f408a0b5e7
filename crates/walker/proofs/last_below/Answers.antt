use Rattle.std.proofs.Common.{◌≡◌, ℕ, ◌<◌, true, false, Option, Some, None, take, get_or, get_or-take, sym, ◌∙◌, ap, rules}
use Rattle.std.specs.Option.{is_some}
use Rattle.walker.specs.Walking.{last_below}
use Rattle.walker.specs.Steps.{last_none, last_some}
use Rattle.walker.proofs.last_below.Goals as goal

pub returns : goal.returns
returns c = go c.rposition.result (λ i. c.rposition.result)
  where
    -- a place of the front part
    same : (i : ℕ) → i < c.args.n → is_some (get_or c.args.later.now i None) ≡ is_some (get_or (take c.args.n c.args.later.now) i None)
    same i h = ap is_some (sym (get_or-take c.args.n c.args.later.now i None h))

    go : (o : Option ℕ) → c.rposition.result ≡ o → o ≡ last_below c.args.later.now c.args.n
    go None e =
        let none : (i : ℕ) → i < c.args.n → is_some (get_or (take c.args.n c.args.later.now) i None) ≡ false = search rules in
        last_none c.args.later.now c.args.n (λ i h. same i h ∙ none i h)
    go (Some p) e =
        let inside : p < c.args.n = search rules in
        let here : is_some (get_or (take c.args.n c.args.later.now) p None) ≡ true = search rules in
        let after : (i : ℕ) → p < i → i < c.args.n → is_some (get_or (take c.args.n c.args.later.now) i None) ≡ false = search rules in
        last_some c.args.later.now c.args.n p (inside, same p inside ∙ here, λ i a h. same i h ∙ after i a h)
