-- An object more is made, or stays as it was where the table has none; at the end all are.
use Rattle.std.proofs.Common.{arith, rules, ◌≡◌, ◌<◌, List, length, replicate, refl, sym, ◌∙◌, ap}
use Rattle.std.proofs.lemmas.List.{length-replicate}
use Rattle.clocks.specs.Lists.{get_or-within}
use Rattle.clocks.specs.Pass.{turned, ended}
use Rattle.rules.specs.declared.object.Entry.{Entry}
use Rattle.rules.specs.declared.table.Made.{Made}
use Rattle.rules.specs.Limits.{max_objects}
use Rattle.rules.specs.Object.{no_object, new_entry}
use Rattle.turns.specs.Start.{is_made, made_at, made_all, left_out}
use Rattle.turns.proofs.start_objects.Goals as goal
use Rattle.turns.proofs.start_objects.Goals.{then-is_made, else-is_made}

pub loop-k-preserved : goal.loop-k-preserved
loop-k-preserved c =
    let l = c.loop-k in
    let ms : List Made = c.args.objects in
    let es : List Entry = replicate max_objects (new_entry no_object) in
    let n : length ms ≡ max_objects = search rules in
    let within : l.k < length ms = omega (arith, c.loop-k-test.true) in
    let seen = get_or-within ms l.k _ no_object within in
    elim c.if-is_made.branch [
      | then-is_made w ↦ w.store-is ∙ turned (made_at ms) l.k es (new_entry no_object) _ _ (omega (arith, length-replicate max_objects (new_entry no_object))) l.invariant (w.new_entry.ensures ∙ ap new_entry seen)
      | else-is_made w ↦
          w.store-is
          ∙ left_out ms l.k (new_entry no_object) _ refl (omega arith) l.invariant
          (ap (λ (m : Made). is_made m.kind m.spurious) (sym seen) ∙ sym c.is_made.ensures ∙ w.if-is_made.false)
    ]

pub returns : goal.returns
returns c =
    let l = c.loop-k in
    let ms : List Made = c.args.objects in
    let es : List Entry = replicate max_objects (new_entry no_object) in
    let n : length ms ≡ max_objects = search rules in
    let all : length es ≡ max_objects = length-replicate max_objects (new_entry no_object) in
    ended (made_at ms) l.k es _ (omega (arith, all, n, c.loop-k-test.false)) l.invariant ∙ made_all ms es (all ∙ sym n)
