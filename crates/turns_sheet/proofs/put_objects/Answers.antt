-- A turn writes the next object where the ones before it end, and the loop ends with the objects that the table counts.
use Rattle.std.proofs.Common.{◌*◌, ◌∙◌, refl, ap, length, rules, arith}
use Rattle.std.proofs.lemmas.List.Edits.{sets}
use Rattle.std.proofs.lemmas.List.{length_push, take_min}
use Rattle.rules.specs.Limits.{thread_record}
use Rattle.rules.specs.declared.table.Made.{Made}
use Rattle.rules.specs.Sheet.{object_bytes, objects_bytes, objects_length, record_length}
use Rattle.rules.proofs.SheetLaws.{record_small, first_small, objects_longer, objects_written}
use Rattle.turns_sheet.proofs.Turns.{PairAt, pair_turn, pair_end}
use Rattle.turns_sheet.proofs.put_objects.Goals as goal

turn : (c : goal.After-record_length-at) → PairAt c.args.objects c.args.entries.now (length c.loop-made.yielded) (c.in-Some.made, c.in-Some.e)
turn c =
    let l = c.loop-made in
    pair_turn c.args.objects c.args.entries.now c.args.count l.yielded c.into_iter-made-iterator.result l.made-iterator c.next.new.self (search rules) (search rules) (search rules) l.yielded_by (c.in-Some.made, c.in-Some.e) c.in-Some.ensures.steps

pub loop-made-init : goal.loop-made-init
unfolding objects_bytes objects_length
loop-made-init c = record { place = omega (arith, c.from-at.ensures); bytes = refl }

pub overflow_add-at : goal.overflow_add-at
overflow_add-at c =
    let l = c.loop-made in
    omega (arith, (turn c).0, l.invariant.place, c.record_length-at.ensures, record_small c.in-Some.made.now.kind, first_small c.args.objects (length l.yielded))

pub loop-made-preserved : goal.loop-made-preserved
loop-made-preserved c =
    let l = c.loop-made in
    let ms = c.args.objects in
    let here = turn c in
    let made = c.in-Some.made.now in
    let same = here.2 made in
    let next = c.put_object.ensures ∙ (λ i. sets l.sheet l.at (object_bytes (same i).kind (here.3 c.in-Some.e.now i))) in
    let longer = objects_longer ms (length l.yielded) made here.0 in
    rw (length_push l.yielded (c.in-Some.made, c.in-Some.e)) record {
      place = omega (arith, longer, l.invariant.place, c.record_length-at.ensures, ap (λ (m : Made). record_length m.kind) same);
      bytes = objects_written c.args.sheet.now (thread_record * c.args.threads) ms c.args.entries.now (length l.yielded) l.at made c.in-Some.e.now here.0 here.1 l.invariant.bytes l.invariant.place next;
    }

pub returns : goal.returns
returns c =
    let l = c.loop-made in
    let ms = c.args.objects in
    let all = pair_end ms c.args.entries.now c.args.count l.yielded c.into_iter-made-iterator.result l.made-iterator c.next.new.self (search rules) (search rules) (search rules) l.yielded_by (omega arith) c.in-None.ensures.steps in
    l.invariant.bytes ∙ ap (λ ks. sets c.args.sheet.now (thread_record * c.args.threads) (objects_bytes ks c.args.entries.now)) (rw all (take_min c.args.count ms))
