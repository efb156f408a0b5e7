-- The chain gives the length of each object's record.
use Rattle.std.proofs.Common.{◌≡◌, ◌≤◌, ◌∙◌, sym, ◌^◌, ◌+◌, List, take, length, length-take, rules, arith}
use Rattle.std.proofs.lemmas.Iterator.{YieldsList-from_slice, YieldsList-from_take, YieldsList-from_map}
use Rattle.std.proofs.lemmas.Iterator.Adapters.{at_most_from_yields_List, fits_from_length, total_from_yields_List}
use Rattle.std.proofs.lemmas.List.Sums.{sum-map}
use Rattle.rules.specs.declared.table.Made.{Made}
use Rattle.rules.specs.Limits.{max_objects}
use Rattle.rules.specs.Sheet.{record_length}
use Rattle.rules.proofs.SheetLaws.{record_small}
use Rattle.turns_sheet.proofs.Lengths.{length_sum}
use Rattle.turns_sheet.proofs.objects_length.Goals as goal

pub sum-requires-clause-fits : goal.sum-requires-clause-fits
sum-requires-clause-fits c =
    let ms : List Made = c.args.objects in
    let few : length (take c.args.count ms) ≤ max_objects = omega (arith, length-take c.args.count ms) in
    fits_from_length _ _ max_objects (2 ^ 64) (at_most_from_yields_List (YieldsList-from_take c.args.count (YieldsList-from_slice ms cc) cc) few) c.map.ensures.closure (omega arith)
    (λ x r q k. let is : (q ≡ record {}) × (r ≡ record_length x.now.kind) = search rules in (is.0, omega (arith, record_small x.now.kind)))

pub returns : goal.returns
returns c =
    let ms : List Made = c.args.objects in
    total_from_yields_List (λ a x. a + x) 0 c.sum.result c.sum.ensures.ran
    (YieldsList-from_map _ (λ (m : Made). record_length m.kind) (YieldsList-from_take c.args.count (YieldsList-from_slice ms cc) cc) c.map.ensures.closure (λ x r q k. search rules))
    ∙ sum-map (λ (m : Made). record_length m.kind) (take c.args.count ms)
    ∙ sym (length_sum (take c.args.count ms))
