-- The front of the input is read as a table; its runs or its refusal are written.
use Rattle.std.proofs.Common.{refl, sym, ◌∙◌, ◌-◌, ◌^◌}
use Rattle.rules.specs.Walk.{runs_of}
use Rattle.listing.proofs.Pending.{of_input}
use Rattle.listing.proofs.Told.{accepted_told, refused_told, runs_front}
use Rattle.listing.proofs.list_runs.Goals as goal

pub returns-in-Ok : goal.returns-in-Ok
returns-in-Ok g c =
    of_input c.go_through.result _ _ _ _ _ (runs_of (2 ^ 64 - 1)) c.go_through.ensures (accepted_told _ _ (sym c.read_table.ensures ∙ c.in-Ok.is) _) (runs_front _) (c.in_ok-n.ensures.front refl)

pub returns-in-Err : goal.returns-in-Err
returns-in-Err g c =
    of_input c.say_refused.result _ _ _ _ _ (runs_of (2 ^ 64 - 1)) c.say_refused.ensures (refused_told _ _ (sym c.read_table.ensures ∙ c.in-Err.is) _) (runs_front _) (c.in_ok-n.ensures.front refl)
