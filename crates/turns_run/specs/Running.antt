-- What holds in a run from step to step, a law for each kind of step, as the loop asks for them.
use Rattle.std.specs.Prelude.{◌≡◌, refl, Bool, true, false, is_some, unwrap_or, Option, List, ℕ, ◌+◌, ◌-◌, ◌*◌, ◌≤◌, ◌<◌, length, get_or, None, Some, Ok, Err}
use Rattle.std.proofs.Common.{sym, ◌∙◌, ap, arith}
use Rattle.std.proofs.lemmas.Bool.{false≢true}
use Rattle.turns_steps.specs.declared.Move.{Move}
use Rattle.lists.specs.Judge.{judge}
use Rattle.rules.specs.declared.table.Table.{Table}
use Rattle.rules.specs.declared.answer.Answer.{Answer}
use Rattle.rules.specs.declared.world.World.{World}
use Rattle.rules.specs.Turn.{leak_check, is_allowed}
use Rattle.rules.specs.Judge.{step}
use Rattle.turns_steps.specs.declared.Acting.{Acting}
use Rattle.turns_steps.specs.declared.Acting.TheVariants.{Nobody, Moves, Over, AllEnded, Done}
use Rattle.turns_run.specs.declared.Refusal.TheVariants.{NotAllowed, Surplus}
use Rattle.turns_steps.specs.Step.{after, chosen}
use Rattle.turns_run.specs.Run.{rest, Running, weight, ran_of}
use Rattle.turns_run.specs.RunLaws.{rest_end, rest-refused, rest-chosen, rest_over, rest_all_ended, rest_verdict, rest_surplus, after_light, chosen-weight}
use Rattle.turns_run.specs.Steps.{Follows}

module _ (table : Table) (list : List ℕ) (given w : World) (acting : Acting) (at : ℕ) (r : Running table list given w acting at) where
  -- the whole judgement, once it is known who acts
  now_left : (a : Acting) → acting ≡ a → judge (step table) 0 given list ≡ rest table list at a w
  now_left a e = r ∙ ap (λ (x : Acting). rest table list at x w) e

  pub ran_out : acting ≡ Nobody → length list ≤ at → Ok (record { verdict = None; world = w }) ≡ ran_of (judge (step table) 0 given list)
  ran_out e h = sym (ap ran_of (now_left Nobody e ∙ rest_end table list at w h))

  pub not_allowed_lem : acting ≡ Nobody → at < length list → is_allowed w.asked w.threads (get_or list at 0) ≡ false → Err (NotAllowed at) ≡ ran_of (judge (step table) 0 given list)
  not_allowed_lem e h f = sym (ap ran_of (now_left Nobody e ∙ rest-refused table list at w h f))

  pub surplus_left : (a : Answer) → acting ≡ Done a → at < length list → Err (Surplus at) ≡ ran_of (judge (step table) 0 given list)
  surplus_left a e h = sym (ap ran_of (now_left (Done a) e ∙ rest_surplus table list at w a h))

  pub verdict_reached : (a : Answer) → acting ≡ Done a → length list ≤ at → Ok (record { verdict = Some a; world = w }) ≡ ran_of (judge (step table) 0 given list)
  verdict_reached a e h = sym (ap ran_of (now_left (Done a) e ∙ rest_verdict table list at w a h))

  pub decided_next : acting ≡ Nobody → at < length list → is_allowed w.asked w.threads (get_or list at 0) ≡ true
      → Running table list given w (Moves (chosen w.asked (get_or list at 0))) (at + 1)
  decided_next e h f = now_left Nobody e ∙ rest-chosen table list at w h f

  pub follows_next : (a b : Acting) (v : World) → acting ≡ a → Follows table a w b v → Running table list given v b at
  follows_next a b v e f = now_left a e ∙ f.judged list at

  pub turn_over : acting ≡ Over → Running table list given w (after w.threads) at
  turn_over e = now_left Over e ∙ rest_over table list at w

  pub turn_over_less : acting ≡ Over → weight (after w.threads) < weight acting
  turn_over_less e = let p : weight acting ≡ 2 = ap weight e in let l = after_light w.threads in omega (arith, p, l)

  pub all_ended_next : acting ≡ AllEnded → Running table list given w (Done (leak_check 0 w.objects)) at
  all_ended_next e = now_left AllEnded e ∙ rest_all_ended table list at w

-- a move that is chosen where it is allowed
abbrev pub move_if : Bool → Move → Option Move
move_if b m = elim b [ true ↦ Some m | false ↦ None ]

pub none_chosen : (b : Bool) (m : Move) → move_if b m ≡ None → b ≡ false
none_chosen true m e = absurd (false≢true (sym (ap is_some e)))
none_chosen false m e = refl

pub one_chosen : (b : Bool) (m n : Move) → move_if b m ≡ Some n → (b ≡ true) × (m ≡ n)
one_chosen true m n e = (refl, ap (λ (o : Option Move). unwrap_or o m) e)
one_chosen false m n e = absurd (false≢true (ap is_some e))
