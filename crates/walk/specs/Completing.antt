-- The smallest completion, a decision at a time: what a completion with one decision more is ready for, and what it adds.
use Rattle.std.specs.Prelude.{◌≡◌, Bool, true, false, List, [], ◌∷◌, ◌++◌, ℕ, ◌<◌, length, take}
use Rattle.std.proofs.Common.{sym, ◌∙◌, ap, subst, add-one, arith, length-set, take-suc-set}
use Rattle.std.proofs.Math.Seq.{append_snoc}
use Rattle.lists.specs.Next.{first_of}
use Rattle.lists.proofs.CodeLaws.{raised-smallest, raised_last, raised-wants}
use Rattle.rules.specs.declared.table.Table.{Table}
use Rattle.rules.specs.declared.world.World.{World}
use Rattle.rules.specs.Limits.{max_list}
use Rattle.rules.specs.TableLaws.{Within}
use Rattle.rules.specs.Judge.{step}
use Rattle.rules.specs.Walk.{decisions, left}
use Rattle.walk.specs.declared.Completion.{Completion}
use Rattle.theorems.specs.Falling.{Good}
use Rattle.theorems.proofs.Machine.{bounded, some_allowed, keeps, falls}
use Rattle.theorems.proofs.Length.{left_some}
use Rattle.walk.specs.Says.{With, Extends, least, Advances, Completable, Adds, Continues, Completes}

module _ (c : Completion) (d : ℕ) (r : Completion) (n : Completable c) where
  abbrev table : Table
  table = c.table

  abbrev w : World
  w = c.world

  room : c.at < max_list
  room = omega (arith, n.few, left_some table n.within w n.good)

  longer : (wanted : Bool) → With c d r wanted → take r.at r.list ≡ take c.at c.list ++ d ∷ []
  longer wanted x = (λ i. take (x.at i) (x.list i)) ∙ rw add-one (take-suc-set c.list c.at d (omega (arith, n.long, room)))

  as_long : (wanted : Bool) → With c d r wanted → length r.list ≡ max_list
  as_long wanted x = ap length x.list ∙ length-set c.list c.at d ∙ n.long

  -- none more is wanted
  pub extended_last : Extends c d r false → Continues c d r
  extended_last y =
      let x = y room in
      record {
        made = longer false x ∙ ap (λ (l : List ℕ). take c.at c.list ++ l) (sym (raised_last (step table) decisions (left table) w d x.leads));
        inside = omega (arith, x.at, room);
      }

  -- one more is wanted
  module _ (y : Extends c d r true) where
    x : With c d r true
    x = y room

    pub extended_less : left r.table r.world < left table w
    extended_less = subst (λ (t : Table). left t r.world < left table w) (sym x.table) (falls table n.within w d r.world n.good x.leads)

    pub extended_ready : Completable r
    extended_ready = record {
      within = subst Within (sym x.table) n.within;
      good = subst (λ (t : Table). Good t r.world) (sym x.table) (keeps table n.within w d r.world n.good x.leads);
      few = omega (arith, n.few, x.at, extended_less);
      long = as_long true x;
    }

    pub extended_on : (z : Completion) → Completes r z → Continues c d z
    extended_on z e = record {
      made =
          e.made
          ∙ (λ i. longer true x i ++ first_of (step (x.table i)) decisions (left (x.table i)) r.world)
          ∙ append_snoc (take c.at c.list) d (first_of (step table) decisions (left table) r.world)
          ∙ ap (λ (l : List ℕ). take c.at c.list ++ l) (sym (raised-wants (step table) decisions (left table) (Good table) (bounded table n.within) (some_allowed table n.within) (keeps table n.within) (falls table n.within) w d r.world n.good x.leads));
      inside = e.inside;
    }

-- by the smallest decision
module _ (c r : Completion) (n : Completable c) where
  smallest-first : (z : Completion) → Continues c (least c) z → Completes c z
  smallest-first z x = subst (λ (l : List ℕ). Adds c l z) (raised-smallest (step c.table) decisions (left c.table) c.world) x

  pub advanced_last : Advances c r false → Completes c r
  advanced_last x = smallest-first r (extended_last c (least c) r n x)

  pub advanced_on : Advances c r true → (z : Completion) → Completes r z → Completes c z
  advanced_on x z e = smallest-first z (extended_on c (least c) r n x z e)
