-- `Again.antt`'s rule at a call `g(t, x)`.
--     Callee           the contract of `fn g(t: &mut P, x: X)`, which requires nothing and ensures that the last value is `change x` of the first: what it binds (`bound`), is handed (`goes`) and hands back (`gives`)
use Rattle.std.specs.Prelude.{◌≡◌, ℕ, [], ◌∷◌}
use Rattle.std.proofs.Common.{ap}
use seplogic.Ra.Ura.{Ura}
use base.Fraction.{full_share}
use mir.Val.{Val, vptr}
use base.Logic.{ent, sep, ex, emp, id⊢}
use base.Fml.{GName, ftrue, flft}
use types.Logic.{Logic, sem}
use contract.Monad.{fact}
use types.Kit.{‵, raw, some, later, ◌⊛◌, ◌$◌, ◌∵◌, !, qed, move, keep, drop, use1, split, join, pick, check, show, fsplit, fjoin, feq_l, frame, await, updating, now as at_once, done}
use denote.Laws.{Is}
use Rattle.std.specs.Borrow.{unit, MutBor}
use denote.Steps.{only, owned, heard, nothing}
use denote.Triple.Spec.{triple_of}
use denote.Triple.Statement.{Contract}
use denote.Triple.Clauses.{Clauses, closing, ensured, lasts}
use Rattle.lent.specs.Datum.{Datum, row, vals}
use Rattle.lent.specs.LentOne.{by_ref}
use Rattle.lent.specs.Again.{own_at, Back}

module _ (P X : Datum) {M : Type 1} {𝓤 : Ura M} (𝓛 : Logic 𝓤) (change : X.D → P.D → P.D) where
  open 𝓛 use {H, A}

  abbrev clauses : Clauses 𝓤 (by_ref P X)
  clauses κs a = record { ghost = Unit {0}; requires = λ _. emp 𝓤; ensures = λ _ r e. fact 𝓤 (e.0.now ≡ change a.1.0 a.0.now) }

  abbrev pub Callee : Contract 𝓤
  Callee = triple_of 𝓛 (by_ref P X).signature (closing 𝓛 (by_ref P X) clauses)

  module _ (b o α : ℕ) (δ : GName) (h : P.D) (x : X.D) where
    abbrev args : MutBor P.D × (X.D × Unit {0})
    args = (record { ref_ptr = (b, o); ghost_name = δ; now = h }, (x, tt))

    abbrev pub bound : Callee.Ghost
    bound = (((α ∷ [], tt), (full_share, tt), tt, args, (vptr b o ∷ [], (vals X x, tt))), tt)

    pub goes : Is (row X) x (vals X x) → ent 𝓤 (sep 𝓤 (A.lft (α ∷ []) full_share) (sem 𝓛 (own_at P b o (α ∷ []) δ h))) (Callee.pre bound)
    goes x-is = qed 𝓛 (‵ (flft (α ∷ []) full_share) ∷ ‵ (own_at P b o (α ∷ []) δ h) ∷ []) ∵ nothing ! $ owned ! (row X) (Is (row X)) (X.makes 𝓛) x _ x-is $ fjoin ! $ move ! (2 ∷ 0 ∷ []) $ fjoin ! $
        nothing ! $ move ! (2 ∷ 0 ∷ []) $ join ! $ join ! $ frame ! $ done !

    pub gives : (v : Val) → ent 𝓤 (Callee.post bound v) (H.⇛ (ex 𝓤 (Back P 𝓛 (λ r. r ≡ change x h) α δ v)))
    gives v =
        qed 𝓛 (raw (Callee.post bound v) ∷ []) ∵ updating ! $
        use1 𝓛 (later (some (λ (u : Unit {0}). ((‵ (flft (α ∷ []) full_share) ⊛ ‵ ftrue) ⊛ ‵ (unit.own_val u (v ∷ []))) ⊛ raw (ensured 𝓛 (by_ref P X) clauses (α ∷ [], tt) args tt u)))) (id⊢ 𝓤 _) $ await ! tt $ pick ! (λ u.
        split ! $ move ! (1 ∷ []) $ use1 𝓛 (some (λ (ws : P.D × (Unit {0} × Unit {0})). ‵ (lasts (by_ref P X) (α ∷ [], tt) args ws) ⊛ raw (fact 𝓤 (ws.0 ≡ change x h)))) (id⊢ 𝓤 _) $ pick ! (λ ws.
        split ! $ move ! (1 ∷ []) $ heard ! (ws.0 ≡ change x h) (λ e. fsplit ! $ fsplit ! $ move ! (1 ∷ []) $ drop ! $ move ! (2 ∷ []) $ split ! $ move ! (1 ∷ []) $ feq_l ! (λ w.
        at_once ! $ show ! (Back P 𝓛 (λ r. r ≡ change x h) α δ v) ws.0 $ check ! (ap only w, e) $ split ! $ keep ! (0 ∷ 2 ∷ []) $ done !))))
