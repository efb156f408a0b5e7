-- What is lent is lent again: the rule for a call `g(t, ..)` that ends its part, as an arm of a match, where `t` is a `&mut P` that comes back after the call.
--     own_at           what the holder of a reference has of it        Back     what `g` hands back: the loan's token, and the last value
--     lends_on         the rule, at any contract of `g`, where what it binds outside is had for a loan of any lifetime α under any name δ
--     Callee           the contract of `fn g(t: &mut P)`, which requires nothing and ensures that the last value is `change` of the first: what it binds (`bound`), is handed (`goes`) and hands back (`gives`)
use Rattle.std.specs.Prelude.{◌≡◌, ℕ, [], ◌∷◌, List}
use Rattle.std.proofs.Common.{ap}
use seplogic.Ra.Ura.{Ura}
use base.Fraction.{full_share}
use mir.Syntax.{Callee as Name, Opd as Operand, Place, named, call}
use mir.Val.{Val, vunit, vptr}
use base.Logic.{SProp, ent, sep, ex, guard, emp, id⊢}
use base.Fml.{Fml, GName, Lft, Share, ftrue, flft, fres}
use prog.Wp.{Env, Calls, Loops}
use types.Logic.{Logic, sem}
use contract.Monad.{fact}
use types.Kit.{Item, Post, Seq, runs, settles, ‵, raw, some, given, later, ◌⊛◌, ◌$◌, ◌∵◌, !, qed, move, keep, drop, use1, use2, use3, split, join, pick, learn, check, show, fsplit, fjoin, feq_l, frame, await, updating, now as at_once, done}
use types.Run.{Opds}
use types.Tokens.{lft_new, lft_end}
use sound.WpLaws.{FmC}
use Rattle.std.specs.Borrow.{unit}
use denote.Ref.{MutBor, MutRef}
use denote.Lend.{LentAgain, lends_again, comes_back}
use denote.Steps.{only, heard, nothing}
use denote.Triple.Spec.{triple_of}
use denote.Triple.Statement.{Contract, Triple}
use denote.Triple.Call.{calls_at_last}
use denote.Triple.Clauses.{Clauses, closing, ensured, lasts}
use Rattle.lent.specs.Datum.{Datum, row}
use Rattle.lent.specs.Lent.{by_ref}

abbrev pub own_at : (P : Datum) → ℕ → ℕ → Lft → GName → P.D → Fml
own_at P b o κ γ h = (MutRef (named 0) κ (row P)).own_val (record { ref_ptr = (b, o); ghost_name = γ; now = h }) (vptr b o ∷ [])

module _ (P : Datum) {M : Type 1} {𝓤 : Ura M} (𝓛 : Logic 𝓤) where
  -- the loan is over, and the reference is back at its last value
  open 𝓛 use {H, A}

  ends_again : (b o : ℕ) (κ : Lft) (q : Share) (γ : GName) (α : ℕ) (δ : GName) (h r : P.D)
      → ent 𝓤 (sep 𝓤 (A.lft (α ∷ []) full_share) (sep 𝓤 (sem 𝓛 (LentAgain (row P) κ (α ∷ []) q γ b o δ h)) (A.res δ ((row P).coded.code r)))) (H.⇛ (sep 𝓤 (sem 𝓛 (own_at P b o κ γ r)) (A.lft κ q)))
  ends_again b o κ q γ α δ h r =
      qed 𝓛 (‵ (flft (α ∷ []) full_share) ∷ ‵ (LentAgain (row P) κ (α ∷ []) q γ b o δ h) ∷ ‵ (fres δ ((row P).coded.code r)) ∷ []) ∵ updating ! $ lft_end ! tt $
      use3 𝓛 (later (‵ (own_at P b o κ γ r) ⊛ ‵ (flft κ q))) (comes_back 𝓛 (row P) (named 0) κ (α ∷ []) q γ b o δ h r) $ await ! tt $ at_once ! $ split ! $ done !

  abbrev pub Back : (P.D → Type 0) → ℕ → GName → Val → P.D → SProp 𝓤
  Back Q α δ v r = guard 𝓤 ((v ≡ vunit) × Q r) (sep 𝓤 (A.lft (α ∷ []) full_share) (A.res δ ((row P).coded.code r)))

  module _ {K : Type 0} {Γ : List (Item 𝓤)} {E : Env 𝓤 H} {C : Calls 𝓤 H} {Λ : Loops 𝓤 H} {g : Name} {xs : List Operand} {d : Place} {G : Post 𝓤 H} where
    -- `goes` and `gives` are of the contract; then the operands are read, and the rest goes on once `g` has returned v and the reference is back at r
    pub lends_on : K → FmC 𝓤 H 𝓛.laws C → (κ : Lft) (q : Share) (b o : ℕ) (γ : GName) (h : P.D) (c : Contract 𝓤) → Triple 𝓤 (C g) c → (bound : ℕ → GName → c.Ghost) (Q : P.D → Type 0)
        → ((α : ℕ) (δ : GName) → ent 𝓤 (sep 𝓤 (A.lft (α ∷ []) full_share) (sem 𝓛 (own_at P b o (α ∷ []) δ h))) (c.pre (bound α δ)))
        → ((α : ℕ) (δ : GName) (v : Val) → ent 𝓤 (c.post (bound α δ) v) (H.⇛ (ex 𝓤 (Back Q α δ v))))
        → ((α : ℕ) (δ : GName) → Opds K 𝓛 (raw (c.pre (bound α δ)) ∷ ‵ (LentAgain (row P) κ (α ∷ []) q γ b o δ h) ∷ Γ) E xs (c.args (bound α δ)))
        → ((v : Val) (r : P.D) → (v ≡ vunit) × Q r → Seq K 𝓛 (‵ (own_at P b o κ γ r) ∷ ‵ (flft κ q) ∷ Γ) (settles E d v G))
        → Seq K 𝓛 (‵ (own_at P b o κ γ h) ∷ ‵ (flft κ q) ∷ Γ) (runs C Λ E (call g xs d) G)
    lends_on t fm κ q b o γ h c met bound Q goes gives reads k =
        lft_new t tt (λ α. move t (1 ∷ 2 ∷ []) $
        use2 𝓛 (later (some (λ (δ : GName). ‵ (own_at P b o (α ∷ []) δ h) ⊛ ‵ (LentAgain (row P) κ (α ∷ []) q γ b o δ h)))) (lends_again 𝓛 (row P) (named 0) κ (α ∷ []) q γ b o (named 0) h) $ await t tt $ pick t (λ δ.
        split t $ move t (2 ∷ 0 ∷ []) $ use2 𝓛 (raw (c.pre (bound α δ))) (goes α δ) $ calls_at_last t fm c met (bound α δ) (reads α δ) (λ v.
        use1 𝓛 (later (some (λ (r : P.D). given ((v ≡ vunit) × Q r) (‵ (flft (α ∷ []) full_share) ⊛ ‵ (fres δ ((row P).coded.code r)))))) (gives α δ v) $ await t tt $ pick t (λ r. learn t (λ e. split t $
        move t (0 ∷ 2 ∷ 1 ∷ []) $ use3 𝓛 (later (‵ (own_at P b o κ γ r) ⊛ ‵ (flft κ q))) (ends_again b o κ q γ α δ h r) $ await t tt $ split t $ k v r e)))))

  module _ (change : P.D → P.D) where
    abbrev clauses : Clauses 𝓤 (by_ref P)
    clauses κs a = record { ghost = Unit {0}; requires = λ _. emp 𝓤; ensures = λ _ r e. fact 𝓤 (e.0.now ≡ change a.0.now) }

    abbrev pub Callee : Contract 𝓤
    Callee = triple_of 𝓛 (by_ref P).signature (closing 𝓛 (by_ref P) clauses)

    module _ (b o α : ℕ) (δ : GName) (h : P.D) where
      abbrev args : MutBor P.D × Unit {0}
      args = (record { ref_ptr = (b, o); ghost_name = δ; now = h }, tt)

      abbrev pub bound : Callee.Ghost
      bound = (((α ∷ [], tt), (full_share, tt), tt, args, (vptr b o ∷ [], tt)), tt)

      pub goes : ent 𝓤 (sep 𝓤 (A.lft (α ∷ []) full_share) (sem 𝓛 (own_at P b o (α ∷ []) δ h))) (Callee.pre bound)
      goes = qed 𝓛 (‵ (flft (α ∷ []) full_share) ∷ ‵ (own_at P b o (α ∷ []) δ h) ∷ []) ∵ nothing ! $ move ! (2 ∷ 0 ∷ []) $ fjoin ! $ nothing ! $ move ! (2 ∷ 0 ∷ []) $ join ! $ join ! $ frame ! $ done !

      pub gives : (v : Val) → ent 𝓤 (Callee.post bound v) (H.⇛ (ex 𝓤 (Back (λ r. r ≡ change h) α δ v)))
      gives v =
          qed 𝓛 (raw (Callee.post bound v) ∷ []) ∵ updating ! $
          use1 𝓛 (later (some (λ (u : Unit {0}). ((‵ (flft (α ∷ []) full_share) ⊛ ‵ ftrue) ⊛ ‵ (unit.own_val u (v ∷ []))) ⊛ raw (ensured 𝓛 (by_ref P) clauses (α ∷ [], tt) args tt u)))) (id⊢ 𝓤 _) $ await ! tt $ pick ! (λ u.
          split ! $ move ! (1 ∷ []) $ use1 𝓛 (some (λ (ws : P.D × Unit {0}). ‵ (lasts (by_ref P) (α ∷ [], tt) args ws) ⊛ raw (fact 𝓤 (ws.0 ≡ change h)))) (id⊢ 𝓤 _) $ pick ! (λ ws.
          split ! $ move ! (1 ∷ []) $ heard ! (ws.0 ≡ change h) (λ e. fsplit ! $ fsplit ! $ move ! (1 ∷ []) $ drop ! $ move ! (2 ∷ []) $ split ! $ move ! (1 ∷ []) $ feq_l ! (λ w.
          at_once ! $ show ! (Back (λ r. r ≡ change h) α δ v) ws.0 $ check ! (ap only w, e) $ split ! $ keep ! (0 ∷ 2 ∷ []) $ done !))))
