-- The law of a function that calls itself over what it is lent: where `g` changes what lies behind a reference and answers whether there is more to do, `fn f(t: &mut P) { if g(t) { f(t); } }`
-- comes to an end, and to what its turns come to.
--     Turn             what `g`, which requires nothing, ensures of the value before, the value after, and its answer
--     Need, Ends       what `f` requires of the value, and what it ensures of the value before and after
--     Turning          what is owed of a turn: the last one ends, and any other keeps the need, makes the value's size fall, and leads to where the next call leads
--     code             the MIR of `f`        again     `f` meets its contract, where `g` meets its own
use Rattle.std.specs.Prelude.{◌≡◌, refl, Bool, true, false, ℕ, ◌<◌, [], ◌∷◌, List}
use Rattle.std.proofs.Common.{ap, subst}
use seplogic.Ra.Ura.{Ura}
use base.Fraction.{full_share}
use lib.WfN.{lt-wf_rel}
use lib.NonEmpty.{one}
use mir.Syntax.{Callee as Name, Ty, Body, Fn, named, erased, mut, ty_unit, ty_bool, ty_ref, deref, place, copy, opd_unit, local, value_local, seq, assign, cond, skip, call, return, rv_opd, addr_of}
use mir.Val.{Val, vunit, vbool, vptr}
use base.Logic.{SProp, ent, sep, emp, id⊢}
use base.Fml.{Fml, GName, Lft, Share, ftrue, flft, fat, froom, fdies}
use prog.Model.{Model}
use prog.Routine.{Routine, Env as Envs}
use prog.Wp.{Env, Calls, Loops, WpFn, Tables, Closed}
use types.Logic.{Logic, sem}
use contract.Monad.{fact, Fun}
use contract.Running.{Running, tables, tables_of}
use types.Kit.{Item, ‵, raw, some, later, ◌⊛◌, ◌$◌, ◌∵◌, !, Sq, qed, by, at_ret, runs, move, keep, drop, use0, use1, use2, use3, split, join, pick, rewrite, fsplit, fjoin, feq_i, suffices, frame, await, done}
use types.Run.{look, init, forget, stop, hop, from, load, addr, unit_lit, of_opd, and_then, no_more, assigns, first, branches, skips, land, land_last, exec, returns, enter, alloc1, alloc0, params1, pass1, pass0, free1, free0}
use types.Tokens.{lft_new, lft_end}
use sound.WpLaws.{FmC, fm_of, WpFn-mono}
use denote.RattleType.{owns}
use denote.Laws.{Is, shows}
use denote.Memory.{pointee}
use denote.Plain.{Nothing-Lawful}
use Rattle.std.specs.Borrow.{unit}
use denote.Ref.{MutBor, MutRef, mut_vals, mut_Tells}
use denote.Lend.{LentAgain, lends_again, comes_back}
use denote.Signature.{plain}
use denote.Steps.{only, peeks, heard, nothing}
use denote.Triple.Entry.{on_entry}
use denote.Triple.Spec.{Meets, triple_of}
use denote.Triple.Statement.{Contract, Triple}
use denote.Triple.Call.{calls_at, calls_from_last}
use denote.Triple.Table.{cited}
use denote.Triple.Clauses.{Clauses, closing, ensured, lasts}
use denote.Triple.Walked.{says, needs, Stays, stay_ref, walk_of, Goes-ref, ends_at, walked_at, walk_meets_at}
use denote.Triple.Cycle.{Stated, Graded, Below, measured, at_on, mutual_elim}
use Rattle.lent.specs.Datum.{Datum, row, flag}
use Rattle.lent.specs.Lent.{by_ref}
use Rattle.lent.specs.Gives as asks

pub record Turning (P : Datum) (Turn : P.D → P.D → Bool → Type 0) (Need : P.D → Type 0) (Ends : P.D → P.D → Type 0) : Type 0 where
  pub size : P.D → ℕ
  pub last : (x y : P.D) → Need x → Turn x y false → Ends x y
  pub keeps : (x y : P.D) → Need x → Turn x y true → Need y
  pub falls : (x y : P.D) → Need x → Turn x y true → size y < size x
  pub leads : (x y z : P.D) → Need x → Turn x y true → Ends y z → Ends x z

module _ (P : Datum) where
  abbrev pub ref_clauses : {M : Type 1} (𝓤 : Ura M) → (P.D → Type 0) → (P.D → P.D → Type 0) → Clauses 𝓤 (by_ref P)
  ref_clauses 𝓤 Need Ends κs a = record { ghost = Unit {0}; requires = λ _. fact 𝓤 (Need a.0.now); ensures = λ _ r e. fact 𝓤 (Ends a.0.now e.0.now) }

  abbrev lent_ty : Ty
  lent_ty = ty_ref (named 0) mut (pointee P.written)

  abbrev again_ty : Ty
  again_ty = ty_ref erased mut (pointee P.written)

  abbrev rest-code : Body
  rest-code = seq (assign (place 0 []) (rv_opd opd_unit)) return

  abbrev branch_code : Name → Body
  branch_code f = seq (cond (copy (place 2 [])) (seq (assign (place 5 []) (addr_of (place 1 (deref P.ty ∷ [])))) (call f (copy (place 5 []) ∷ []) (place 4 []))) skip) rest-code

  abbrev pub code : Name → Name → Fn
  code g f = record {
    lifetimes = 1;
    outlives = [];
    ty_params = [];
    givens = 0;
    params = 1;
    locals = local ty_unit value_local ∷ local lent_ty value_local ∷ local ty_bool value_local ∷ local again_ty value_local ∷ local ty_unit value_local ∷ local again_ty value_local ∷ [];
    body = seq (assign (place 3 []) (addr_of (place 1 (deref P.ty ∷ [])))) (seq (call g (copy (place 3 []) ∷ []) (place 2 [])) (branch_code f));
  }

  abbrev stayed : Stays (by_ref P).signature.params (by_ref P).kept
  stayed = (stay_ref (0 ∷ []) tt (plain (λ _. row P)), tt)

  module _ {M : Type 1} {𝓤 : Ura M} (Turn : P.D → P.D → Bool → Type 0) (Need : P.D → Type 0) (Ends : P.D → P.D → Type 0) (𝓛 : Logic 𝓤) where
    -- the contracts of `g` and of `f`
    open 𝓛 use {H, A}

    abbrev pub Callee : Contract 𝓤
    Callee = triple_of 𝓛 (asks.by_ref P flag).signature (closing 𝓛 (asks.by_ref P flag) (asks.ref_clauses P flag 𝓤 Turn))

    abbrev Self : Contract 𝓤
    Self = triple_of 𝓛 (by_ref P).signature (closing 𝓛 (by_ref P) (ref_clauses 𝓤 Need Ends))

    module _ (κ : Lft) (q : Share) (b o : ℕ) (γ : GName) (h : P.D) where
      -- the reference under the name δ, at the value x
      abbrev ref : GName → P.D → MutBor P.D
      ref δ x = record { ref_ptr = (b, o); ghost_name = δ; now = x }

      abbrev own_at : Lft → GName → P.D → Fml
      own_at κ' δ x = (MutRef (named 0) κ' (row P)).own_val (ref δ x) (vptr b o ∷ [])

      abbrev Post : Val → SProp 𝓤
      Post = (walk_of 𝓛 (by_ref P) stayed (ref_clauses 𝓤 Need Ends)).post (((κ, tt), (q, tt), tt, (ref γ h, tt), (vptr b o ∷ [], tt)), tt)

      abbrev to_callee : ℕ → GName → Callee.Ghost
      to_callee α δ = (((α ∷ [], tt), (full_share, tt), tt, (ref δ h, tt), (vptr b o ∷ [], tt)), tt)

      goes_callee : (α : ℕ) (δ : GName) → ent 𝓤 (sep 𝓤 (A.lft (α ∷ []) full_share) (sem 𝓛 (own_at (α ∷ []) δ h))) (Callee.pre (to_callee α δ))
      goes_callee α δ =
          qed 𝓛 (‵ (flft (α ∷ []) full_share) ∷ ‵ (own_at (α ∷ []) δ h) ∷ []) ∵ use0 𝓛 (raw (emp 𝓤)) (id⊢ 𝓤 (emp 𝓤)) $ move ! (1 ∷ 2 ∷ []) $ nothing ! $ move ! (2 ∷ 0 ∷ []) $ fjoin ! $
          nothing ! $ move ! (2 ∷ 0 ∷ []) $ join ! $ join ! $ frame ! $ done !

      abbrev to_self : ℕ → GName → P.D → Self.Ghost
      to_self α δ x = (((α ∷ [], tt), (full_share, tt), tt, (ref δ x, tt), (vptr b o ∷ [], tt)), tt)

      goes_self : (α : ℕ) (δ : GName) (x : P.D) → Need x → ent 𝓤 (sep 𝓤 (A.lft (α ∷ []) full_share) (sem 𝓛 (own_at (α ∷ []) δ x))) (Self.pre (to_self α δ x))
      goes_self α δ x n = qed 𝓛 (‵ (flft (α ∷ []) full_share) ∷ ‵ (own_at (α ∷ []) δ x) ∷ []) ∵ says ! n $ nothing ! $ move ! (1 ∷ 0 ∷ []) $ join ! $ frame ! $ nothing ! $ move ! (1 ∷ 0 ∷ []) $ done !

      exits : (z : P.D) → Ends h z → ent 𝓤 (sep 𝓤 (sem 𝓛 (own_at κ γ z)) (A.lft κ q)) (Post vunit)
      exits z e =
          qed 𝓛 (‵ (own_at κ γ z) ∷ ‵ (flft κ q) ∷ []) ∵ suffices ! _ (ends_at 𝓛 (by_ref P) stayed (ref_clauses 𝓤 Need Ends) (((κ, tt), (q, tt), tt, (ref γ h, tt), (vptr b o ∷ [], tt)), tt) vunit tt (z, tt) (tt, tt)) $ says ! e $
          nothing ! $ move ! (2 ∷ 0 ∷ []) $ join ! $ frame ! $ nothing ! $ move ! (1 ∷ 0 ∷ []) $ fjoin ! $ feq_i ! (List Val) (vunit ∷ []) (vunit ∷ []) refl $ move ! (1 ∷ 0 ∷ []) $ done !

      -- what a call of itself may rely on: the contract at each value that is smaller
      module _ (turning : Turning P Turn Need Ends) (need : Need h) (C : Calls 𝓤 H) (Λ : Loops 𝓤 H) (fm : FmC 𝓤 H 𝓛.laws C) (g f : Name) (known : Triple 𝓤 (C g) Callee)
          (self : (y : Self.Ghost) → turning.size y.0.3.0.now < turning.size h → ent 𝓤 (Self.pre y) (C f (Self.args y) (Self.post y))) where
        module _ (l₀ l₁ l₂ l₃ l₄ l₅ : ℕ) where
          abbrev E : Env 𝓤 H
          E = (ty_unit, l₀) ∷ (lent_ty, l₁) ∷ (ty_bool, l₂) ∷ (again_ty, l₃) ∷ (ty_unit, l₄) ∷ (again_ty, l₅) ∷ []

          -- once `g` has answered: the reference is back, at the value x, and room for the locals of the call of itself
          abbrev Answered : P.D → Bool → List (Item 𝓤)
          Answered x a =
              ‵ (own_at κ γ x) ∷ ‵ (flft κ q) ∷ ‵ (froom again_ty l₅ 0) ∷ ‵ (fdies again_ty l₅) ∷ ‵ (froom ty_unit l₄ 0) ∷ ‵ (fdies ty_unit l₄) ∷ ‵ (fat full_share again_ty l₃ 0 (vptr b o)) ∷ ‵ (fdies again_ty l₃)
              ∷ ‵ (fat full_share ty_bool l₂ 0 (vbool a)) ∷ ‵ (fdies ty_bool l₂) ∷ ‵ (fat full_share lent_ty l₁ 0 (vptr b o)) ∷ ‵ (fdies lent_ty l₁) ∷ ‵ (froom ty_unit l₀ 0) ∷ ‵ (fdies ty_unit l₀) ∷ []

          ends : (z : P.D) (a : Bool) → Ends h z → Sq 𝓛 (Answered z a) (runs C Λ E rest-code (at_ret E Post))
          ends z a e =
              assigns ! (of_opd ! (unit_lit !)) (from ! (stop !)) (init ! 12 refl (tt, tt)) $
              returns ! (look ! 12 refl) $ forget ! 6 refl $ forget ! 8 refl $ forget ! 10 refl $ forget ! 12 refl $
              move ! (12 ∷ 13 ∷ []) $ free1 ! $ move ! (10 ∷ 11 ∷ []) $ free1 ! $ move ! (8 ∷ 9 ∷ []) $ free1 ! $ move ! (6 ∷ 7 ∷ []) $ free1 ! $ move ! (4 ∷ 5 ∷ []) $ free1 ! $ move ! (2 ∷ 3 ∷ []) $ free1 ! $ free0 ! $
              by ! (exits z e)

          branch : (x : P.D) (a : Bool) → Turn h x a → Sq 𝓛 (Answered x a) (runs C Λ E (branch_code f) (at_ret E Post))
          branch x false e = first ! $ branches ! (load ! (from ! (stop !)) (look ! 8 refl)) (λ z. absurd z) (λ _. skips ! $ exec ! C Λ E rest-code (at_ret E Post) $ ends x false (turning.last h x need e))
          branch x true e =
              first ! $ branches ! (load ! (from ! (stop !)) (look ! 8 refl))
              (λ _.
              assigns ! (addr ! (from ! (hop ! (look ! 10 refl) (stop !)))) (from ! (stop !)) (init ! 2 refl (tt, tt)) $
              lft_new ! tt (λ α. move ! (1 ∷ 2 ∷ []) $
              use2 𝓛 (later (some (λ (δ : GName). ‵ (own_at (α ∷ []) δ x) ⊛ ‵ (LentAgain (row P) κ (α ∷ []) q γ b o δ x)))) (lends_again 𝓛 (row P) (named 0) κ (α ∷ []) q γ b o (named 0) x) $ await ! tt $ pick ! (λ δ. split ! $
              move ! (2 ∷ 0 ∷ []) $ use2 𝓛 (raw (Self.pre (to_self α δ x))) (goes_self α δ x (turning.keeps h x need e)) $
              -- [what the call asks; what is kept of the reference; _5; …; _4; …; _3; …; _2; …; _1; …; room for _0; …]
              calls_from_last ! fm (raw (Self.pre (to_self α δ x))) (vptr b o ∷ []) (Self.post (to_self α δ x)) (self (to_self α δ x) (turning.falls h x need e)) (and_then ! (load ! (from ! (stop !)) (look ! 2 refl)) (no_more !)) (λ v.
              use1 𝓛 (later (some (λ (u : Unit {0}). ((‵ (flft (α ∷ []) full_share) ⊛ ‵ ftrue) ⊛ ‵ (unit.own_val u (v ∷ []))) ⊛ raw (ensured 𝓛 (by_ref P) (ref_clauses 𝓤 Need Ends) (α ∷ [], tt) (ref δ x, tt) tt u)))) (id⊢ 𝓤 _) $ await ! tt $ pick ! (λ u.
              split ! $ move ! (1 ∷ []) $ use1 𝓛 (some (λ (ws : P.D × Unit {0}). ‵ (lasts (by_ref P) (α ∷ [], tt) (ref δ x, tt) ws) ⊛ raw (fact 𝓤 (Ends x ws.0)))) (id⊢ 𝓤 _) $ pick ! (λ ws.
              split ! $ move ! (1 ∷ []) $ heard ! (Ends x ws.0) (λ e'. fsplit ! $ fsplit ! $ move ! (1 ∷ []) $ drop ! $ move ! (2 ∷ []) $ split ! $ move ! (1 ∷ []) $
              peeks ! unit (Is unit) (shows 𝓛 unit) u (v ∷ []) (λ is. land_last ! (from ! (stop !)) (init ! 7 refl ((Nothing-Lawful 𝓛).typed u _ is).0) $ exec ! C Λ E rest-code (at_ret E Post) $
              -- the lifetime is ended, and the reference comes back at its last value
              move ! (1 ∷ []) $ split ! $ lft_end ! tt $ move ! (0 ∷ 5 ∷ 3 ∷ []) $
              use3 𝓛 (later (‵ (own_at κ γ ws.0) ⊛ ‵ (flft κ q))) (comes_back 𝓛 (row P) (named 0) κ (α ∷ []) q γ b o δ x ws.0) $ await ! tt $ split ! $
              keep ! (0 ∷ 1 ∷ 5 ∷ 6 ∷ 7 ∷ 8 ∷ 9 ∷ 10 ∷ 11 ∷ 12 ∷ 13 ∷ 14 ∷ 15 ∷ 16 ∷ []) $ forget ! 2 refl $ forget ! 4 refl $ ends ws.0 true (turning.leads h x ws.0 need e e')))))))))
              (λ z. absurd z)

        walk : ent 𝓤 (on_entry 𝓛 (by_ref P).signature (κ, tt) (q, tt) (ref γ h, tt) (vptr b o ∷ [], tt)) (WpFn 𝓤 H C Λ (code g f) (vptr b o ∷ []) Post)
        walk =
            qed 𝓛 ((‵ (flft κ q) ⊛ ‵ ftrue) ∷ ‵ (owns (MutRef (named 0) κ (row P) ∷ []) (ref γ h, tt) (vptr b o ∷ [], tt)) ∷ []) ∵ enter ! C Λ (code g f) (vptr b o ∷ []) _ $
            alloc1 ! (λ l₀. alloc1 ! (λ l₁. alloc1 ! (λ l₂. alloc1 ! (λ l₃. alloc1 ! (λ l₄. alloc1 ! (λ l₅. alloc0 ! $ params1 ! $ pass1 ! (init ! 8 refl (tt, tt)) $ pass0 ! $
            move ! (13 ∷ 12 ∷ []) $ fsplit ! $ move ! (2 ∷ []) $ split ! $ move ! (2 ∷ 0 ∷ []) $
            -- [the reference; the token; true; true; _5; …; _4; …; _3; …; _2; …; _1; …; room for _0; …]
            assigns ! (addr ! (from ! (hop ! (look ! 12 refl) (stop !)))) (from ! (stop !)) (init ! 8 refl (tt, tt)) $
            lft_new ! tt (λ α. move ! (1 ∷ 2 ∷ []) $
            use2 𝓛 (later (some (λ (δ : GName). ‵ (own_at (α ∷ []) δ h) ⊛ ‵ (LentAgain (row P) κ (α ∷ []) q γ b o δ h)))) (lends_again 𝓛 (row P) (named 0) κ (α ∷ []) q γ b o (named 0) h) $ await ! tt $ pick ! (λ δ. split ! $
            move ! (2 ∷ 0 ∷ []) $ use2 𝓛 (raw (Callee.pre (to_callee α δ))) (goes_callee α δ) $
            calls_at ! fm Callee known (to_callee α δ) (and_then ! (load ! (from ! (stop !)) (look ! 8 refl)) (no_more !)) (λ v.
            use1 𝓛 (later (some (λ (a : Bool). ((‵ (flft (α ∷ []) full_share) ⊛ ‵ ftrue) ⊛ ‵ ((row flag).own_val a (v ∷ []))) ⊛ raw (ensured 𝓛 (asks.by_ref P flag) (asks.ref_clauses P flag 𝓤 Turn) (α ∷ [], tt) (ref δ h, tt) tt a)))) (id⊢ 𝓤 _) $ await ! tt $ pick ! (λ a.
            split ! $ move ! (1 ∷ []) $ use1 𝓛 (some (λ (ws : P.D × Unit {0}). ‵ (lasts (asks.by_ref P flag) (α ∷ [], tt) (ref δ h, tt) ws) ⊛ raw (fact 𝓤 (Turn h ws.0 a)))) (id⊢ 𝓤 _) $ pick ! (λ ws.
            split ! $ move ! (1 ∷ []) $ heard ! (Turn h ws.0 a) (λ e. fsplit ! $ fsplit ! $ move ! (1 ∷ []) $ drop ! $ move ! (2 ∷ []) $ split ! $ move ! (1 ∷ []) $
            peeks ! (row flag) (Is (row flag)) (shows 𝓛 (row flag)) a (v ∷ []) (λ is.
            -- [the answer; the token; the last value; true; what is kept of the reference; true; true; _5; …; _4; …; _3; …; _2; …; _1; …; room for _0; …]
            land ! (from ! (stop !)) (init ! 13 refl (flag.typed 𝓛 a _ is)) $ rewrite ! 13 (λ (w : Val). ‵ (fat full_share ty_bool l₂ 0 w)) (ap only (flag.tells a (v ∷ []) is)) refl $
            -- the lifetime is ended, and the reference comes back at its last value
            move ! (1 ∷ []) $ split ! $ lft_end ! tt $ move ! (0 ∷ 5 ∷ 3 ∷ []) $
            use3 𝓛 (later (‵ (own_at κ γ ws.0) ⊛ ‵ (flft κ q))) (comes_back 𝓛 (row P) (named 0) κ (α ∷ []) q γ b o δ h ws.0) $ await ! tt $ split ! $
            keep ! (0 ∷ 1 ∷ 7 ∷ 8 ∷ 9 ∷ 10 ∷ 11 ∷ 12 ∷ 13 ∷ 14 ∷ 15 ∷ 16 ∷ 17 ∷ 18 ∷ []) $ branch l₀ l₁ l₂ l₃ l₄ l₅ ws.0 a e)))))))))))))

    -- ---- the recursion: the size of the value falls
    module _ (turning : Turning P Turn Need Ends) where
      abbrev measure : Self.Ghost → ℕ
      measure y = turning.size y.0.3.0.now

      abbrev stated : Fun 𝓤 → Stated 𝓤
      stated run = record { signature = (by_ref P).signature; run = run; spec = closing 𝓛 (by_ref P) (ref_clauses 𝓤 Need Ends) }

      abbrev graded : (run : Fun 𝓤) → Graded 𝓛 ℕ (stated run)
      graded run = measured 𝓛 (stated run) measure

      module _ (𝓣 : Tables 𝓤 H) (g f : Name) (known : Triple 𝓤 (𝓣.C g) Callee) (closed : Closed 𝓤 H 𝓣.C 𝓣.Λ f (code g f)) where
        method : (t : ℕ) → Below 𝓛 (graded (𝓣.C f)) (λ s. s < t) → (graded (𝓣.C f)).At t
        method t below =
            at_on 𝓛 (by_ref P).signature (closing 𝓛 (by_ref P) (ref_clauses 𝓤 Need Ends)) (WpFn 𝓤 H 𝓣.C 𝓣.Λ (code g f)) (𝓣.C f) closed measure t (λ y e.
            walk_meets_at 𝓛 (by_ref P) stayed (Goes-ref 𝓛 1 0 tt (plain (λ _. row P)), tt) (ref_clauses 𝓤 Need Ends) (WpFn 𝓤 H 𝓣.C 𝓣.Λ (code g f)) (WpFn-mono 𝓤 H 𝓛.laws 𝓣 (code g f)) y
            (walked_at 𝓛 (by_ref P) stayed (ref_clauses 𝓤 Need Ends) (WpFn 𝓤 H 𝓣.C 𝓣.Λ (code g f)) y (mut_vals, tt) (mut_Tells (named 0) y.0.0.0 (row P), tt)
            (λ are. needs 𝓤 (Need y.0.3.0.now) _ (λ need.
            walk y.0.0.0 y.0.1.0 y.0.3.0.ref_ptr.0 y.0.3.0.ref_ptr.1 y.0.3.0.ghost_name y.0.3.0.now turning need 𝓣.C 𝓣.Λ (fm_of 𝓤 H 𝓛.laws 𝓣) g f known
            (λ y' less. below (measure y') (subst (λ (s : ℕ). measure y' < s) e less) y' refl)))))

        again_meets : Meets 𝓛 (by_ref P).signature (𝓣.C f) (closing 𝓛 (by_ref P) (ref_clauses 𝓤 Need Ends))
        again_meets = mutual_elim 𝓛 (one (stated (𝓣.C f))) ◌<◌ lt-wf_rel.wf (graded (𝓣.C f)) (λ t below. method t below)

  -- the same of the routines: `f` is the key of the function, and `g` that of the other one that it calls, in their environment γ
  module _ {M : Type 1} {𝓤 : Ura M} (𝓛 : Logic 𝓤) (𝓜 : Model 𝓤 𝓛.H) (𝓡 : Running 𝓤 𝓛.H 𝓜) (Turn : P.D → P.D → Bool → Type 0) (Need : P.D → Type 0) (Ends : P.D → P.D → Type 0) (turning : Turning P Turn Need Ends) (γ : Envs) (f g : Name) (r : Routine) where
    open 𝓛 use {H}

    pub again : Closed 𝓤 H (tables 𝓤 H 𝓜 𝓡 γ).C (tables 𝓤 H 𝓜 𝓡 γ).Λ f (code g f) → γ g ≡ r → Triple 𝓤 (𝓡.run r) (Callee Turn Need Ends 𝓛)
        → Meets 𝓛 (by_ref P).signature (𝓡.run (γ f)) (closing 𝓛 (by_ref P) (ref_clauses 𝓤 Need Ends))
    unfolding tables_of
    again unfolded calls met =
        again_meets Turn Need Ends 𝓛 turning (tables_of 𝓤 H 𝓜 (tables 𝓤 H 𝓜 𝓡 γ)) g f (cited 𝓤 H (Callee Turn Need Ends 𝓛) 𝓜 𝓡 γ g r calls met) unfolded
