-- The law of a lent form that answers: where `g` gives a struct of the value changed and an answer, `fn f(t: &mut P) -> R { let s = g(*t); *t = s.left; s.right }`
-- changes what lies behind a reference, and answers, in the same way.
--     Answer       the struct that `g` gives: of two fields, the value and the answer
--     Q            what both, which require nothing, ensure of the value before, the value after, and the answer
--     code         the MIR of `f`        gives     `f` meets its contract, where `g` meets its own
use Rattle.std.specs.Prelude.{◌≡◌, refl, ℕ, [], ◌∷◌, List, T}
use seplogic.Ra.Ura.{Ura}
use base.Fraction.{full_share}
use mir.Syntax.{Callee as Name, Sym, Ty, Written, Fn, named, mut, ty_ref, ty_struct, tcons, tnil, deref, field, place, copy, local, value_local, seq, assign, call, return, rv_opd}
use mir.Val.{Val, vptr, vstruct, vcons, vnil, has_ty, WT}
use base.Logic.{SProp, ent, sep, emp, via, fst∗, snd∗, ex_e, id⊢}
use Rattle.std.specs.Coded.{Coded}
use base.Fml.{Fml, GName, Lft, Share, ftrue, flft, fobs, fbor, fat}
use prog.Model.{Model}
use prog.Routine.{Routine, Env as Envs}
use prog.Wp.{Calls, Loops, WpFn, Tables, Closed}
use types.Logic.{Logic, sem}
use contract.Monad.{fact}
use contract.Running.{Running, tables, tables_of}
use types.Kit.{‵, raw, some, later, ◌⊛◌, ◌$◌, ◌∵◌, !, qed, by, move, keep, drop, use0, use1, use2, split, join, pick, rewrite, fsplit, fsplit3, fjoin, fjoin3, feq_i, suffices, frame, await, done}
use types.Part.{whole, sub, look_in}
use types.Run.{look, look_raw, init, store_raw, forget, stop, hop, fld, from, load, of_opd, and_then, no_more, assigns, land, returns, enter, alloc1, alloc0, params1, pass1, pass0, free1, free0}
use types.SemTy.{Body}
use sound.WpLaws.{FmC, fm_of, WpFn-mono}
use denote.RattleType.{RattleType, owns}
use denote.Laws.{Is, shows}
use denote.Memory.{mem, pointee}
use denote.Ref.{MutBor, MutRef, mut_vals, mut_Tells}
use denote.Signature.{plain, mut_ref_to}
use denote.Steps.{opens, closes, owned, peeks, heard, nothing}
use denote.Struct.Steps.{spelt}
use denote.Triple.Entry.{on_entry}
use denote.Triple.Spec.{Meets, triple_of}
use denote.Triple.Statement.{Contract, Triple}
use denote.Triple.Call.{calls_at}
use denote.Triple.Table.{entered, cited}
use denote.Triple.Clauses.{Ended, Clauses, closing, ensured, lasts}
use denote.Triple.Walked.{says, Stays, stay_ref, walk_of, Goes-ref, Walks, ends_at, walked, walk_Meets}
use denote.Exit.{yes}
use Rattle.lent.specs.Datum.{Datum, type_of, row, vals}

-- a declared struct of two fields
pub record Answer (P R : Datum) : Type 2 where
  pub D : Type 0
  pub name : Sym
  pub written : Written
  pub reaches : List (Written × List Ty)
  pub lives : Lft
  pub own : D → List Val → Fml
  pub coded : Coded D
  pub shr : D → ℕ → ℕ → Lft → Fml
  pub left : D → P.D
  pub right : D → R.D
  pub spelled : (s : D) (v : Val) → Is (type_of D (ty_struct name (tcons P.ty (tcons R.ty tnil))) written reaches lives own coded shr) s (v ∷ []) → v ≡ vstruct (vcons (P.val (left s)) (vcons (R.val (right s)) vnil))
  pub left_is : (s : D) (v : Val) → Is (type_of D (ty_struct name (tcons P.ty (tcons R.ty tnil))) written reaches lives own coded shr) s (v ∷ []) → Is (row P) (left s) (vals P (left s))
  pub right_is : (s : D) (v : Val) → Is (type_of D (ty_struct name (tcons P.ty (tcons R.ty tnil))) written reaches lives own coded shr) s (v ∷ []) → Is (row R) (right s) (vals R (right s))
  pub typed : {M : Type 1} {𝓤 : Ura M} (𝓛 : Logic 𝓤) → (s : D) (v : Val) → Is (type_of D (ty_struct name (tcons P.ty (tcons R.ty tnil))) written reaches lives own coded shr) s (v ∷ [])
      → T (has_ty (ty_struct name (tcons P.ty (tcons R.ty tnil))) v) × WT v

abbrev pub ty_of : (P R : Datum) → Answer P R → Ty
ty_of P R S = ty_struct S.name (tcons P.ty (tcons R.ty tnil))

abbrev pub row_of : (P R : Datum) → Answer P R → RattleType
row_of P R S = type_of S.D (ty_of P R S) S.written S.reaches S.lives S.own S.coded S.shr

module _ (P R : Datum) where
  -- the contract of `f`
  abbrev pub by_ref : Ended
  by_ref = record { signature = record { lifetimes = 1; outlives = []; params = mut_ref_to (0 ∷ []) tt (plain (λ _. row P)) ∷ []; result = plain (λ _. row R) }; kept = (yes, tt) }

  abbrev pub ref_clauses : {M : Type 1} (𝓤 : Ura M) → (P.D → P.D → R.D → Type 0) → Clauses 𝓤 by_ref
  ref_clauses 𝓤 Q κs a = record { ghost = Unit {0}; requires = λ _. emp 𝓤; ensures = λ _ r e. fact 𝓤 (Q a.0.now e.0.now r) }

module _ (P R : Datum) (S : Answer P R) where
  -- that of `g`
  abbrev pub by_value : Ended
  by_value = record { signature = record { lifetimes = 0; outlives = []; params = plain (λ _. row P) ∷ []; result = plain (λ _. row_of P R S) }; kept = (yes, tt) }

  abbrev pub code : Name → Fn
  code g = record {
    lifetimes = 1;
    outlives = [];
    ty_params = [];
    givens = 0;
    params = 1;
    locals = local R.ty value_local ∷ local (ty_ref (named 0) mut (pointee P.written)) value_local ∷ local (ty_of P R S) value_local ∷ local P.ty value_local ∷ local P.ty value_local ∷ [];
    body = seq (assign (place 3 []) (rv_opd (copy (place 1 (deref P.ty ∷ [])))))
        (seq (call g (copy (place 3 []) ∷ []) (place 2 []))
        (seq (assign (place 4 []) (rv_opd (copy (place 2 (field 0 ∷ [])))))
        (seq (assign (place 1 (deref P.ty ∷ [])) (rv_opd (copy (place 4 []))))
        (seq (assign (place 0 []) (rv_opd (copy (place 2 (field 1 ∷ []))))) return))));
  }

  abbrev stayed : Stays (by_ref P R).signature.params (by_ref P R).kept
  stayed = (stay_ref (0 ∷ []) tt (plain (λ _. row P)), tt)

  module _ {M : Type 1} (𝓤 : Ura M) (Q : P.D → P.D → R.D → Type 0) where
    abbrev pub value_clauses : Clauses 𝓤 by_value
    value_clauses κs a = record { ghost = Unit {0}; requires = λ _. emp 𝓤; ensures = λ _ r e. fact 𝓤 (Q a.0 (S.left r) (S.right r)) }

    module _ (𝓛 : Logic 𝓤) where
      open 𝓛 use {H, A}

      abbrev pub Callee : Contract 𝓤
      Callee = triple_of 𝓛 by_value.signature (closing 𝓛 by_value value_clauses)

      got_of : (h : P.D) (r : S.D) → ent 𝓤 (ensured 𝓛 by_value value_clauses tt (h, tt) tt r) (fact 𝓤 (Q h (S.left r) (S.right r)))
      got_of h r = ex_e 𝓤 _ (λ ws. snd∗ 𝓤 (sem 𝓛 (lasts by_value tt (h, tt) ws)) (fact 𝓤 (Q h (S.left r) (S.right r))))

      module _ (κ : Lft) (q : Share) (b o : ℕ) (γ : GName) (h : P.D) where
        abbrev arg : MutBor P.D × Unit {0}
        arg = (record { ref_ptr = (b, o); ghost_name = γ; now = h }, tt)

        abbrev at : List Val × Unit {0}
        at = (vptr b o ∷ [], tt)

        abbrev Post : Val → SProp 𝓤
        Post = (walk_of 𝓛 (by_ref P R) stayed (ref_clauses P R 𝓤 Q)).post (((κ, tt), (q, tt), tt, arg, at), tt)

        abbrev to_callee : Callee.Ghost
        to_callee = ((tt, tt, tt, (h, tt), (vals P h, tt)), tt)

        goes_callee : ent 𝓤 (sep 𝓤 (sem 𝓛 ((row P).own_val h (vals P h))) (emp 𝓤)) (Callee.pre to_callee)
        goes_callee = qed 𝓛 (‵ ((row P).own_val h (vals P h)) ∷ raw (emp 𝓤) ∷ []) ∵ nothing ! $ move ! (1 ∷ 0 ∷ []) $ join ! $ nothing ! $ join ! $ frame ! $ done !

        exits : (r : P.D) (w : R.D) → Q h r w → Is (row R) w (vals R w) → ent 𝓤 (sep 𝓤 (A.obs γ ((row P).coded.code r)) (sep 𝓤 (A.bor κ (Body (mem (row P)) b o γ)) (A.lft κ q))) (Post (R.val w))
        exits r w e is =
            qed 𝓛 (‵ (fobs γ ((row P).coded.code r)) ∷ ‵ (fbor κ (Body (mem (row P)) b o γ)) ∷ ‵ (flft κ q) ∷ []) ∵
            suffices ! _ (ends_at 𝓛 (by_ref P R) stayed (ref_clauses P R 𝓤 Q) (((κ, tt), (q, tt), tt, arg, at), tt) (R.val w) w (r, tt) (tt, tt)) $ says ! e $ nothing ! $ move ! (3 ∷ 0 ∷ []) $ join ! $
            frame ! $ feq_i ! (List Val) (vptr b o ∷ []) (vptr b o ∷ []) refl $ fjoin3 ! $ nothing ! $ move ! (1 ∷ 0 ∷ []) $ fjoin ! $
            owned ! (row R) (Is (row R)) (R.makes 𝓛) w _ is $ move ! (1 ∷ 0 ∷ []) $ done !

        module _ (C : Calls 𝓤 H) (Λ : Loops 𝓤 H) (fm : FmC 𝓤 H 𝓛.laws C) (g : Name) (known : Triple 𝓤 (C g) Callee) where
          walk : ent 𝓤 (on_entry 𝓛 (by_ref P R).signature (κ, tt) (q, tt) arg at) (WpFn 𝓤 H C Λ (code g) (vptr b o ∷ []) Post)
          walk =
              qed 𝓛 ((‵ (flft κ q) ⊛ ‵ ftrue) ∷ ‵ (owns (MutRef (named 0) κ (row P) ∷ []) arg at) ∷ []) ∵ enter ! C Λ (code g) (vptr b o ∷ []) _ $
              alloc1 ! (λ l₀. alloc1 ! (λ l₁. alloc1 ! (λ l₂. alloc1 ! (λ l₃. alloc1 ! (λ l₄. alloc0 ! $ params1 ! $ pass1 ! (init ! 6 refl (tt, tt)) $ pass0 ! $
              -- the borrow is opened
              move ! (11 ∷ []) $ fsplit ! $ fsplit3 ! $ drop ! $ move ! (13 ∷ []) $ split ! $ move ! (2 ∷ 3 ∷ 0 ∷ []) $
              opens ! tt (row P) {h = h} b o (λ vs. spelt ! (row P) (Is (row P)) (shows 𝓛 (row P)) (vals P) P.tells full_share h vs b o $
              move ! (1 ∷ []) $ peeks ! (row P) (Is (row P)) (shows 𝓛 (row P)) h (vals P h) (λ was. move ! (1 ∷ 0 ∷ []) $
              -- [the cell; what h owns; the open borrow; obs; auth; true; true; _4; …; _3; …; _2; …; _1; …; room for _0; …]
              assigns ! (of_opd ! (load ! (from ! (hop ! (look ! 13 refl) (stop !))) (look_raw ! 0 refl))) (from ! (stop !)) (init ! 9 refl (P.typed 𝓛 h _ was)) $
              use0 𝓛 (raw (emp 𝓤)) (id⊢ 𝓤 (emp 𝓤)) $ owned ! (row P) (Is (row P)) (P.makes 𝓛) h _ was $ use2 𝓛 (raw (Callee.pre to_callee)) goes_callee $
              calls_at ! fm Callee known to_callee (and_then ! (load ! (from ! (stop !)) (look ! 10 refl)) (no_more !)) (λ v.
              use1 𝓛 (later (some (λ (r : S.D). (‵ ftrue ⊛ ‵ ((row_of P R S).own_val r (v ∷ []))) ⊛ raw (ensured 𝓛 by_value value_clauses tt (h, tt) tt r)))) (id⊢ 𝓤 _) $ await ! tt $ pick ! (λ r.
              split ! $ move ! (1 ∷ []) $ use1 𝓛 (raw (fact 𝓤 (Q h (S.left r) (S.right r)))) (got_of h r) $ heard ! (Q h (S.left r) (S.right r)) (λ e. split ! $ drop ! $
              peeks ! (row_of P R S) (Is (row_of P R S)) (shows 𝓛 (row_of P R S)) r (v ∷ []) (λ is.
              -- [what r owns; the cell; what h owns; the open borrow; obs; auth; true; true; _4; …; _3; …; _2; …; _1; …; room for _0; …]
              land ! (from ! (stop !)) (init ! 12 refl (S.typed 𝓛 r _ is)) $ rewrite ! 12 (λ (w : Val). ‵ (fat full_share (ty_of P R S) l₂ 0 w)) (S.spelled r v is) refl $
              assigns ! (of_opd ! (load ! (from ! (fld ! refl (stop !))) (look_in ! 12 (sub ! 0 refl (whole !))))) (from ! (stop !)) (init ! 8 refl (P.typed 𝓛 (S.left r) _ (S.left_is r v is))) $
              assigns ! (of_opd ! (load ! (from ! (stop !)) (look ! 8 refl))) (from ! (hop ! (look ! 14 refl) (stop !))) (store_raw ! 1 refl (P.typed 𝓛 (S.left r) _ (S.left_is r v is))) $
              assigns ! (of_opd ! (load ! (from ! (fld ! refl (stop !))) (look_in ! 12 (sub ! 1 refl (whole !))))) (from ! (stop !)) (init ! 16 refl (R.typed 𝓛 (S.right r) _ (S.right_is r v is))) $
              drop ! $ owned ! (row P) (Is (row P)) (P.makes 𝓛) (S.left r) _ (S.left_is r v is) $ move ! (1 ∷ 0 ∷ 3 ∷ 4 ∷ 5 ∷ []) $ closes ! tt (row P) (S.left r) (vals P (S.left r)) b o $
              -- [obs; the borrow; the token; what h owns; true; true; _4; …; _3; …; _2; …; _1; …; _0; …]
              returns ! (look ! 14 refl) $ forget ! 6 refl $ forget ! 8 refl $ forget ! 10 refl $ forget ! 12 refl $ forget ! 14 refl $
              move ! (14 ∷ 15 ∷ []) $ free1 ! $ move ! (12 ∷ 13 ∷ []) $ free1 ! $ move ! (10 ∷ 11 ∷ []) $ free1 ! $ move ! (8 ∷ 9 ∷ []) $ free1 ! $ move ! (6 ∷ 7 ∷ []) $ free1 ! $ free0 ! $
              keep ! (0 ∷ 1 ∷ 2 ∷ []) $ by ! (exits (S.left r) (S.right r) e (S.right_is r v is)))))))))))))

      module _ (𝓣 : Tables 𝓤 H) (g : Name) (known : Triple 𝓤 (𝓣.C g) Callee) where
        walks : Walks 𝓛 (by_ref P R) stayed (WpFn 𝓤 H 𝓣.C 𝓣.Λ (code g)) (ref_clauses P R 𝓤 Q)
        walks = walked 𝓛 (by_ref P R) stayed (ref_clauses P R 𝓤 Q) (WpFn 𝓤 H 𝓣.C 𝓣.Λ (code g)) (λ κs. (mut_vals, tt)) (λ κs. (mut_Tells (named 0) κs.0 (row P), tt))
            (λ κs qs bounds a y _. via 𝓤 _ (fst∗ 𝓤 _ (emp 𝓤)) (walk κs.0 qs.0 a.0.ref_ptr.0 a.0.ref_ptr.1 a.0.ghost_name a.0.now 𝓣.C 𝓣.Λ (fm_of 𝓤 H 𝓛.laws 𝓣) g known))

        gives_meets : Meets 𝓛 (by_ref P R).signature (WpFn 𝓤 H 𝓣.C 𝓣.Λ (code g)) (closing 𝓛 (by_ref P R) (ref_clauses P R 𝓤 Q))
        gives_meets = walk_Meets 𝓛 (by_ref P R) stayed (Goes-ref 𝓛 1 0 tt (plain (λ _. row P)), tt) (ref_clauses P R 𝓤 Q) (WpFn 𝓤 H 𝓣.C 𝓣.Λ (code g)) (WpFn-mono 𝓤 H 𝓛.laws 𝓣 (code g)) walks

  -- the same of the routines: `f` is the key of the lent function, and `g` that of the function that it calls, in f's environment γ
  module _ {M : Type 1} {𝓤 : Ura M} (𝓛 : Logic 𝓤) (𝓜 : Model 𝓤 𝓛.H) (𝓡 : Running 𝓤 𝓛.H 𝓜) (Q : P.D → P.D → R.D → Type 0) (γ : Envs) (f g : Name) (r : Routine) where
    open 𝓛 use {H}

    pub gives : Closed 𝓤 H (tables 𝓤 H 𝓜 𝓡 γ).C (tables 𝓤 H 𝓜 𝓡 γ).Λ f (code g) → γ g ≡ r → Triple 𝓤 (𝓡.run r) (Callee 𝓤 Q 𝓛)
        → Meets 𝓛 (by_ref P R).signature (𝓡.run (γ f)) (closing 𝓛 (by_ref P R) (ref_clauses P R 𝓤 Q))
    unfolding tables_of
    gives unfolded calls met =
        entered 𝓤 H (triple_of 𝓛 (by_ref P R).signature (closing 𝓛 (by_ref P R) (ref_clauses P R 𝓤 Q))) (tables 𝓤 H 𝓜 𝓡 γ).C (tables 𝓤 H 𝓜 𝓡 γ).Λ f (code g) unfolded
        (gives_meets 𝓤 Q 𝓛 (tables_of 𝓤 H 𝓜 (tables 𝓤 H 𝓜 𝓡 γ)) g (cited 𝓤 H (Callee 𝓤 Q 𝓛) 𝓜 𝓡 γ g r calls met))
