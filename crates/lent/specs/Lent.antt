-- The law of a lent form: where `g` changes a value, `fn f(t: &mut P) { *t = g(*t); }` changes what lies behind a reference in the same way.
--     Q            what `g`, which requires nothing, ensures of the value before and after
--     Told F       F are the clauses of `f`: where Q holds of the value before and after, what they ensure holds
--     code         the MIR of `f`        lent     `f` meets its contract, where `g` meets its own
--     holds        a step of a walk: what a clause ensures is shown
use Rattle.std.specs.Prelude.{◌≡◌, refl, ℕ, [], ◌∷◌, List}
use seplogic.Ra.Ura.{Ura}
use base.Fraction.{full_share}
use mir.Syntax.{Callee as Name, Fn, named, mut, ty_unit, ty_ref, deref, place, copy, opd_unit, local, value_local, seq, assign, call, return, rv_opd}
use mir.Val.{Val, vunit, vptr}
use base.Logic.{SProp, ent, sep, emp, via, comm∗, mono_l, emp∗, fst∗, snd∗, ex_e, id⊢}
use base.Fml.{GName, Lft, Share, ftrue, flft, fobs, fbor}
use prog.Model.{Model}
use prog.Routine.{Routine, Env as Envs}
use prog.Wp.{Calls, Loops, WpFn, Tables, Closed}
use types.Logic.{Logic, sem}
use contract.Monad.{fact}
use contract.Lifetimes.{Lfts}
use contract.Running.{Running, tables, tables_of}
use types.Kit.{Item, prop, Step, step, ‵, raw, some, later, ◌⊛◌, ◌$◌, ◌∵◌, !, qed, by, move, keep, drop, use0, use1, use2, split, join, pick, fsplit, fsplit3, fjoin, fjoin3, feq_i, suffices, frame, await, done}
use types.Run.{look, look_raw, init, store_raw, forget, stop, hop, from, load, unit_lit, of_opd, and_then, no_more, assigns, land, returns, enter, alloc1, alloc0, params1, pass1, pass0, free1, free0}
use types.SemTy.{Body}
use sound.WpLaws.{FmC, fm_of, WpFn-mono}
use denote.RattleType.{owns}
use denote.Laws.{Is, shows}
use denote.Memory.{mem, pointee}
use Rattle.std.specs.Borrow.{unit}
use denote.Ref.{MutBor, MutRef, mut_vals, mut_Tells}
use denote.Signature.{plain, mut_ref_to}
use denote.Steps.{opens, closes, owned, peeks, heard, nothing}
use denote.Struct.Steps.{spelt}
use denote.Triple.Entry.{Args, on_entry}
use denote.Triple.Spec.{Meets, triple_of}
use denote.Triple.Statement.{Contract, Triple}
use denote.Triple.Call.{calls_at}
use denote.Triple.Table.{entered, cited}
use denote.Triple.Clauses.{Ended, Clauses, at_exit, closing, ensured, lasts}
use denote.Triple.Walked.{Stays, stay_ref, walk_of, Goes-ref, Walks, ends_at, walked, walk_Meets}
use denote.Exit.{yes}
use Rattle.lent.specs.Datum.{Datum, row, vals}

pub holds : {M : Type 1} {𝓤 : Ura M} {𝓛 : Logic 𝓤} {K : Type 0} {Γ : List (Item 𝓤)} → K → {C P : SProp 𝓤} → ent 𝓤 (emp 𝓤) C → Step K 𝓛 Γ (prop P) Γ (prop (sep 𝓤 P C))
holds {𝓤 = 𝓤} t {C} {P} c = step (λ s. record { prf = via 𝓤 P s.prf (via 𝓤 (sep 𝓤 (emp 𝓤) P) (emp∗ 𝓤 P) (via 𝓤 (sep 𝓤 C P) (mono_l 𝓤 P c) (comm∗ 𝓤 C P))) })

module _ (P : Datum) where
  -- the contract of `g`
  abbrev pub by_value : Ended
  by_value = record { signature = record { lifetimes = 0; outlives = []; params = plain (λ _. row P) ∷ []; result = plain (λ _. row P) }; kept = (yes, tt) }

  -- that of `f`
  abbrev pub by_ref : Ended
  by_ref = record { signature = record { lifetimes = 1; outlives = []; params = mut_ref_to (0 ∷ []) tt (plain (λ _. row P)) ∷ []; result = plain (λ _. unit) }; kept = (yes, tt) }

  abbrev pub code : Name → Fn
  code g = record {
    lifetimes = 1;
    outlives = [];
    ty_params = [];
    givens = 0;
    params = 1;
    locals = local ty_unit value_local ∷ local (ty_ref (named 0) mut (pointee P.written)) value_local ∷ local P.ty value_local ∷ local P.ty value_local ∷ [];
    body = seq (assign (place 3 []) (rv_opd (copy (place 1 (deref P.ty ∷ [])))))
        (seq (call g (copy (place 3 []) ∷ []) (place 2 []))
        (seq (assign (place 1 (deref P.ty ∷ [])) (rv_opd (copy (place 2 []))))
        (seq (assign (place 0 []) (rv_opd opd_unit)) return)));
  }

  abbrev stayed : Stays by_ref.signature.params by_ref.kept
  stayed = (stay_ref (0 ∷ []) tt (plain (λ _. row P)), tt)

  module _ {M : Type 1} (𝓤 : Ura M) (Q : P.D → P.D → Type 0) where
    abbrev pub value_clauses : Clauses 𝓤 by_value
    value_clauses κs a = record { ghost = Unit {0}; requires = λ _. emp 𝓤; ensures = λ _ r e. fact 𝓤 (Q a.0 r) }

    abbrev pub Told : Clauses 𝓤 by_ref → Type 1
    Told F = (κs : Lfts 1) (a : Args by_ref.signature κs) (y : (F κs a).ghost) (r : P.D) → Q a.0.now r → ent 𝓤 (emp 𝓤) ((F κs a).ensures y tt (at_exit by_ref κs a (r, tt)))

    module _ (𝓛 : Logic 𝓤) where
      open 𝓛 use {H, A}

      abbrev pub Callee : Contract 𝓤
      Callee = triple_of 𝓛 by_value.signature (closing 𝓛 by_value value_clauses)

      got_of : (h r : P.D) → ent 𝓤 (ensured 𝓛 by_value value_clauses tt (h, tt) tt r) (fact 𝓤 (Q h r))
      got_of h r = ex_e 𝓤 _ (λ ws. snd∗ 𝓤 (sem 𝓛 (lasts by_value tt (h, tt) ws)) (fact 𝓤 (Q h r)))

      module _ (F : Clauses 𝓤 by_ref) (told : Told F) (κ : Lft) (q : Share) (b o : ℕ) (γ : GName) (h : P.D) (y : (F (κ, tt) (record { ref_ptr = (b, o); ghost_name = γ; now = h }, tt)).ghost) where
        abbrev x : MutBor P.D × Unit {0}
        x = (record { ref_ptr = (b, o); ghost_name = γ; now = h }, tt)

        abbrev at : List Val × Unit {0}
        at = (vptr b o ∷ [], tt)

        abbrev Post : Val → SProp 𝓤
        Post = (walk_of 𝓛 by_ref stayed F).post (((κ, tt), (q, tt), tt, x, at), y)

        abbrev to_callee : Callee.Ghost
        to_callee = ((tt, tt, tt, (h, tt), (vals P h, tt)), tt)

        goes_callee : ent 𝓤 (sep 𝓤 (sem 𝓛 ((row P).own_val h (vals P h))) (emp 𝓤)) (Callee.pre to_callee)
        goes_callee = qed 𝓛 (‵ ((row P).own_val h (vals P h)) ∷ raw (emp 𝓤) ∷ []) ∵ nothing ! $ move ! (1 ∷ 0 ∷ []) $ join ! $ nothing ! $ join ! $ frame ! $ done !

        exits : (r : P.D) → Q h r → ent 𝓤 (sep 𝓤 (A.obs γ ((row P).coded.code r)) (sep 𝓤 (A.bor κ (Body (mem (row P)) b o γ)) (A.lft κ q))) (Post vunit)
        exits r e =
            qed 𝓛 (‵ (fobs γ ((row P).coded.code r)) ∷ ‵ (fbor κ (Body (mem (row P)) b o γ)) ∷ ‵ (flft κ q) ∷ []) ∵
            suffices ! _ (ends_at 𝓛 by_ref stayed F (((κ, tt), (q, tt), tt, x, at), y) vunit tt (r, tt) (tt, tt)) $ holds ! (told (κ, tt) x y r e) $ nothing ! $ move ! (3 ∷ 0 ∷ []) $ join ! $
            frame ! $ feq_i ! (List Val) (vptr b o ∷ []) (vptr b o ∷ []) refl $ fjoin3 ! $ nothing ! $ move ! (1 ∷ 0 ∷ []) $ fjoin ! $
            feq_i ! (List Val) (vunit ∷ []) (vunit ∷ []) refl $ move ! (1 ∷ 0 ∷ []) $ done !

        module _ (C : Calls 𝓤 H) (Λ : Loops 𝓤 H) (fm : FmC 𝓤 H 𝓛.laws C) (g : Name) (known : Triple 𝓤 (C g) Callee) where
          walk : ent 𝓤 (on_entry 𝓛 by_ref.signature (κ, tt) (q, tt) x at) (WpFn 𝓤 H C Λ (code g) (vptr b o ∷ []) Post)
          walk =
              qed 𝓛 ((‵ (flft κ q) ⊛ ‵ ftrue) ∷ ‵ (owns (MutRef (named 0) κ (row P) ∷ []) x at) ∷ []) ∵ enter ! C Λ (code g) (vptr b o ∷ []) _ $
              alloc1 ! (λ l₀. alloc1 ! (λ l₁. alloc1 ! (λ l₂. alloc1 ! (λ l₃. alloc0 ! $ params1 ! $ pass1 ! (init ! 4 refl (tt, tt)) $ pass0 ! $
              -- the borrow is opened
              move ! (9 ∷ []) $ fsplit ! $ fsplit3 ! $ drop ! $ move ! (11 ∷ []) $ split ! $ move ! (2 ∷ 3 ∷ 0 ∷ []) $
              opens ! tt (row P) {h = h} b o (λ vs. spelt ! (row P) (Is (row P)) (shows 𝓛 (row P)) (vals P) P.tells full_share h vs b o $
              move ! (1 ∷ []) $ peeks ! (row P) (Is (row P)) (shows 𝓛 (row P)) h (vals P h) (λ was. move ! (1 ∷ 0 ∷ []) $
              -- [the cell; what h owns; the open borrow; obs; auth; true; true; _3; …; _2; …; _1; …; room for _0; …]
              assigns ! (of_opd ! (load ! (from ! (hop ! (look ! 11 refl) (stop !))) (look_raw ! 0 refl))) (from ! (stop !)) (init ! 7 refl (P.typed 𝓛 h _ was)) $
              use0 𝓛 (raw (emp 𝓤)) (id⊢ 𝓤 (emp 𝓤)) $ owned ! (row P) (Is (row P)) (P.makes 𝓛) h _ was $ use2 𝓛 (raw (Callee.pre to_callee)) goes_callee $
              calls_at ! fm Callee known to_callee (and_then ! (load ! (from ! (stop !)) (look ! 8 refl)) (no_more !)) (λ v.
              use1 𝓛 (later (some (λ (r : P.D). (‵ ftrue ⊛ ‵ ((row P).own_val r (v ∷ []))) ⊛ raw (ensured 𝓛 by_value value_clauses tt (h, tt) tt r)))) (id⊢ 𝓤 _) $ await ! tt $ pick ! (λ r.
              split ! $ move ! (1 ∷ []) $ use1 𝓛 (raw (fact 𝓤 (Q h r))) (got_of h r) $ heard ! (Q h r) (λ e. split ! $ drop ! $
              peeks ! (row P) (Is (row P)) (shows 𝓛 (row P)) r (v ∷ []) (λ is.
              -- [what r owns; the cell; what h owns; the open borrow; obs; auth; true; true; _3; …; _2; …; _1; …; room for _0; …]
              land ! (from ! (stop !)) (init ! 10 refl (P.typed 𝓛 r _ is)) $
              assigns ! (of_opd ! (load ! (from ! (stop !)) (look ! 10 refl))) (from ! (hop ! (look ! 12 refl) (stop !))) (store_raw ! 1 refl (P.typed 𝓛 r _ is)) $
              assigns ! (of_opd ! (unit_lit !)) (from ! (stop !)) (init ! 14 refl (tt, tt)) $
              move ! (1 ∷ 0 ∷ 3 ∷ 4 ∷ 5 ∷ []) $ closes ! tt (row P) r (v ∷ []) b o $
              -- [obs; the borrow; the token; what h owns; true; true; _3; …; _2; …; _1; …; _0; …]
              returns ! (look ! 12 refl) $ forget ! 6 refl $ forget ! 8 refl $ forget ! 10 refl $ forget ! 12 refl $
              move ! (12 ∷ 13 ∷ []) $ free1 ! $ move ! (10 ∷ 11 ∷ []) $ free1 ! $ move ! (8 ∷ 9 ∷ []) $ free1 ! $ move ! (6 ∷ 7 ∷ []) $ free1 ! $ free0 ! $
              keep ! (0 ∷ 1 ∷ 2 ∷ []) $ by ! (exits r e)))))))))))

      module _ (F : Clauses 𝓤 by_ref) (told : Told F) (𝓣 : Tables 𝓤 H) (g : Name) (known : Triple 𝓤 (𝓣.C g) Callee) where
        walks : Walks 𝓛 by_ref stayed (WpFn 𝓤 H 𝓣.C 𝓣.Λ (code g)) F
        walks = walked 𝓛 by_ref stayed F (WpFn 𝓤 H 𝓣.C 𝓣.Λ (code g)) (λ κs. (mut_vals, tt)) (λ κs. (mut_Tells (named 0) κs.0 (row P), tt))
            (λ κs qs bounds a y _. via 𝓤 _ (fst∗ 𝓤 _ ((F κs a).requires y)) (walk F told κs.0 qs.0 a.0.ref_ptr.0 a.0.ref_ptr.1 a.0.ghost_name a.0.now y 𝓣.C 𝓣.Λ (fm_of 𝓤 H 𝓛.laws 𝓣) g known))

        lent_meets : Meets 𝓛 by_ref.signature (WpFn 𝓤 H 𝓣.C 𝓣.Λ (code g)) (closing 𝓛 by_ref F)
        lent_meets = walk_Meets 𝓛 by_ref stayed (Goes-ref 𝓛 1 0 tt (plain (λ _. row P)), tt) F (WpFn 𝓤 H 𝓣.C 𝓣.Λ (code g)) (WpFn-mono 𝓤 H 𝓛.laws 𝓣 (code g)) walks

  -- the same of the routines: `f` is the key of the lent function, and `g` that of the function that it calls, in f's environment γ
  module _ {M : Type 1} {𝓤 : Ura M} (𝓛 : Logic 𝓤) (𝓜 : Model 𝓤 𝓛.H) (𝓡 : Running 𝓤 𝓛.H 𝓜) (Q : P.D → P.D → Type 0) (F : Clauses 𝓤 by_ref) (γ : Envs) (f g : Name) (r : Routine) where
    open 𝓛 use {H}

    pub lent : Told 𝓤 Q F → Closed 𝓤 H (tables 𝓤 H 𝓜 𝓡 γ).C (tables 𝓤 H 𝓜 𝓡 γ).Λ f (code g) → γ g ≡ r → Triple 𝓤 (𝓡.run r) (Callee 𝓤 Q 𝓛)
        → Meets 𝓛 by_ref.signature (𝓡.run (γ f)) (closing 𝓛 by_ref F)
    unfolding tables_of
    lent told unfolded calls met =
        entered 𝓤 H (triple_of 𝓛 by_ref.signature (closing 𝓛 by_ref F)) (tables 𝓤 H 𝓜 𝓡 γ).C (tables 𝓤 H 𝓜 𝓡 γ).Λ f (code g) unfolded
        (lent_meets 𝓤 Q 𝓛 F told (tables_of 𝓤 H 𝓜 (tables 𝓤 H 𝓜 𝓡 γ)) g (cited 𝓤 H (Callee 𝓤 Q 𝓛) 𝓜 𝓡 γ g r calls met))
