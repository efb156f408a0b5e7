-- The law of a loan: where `g` changes what lies behind a reference, `fn f(t: P) -> P { let mut u = t; g(&mut u); u }` changes a value in the same way.
--     Need, Ends   what both require of the value, and what both ensure of the value before and after
--     code         the MIR of `f`        loans     `f` meets its contract, where `g` meets its own
-- The local is lent for a lifetime that is made for the call, and is back, at its last value, once that lifetime is over.
use Rattle.std.specs.Prelude.{◌≡◌, refl, ℕ, [], ◌∷◌, List}
use seplogic.Ra.Ura.{Ura}
use base.Fraction.{full_share}
use mir.Syntax.{Callee as Name, Fn, named, erased, mut, ty_unit, ty_ref, place, copy, local, value_local, memory_slot, seq, assign, call, return, rv_opd, addr_of}
use mir.Val.{Val, vptr}
use base.Logic.{SProp, ent, sep, guard, id⊢}
use base.Fml.{GName, ftrue, fsep, flft, fat, flent}
use prog.Model.{Model}
use prog.Routine.{Routine, Env as Envs}
use prog.Wp.{Calls, Loops, WpFn, Tables, Closed}
use types.Logic.{Logic, sem}
use contract.Monad.{fact}
use contract.Running.{Running, tables, tables_of}
use types.Kit.{‵, raw, given, some, later, ◌⊛◌, ◌$◌, ◌∵◌, !, qed, by, move, keep, drop, use1, use3, split, join, pick, learn, check, fsplit, fjoin, fpick, fpack, suffices, frame, await, done}
use types.Run.{look, init, forget, stop, from, load, addr, of_opd, and_then, no_more, assigns, land, returns, enter, alloc1, alloc0, params1, pass1, pass0, free1, free0}
use types.SemTy.{Body}
use types.Tokens.{lft_new, lft_end}
use sound.WpLaws.{FmC, fm_of, WpFn-mono}
use denote.RattleType.{owns}
use denote.Laws.{Is, shows}
use denote.Memory.{mem, pointee, cell_at, part_of}
use denote.Plain.{Nothing-Lawful}
use Rattle.std.specs.Borrow.{unit}
use denote.Ref.{MutBor, MutRef}
use denote.Lend.{lends_ref, ref_back}
use denote.Signature.{plain}
use denote.Steps.{owned, peeks, heard, nothing}
use denote.Struct.Steps.{spelt}
use denote.Triple.Entry.{on_entry}
use denote.Triple.Spec.{Meets, triple_of}
use denote.Triple.Statement.{Contract, Triple}
use denote.Triple.Call.{calls_at}
use denote.Triple.Table.{entered, cited}
use denote.Triple.Clauses.{Clauses, closing, ensured, lasts}
use denote.Triple.Walked.{says, Stays, stay_dropped, walk_of, Goes-dropped, Walks, ends_at, walked, walk_Meets}
use denote.Exit.{yes}
use Rattle.lent.specs.Datum.{Datum, row, vals}
use Rattle.lent.specs.Lent.{by_value, by_ref}
use Rattle.lent.specs.Itself.{ref_clauses}

module _ (P : Datum) {M : Type 1} {𝓤 : Ura M} (𝓛 : Logic 𝓤) where
  -- the cell of a local, as what lies in memory, and back
  open 𝓛 use {H}

  lie : (h : P.D) → Is (row P) h (vals P h) → (b o : ℕ) → ent 𝓤 (H.at full_share P.ty b o (P.val h)) (sem 𝓛 ((mem (row P)).own_at h b o))
  unfolding part_of
  lie h is b o =
      qed 𝓛 (‵ (fat full_share P.ty b o (P.val h)) ∷ []) ∵ use1 𝓛 (‵ (cell_at full_share (row P).mir (vals P h) b o)) (𝓛.laws.at_raw full_share P.ty b o (P.val h)) $
      owned ! (row P) (Is (row P)) (P.makes 𝓛) h _ is $ move ! (1 ∷ 0 ∷ []) $ fjoin ! $ fpack ! (List Val) (λ us. fsep (cell_at full_share (row P).mir us b o) ((row P).own_val h us)) (vals P h) $ done !

  unlie : (h : P.D) (b o : ℕ) → ent 𝓤 (sem 𝓛 ((mem (row P)).own_at h b o)) (guard 𝓤 (Is (row P) h (vals P h)) (H.at full_share P.ty b o (P.val h)))
  unfolding part_of
  unlie h b o =
      qed 𝓛 (‵ ((mem (row P)).own_at h b o) ∷ []) ∵ fpick ! (λ vs. fsplit ! $ spelt ! (row P) (Is (row P)) (shows 𝓛 (row P)) (vals P) P.tells full_share h vs b o $
      move ! (1 ∷ []) $ peeks ! (row P) (Is (row P)) (shows 𝓛 (row P)) h (vals P h) (λ is. drop ! $ check ! is $ use1 𝓛 (‵ (fat full_share P.ty b o (P.val h))) (𝓛.laws.raw_at full_share P.ty b o (P.val h)) $ done !))

module _ (P : Datum) where
  abbrev pub value_clauses : {M : Type 1} (𝓤 : Ura M) → (P.D → Type 0) → (P.D → P.D → Type 0) → Clauses 𝓤 (by_value P)
  value_clauses 𝓤 Need Ends κs a = record { ghost = Unit {0}; requires = λ _. fact 𝓤 (Need a.0); ensures = λ _ r e. fact 𝓤 (Ends a.0 r) }

  abbrev pub code : Name → Fn
  code g = record {
    lifetimes = 0;
    outlives = [];
    ty_params = [];
    givens = 0;
    params = 1;
    locals = local P.ty value_local ∷ local P.ty value_local ∷ local P.ty memory_slot ∷ local ty_unit value_local ∷ local (ty_ref erased mut (pointee P.written)) value_local ∷ [];
    body = seq (assign (place 2 []) (rv_opd (copy (place 1 []))))
        (seq (assign (place 4 []) (addr_of (place 2 [])))
        (seq (call g (copy (place 4 []) ∷ []) (place 3 []))
        (seq (assign (place 0 []) (rv_opd (copy (place 2 [])))) return)));
  }

  abbrev stayed : Stays (by_value P).signature.params (by_value P).kept
  stayed = (stay_dropped (plain (λ _. row P)) yes, tt)

  module _ {M : Type 1} {𝓤 : Ura M} (Need : P.D → Type 0) (Ends : P.D → P.D → Type 0) (𝓛 : Logic 𝓤) where
    open 𝓛 use {H, A}

    abbrev pub Callee : Contract 𝓤
    Callee = triple_of 𝓛 (by_ref P).signature (closing 𝓛 (by_ref P) (ref_clauses P 𝓤 Need Ends))

    module _ (h : P.D) (h-is : Is (row P) h (vals P h)) where
      abbrev Post : Val → SProp 𝓤
      Post = (walk_of 𝓛 (by_value P) stayed (value_clauses 𝓤 Need Ends)).post ((tt, tt, tt, (h, tt), (vals P h, tt)), tt)

      exits : (r : P.D) → Ends h r → Is (row P) r (vals P r) → ent 𝓤 (sem 𝓛 ftrue) (Post (P.val r))
      exits r e is =
          qed 𝓛 (‵ ftrue ∷ []) ∵ suffices ! _ (ends_at 𝓛 (by_value P) stayed (value_clauses 𝓤 Need Ends) ((tt, tt, tt, (h, tt), (vals P h, tt)), tt) (P.val r) r (tt, tt) (tt, tt)) $ says ! e $
          nothing ! $ fjoin ! $ owned ! (row P) (Is (row P)) (P.makes 𝓛) r _ is $ move ! (1 ∷ 0 ∷ []) $ nothing ! $ done !

      -- the reference to the local at l, for the lifetime α and under the name γ
      abbrev ref : ℕ → GName → MutBor P.D
      ref l γ = record { ref_ptr = (l, 0); ghost_name = γ; now = h }

      abbrev to_callee : ℕ → ℕ → GName → Callee.Ghost
      to_callee α l γ = (((α ∷ [], tt), (full_share, tt), tt, (ref l γ, tt), (vptr l 0 ∷ [], tt)), tt)

      goes_callee : (α l : ℕ) (γ : GName) → ent 𝓤 (sep 𝓤 (A.lft (α ∷ []) full_share) (sep 𝓤 (sem 𝓛 ((MutRef (named 0) (α ∷ []) (row P)).own_val (ref l γ) (vptr l 0 ∷ []))) (fact 𝓤 (Need h)))) (Callee.pre (to_callee α l γ))
      goes_callee α l γ =
          qed 𝓛 (‵ (flft (α ∷ []) full_share) ∷ ‵ ((MutRef (named 0) (α ∷ []) (row P)).own_val (ref l γ) (vptr l 0 ∷ [])) ∷ raw (fact 𝓤 (Need h)) ∷ []) ∵ nothing ! $ move ! (2 ∷ 0 ∷ []) $ fjoin ! $
          nothing ! $ move ! (2 ∷ 0 ∷ []) $ join ! $ join ! $ frame ! $ done !

      module _ (C : Calls 𝓤 H) (Λ : Loops 𝓤 H) (fm : FmC 𝓤 H 𝓛.laws C) (g : Name) (known : Triple 𝓤 (C g) Callee) where
        walk : ent 𝓤 (sep 𝓤 (on_entry 𝓛 (by_value P).signature tt tt (h, tt) (vals P h, tt)) (fact 𝓤 (Need h))) (WpFn 𝓤 H C Λ (code g) (P.val h ∷ []) Post)
        walk =
            qed 𝓛 ((‵ ftrue ⊛ ‵ (owns (row P ∷ []) (h, tt) (vals P h, tt))) ∷ raw (fact 𝓤 (Need h)) ∷ []) ∵ split ! $ enter ! C Λ (code g) (P.val h ∷ []) _ $
            alloc1 ! (λ l₀. alloc1 ! (λ l₁. alloc1 ! (λ l₂. alloc1 ! (λ l₃. alloc1 ! (λ l₄. alloc0 ! $ params1 ! $ pass1 ! (init ! 6 refl (P.typed 𝓛 h _ h-is)) $ pass0 ! $
            assigns ! (of_opd ! (load ! (from ! (stop !)) (look ! 6 refl))) (from ! (stop !)) (init ! 4 refl (P.typed 𝓛 h _ h-is)) $
            assigns ! (addr ! (from ! (stop !))) (from ! (stop !)) (init ! 0 refl (tt, tt)) $
            -- the local is lent, for a lifetime α
            move ! (4 ∷ []) $ use1 𝓛 (‵ ((mem (row P)).own_at h l₂ 0)) (lie P 𝓛 h h-is l₂ 0) $ lft_new ! tt (λ α. move ! (1 ∷ []) $
            use1 𝓛 (later (some (λ (γ : GName). ‵ ((MutRef (named 0) (α ∷ []) (row P)).own_val (ref l₂ γ) (vptr l₂ 0 ∷ [])) ⊛ ‵ (flent (α ∷ []) (Body (mem (row P)) l₂ 0 γ))))) (lends_ref 𝓛 (row P) (named 0) (α ∷ []) h l₂ 0) $ await ! tt $ pick ! (λ γ. split ! $
            -- [the reference; the lender's part; the token; _4; …; _3; …; that _2 dies; _1; …; room for _0; …; true; what t owns; Need]
            move ! (2 ∷ 0 ∷ 14 ∷ []) $ use3 𝓛 (raw (Callee.pre (to_callee α l₂ γ))) (goes_callee α l₂ γ) $
            calls_at ! fm Callee known (to_callee α l₂ γ) (and_then ! (load ! (from ! (stop !)) (look ! 2 refl)) (no_more !)) (λ v.
            use1 𝓛 (later (some (λ (u : Unit {0}). ((‵ (flft (α ∷ []) full_share) ⊛ ‵ ftrue) ⊛ ‵ (unit.own_val u (v ∷ []))) ⊛ raw (ensured 𝓛 (by_ref P) (ref_clauses P 𝓤 Need Ends) (α ∷ [], tt) (ref l₂ γ, tt) tt u)))) (id⊢ 𝓤 _) $ await ! tt $ pick ! (λ u.
            split ! $ move ! (1 ∷ []) $ use1 𝓛 (some (λ (ws : P.D × Unit {0}). ‵ (lasts (by_ref P) (α ∷ [], tt) (ref l₂ γ, tt) ws) ⊛ raw (fact 𝓤 (Ends h ws.0)))) (id⊢ 𝓤 _) $ pick ! (λ ws.
            split ! $ move ! (1 ∷ []) $ heard ! (Ends h ws.0) (λ e. fsplit ! $ fsplit ! $ move ! (1 ∷ []) $ drop ! $ move ! (2 ∷ []) $ split ! $ move ! (1 ∷ []) $
            peeks ! unit (Is unit) (shows 𝓛 unit) u (v ∷ []) (λ is. land ! (from ! (stop !)) (init ! 7 refl ((Nothing-Lawful 𝓛).typed u _ is).0) $
            -- the lifetime is ended, and the local is back at its last value
            move ! (1 ∷ []) $ split ! $ lft_end ! tt $ move ! (0 ∷ 5 ∷ 3 ∷ []) $ use3 𝓛 (later (‵ ((mem (row P)).own_at ws.0 l₂ 0))) (ref_back 𝓛 (row P) (α ∷ []) γ ws.0 l₂ 0) $ await ! tt $
            use1 𝓛 (given (Is (row P) ws.0 (vals P ws.0)) (‵ (fat full_share P.ty l₂ 0 (P.val ws.0)))) (unlie P 𝓛 ws.0 l₂ 0) $ learn ! (λ back.
            -- [_2; true; (); true; _4; …; _3; …; that _2 dies; _1; …; room for _0; …]
            assigns ! (of_opd ! (load ! (from ! (stop !)) (look ! 0 refl))) (from ! (stop !)) (init ! 11 refl (P.typed 𝓛 ws.0 _ back)) $
            returns ! (look ! 11 refl) $ forget ! 0 refl $ forget ! 4 refl $ forget ! 6 refl $ forget ! 9 refl $ forget ! 11 refl $
            move ! (11 ∷ 12 ∷ []) $ free1 ! $ move ! (9 ∷ 10 ∷ []) $ free1 ! $ move ! (0 ∷ 8 ∷ []) $ free1 ! $ move ! (5 ∷ 6 ∷ []) $ free1 ! $ move ! (3 ∷ 4 ∷ []) $ free1 ! $ free0 ! $
            keep ! (0 ∷ []) $ by ! (exits ws.0 e back))))))))))))))

    module _ (𝓣 : Tables 𝓤 H) (g : Name) (known : Triple 𝓤 (𝓣.C g) Callee) where
      walks : Walks 𝓛 (by_value P) stayed (WpFn 𝓤 H 𝓣.C 𝓣.Λ (code g)) (value_clauses 𝓤 Need Ends)
      walks = walked 𝓛 (by_value P) stayed (value_clauses 𝓤 Need Ends) (WpFn 𝓤 H 𝓣.C 𝓣.Λ (code g)) (λ κs. (vals P, tt)) (λ κs. (P.tells, tt))
          (λ κs qs bounds a _ are. walk a.0 are.0 𝓣.C 𝓣.Λ (fm_of 𝓤 H 𝓛.laws 𝓣) g known)

      loans_meets : Meets 𝓛 (by_value P).signature (WpFn 𝓤 H 𝓣.C 𝓣.Λ (code g)) (closing 𝓛 (by_value P) (value_clauses 𝓤 Need Ends))
      loans_meets = walk_Meets 𝓛 (by_value P) stayed (Goes-dropped 𝓛 0 (plain (λ _. row P)) yes (λ κs x f. refl), tt) (value_clauses 𝓤 Need Ends) (WpFn 𝓤 H 𝓣.C 𝓣.Λ (code g)) (WpFn-mono 𝓤 H 𝓛.laws 𝓣 (code g)) walks

  -- the same of the routines: `f` is the key of the function that lends, and `g` that of the function that it calls, in f's environment γ
  module _ {M : Type 1} {𝓤 : Ura M} (𝓛 : Logic 𝓤) (𝓜 : Model 𝓤 𝓛.H) (𝓡 : Running 𝓤 𝓛.H 𝓜) (Need : P.D → Type 0) (Ends : P.D → P.D → Type 0) (γ : Envs) (f g : Name) (r : Routine) where
    open 𝓛 use {H}

    pub loans : Closed 𝓤 H (tables 𝓤 H 𝓜 𝓡 γ).C (tables 𝓤 H 𝓜 𝓡 γ).Λ f (code g) → γ g ≡ r → Triple 𝓤 (𝓡.run r) (Callee Need Ends 𝓛)
        → Meets 𝓛 (by_value P).signature (𝓡.run (γ f)) (closing 𝓛 (by_value P) (value_clauses 𝓤 Need Ends))
    unfolding tables_of
    loans unfolded calls met =
        entered 𝓤 H (triple_of 𝓛 (by_value P).signature (closing 𝓛 (by_value P) (value_clauses 𝓤 Need Ends))) (tables 𝓤 H 𝓜 𝓡 γ).C (tables 𝓤 H 𝓜 𝓡 γ).Λ f (code g) unfolded
        (loans_meets Need Ends 𝓛 (tables_of 𝓤 H 𝓜 (tables 𝓤 H 𝓜 𝓡 γ)) g (cited 𝓤 H (Callee Need Ends 𝓛) 𝓜 𝓡 γ g r calls met))
