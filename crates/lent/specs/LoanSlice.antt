-- The law of a loan: where `g` changes what lies in a slice, `fn f(s: [P; n], x: X) -> [P; n] { let mut u = s; g(&mut u, x); u }` changes an array in the same way. So whoever calls `f` needs no walk.
--     change           what `g`, which requires nothing, ensures: the last elements are `change x` of the first
--     Told F           F are the clauses of `f`: where the result is `change x` of the array, what they ensure holds
--     code n           the MIR of `f`        loans        `f` meets its contract, where `g` meets its own
-- The local is taken apart into its elements and lent for a lifetime that is made for the call. It is back, at its last elements, once that lifetime is over.
use Rattle.std.specs.Prelude.{◌≡◌, refl, ℕ, ◌^◌, [], ◌∷◌, List, T, ltb, length}
use Rattle.std.proofs.Common.{sym, subst}
use seplogic.Ra.Ura.{Ura}
use base.Fraction.{full_share}
use mir.Syntax.{Callee as Name, Fn, Ty, named, erased, mut, w64, ty_unit, ty_ref, place, copy, int, local, value_local, memory_slot, seq, assign, call, return, rv_opd, addr_of, aggregate}
use mir.Val.{Val}
use base.Logic.{SProp, ent, sep, guard, emp, via, fst∗, id⊢}
use base.Fml.{GName, ftrue, fsep, flft, fat, flent}
use prog.Model.{Model}
use prog.Routine.{Routine, Env as Envs}
use prog.Wp.{Calls, Loops, WpFn, Tables, Closed}
use types.Logic.{Logic, sem}
use contract.Monad.{fact}
use contract.Lifetimes.{Lfts}
use contract.Running.{Running, tables, tables_of}
use types.Kit.{‵, raw, given, some, later, ◌⊛◌, ◌$◌, ◌∵◌, !, qed, by, move, keep, drop, use1, use2, use3, split, join, pick, learn, check, rewrite, fsplit, fjoin, fpick, fpack, suffices, frame, await, done}
use types.Run.{look, init, forget, stop, from, load, lit, addr, of_opd, and_then, no_more, assigns, land, returns, enter, alloc1, alloc0, params1, pass1, pass0, free1, free0}
use types.Part.{agg}
use types.SemTy.{Arr, cells}
use types.Share.{arr_parts}
use types.Tokens.{lft_new, lft_end}
use sound.WpLaws.{FmC, fm_of, WpFn-mono}
use denote.RattleType.{owns}
use denote.Laws.{Is, shows}
use denote.Memory.{mem, pointee, shares, cell_at, part_of}
use denote.ArrayMemory.{Array-apart, Array-whole}
use denote.Plain.{Nothing-Lawful}
use Rattle.std.specs.Borrow.{unit, MutBor}
use denote.Slice.{slice_ty, slice_val, MutSlice, Room}
use denote.Lend.{Held, lends_slice, slice_back}
use denote.Index.{row as row_of, whole_in, whole_out}
use denote.Signature.{plain, mut_slice_of}
use denote.Steps.{owned, peeks, heard, nothing}
use denote.Struct.Steps.{spelt}
use denote.Triple.Entry.{Args, on_entry}
use denote.Triple.Spec.{Meets, triple_of}
use denote.Triple.Statement.{Contract, Triple}
use denote.Triple.Call.{calls_at}
use denote.Triple.Table.{entered, cited}
use denote.Triple.Clauses.{Ended, Clauses, at_exit, closing, ensured, lasts}
use denote.Triple.Walked.{Stays, stay_dropped, walk_of, Goes-dropped, Walks, ends_at, walked, walk_Meets}
use denote.Exit.{yes}
use Rattle.lent.specs.Datum.{Datum, row, vals, array}
use Rattle.lent.specs.Lent.{holds}

module _ (P : Datum) {M : Type 1} {𝓤 : Ura M} (𝓛 : Logic 𝓤) where
  -- the cell of a local, as what lies in memory, and back
  open 𝓛 use {H}

  lie : (h : P.D) → Is (row P) h (vals P h) → (b o : ℕ) → ent 𝓤 (H.at full_share P.ty b o (P.val h)) (sem 𝓛 ((mem (row P)).own_at h b o))
  unfolding part_of
  lie h is b o =
      qed 𝓛 (‵ (fat full_share P.ty b o (P.val h)) ∷ []) ∵ use1 𝓛 (‵ (cell_at full_share (row P).mir (vals P h) b o)) (𝓛.laws.at_raw full_share P.ty b o (P.val h)) $
      owned ! (row P) (Is (row P)) (P.makes 𝓛) h _ is $ move ! (1 ∷ 0 ∷ []) $ fjoin ! $ fpack ! (List Val) (λ us. fsep (cell_at full_share (row P).mir us b o) ((row P).own_val h us)) (vals P h) $ done !

  unlie : (h : P.D) (b o : ℕ) → ent 𝓤 (sem 𝓛 ((mem (row P)).own_at h b o)) (guard 𝓤 (Is (row P) h (vals P h)) (H.at full_share P.ty b o (P.val h)))
  unfolding part_of
  unlie h b o =
      qed 𝓛 (‵ ((mem (row P)).own_at h b o) ∷ []) ∵ fpick ! (λ vs. fsplit ! $ spelt ! (row P) (Is (row P)) (shows 𝓛 (row P)) (vals P) P.tells full_share h vs b o $
      move ! (1 ∷ []) $ peeks ! (row P) (Is (row P)) (shows 𝓛 (row P)) h (vals P h) (λ is. drop ! $ check ! is $ use1 𝓛 (‵ (fat full_share P.ty b o (P.val h))) (𝓛.laws.raw_at full_share P.ty b o (P.val h)) $ done !))

module _ (P X : Datum) where
  -- the contract of `g`
  abbrev by-slice : Ended
  by-slice = record { signature = record { lifetimes = 1; outlives = []; params = mut_slice_of (0 ∷ []) tt (plain (λ _. row P)) ∷ plain (λ _. row X) ∷ []; result = plain (λ _. unit) }; kept = (yes, (yes, tt)) }

  module _ (n : ℕ) where
    abbrev all : Datum
    all = array P n

    -- that of `f`
    abbrev by_value : Ended
    by_value = record { signature = record { lifetimes = 0; outlives = []; params = plain (λ _. row all) ∷ plain (λ _. row X) ∷ []; result = plain (λ _. row all) }; kept = (yes, (yes, tt)) }

    abbrev slice : Ty
    slice = slice_ty (ty_ref erased mut (pointee P.written))

    abbrev pub code : Name → Fn
    code g = record {
      lifetimes = 0;
      outlives = [];
      ty_params = [];
      givens = 0;
      params = 2;
      locals = local all.ty value_local ∷ local all.ty value_local ∷ local X.ty value_local ∷ local all.ty memory_slot ∷ local ty_unit value_local ∷ local (ty_ref erased mut (pointee all.written)) value_local ∷ local slice value_local ∷ [];
      body = seq (assign (place 3 []) (rv_opd (copy (place 1 []))))
          (seq (assign (place 5 []) (addr_of (place 3 [])))
          (seq (assign (place 6 []) (aggregate (copy (place 5 []) ∷ int w64 n ∷ [])))
          (seq (call g (copy (place 6 []) ∷ copy (place 2 []) ∷ []) (place 4 []))
          (seq (assign (place 0 []) (rv_opd (copy (place 3 [])))) return))));
    }

    abbrev stayed : Stays by_value.signature.params by_value.kept
    stayed = (stay_dropped (plain (λ _. row all)) yes, (stay_dropped (plain (λ _. row X)) yes, tt))

    module _ {M : Type 1} (𝓤 : Ura M) (change : X.D → List P.D → List P.D) where
      abbrev pub slice-clauses : Clauses 𝓤 by-slice
      slice-clauses κs a = record { ghost = Unit {0}; requires = λ _. emp 𝓤; ensures = λ _ r e. fact 𝓤 (e.0.now ≡ change a.1.0 a.0.now) }

      abbrev pub Told : Clauses 𝓤 by_value → Type 1
      Told F = (κs : Lfts 0) (a : Args by_value.signature κs) (y : (F κs a).ghost) (r : List P.D) → r ≡ change a.1.0 a.0 → ent 𝓤 (emp 𝓤) ((F κs a).ensures y r (at_exit by_value κs a (tt, (tt, tt))))

      module _ (𝓛 : Logic 𝓤) where
        open 𝓛 use {H, A}

        abbrev pub Callee : Contract 𝓤
        Callee = triple_of 𝓛 by-slice.signature (closing 𝓛 by-slice slice-clauses)

        module _ (F : Clauses 𝓤 by_value) (told : Told F) (n-lit : T (ltb n (2 ^ 64))) (has_room : Room (row P) n)
            (xs : List P.D) (x : X.D) (long : length xs ≡ n) (xs-is : Is (row all) xs (vals all xs)) (x-is : Is (row X) x (vals X x)) (y : (F tt (xs, (x, tt))).ghost) where
          abbrev arg : List P.D × (X.D × Unit {0})
          arg = (xs, (x, tt))

          abbrev at : List Val × (List Val × Unit {0})
          at = (vals all xs, (vals X x, tt))

          abbrev Post : Val → SProp 𝓤
          Post = (walk_of 𝓛 by_value stayed F).post ((tt, tt, tt, arg, at), y)

          exits : (r : List P.D) → r ≡ change x xs → Is (row all) r (vals all r) → ent 𝓤 (sem 𝓛 ftrue) (Post (all.val r))
          exits r e is =
              qed 𝓛 (‵ ftrue ∷ []) ∵ suffices ! _ (ends_at 𝓛 by_value stayed F ((tt, tt, tt, arg, at), y) (all.val r) r (tt, (tt, tt)) (tt, (tt, tt))) $ holds ! (told tt arg y r e) $
              nothing ! $ fjoin ! $ nothing ! $ fjoin ! $ owned ! (row all) (Is (row all)) (all.makes 𝓛) r _ is $ move ! (1 ∷ 0 ∷ []) $ nothing ! $ done !

          -- the slice reference to the local at l, for the lifetime α and under the name γ
          abbrev ref : ℕ → GName → MutBor (List P.D)
          ref l γ = record { ref_ptr = (l, 0); ghost_name = γ; now = xs }

          abbrev at_ref : ℕ → List Val
          at_ref l = slice_val (l, 0) (length xs) ∷ []

          abbrev to_callee : ℕ → ℕ → GName → Callee.Ghost
          to_callee α l γ = (((α ∷ [], tt), (full_share, tt), tt, (ref l γ, (x, tt)), (at_ref l, (vals X x, tt))), tt)

          goes_callee : (α l : ℕ) (γ : GName) → ent 𝓤 (sep 𝓤 (A.lft (α ∷ []) full_share) (sem 𝓛 ((MutSlice (named 0) (α ∷ []) (row P)).own_val (ref l γ) (at_ref l)))) (Callee.pre (to_callee α l γ))
          goes_callee α l γ =
              qed 𝓛 (‵ (flft (α ∷ []) full_share) ∷ ‵ ((MutSlice (named 0) (α ∷ []) (row P)).own_val (ref l γ) (at_ref l)) ∷ []) ∵ nothing ! $ owned ! (row X) (Is (row X)) (X.makes 𝓛) x _ x-is $ fjoin ! $ move ! (2 ∷ 0 ∷ []) $ fjoin ! $
              nothing ! $ move ! (2 ∷ 0 ∷ []) $ join ! $ join ! $ frame ! $ done !

          module _ (C : Calls 𝓤 H) (Λ : Loops 𝓤 H) (fm : FmC 𝓤 H 𝓛.laws C) (g : Name) (known : Triple 𝓤 (C g) Callee) where
            walk : ent 𝓤 (on_entry 𝓛 by_value.signature tt tt arg at) (WpFn 𝓤 H C Λ (code g) (all.val xs ∷ X.val x ∷ []) Post)
            walk =
                qed 𝓛 (‵ ftrue ∷ ‵ (owns (row all ∷ row X ∷ []) arg at) ∷ []) ∵ enter ! C Λ (code g) (all.val xs ∷ X.val x ∷ []) _ $
                alloc1 ! (λ l₀. alloc1 ! (λ l₁. alloc1 ! (λ l₂. alloc1 ! (λ l₃. alloc1 ! (λ l₄. alloc1 ! (λ l₅. alloc1 ! (λ l₆. alloc0 ! $ params1 ! $
                pass1 ! (init ! 10 refl (all.typed 𝓛 xs _ xs-is)) $ pass1 ! (init ! 8 refl (X.typed 𝓛 x _ x-is)) $ pass0 ! $
                assigns ! (of_opd ! (load ! (from ! (stop !)) (look ! 10 refl))) (from ! (stop !)) (init ! 6 refl (all.typed 𝓛 xs _ xs-is)) $
                assigns ! (addr ! (from ! (stop !))) (from ! (stop !)) (init ! 2 refl (tt, tt)) $
                assigns ! (agg ! (and_then ! (load ! (from ! (stop !)) (look ! 2 refl)) (and_then ! (lit ! n-lit) (no_more !)))) (from ! (stop !)) (init ! 0 refl (tt, (tt, (record { fits = has_room.0 }, tt)))) $
                rewrite ! 0 (λ (m : ℕ). ‵ (fat full_share slice l₆ 0 (slice_val (l₃, 0) m))) (sym long) refl $
                -- the local is taken apart, and lent for a lifetime α
                move ! (6 ∷ []) $ use1 𝓛 (‵ ((mem (row all)).own_at xs l₃ 0)) (lie all 𝓛 xs xs-is l₃ 0) $ use1 𝓛 (‵ ((arr_parts (shares (row P)) n).part full_share xs l₃ 0)) (Array-apart 𝓛 (row P) full_share tt n xs l₃ 0) $
                fsplit ! $ drop ! $ use1 𝓛 (‵ (cells (mem (row P)) xs l₃ 0)) (whole_in 𝓛 (row P) xs l₃ 0) $ lft_new ! tt (λ α. move ! (1 ∷ []) $
                use1 𝓛 (later (some (λ (γ : GName). ‵ ((MutSlice (named 0) (α ∷ []) (row P)).own_val (ref l₃ γ) (at_ref l₃)) ⊛ ‵ (flent (α ∷ []) (Held (row P) (length xs) l₃ 0 γ)))))
                (lends_slice 𝓛 (row P) (named 0) (α ∷ []) xs l₃ 0 (subst (Room (row P)) (sym long) has_room)) $ await ! tt $ pick ! (λ γ. split ! $
                -- [the reference; the lender's part; the token; _6; …; _5; …; _4; …; that _3 dies; _2; …; _1; …; room for _0; …]
                move ! (2 ∷ 0 ∷ []) $ use2 𝓛 (raw (Callee.pre (to_callee α l₃ γ))) (goes_callee α l₃ γ) $
                calls_at ! fm Callee known (to_callee α l₃ γ) (and_then ! (load ! (from ! (stop !)) (look ! 2 refl)) (and_then ! (load ! (from ! (stop !)) (look ! 9 refl)) (no_more !))) (λ v.
                use1 𝓛 (later (some (λ (u : Unit {0}). ((‵ (flft (α ∷ []) full_share) ⊛ ‵ ftrue) ⊛ ‵ (unit.own_val u (v ∷ []))) ⊛ raw (ensured 𝓛 by-slice slice-clauses (α ∷ [], tt) (ref l₃ γ, (x, tt)) tt u)))) (id⊢ 𝓤 _) $ await ! tt $ pick ! (λ u.
                split ! $ move ! (1 ∷ []) $ use1 𝓛 (some (λ (ws : List P.D × (Unit {0} × Unit {0})). ‵ (lasts by-slice (α ∷ [], tt) (ref l₃ γ, (x, tt)) ws) ⊛ raw (fact 𝓤 (ws.0 ≡ change x xs)))) (id⊢ 𝓤 _) $ pick ! (λ ws.
                split ! $ move ! (1 ∷ []) $ heard ! (ws.0 ≡ change x xs) (λ e. fsplit ! $ fsplit ! $ move ! (1 ∷ []) $ drop ! $ move ! (2 ∷ []) $ split ! $ move ! (1 ∷ []) $
                peeks ! unit (Is unit) (shows 𝓛 unit) u (v ∷ []) (λ is. land ! (from ! (stop !)) (init ! 9 refl ((Nothing-Lawful 𝓛).typed u _ is).0) $
                -- the lifetime is ended, and the local is back at its last elements
                move ! (1 ∷ []) $ split ! $ lft_end ! tt $ move ! (3 ∷ []) $ fsplit ! $ move ! (2 ∷ 6 ∷ 0 ∷ []) $
                use3 𝓛 (later (‵ ((Arr (mem (row P)) (length xs)).own_at ws.0 l₃ 0))) (slice_back 𝓛 (row P) (α ∷ []) γ ws.0 (length xs) l₃ 0) $ await ! tt $
                rewrite ! 0 (λ (m : ℕ). ‵ ((Arr (mem (row P)) m).own_at ws.0 l₃ 0)) long refl $ fsplit ! $ move ! (1 ∷ []) $ use1 𝓛 (‵ (row_of (row P) full_share ws.0 l₃ 0)) (whole_out 𝓛 (row P) ws.0 l₃ 0) $
                move ! (1 ∷ 0 ∷ []) $ fjoin ! $ use1 𝓛 (‵ ((mem (row all)).own_at ws.0 l₃ 0)) (Array-whole 𝓛 (row P) full_share n ws.0 l₃ 0) $
                use1 𝓛 (given (Is (row all) ws.0 (vals all ws.0)) (‵ (fat full_share all.ty l₃ 0 (all.val ws.0)))) (unlie all 𝓛 ws.0 l₃ 0) $ learn ! (λ back.
                -- [_3; as many; true; (); true; _6; …; _5; …; _4; …; that _3 dies; _2; …; _1; …; room for _0; …]
                assigns ! (of_opd ! (load ! (from ! (stop !)) (look ! 0 refl))) (from ! (stop !)) (init ! 16 refl (all.typed 𝓛 ws.0 _ back)) $
                returns ! (look ! 16 refl) $ forget ! 0 refl $ forget ! 5 refl $ forget ! 7 refl $ forget ! 9 refl $ forget ! 12 refl $ forget ! 14 refl $ forget ! 16 refl $
                move ! (16 ∷ 17 ∷ []) $ free1 ! $ move ! (14 ∷ 15 ∷ []) $ free1 ! $ move ! (12 ∷ 13 ∷ []) $ free1 ! $ move ! (0 ∷ 11 ∷ []) $ free1 ! $ move ! (8 ∷ 9 ∷ []) $ free1 ! $ move ! (6 ∷ 7 ∷ []) $ free1 ! $ move ! (4 ∷ 5 ∷ []) $ free1 ! $ free0 ! $
                keep ! (1 ∷ []) $ by ! (exits ws.0 e back))))))))))))))))

        module _ (F : Clauses 𝓤 by_value) (told : Told F) (n-lit : T (ltb n (2 ^ 64))) (has_room : Room (row P) n) (𝓣 : Tables 𝓤 H) (g : Name) (known : Triple 𝓤 (𝓣.C g) Callee) where
          walks : Walks 𝓛 by_value stayed (WpFn 𝓤 H 𝓣.C 𝓣.Λ (code g)) F
          walks = walked 𝓛 by_value stayed F (WpFn 𝓤 H 𝓣.C 𝓣.Λ (code g)) (λ κs. (vals all, (vals X, tt))) (λ κs. (all.tells, (X.tells, tt)))
              (λ κs qs bounds a y are. via 𝓤 _ (fst∗ 𝓤 _ ((F κs a).requires y)) (walk F told n-lit has_room a.0 a.1.0 are.0.1.0.1 are.0 are.1.0 y 𝓣.C 𝓣.Λ (fm_of 𝓤 H 𝓛.laws 𝓣) g known))

          loans_meets : Meets 𝓛 by_value.signature (WpFn 𝓤 H 𝓣.C 𝓣.Λ (code g)) (closing 𝓛 by_value F)
          loans_meets = walk_Meets 𝓛 by_value stayed (Goes-dropped 𝓛 0 (plain (λ _. row all)) yes (λ κs x f. refl), (Goes-dropped 𝓛 0 (plain (λ _. row X)) yes (λ κs x f. refl), tt))
              F (WpFn 𝓤 H 𝓣.C 𝓣.Λ (code g)) (WpFn-mono 𝓤 H 𝓛.laws 𝓣 (code g)) walks

    -- the same of the routines: `f` is the key of the function that lends, and `g` that of the function that it calls, in f's environment γ
    module _ {M : Type 1} {𝓤 : Ura M} (𝓛 : Logic 𝓤) (𝓜 : Model 𝓤 𝓛.H) (𝓡 : Running 𝓤 𝓛.H 𝓜) (change : X.D → List P.D → List P.D) (F : Clauses 𝓤 by_value)
        (n-lit : T (ltb n (2 ^ 64))) (has_room : Room (row P) n) (γ : Envs) (f g : Name) (r : Routine) where
      open 𝓛 use {H}

      pub loans : Told 𝓤 change F → Closed 𝓤 H (tables 𝓤 H 𝓜 𝓡 γ).C (tables 𝓤 H 𝓜 𝓡 γ).Λ f (code g) → γ g ≡ r → Triple 𝓤 (𝓡.run r) (Callee 𝓤 change 𝓛)
          → Meets 𝓛 by_value.signature (𝓡.run (γ f)) (closing 𝓛 by_value F)
      unfolding tables_of
      loans told unfolded calls met =
          entered 𝓤 H (triple_of 𝓛 by_value.signature (closing 𝓛 by_value F)) (tables 𝓤 H 𝓜 𝓡 γ).C (tables 𝓤 H 𝓜 𝓡 γ).Λ f (code g) unfolded
          (loans_meets 𝓤 change 𝓛 F told n-lit has_room (tables_of 𝓤 H 𝓜 (tables 𝓤 H 𝓜 𝓡 γ)) g (cited 𝓤 H (Callee 𝓤 change 𝓛) 𝓜 𝓡 γ g r calls met))
