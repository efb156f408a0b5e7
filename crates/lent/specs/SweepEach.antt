-- The law of a pass that lends each element: where `g` changes what lies behind a reference, by an index and one more value, the function below changes each element of a slice in that way.
--     fn f(s: &mut [P], x: X) {
--         let mut i = 0;
--         while i < s.len() {
--             g(&mut s[i], i, x);
--             i += 1;
--         }
--     }
--     change           what `g`, which requires nothing, ensures: the last value is `change x i` of the first
--     Told F           F are the clauses of `f`: where the slice is the pass of `change x`, what they ensure holds
--     code size        the MIR of `f`, for elements of `size` bytes        sweeps       `f` meets its contract, where `g` meets its own
-- The slice's borrow is opened once, before the loop, and closed once, after it. In a turn the element is taken out of the row and lent for a lifetime that is made for the call.
use Rattle.std.specs.Prelude.{◌≡◌, ℕ, ◌+◌, ◌*◌, ◌-◌, ◌<◌, ◌^◌, Bool, true, false, T, ltb, length, get_or}
use Rattle.std.proofs.Math.Path.{refl}
use Rattle.std.proofs.Common.{sym, ◌∙◌, ap, subst, arith, not-suc-le-zero, mul-le-mul_right, le_of_lt, lt_of_le_of_lt, lit<, lt-ltb, le-ltb, ltb-true, ltb-false}
use mathlib.Core.List.{[], ◌∷◌, List}
use Rattle.std.proofs.Math.ListN.{set}
use lib.WfN.{lt-wf_rel}
use seplogic.Ra.Ura.{Ura}
use base.Fraction.{full_share}
use mir.Syntax.{Callee as Name, Fn, Body as Code, Ty, named, erased, mut, w64, ty_int, ty_bool, ty_ptr, ty_ref, ty_unit, deref, field, place, unsigned, copy, int, opd_unit, local, value_local, skip, seq, assign, block, loop, cond, exit, return, call, rv_opd, addr_of, op2, add, mul, lt, offset}
use mir.Val.{Val, vunit, vbool, vint, vptr}
use base.Logic.{SProp, ent, sep, emp, via, fst∗, id⊢}
use base.Fml.{GName, Lft, Share, ftrue, flft, fobs, fauth, fbor, fobor, flent, fat, froom, fdies}
use prog.Model.{Model}
use prog.Routine.{Routine, Env as Envs}
use prog.Wp.{Out, Env, after_seq, after_block, after_turn, Calls, Loops, Wp, at_return, WpFn, Tables, Closed}
use types.Logic.{Logic, sem}
use contract.Monad.{fact}
use contract.Lifetimes.{Lfts}
use contract.Running.{Running, tables, tables_of}
use types.Kit.{Item, ‵, raw, some, later, ◌⊛◌, ⋆, any_q, at_ret, runs, Sq, ◌$◌, ◌∵◌, !, qed, by, move, keep, drop, use1, use2, use3, split, join, pick, rewrite, fsplit, fsplit3, fjoin, feq_i, suffices, frame, await, done}
use types.Run.{look, init, store, forget, stop, hop, fld, from, load, lit, unit_lit, addr, of_opd, bin, and_then, no_more, assigns, assigns_last, land, stays, leaves_loop, returns, enter, alloc1, alloc0, params1, pass1, pass0, free1, free0, exec, Below, again, loops}
use types.Part.{whole, sub, look_in}
use types.SemTy.{Body}
use types.Tokens.{lft_new, lft_end}
use sound.WpLaws.{fm_of, WpFn-mono}
use denote.RattleType.{owns}
use denote.Shadow.{pure_i}
use denote.Laws.{Is, shows}
use denote.Memory.{mem, pointee, shares}
use denote.Plain.{uint_Makes, Nothing-Lawful}
use denote.Builtin.{unit, usize}
use denote.Ref.{MutBor, MutRef}
use denote.Slice.{slice_ty, slice_val, MutSlice, heres, Room, mut_slice_vals, mut_slice_Tells, mut_slice_at, coded_holeys}
use denote.Lend.{Held, lends_ref, ref_back}
use denote.Index.{place as offset-of, place_is, row as cells, others, takes, puts, opens_slice, closes_slice}
use denote.Signature.{plain, mut_ref_to, mut_slice_of}
use denote.Steps.{owned, peeks, heard, nothing}
use denote.Triple.Entry.{Args, on_entry}
use denote.Triple.Spec.{Meets, triple_of}
use denote.Triple.Statement.{Contract, Triple}
use denote.Triple.Call.{calls_at}
use denote.Triple.Table.{entered, cited}
use denote.Triple.Clauses.{Ended, Clauses, at_exit, closing, ensured, lasts}
use denote.Triple.Walked.{Stays, stay_slice, stay_dropped, walk_of, Goes-slice, Goes-dropped, Walks, ends_at, walked, walk_Meets}
use denote.Exit.{yes}
use Rattle.lent.specs.Datum.{Datum, row, vals}
use Rattle.lent.specs.Lent.{holds}
use Rattle.clocks.specs.Pass.{pass_from, passed, passed_length, passed-step, passed_all}

-- an element of a list that has one
first_of : {X : Type 0} (n : ℕ) (xs : List X) → n < length xs → X
first_of n [] l = absurd (not-suc-le-zero l)
first_of n (x ∷ xs) l = x

abbrev rest-code : Code
rest-code = seq (assign (place 0 []) (rv_opd opd_unit)) return

module _ (P X : Datum) where
  -- the contract of `g`
  abbrev by_ref : Ended
  by_ref = record { signature = record { lifetimes = 1; outlives = []; params = mut_ref_to (0 ∷ []) tt (plain (λ _. row P)) ∷ plain (λ _. usize) ∷ plain (λ _. row X) ∷ []; result = plain (λ _. unit) }; kept = (yes, (yes, (yes, tt))) }

  -- that of `f`
  abbrev by-slice : Ended
  by-slice = record { signature = record { lifetimes = 1; outlives = []; params = mut_slice_of (0 ∷ []) tt (plain (λ _. row P)) ∷ plain (λ _. row X) ∷ []; result = plain (λ _. unit) }; kept = (yes, (yes, tt)) }

  abbrev slice : Ty
  slice = slice_ty (ty_ref (named 0) mut (pointee P.written))

  -- a reference to an element, in a local
  abbrev ref_ty : Ty
  ref_ty = ty_ref erased mut (pointee P.written)

  abbrev stayed : Stays by-slice.signature.params by-slice.kept
  stayed = (stay_slice (0 ∷ []) tt (plain (λ _. row P)), (stay_dropped (plain (λ _. row X)) yes, tt))

  module _ (size : ℕ) (g : Name) where
    abbrev turn_code : Code
    turn_code =
        seq (assign (place 4 []) (rv_opd (copy (place 1 (field 1 ∷ [])))))
        (seq (assign (place 5 []) (op2 (lt unsigned) (copy (place 3 [])) (copy (place 4 []))))
        (seq (cond (copy (place 5 [])) skip (exit 1))
        (seq (assign (place 4 []) (op2 (mul unsigned) (copy (place 3 [])) (int w64 size)))
        (seq (assign (place 7 []) (op2 offset (copy (place 1 (field 0 ∷ []))) (copy (place 4 []))))
        (seq (assign (place 8 []) (addr_of (place 7 (deref P.ty ∷ []))))
        (seq (call g (copy (place 8 []) ∷ copy (place 3 []) ∷ copy (place 2 []) ∷ []) (place 6 []))
        (assign (place 3 []) (op2 (add unsigned) (copy (place 3 [])) (int w64 1)))))))))

    abbrev pub code : Fn
    code = record {
      lifetimes = 1;
      outlives = [];
      ty_params = [];
      givens = 0;
      params = 2;
      locals = local ty_unit value_local ∷ local slice value_local ∷ local X.ty value_local ∷ local (ty_int w64) value_local ∷ local (ty_int w64) value_local ∷ local ty_bool value_local ∷ local ty_unit value_local ∷ local ty_ptr value_local ∷ local ref_ty value_local ∷ [];
      body = seq (assign (place 3 []) (rv_opd (int w64 0))) (seq (block (loop turn_code)) rest-code);
    }

  module _ {M : Type 1} (𝓤 : Ura M) (change : X.D → ℕ → P.D → P.D) where
    abbrev pub ref_clauses : Clauses 𝓤 by_ref
    ref_clauses κs a = record { ghost = Unit {0}; requires = λ _. emp 𝓤; ensures = λ _ r e. fact 𝓤 (e.0.now ≡ change a.1.1.0 a.1.0 a.0.now) }

    abbrev pub Told : Clauses 𝓤 by-slice → Type 1
    Told F = (κs : Lfts 1) (a : Args by-slice.signature κs) (y : (F κs a).ghost) (ys : List P.D) → ys ≡ pass_from (change a.1.0) 0 a.0.now → ent 𝓤 (emp 𝓤) ((F κs a).ensures y tt (at_exit by-slice κs a (ys, (tt, tt))))

    module _ (𝓛 : Logic 𝓤) where
      open 𝓛 use {H, A}

      abbrev pub Callee : Contract 𝓤
      Callee = triple_of 𝓛 by_ref.signature (closing 𝓛 by_ref ref_clauses)

      module _ (F : Clauses 𝓤 by-slice) (told : Told F) (size : ℕ) (size_lit : T (ltb size (2 ^ 64))) (size_is : size ≡ (mem (row P)).size) (g : Name) (𝓣 : Tables 𝓤 H) (known : Triple 𝓤 (𝓣.C g) Callee)
          (κ : Lft) (q : Share) (b o : ℕ) (γ : GName) (xs : List P.D) (x : X.D) (has_room : Room (row P) (length xs)) (x-is : Is (row X) x (vals X x))
          (y : (F (κ, tt) (record { ref_ptr = (b, o); ghost_name = γ; now = xs }, (x, tt))).ghost) where
        abbrev n : ℕ
        n = length xs

        -- what the pass does to the element i, and the list when the first i are done
        abbrev step : ℕ → P.D → P.D
        step = change x

        abbrev zs : ℕ → List P.D
        zs i = passed step i 0 xs

        abbrev arg : MutBor (List P.D) × (X.D × Unit {0})
        arg = (record { ref_ptr = (b, o); ghost_name = γ; now = xs }, (x, tt))

        abbrev at : List Val × (List Val × Unit {0})
        at = (slice_val (b, o) n ∷ [], (vals X x, tt))

        abbrev Post : Val → SProp 𝓤
        Post = (walk_of 𝓛 by-slice stayed F).post (((κ, tt), (q, tt), tt, arg, at), y)

        exits : (ys : List P.D) → length ys ≡ n → ys ≡ pass_from step 0 xs → ent 𝓤 (⋆ 𝓛 (‵ (fobs γ ((coded_holeys (row P)).code (heres (row P) ys))) ∷ ‵ (fbor κ (Held (row P) (length ys) b o γ)) ∷ ‵ (flft κ q) ∷ [])) (Post vunit)
        exits ys same e =
            qed 𝓛 (‵ (fobs γ ((coded_holeys (row P)).code (heres (row P) ys))) ∷ ‵ (fbor κ (Held (row P) (length ys) b o γ)) ∷ ‵ (flft κ q) ∷ []) ∵
            suffices ! _ (ends_at 𝓛 by-slice stayed F (((κ, tt), (q, tt), tt, arg, at), y) vunit tt (ys, (tt, tt)) (same, (tt, tt))) $ holds ! (told (κ, tt) arg y ys e) $ nothing ! $ move ! (3 ∷ 0 ∷ []) $ join ! $ frame ! $
            fjoin ! $ pure_i ! (mut_slice_at (row P) (record { ref_ptr = (b, o); ghost_name = γ; now = ys }) at.0) (tt, (tt, tt)) (ap (λ (m : ℕ). slice_val (b, o) m ∷ []) (sym same), subst (Room (row P)) (sym same) has_room) $ fjoin ! $
            nothing ! $ nothing ! $ fjoin ! $ move ! (1 ∷ 0 ∷ []) $ fjoin ! $ frame ! $ feq_i ! (List Val) (vunit ∷ []) (vunit ∷ []) refl $ done !

        -- the reference to the element h at the offset p, under the name δ, and what `g`'s triple binds outside where it is lent for α
        abbrev ref : P.D → ℕ → GName → MutBor P.D
        ref h p δ = record { ref_ptr = (b, p); ghost_name = δ; now = h }

        abbrev to_callee : P.D → ℕ → ℕ → ℕ → GName → Callee.Ghost
        to_callee h i p α δ = (((α ∷ [], tt), (full_share, tt), tt, (ref h p δ, (i, (x, tt))), (vptr b p ∷ [], (vint w64 i ∷ [], (vals X x, tt)))), tt)

        goes_callee : (h : P.D) (i p α : ℕ) (δ : GName) → i < 2 ^ 64
            → ent 𝓤 (sep 𝓤 (A.lft (α ∷ []) full_share) (sem 𝓛 ((MutRef (named 0) (α ∷ []) (row P)).own_val (ref h p δ) (vptr b p ∷ [])))) (Callee.pre (to_callee h i p α δ))
        goes_callee h i p α δ i_fits =
            qed 𝓛 (‵ (flft (α ∷ []) full_share) ∷ ‵ ((MutRef (named 0) (α ∷ []) (row P)).own_val (ref h p δ) (vptr b p ∷ [])) ∷ []) ∵
            nothing ! $ owned ! (row X) (Is (row X)) (X.makes 𝓛) x _ x-is $ fjoin ! $ owned ! usize (Is usize) (uint_Makes 𝓛 w64) i _ (refl, i_fits) $ fjoin ! $ move ! (2 ∷ 0 ∷ []) $ fjoin ! $
            nothing ! $ move ! (2 ∷ 0 ∷ []) $ join ! $ join ! $ frame ! $ done !

        module _ (l₀ l₁ l₂ l₃ l₄ l₅ l₆ l₇ l₈ : ℕ) where
          abbrev C : Calls 𝓤 H
          C = 𝓣.C

          abbrev Λ : Loops 𝓤 H
          Λ = 𝓣.Λ

          abbrev E : Env 𝓤 H
          E = (ty_unit, l₀) ∷ (slice, l₁) ∷ (X.ty, l₂) ∷ (ty_int w64, l₃) ∷ (ty_int w64, l₄) ∷ (ty_bool, l₅) ∷ (ty_unit, l₆) ∷ (ty_ptr, l₇) ∷ (ref_ty, l₈) ∷ []

          -- what no turn touches: the parameters' locals, the result's, and the open borrow; and that each local dies
          abbrev Frame : List (Item 𝓤)
          Frame = ‵ (fat full_share slice l₁ 0 (slice_val (b, o) n)) ∷ ‵ (fat full_share X.ty l₂ 0 (X.val x)) ∷ ‵ (froom ty_unit l₀ 0)
              ∷ ‵ (fobor κ q (Held (row P) n b o γ)) ∷ ‵ (fobs γ ((coded_holeys (row P)).code (heres (row P) xs))) ∷ ‵ (fauth γ ((coded_holeys (row P)).code (heres (row P) xs)))
              ∷ ‵ (fdies ty_unit l₀) ∷ ‵ (fdies slice l₁) ∷ ‵ (fdies X.ty l₂) ∷ ‵ (fdies (ty_int w64) l₃) ∷ ‵ (fdies (ty_int w64) l₄) ∷ ‵ (fdies ty_bool l₅) ∷ ‵ (fdies ty_unit l₆) ∷ ‵ (fdies ty_ptr l₇) ∷ ‵ (fdies ref_ty l₈) ∷ []

          -- where the loop's test is reached: the row with i elements done, the local i, and room for the other locals
          abbrev At : ℕ → List (Item 𝓤)
          At i = ‵ (cells (row P) full_share (zs i) b o) ∷ ‵ (fat full_share (ty_int w64) l₃ 0 (vint w64 i)) ∷ ‵ (froom (ty_int w64) l₄ 0) ∷ ‵ (froom ty_bool l₅ 0) ∷ ‵ (froom ty_unit l₆ 0) ∷ ‵ (froom ty_ptr l₇ 0) ∷ ‵ (froom ref_ty l₈ 0) ∷ Frame

          -- when the loop is left, the rest of the body runs
          abbrev Left : Out → SProp 𝓤
          Left = after_block 𝓤 H (after_seq 𝓤 H (Wp 𝓤 H C Λ E rest-code (at_return 𝓤 H E Post)) (at_return 𝓤 H E Post))

          -- a turn that does element i
          more : (i : ℕ) (Z : SProp 𝓤) → i < n → ent 𝓤 (⋆ 𝓛 (At (i + 1))) Z → Sq 𝓛 (At i) (runs C Λ E (turn_code size g) (any_q (after_turn 𝓤 H Z Left)))
          unfolding after_turn
          more i Z small k =
              -- the test
              assigns ! (of_opd ! (load ! (from ! (fld ! refl (stop !))) (look_in ! 7 (sub ! 1 refl (whole !))))) (from ! (stop !)) (init ! 2 refl (tt, record { fits = has_room.0 })) $
              assigns ! (bin ! (load ! (from ! (stop !)) (look ! 1 refl)) (load ! (from ! (stop !)) (look ! 2 refl)) tt) (from ! (stop !)) (init ! 3 refl (tt, tt)) $
              rewrite ! 3 (λ (t : Bool). ‵ (fat full_share ty_bool l₅ 0 (vbool t))) (lt-ltb i n small) refl $ stays ! (load ! (from ! (stop !)) (look ! 3 refl)) $
              -- the place of element i, and a reference to it
              assigns ! (bin ! (load ! (from ! (stop !)) (look ! 1 refl)) (lit ! size_lit) (record { fits = bytes_fit })) (from ! (stop !)) (store ! 2 refl (tt, record { fits = bytes_fit })) $
              assigns ! (bin ! (load ! (from ! (fld ! refl (stop !))) (look_in ! 7 (sub ! 0 refl (whole !)))) (load ! (from ! (stop !)) (look ! 2 refl)) tt) (from ! (stop !)) (init ! 5 refl (tt, tt)) $
              rewrite ! 5 (λ (m : ℕ). ‵ (fat full_share ty_ptr l₇ 0 (vptr b m))) place_of_lem refl $
              assigns ! (addr ! (from ! (hop ! (look ! 5 refl) (stop !)))) (from ! (stop !)) (init ! 6 refl (tt, tt)) $
              -- the element is taken out of the row, and lent for a lifetime α
              use1 𝓛 (‵ ((mem (row P)).own_at h b p) ⊛ ‵ (others (shares (row P)) full_share (zs i) i b o)) (takes (shares (row P)) full_share 𝓛 (zs i) i d b o within) $ split ! $ lft_new ! tt (λ α. move ! (1 ∷ []) $
              use1 𝓛 (later (some (λ (δ : GName). ‵ ((MutRef (named 0) (α ∷ []) (row P)).own_val (ref h p δ) (vptr b p ∷ [])) ⊛ ‵ (flent (α ∷ []) (Body (mem (row P)) b p δ))))) (lends_ref 𝓛 (row P) (named 0) (α ∷ []) h b p) $ await ! tt $ pick ! (λ δ. split ! $
              -- [the reference; the lender's part; the token; the others; _3; _4; _5; _6; _7; _8; _1; _2; …]
              move ! (2 ∷ 0 ∷ []) $ use2 𝓛 (raw (Callee.pre (to_callee h i p α δ))) (goes_callee h i p α δ i_fits) $
              calls_at ! (fm_of 𝓤 H 𝓛.laws 𝓣) Callee known (to_callee h i p α δ)
              (and_then ! (load ! (from ! (stop !)) (look ! 8 refl)) (and_then ! (load ! (from ! (stop !)) (look ! 3 refl)) (and_then ! (load ! (from ! (stop !)) (look ! 10 refl)) (no_more !)))) (λ v.
              use1 𝓛 (later (some (λ (u : Unit {0}). ((‵ (flft (α ∷ []) full_share) ⊛ ‵ ftrue) ⊛ ‵ (unit.own_val u (v ∷ []))) ⊛ raw (ensured 𝓛 by_ref ref_clauses (α ∷ [], tt) (ref h p δ, (i, (x, tt))) tt u)))) (id⊢ 𝓤 _) $ await ! tt $ pick ! (λ u.
              split ! $ move ! (1 ∷ []) $ use1 𝓛 (some (λ (ws : P.D × (Unit {0} × (Unit {0} × Unit {0}))). ‵ (lasts by_ref (α ∷ [], tt) (ref h p δ, (i, (x, tt))) ws) ⊛ raw (fact 𝓤 (ws.0 ≡ step i h)))) (id⊢ 𝓤 _) $ pick ! (λ ws.
              split ! $ move ! (1 ∷ []) $ heard ! (ws.0 ≡ step i h) (λ e. fsplit ! $ fsplit ! $ move ! (1 ∷ []) $ drop ! $ move ! (2 ∷ []) $ split ! $ move ! (1 ∷ []) $
              peeks ! unit (Is unit) (shows 𝓛 unit) u (v ∷ []) (λ is. land ! (from ! (stop !)) (init ! 9 refl ((Nothing-Lawful 𝓛).typed u _ is).0) $
              -- the lifetime is ended, and the element goes back into the row at its last value
              move ! (1 ∷ []) $ split ! $ lft_end ! tt $ move ! (0 ∷ 5 ∷ 3 ∷ []) $ use3 𝓛 (later (‵ ((mem (row P)).own_at ws.0 b p))) (ref_back 𝓛 (row P) (α ∷ []) δ ws.0 b p) $ await ! tt $
              move ! (0 ∷ 4 ∷ []) $ use2 𝓛 (‵ (cells (row P) full_share (set (zs i) i ws.0) b o)) (puts (shares (row P)) full_share 𝓛 (zs i) i ws.0 b o within) $
              move ! (1 ∷ []) $ drop ! $ move ! (1 ∷ []) $ drop ! $ move ! (1 ∷ []) $ drop ! $
              assigns_last ! (bin ! (load ! (from ! (stop !)) (look ! 1 refl)) (lit ! tt) (record { fits = next_fits })) (from ! (stop !)) (store ! 1 refl (tt, record { fits = next_fits })) $
              forget ! 2 refl $ forget ! 3 refl $ forget ! 4 refl $ forget ! 5 refl $ forget ! 6 refl $
              rewrite ! 0 (λ (ys : List P.D). ‵ (cells (row P) full_share ys b o)) (ap (λ (t : P.D). set (zs i) i t) e ∙ passed-step step i xs d small) refl $ by ! k)))))))
            where
              d : P.D
              d = first_of i xs small

              h : P.D
              h = get_or (zs i) i d

              within : i < length (zs i)
              within = subst (λ (m : ℕ). i < m) (sym (passed_length step i 0 xs)) small

              -- where element i lies
              p : ℕ
              p = offset-of (mem (row P)).size o i

              i_fits : i < 2 ^ 64
              i_fits = omega (arith, has_room.0)

              next_fits : i + 1 < 2 ^ 64
              next_fits = omega (arith, has_room.0)

              bytes_fit : i * size < 2 ^ 64
              bytes_fit = lt_of_le_of_lt (mul-le-mul_right size (le_of_lt small)) (subst (λ (s : ℕ). n * s < 2 ^ 64) (sym size_is) (omega (arith, has_room.1)))

              place_of_lem : i * size + o ≡ p
              place_of_lem = ap (λ (s : ℕ). i * s + o) size_is ∙ sym (place_is (mem (row P)).size o i)

          -- the turn that leaves the loop, and the rest of the body: the borrow is closed at the whole pass
          ends : (i : ℕ) (Z : SProp 𝓤) → i ≡ n → Sq 𝓛 (At i) (runs C Λ E (turn_code size g) (any_q (after_turn 𝓤 H Z Left)))
          unfolding after_turn
          ends i Z end =
              assigns ! (of_opd ! (load ! (from ! (fld ! refl (stop !))) (look_in ! 7 (sub ! 1 refl (whole !))))) (from ! (stop !)) (init ! 2 refl (tt, record { fits = has_room.0 })) $
              assigns ! (bin ! (load ! (from ! (stop !)) (look ! 1 refl)) (load ! (from ! (stop !)) (look ! 2 refl)) tt) (from ! (stop !)) (init ! 3 refl (tt, tt)) $
              rewrite ! 3 (λ (t : Bool). ‵ (fat full_share ty_bool l₅ 0 (vbool t))) (le-ltb i n (omega arith)) refl $
              leaves_loop ! (load ! (from ! (stop !)) (look ! 3 refl)) $ exec ! C Λ E rest-code (at_ret E Post) $
              assigns ! (of_opd ! (unit_lit !)) (from ! (stop !)) (init ! 9 refl (tt, tt)) $
              move ! (0 ∷ 10 ∷ 11 ∷ 12 ∷ []) $ closes_slice ! tt (row P) xs (zs i) (passed_length step i 0 xs) b o $
              -- [obs; the borrow; the token; _3; _4; _5; _6; _7; _8; _1; _2; _0; and that each local dies]
              returns ! (look ! 11 refl) $ forget ! 3 refl $ forget ! 4 refl $ forget ! 5 refl $ forget ! 9 refl $ forget ! 10 refl $ forget ! 11 refl $
              move ! (11 ∷ 12 ∷ []) $ free1 ! $ move ! (9 ∷ 11 ∷ []) $ free1 ! $ move ! (9 ∷ 10 ∷ []) $ free1 ! $ move ! (3 ∷ 9 ∷ []) $ free1 ! $ move ! (3 ∷ 8 ∷ []) $ free1 ! $ move ! (3 ∷ 7 ∷ []) $ free1 ! $
              move ! (3 ∷ 6 ∷ []) $ free1 ! $ move ! (3 ∷ 5 ∷ []) $ free1 ! $ move ! (3 ∷ 4 ∷ []) $ free1 ! $ free0 ! $
              by ! (exits (zs i) (passed_length step i 0 xs) (ap zs end ∙ passed_all step 0 xs))

          -- the variant t is how many elements are left, so i is n - t
          abbrev Inv : ℕ → List (Item 𝓤)
          Inv t = At (n - t)

          turn : (t : ℕ) (y : Bool) → ltb (n - t) n ≡ y → Sq 𝓛 (Inv t) (runs C Λ E (turn_code size g) (any_q (after_turn 𝓤 H (Below 𝓛 ◌<◌ Inv t) Left)))
          turn t true e = more (n - t) _ small (subst (λ (i : ℕ). ent 𝓤 (⋆ 𝓛 (At i)) (Below 𝓛 ◌<◌ Inv t)) next (qed 𝓛 (Inv (n - (n - t + 1))) ∵ again ! ◌<◌ Inv t (n - (n - t + 1)) less))
            where
              small : n - t < n
              small = ltb-true (n - t) n e

              next : n - (n - (n - t + 1)) ≡ n - t + 1
              next = omega (arith, small)

              less : n - (n - t + 1) < t
              less = omega (arith, small)
          turn t false e = ends (n - t) _ (omega (arith, ltb-false (n - t) n e))

          abbrev After : Out → SProp 𝓤
          After = after_seq 𝓤 H (Wp 𝓤 H C Λ E rest-code (at_return 𝓤 H E Post)) (at_return 𝓤 H E Post)

          passes : ent 𝓤 (⋆ 𝓛 (At 0)) (Wp 𝓤 H C Λ E (block (loop (turn_code size g))) After)
          passes = subst (λ (i : ℕ). ent 𝓤 (⋆ 𝓛 (At i)) (Wp 𝓤 H C Λ E (block (loop (turn_code size g))) After)) (omega arith)
              (qed 𝓛 (Inv n) ∵ exec ! C Λ E (loop (turn_code size g)) (any_q Left) $ loops ! 𝓣 ◌<◌ lt-wf_rel.wf Inv (λ t. turn t (ltb (n - t) n) refl) n)

        -- the MIR up to the loop: the borrow is opened
        walk : ent 𝓤 (on_entry 𝓛 by-slice.signature (κ, tt) (q, tt) arg at) (WpFn 𝓤 H 𝓣.C 𝓣.Λ (code size g) (slice_val (b, o) n ∷ X.val x ∷ []) Post)
        walk =
            qed 𝓛 ((‵ (flft κ q) ⊛ ‵ ftrue) ∷ ‵ (owns (MutSlice (named 0) κ (row P) ∷ row X ∷ []) arg at) ∷ []) ∵ enter ! 𝓣.C 𝓣.Λ (code size g) (slice_val (b, o) n ∷ X.val x ∷ []) _ $
            alloc1 ! (λ l₀. alloc1 ! (λ l₁. alloc1 ! (λ l₂. alloc1 ! (λ l₃. alloc1 ! (λ l₄. alloc1 ! (λ l₅. alloc1 ! (λ l₆. alloc1 ! (λ l₇. alloc1 ! (λ l₈. alloc0 ! $ params1 ! $
            pass1 ! (init ! 14 refl (tt, (tt, (record { fits = has_room.0 }, tt)))) $ pass1 ! (init ! 12 refl (X.typed 𝓛 x _ x-is)) $ pass0 ! $
            assigns ! (of_opd ! (lit ! tt)) (from ! (stop !)) (init ! 10 refl (tt, record { fits = lit< tt })) $
            move ! (19 ∷ []) $ fsplit ! $ fsplit3 ! $ drop ! $ move ! (21 ∷ []) $ split ! $ move ! (2 ∷ 3 ∷ 0 ∷ []) $ opens_slice ! tt (row P) xs b o $
            -- [the row; the open borrow; obs; auth; true; what x owns; _8; …; _7; …; …; _1; …; room for _0; …]
            keep ! (0 ∷ 16 ∷ 14 ∷ 12 ∷ 10 ∷ 8 ∷ 6 ∷ 20 ∷ 18 ∷ 22 ∷ 1 ∷ 2 ∷ 3 ∷ 23 ∷ 21 ∷ 19 ∷ 17 ∷ 15 ∷ 13 ∷ 11 ∷ 9 ∷ 7 ∷ []) $
            by ! (passes l₀ l₁ l₂ l₃ l₄ l₅ l₆ l₇ l₈))))))))))

      module _ (F : Clauses 𝓤 by-slice) (told : Told F)
          (size : ℕ) (size_lit : T (ltb size (2 ^ 64))) (size_is : size ≡ (mem (row P)).size) (g : Name) (𝓣 : Tables 𝓤 H) (met : Triple 𝓤 (𝓣.C g) Callee) where
        walks : Walks 𝓛 by-slice stayed (WpFn 𝓤 H 𝓣.C 𝓣.Λ (code size g)) F
        walks = walked 𝓛 by-slice stayed F (WpFn 𝓤 H 𝓣.C 𝓣.Λ (code size g)) (λ κs. (mut_slice_vals, (vals X, tt))) (λ κs. (mut_slice_Tells (named 0) κs.0 (row P), (X.tells, tt)))
            (λ κs qs bounds a y are. via 𝓤 _ (fst∗ 𝓤 _ ((F κs a).requires y)) (walk F told size size_lit size_is g 𝓣 met κs.0 qs.0 a.0.ref_ptr.0 a.0.ref_ptr.1 a.0.ghost_name a.0.now a.1.0 are.0.0.1 are.1.0 y))

        sweeps_meets : Meets 𝓛 by-slice.signature (WpFn 𝓤 H 𝓣.C 𝓣.Λ (code size g)) (closing 𝓛 by-slice F)
        sweeps_meets = walk_Meets 𝓛 by-slice stayed (Goes-slice 𝓛 1 0 tt (plain (λ _. row P)), (Goes-dropped 𝓛 1 (plain (λ _. row X)) yes (λ κs x f. refl), tt))
            F (WpFn 𝓤 H 𝓣.C 𝓣.Λ (code size g)) (WpFn-mono 𝓤 H 𝓛.laws 𝓣 (code size g)) walks

  -- the same of the routines: `f` is the key of the lent function, and `g` that of the function that it calls, in f's environment γ
  module _ {M : Type 1} {𝓤 : Ura M} (𝓛 : Logic 𝓤) (𝓜 : Model 𝓤 𝓛.H) (𝓡 : Running 𝓤 𝓛.H 𝓜) (change : X.D → ℕ → P.D → P.D) (F : Clauses 𝓤 by-slice)
      (size : ℕ) (size_lit : T (ltb size (2 ^ 64))) (size_is : size ≡ (mem (row P)).size) (γ : Envs) (f g : Name) (r : Routine) where
    open 𝓛 use {H}

    pub sweeps : Told 𝓤 change F → Closed 𝓤 H (tables 𝓤 H 𝓜 𝓡 γ).C (tables 𝓤 H 𝓜 𝓡 γ).Λ f (code size g) → γ g ≡ r → Triple 𝓤 (𝓡.run r) (Callee 𝓤 change 𝓛)
        → Meets 𝓛 by-slice.signature (𝓡.run (γ f)) (closing 𝓛 by-slice F)
    unfolding tables_of
    sweeps told unfolded calls met =
        entered 𝓤 H (triple_of 𝓛 by-slice.signature (closing 𝓛 by-slice F)) (tables 𝓤 H 𝓜 𝓡 γ).C (tables 𝓤 H 𝓜 𝓡 γ).Λ f (code size g) unfolded
        (sweeps_meets 𝓤 change 𝓛 F told size size_lit size_is g (tables_of 𝓤 H 𝓜 (tables 𝓤 H 𝓜 𝓡 γ)) (cited 𝓤 H (Callee 𝓤 change 𝓛) 𝓜 𝓡 γ g r calls met))
