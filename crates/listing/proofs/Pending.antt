-- Laws of what is written and what waits.
use Rattle.std.proofs.Common.{◌≡◌, ℕ, ◌+◌, ◌*◌, ◌≤◌, ◌<◌, List, [], ◌∷◌, ◌++◌, arith, length, take, drop, ◌⊎◌, inl, inr, refl, sym, ap, ◌∙◌, subst, length-take-le, take_all, append_assoc}
use Rattle.std.specs.Prelude.{Option, None, Some, Result, Ok, Err, IfSome, OnOk}
use Rattle.std.proofs.lemmas.Bool.{cases_lt}
use Rattle.std.proofs.lemmas.List.{append-nil, length-append}
use Rattle.std.proofs.lemmas.List.Edits.{sets, sets-eq}
use Rattle.std.proofs.Math.Seq.{take-append_seam}
use Rattle.std.specs.Io.KnownBytes.{Appends, Consumes, IsAtEnd}
use Rattle.rules.specs.Walk.{decision_text}
use Rattle.listing.specs.Told.{Moves}

-- what filled a table is the front of what was read
pub front_read : (old new : Option (List ℕ)) (t : List ℕ) (n m : ℕ) → m ≡ n → n ≤ length t → length t ≡ 2048 → Consumes old new (take n t) → (n < length t → IsAtEnd new)
    → IfSome old (λ bs. take m t ≡ take 2048 bs)
front_read None new t n m q h k e f = tt
front_read (Some bs) None t n m q h k e f = absurd e
front_read (Some bs) (Some ys) t n m q h k e f = ap (λ (j : ℕ). take j t) q ∙ go (cases_lt n (length t))
  where
    long : length (take n t) ≡ n
    long = length-take-le n t h

    go : (n < length t) ⊎ (length t ≤ n) → take n t ≡ take 2048 bs
    go (inl l) =
        let whole : bs ≡ take n t = e ∙ ap (λ (zs : List ℕ). take n t ++ zs) (f l) ∙ append-nil (take n t) in
        sym (ap (take 2048) whole ∙ take_all 2048 (take n t) (omega (arith, long, l, k)))
    go (inr g) =
        let all : 2048 ≡ length (take n t) = omega (arith, long, g, h, k) in
        sym (ap (take 2048) e ∙ ap (λ (m : ℕ). take m (take n t ++ ys)) all ∙ take-append_seam (take n t) ys)

pub decision_length : (l : List ℕ) → length (decision_text l) ≡ 3 * length l + 1
unfolding decision_text
decision_length [] = refl
decision_length (d ∷ l) = let h = decision_length l in omega (arith, h)

-- what stands up to the end of what was stored at a place
pub stored : (o n vs : List ℕ) (at end : ℕ) → at + length vs ≤ length o → n ≡ sets o at vs → end ≡ at + length vs → take end n ≡ take at o ++ vs
stored o n vs at end room e f =
    let front : length (take at o) ≡ at = length-take-le at o (omega (arith, room)) in
    let here : end ≡ length (take at o ++ vs) = omega (arith, f, front, length-append (take at o) vs) in
    ap (take end) (e ∙ sets-eq vs o at room)
    ∙ ap (λ (k : ℕ). take k ((take at o ++ vs) ++ drop (at + length vs) o)) here
    ∙ take-append_seam (take at o ++ vs) (drop (at + length vs) o)

-- a part of what waits is written or waits on, and the rest still waits
moves_on : (first old new : Option (List ℕ)) (all front rest kept : List ℕ) → Moves first all old (front ++ rest) → Moves old front new kept → Moves first all new (kept ++ rest)
moves_on None old new all front rest kept p q = tt
moves_on (Some xs) None new all front rest kept p q = absurd p
moves_on (Some xs) (Some ys) None all front rest kept p q = absurd q
moves_on (Some xs) (Some ys) (Some zs) all front rest kept p q =
    sym (append_assoc zs kept rest) ∙ ap (λ (l : List ℕ). l ++ rest) q ∙ append_assoc ys front rest ∙ p

-- the line that is next joins those that wait
pub moves_line : (first old new : Option (List ℕ)) (all waited waits next line rest joined : List ℕ) → Moves first all old (waited ++ next) → Moves old waited new waits → next ≡ line ++ rest → joined ≡ waits ++ line
    → Moves first all new (joined ++ rest)
moves_line first old new all waited waits next line rest joined p q e f =
    subst (Moves first all new) (ap (λ (l : List ℕ). waits ++ l) e ∙ sym (append_assoc waits line rest) ∙ ap (λ (l : List ℕ). l ++ rest) (sym f)) (moves_on first old new all waited next waits p q)

-- the last of what waits is written
moves_end : (first old new : Option (List ℕ)) (all front rest : List ℕ) → Moves first all old (front ++ rest) → rest ≡ [] → Appends old new front → Appends first new all
moves_end None old new all front rest p e q = tt
moves_end (Some xs) None new all front rest p e q = absurd p
moves_end (Some xs) (Some ys) None all front rest p e q = absurd q
moves_end (Some xs) (Some ys) (Some zs) all front rest p e q =
    q ∙ ap (λ (l : List ℕ). ys ++ l) (sym (append-nil front)) ∙ ap (λ (l : List ℕ). ys ++ (front ++ l)) (sym e) ∙ p

-- the same of a writer that may have failed
pub end_of : {X E : Type 0} (r : Result X E) (first old new : Option (List ℕ)) (all told front rest : List ℕ) → Moves first all old (front ++ rest) → rest ≡ [] → all ≡ told → OnOk r (Appends old new front)
    → OnOk r (Appends first new told)
end_of (Ok x) first old new all told front rest p e f q = subst (Appends first new) f (moves_end first old new all front rest p e q)
end_of (Err x) first old new all told front rest p e f q = tt

-- what was written of the front of an input is what is to be written of the input
pub of_input : {X E : Type 0} (r : Result X E) (known old new : Option (List ℕ)) (front text : List ℕ) (told : List ℕ → List ℕ) → OnOk r (Appends old new text) → text ≡ told front
    → ((bs : List ℕ) → told (take 2048 bs) ≡ told bs) → IfSome known (λ bs. front ≡ take 2048 bs) → OnOk r (IfSome known (λ bs. Appends old new (told bs)))
of_input (Ok x) None old new front text told p e g f = tt
of_input (Ok x) (Some bs) old new front text told p e g f = subst (Appends old new) (e ∙ ap told f ∙ g bs) p
of_input (Err x) known old new front text told p e g f = tt
