-- The lines of a walker are those of the walk, and a refusal is printed as document 01 says.
use Rattle.std.proofs.Common.{◌≡◌, ℕ, zero, suc, ◌≤◌, ◌<◌, List, [], ◌∷◌, ◌++◌, ◌^◌, arith, rules, length, take, refl, sym, ap, ◌∙◌}
use Rattle.std.specs.Prelude.{Err, Ok, Option, Some, None}
use Rattle.std.specs.Fmt as std
use Rattle.std.proofs.lemmas.Fmt.{AppendsLastDigit, decimal_from_appends, length-decimal-le}
use Rattle.lists.specs.Judge.{Judged, not_allowed, surplus, unfinished, verdict, judge}
use Rattle.lists.specs.Walk.{walk}
use Rattle.rules.specs.declared.answer.Answer.{Answer}
use Rattle.rules.specs.declared.table.Table.{Table}
use Rattle.rules.specs.declared.world.World.{World}
use Rattle.rules.specs.Answer.{numbers_of}
use Rattle.rules.specs.Judge.{Verdict, step}
use Rattle.rules.proofs.JudgeLaws.{Told, judge_told}
use Rattle.rules.specs.Table.{read_table}
use Rattle.rules.specs.Turn.{start}
use Rattle.rules.specs.Walk.{decisions, left, decision_text, verdict_digit, run_line, run_lines, decimal, refused_line, runs_table, runs_of}
use Rattle.theorems.proofs.Places.{refused-place}
use Rattle.walker.specs.declared.Walker.{Walker}
use Rattle.walker.specs.Walking.{begun, advanced}
use Rattle.walker.specs.Stands.{Met, met, met_on, all_judged, verdict_of, walker_walks}
use Rattle.listing.proofs.LineLaws.{number_is}
use Rattle.listing.specs.Line.{number_digit}
use Rattle.listing.proofs.Front.{read_front}
use Rattle.listing.specs.Told.{verdict_number, end_line, lines, refusal}

-- the lines of runs that were met
met_lines : List Met → List ℕ
met_lines [] = []
met_lines (m ∷ ms) = end_line m.verdict m.list ++ met_lines ms

-- where no run is left, or no line is wanted, there is none
pub none_wanted : (n : ℕ) (o : Option Walker) → n ≡ 0 → lines n o ≡ []
unfolding lines
none_wanted zero o e = refl
none_wanted (suc n) o e = absurd (omega (arith, e))

pub none_left : (n : ℕ) → lines n None ≡ []
unfolding lines
none_left zero = refl
none_left (suc n) = refl

-- where one is, its line, and those after it
pub next_line : (n m : ℕ) (w : Walker) → n ≡ suc m → lines n (Some w) ≡ end_line w.path.verdict (take w.path.at w.path.list) ++ lines m (advanced w)
unfolding lines
next_line n m w f = ap (λ (k : ℕ). lines k (Some w)) f

-- what a walker goes through from a run on is what is met from there
going : (n : ℕ) (o : Option Walker) → lines n o ≡ met_lines (met_on o (met n))
unfolding lines met met_lines
going zero None = refl
going zero (Some w) = refl
going (suc n) None = refl
going (suc n) (Some w) = ap (λ (l : List ℕ). end_line w.path.verdict (take w.path.at w.path.list) ++ l) (going n (advanced w))

-- the digit of a run's end is that of its verdict
digit : (j : Judged World Verdict) → Told j → number_digit (verdict_number (verdict_of j)) ≡ verdict_digit j
unfolding verdict_digit numbers_of
digit (not_allowed i) t = refl
digit (surplus i) t = refl
digit (unfinished w) t = refl
digit (verdict v) t = sym (number_is (numbers_of v.answer).number (omega (arith, t)))

-- the lines of lists that were judged
all_lines : (table : Table) (ls : List (List ℕ)) → met_lines (all_judged table ls) ≡ run_lines table ls
unfolding met_lines run_lines run_line
all_lines table [] = refl
all_lines table (l ∷ ls) =
    ap (λ (d : ℕ). d ∷ decision_text l ++ met_lines (all_judged table ls)) (digit (judge (step table) 0 (start table) l) (judge_told table 0 (start table) l))
    ∙ ap (λ (r : List ℕ). verdict_digit (judge (step table) 0 (start table) l) ∷ decision_text l ++ r) (all_lines table ls)

-- the walk of an accepted table
pub accepted_told : (bs : List ℕ) (table : Table) → read_table bs ≡ Ok table → (k : ℕ) → lines k (Some (begun table)) ≡ runs_of k bs
unfolding runs_of runs_table
accepted_told bs table e k =
    going k (Some (begun table)) ∙ ap met_lines (walker_walks bs table e k) ∙ all_lines table (walk (step table) decisions (left table) k (start table)) ∙ sym (ap (runs_table k) e)

appends : AppendsLastDigit decimal
unfolding decimal
appends = search rules

-- a number with at most k digits
said : (k n : ℕ) → n < 2 ^ 64 → length (std.decimal n) ≤ k → std.decimal n ≡ decimal k n
said k n small short = sym (decimal_from_appends decimal appends k n small short)

number_small : (a : Answer) → (numbers_of a).number ≤ 26
unfolding numbers_of
number_small a = grind arith

-- the refusal of a table
pub refused_told : (bs : List ℕ) (a : Answer) → read_table bs ≡ Err a → (k : ℕ) → refusal (numbers_of a).number (numbers_of a).place ≡ runs_of k bs
unfolding runs_of runs_table refused_line
refused_told bs a e k =
    let n = (numbers_of a).number in
    let p = (numbers_of a).place in
    let number : std.decimal n ≡ decimal 3 n = said 3 n (omega (arith, number_small a)) (length-decimal-le 3 n (omega arith) (omega (arith, number_small a)) (omega (arith, number_small a))) in
    let place : std.decimal p ≡ decimal 5 p = said 5 p (omega (arith, refused-place bs a e)) (length-decimal-le 5 p (omega arith) (omega (arith, refused-place bs a e)) (omega (arith, refused-place bs a e))) in
    ap (λ (d : List ℕ). 114 ∷ 101 ∷ 102 ∷ 117 ∷ 115 ∷ 101 ∷ 100 ∷ 32 ∷ d ++ 32 ∷ 97 ∷ 116 ∷ 32 ∷ std.decimal p ++ 10 ∷ []) number
    ∙ ap (λ (d : List ℕ). 114 ∷ 101 ∷ 102 ∷ 117 ∷ 115 ∷ 101 ∷ 100 ∷ 32 ∷ decimal 3 n ++ 32 ∷ 97 ∷ 116 ∷ 32 ∷ d ++ 10 ∷ []) place
    ∙ sym (ap (runs_table k) e)

-- the runs of a table, and its refusal, are those of its front part
pub runs_front : (k : ℕ) (bs : List ℕ) → runs_of k (take 2048 bs) ≡ runs_of k bs
unfolding runs_of
runs_front k bs = ap (runs_table k) (read_front bs)
