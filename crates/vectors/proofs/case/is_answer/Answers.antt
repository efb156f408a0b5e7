-- `case::is_answer` meets its contract: the words read as numbers are the numbers, one by one.
use Rattle.std.proofs.Common.{◌≡◌, ℕ, suc, ◌+◌, ◌-◌, ◌≤◌, Bool, true, false, cond, ◌&&◌, eqb, ltb, List, [], ◌∷◌, map, length, take, drop, Option, None, Some, refl, ◌∙◌, arith, rules, tests, length-drop}
use Rattle.std.proofs.lemmas.List.{drop-drop}
use Rattle.std.proofs.lemmas.Bool.Decides.{nat_tests}
use Rattle.std.proofs.lemmas.Iterator.{YieldsList-from_map}
use Rattle.std.proofs.lemmas.Iterator.Consumers.{YieldsList-at}
use Rattle.std.proofs.lemmas.Iterator.Splits.{YieldsList-from_slice_split}
use Rattle.std.specs.List.{slice_split, position_or_len}
use Rattle.std.specs.Option.{option_eq}
use Rattle.std.specs.Cmp.Lexicographic.{pointwise}
use borrow.Author.Tests.{le-ltb, ltb-false}
use Rattle.vectors.proofs.Compared.{eq_from_yields_List, YieldsList-from_array}
use Rattle.vectors.specs.Text.{number_of}
use Rattle.vectors.specs.Case.{is_number, word_end, answer_from}
use Rattle.vectors.proofs.case.is_answer.Goals as goal

abbrev blank : ℕ → Bool
blank b = eqb b 32

-- the words from a place on, or none past the end
abbrev words_from : List ℕ → ℕ → List (List ℕ)
words_from text from = cond (ltb (length text) from) [] (slice_split blank (drop from text))

-- a text is cut after its first word
first_word : (text : List ℕ) → let n : ℕ = position_or_len blank text in slice_split blank text ≡ take n text ∷ words_from text (n + 1)
first_word [] = refl
first_word (x ∷ xs) = by (eqb x 32) refl (first_word xs)
  where
    by : (b : Bool) → eqb x 32 ≡ b → (let n : ℕ = position_or_len blank xs in slice_split blank xs ≡ take n xs ∷ words_from xs (n + 1)) → let n : ℕ = position_or_len blank (x ∷ xs) in slice_split blank (x ∷ xs) ≡ take n (x ∷ xs) ∷ words_from (x ∷ xs) (n + 1)
    by true e more = let h : ltb (length (x ∷ xs)) 1 ≡ false = le-ltb _ _ (omega arith) in rw (e, h)
    by false e more =
        let n : ℕ = position_or_len blank xs in
        let i : 1 + n ≡ suc n = omega arith in
        let j : 1 + n + 1 ≡ suc (n + 1) = omega arith in
        let k : ltb (length (x ∷ xs)) (suc (n + 1)) ≡ ltb (length xs) (n + 1) = grind (arith, nat_tests) in
        rw (e, more, j, i, k)

-- what is left of a text is cut so too
next_word : (text : List ℕ) (from : ℕ) → from ≤ length text → slice_split blank (drop from text) ≡ take (word_end text from - from) (drop from text) ∷ words_from text (word_end text from + 1)
unfolding word_end
next_word text from h =
    let n : ℕ = position_or_len blank (drop from text) in
    let i : from + n - from ≡ n = omega arith in
    let j : from + (n + 1) ≡ from + n + 1 = omega arith in
    let k : ltb (length (drop from text)) (n + 1) ≡ ltb (length text) (from + n + 1) = grind (arith, nat_tests, length-drop) in
    rw (first_word (drop from text), drop-drop (n + 1) from text, j, k, i)

-- a word is the number or it is not
either : (o : Option ℕ) (n : ℕ) (r : Bool) → (option_eq eqb o (Some n) && r) ≡ cond (is_number o n) r false
either None n r = refl
either (Some m) n r = grind arith

-- the words from a place on, compared with the numbers, are what the definition asks
told : (text ns : List ℕ) (from : ℕ) → pointwise (option_eq eqb) (map number_of (words_from text from)) (map Some ns) ≡ answer_from text from ns
unfolding answer_from
told text [] from = by (ltb (length text) from) refl
  where
    by : (b : Bool) → ltb (length text) from ≡ b → pointwise (option_eq eqb) (map number_of (words_from text from)) [] ≡ ltb (length text) from
    by true e = rw e
    by false e = let h : from ≤ length text = ltb-false _ _ e in rw (e, next_word text from h)
told text (n ∷ ns) from = by (ltb (length text) from) refl (told text ns (word_end text from + 1))
  where
    by : (b : Bool) → ltb (length text) from ≡ b
        → pointwise (option_eq eqb) (map number_of (words_from text (word_end text from + 1))) (map Some ns) ≡ answer_from text (word_end text from + 1) ns
        → pointwise (option_eq eqb) (map number_of (words_from text from)) (map Some (n ∷ ns)) ≡ answer_from text from (n ∷ ns)
    by true e more = rw e
    by false e more = let h : from ≤ length text = ltb-false _ _ e in rw (e, next_word text from h, either, more)

all_told : (text ns : List ℕ) → pointwise (option_eq eqb) (map number_of (slice_split blank text)) (map Some ns) ≡ answer_from text 0 ns
all_told text ns = let h : ltb (length text) 0 ≡ false = le-ltb _ _ (omega arith) in rw h at (told text ns 0)

pub returns : goal.returns
returns c =
    eq_from_yields_List _ _ _ _ (λ x y. y ≡ x) _ c.eq.ensures.ran
    (YieldsList-from_map _ number_of
    (YieldsList-at c.map-words.ensures.source
    (YieldsList-from_slice_split _ blank c.args.text.now c.split.ensures.rest c.split.ensures.done c.split.ensures.closure (λ x b q k. search (rules, tests))))
    c.map-words.ensures.closure (λ x r q k. search (rules, tests)))
    (λ it is. YieldsList-at is (YieldsList-from_map _ Some
    (YieldsList-at c.map.ensures.source (YieldsList-from_array c.args.six c.into_iter.ensures.into_iter_gives.0))
    c.map.ensures.closure (λ x r q k. search (rules, tests))))
    ∙ all_told c.args.text.now c.args.six
