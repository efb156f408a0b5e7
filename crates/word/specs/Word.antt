-- An answer in one word: "bits 0 to 7 number, 8 to 23 place, 24 to 31 thread, 32 to 39 position, 40 to 47 object, 48 to 63 other".
use Rattle.std.specs.Prelude.{◌≡◌, ℕ, ◌+◌, ◌*◌, ◌/◌, ◌%◌, ◌<◌}
use Rattle.std.proofs.Common.{◌∙◌, ap, arith}
use Rattle.rules.specs.declared.answer.Numbers.{Numbers}

abbrev pub word_of : Numbers → ℕ
word_of n = n.number + 256 * (n.place % 65536) + 16777216 * n.thread + 4294967296 * n.position + 1099511627776 * n.object + 281474976710656 * n.other

-- the six numbers of a word
abbrev pub numbers_in : ℕ → Numbers
numbers_in w =
    record {
      number = w % 256;
      place = w / 256 % 65536;
      thread = w / 16777216 % 256;
      position = w / 4294967296 % 256;
      object = w / 1099511627776 % 256;
      other = w / 281474976710656;
    }

-- numbers that fit their bits
pub record Fits (n : Numbers) : Type 0 where
  pub number : n.number < 256
  pub place : n.place < 65536
  pub thread : n.thread < 256
  pub position : n.position < 256
  pub object : n.object < 256

-- nothing is lost in the word
module _ (n : Numbers) (f : Fits n) where
  abbrev w : ℕ
  w = word_of n

  number-kept : w % 256 ≡ n.number
  number-kept = omega (arith, f.number)

  place_kept : w / 256 % 65536 ≡ n.place
  place_kept = omega (arith, f.number, f.place)

  thread-kept : w / 16777216 % 256 ≡ n.thread
  thread-kept = omega (arith, f.number, f.place, f.thread)

  position-kept : w / 4294967296 % 256 ≡ n.position
  position-kept = omega (arith, f.number, f.place, f.thread, f.position)

  object_kept : w / 1099511627776 % 256 ≡ n.object
  object_kept = omega (arith, f.number, f.place, f.thread, f.position, f.object)

  other_kept : w / 281474976710656 ≡ n.other
  other_kept = omega (arith, f.number, f.place, f.thread, f.position, f.object)

  pub nothing_lost : numbers_in (word_of n) ≡ n
  nothing_lost =
      λ i. record { number = number-kept i; place = place_kept i; thread = thread-kept i; position = position-kept i; object = object_kept i; other = other_kept i }

  -- so an answer can be had again from its word
  pub told : (a : Numbers) → n ≡ a → (word : ℕ) → word ≡ word_of n → (word ≡ word_of a) × (numbers_in word ≡ a)
  told a same word e = (e ∙ ap word_of same, ap numbers_in e ∙ nothing_lost ∙ same)
