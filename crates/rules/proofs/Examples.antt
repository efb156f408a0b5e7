-- Document 01, "Bench examples", a to j: one table, and one statement over it.
use Rattle.std.specs.Prelude.{◌≡◌, refl, List, [], ◌∷◌, ◌++◌, map, replicate}
use Rattle.std.proofs.Common.{◌∙◌}
use Rattle.rules.specs.Cases.{Case, Calls, numbers, bytes, runs, walked, definitions, given, expected_of}
use Rattle.rules.specs.Promised.{is_bytes, Promised}
use Rattle.rules.proofs.Promised.{same}

abbrev examples : List Case
examples =
    -- a: clean, and the whole buffer: the sheet 80 03 and fifteen 00, then the lent bytes as they were
    record { table = 0x20 ∷ []; list = 0x00 ∷ []; look = numbers; expected = 0 ∷ 0 ∷ 255 ∷ 255 ∷ 255 ∷ 255 ∷ [] }
    ∷ record { table = 0x20 ∷ []; list = 0x00 ∷ []; look = bytes 0 160; expected = 0x80 ∷ 0x03 ∷ replicate 15 0 ++ replicate 143 0xEE }
    -- b: an empty table is 21 at 0
    ∷ record { table = []; list = []; look = numbers; expected = 21 ∷ 0 ∷ 255 ∷ 255 ∷ 255 ∷ 255 ∷ [] }
    -- c: race, thread 1, position 0, other 0
    ∷ record { table = 0x16 ∷ 0x20 ∷ 0x46 ∷ 0x00 ∷ 0x47 ∷ 0x00 ∷ 0x20 ∷ 0x46 ∷ 0x00 ∷ 0x47 ∷ 0x00 ∷ []; list = 0x00 ∷ 0x01 ∷ []; look = numbers; expected = 1 ∷ 0 ∷ 1 ∷ 0 ∷ 0 ∷ 0 ∷ [] }
    -- d: clean, thread 1's clock 1,1
    ∷ record { table = 0x10 ∷ 0x00 ∷ 0x16 ∷ 0x20 ∷ 0x30 ∷ 0x00 ∷ 0x46 ∷ 0x01 ∷ 0x47 ∷ 0x01 ∷ 0x32 ∷ 0x00 ∷ 0x20 ∷ 0x30 ∷ 0x00 ∷ 0x46 ∷ 0x01 ∷ 0x47 ∷ 0x01 ∷ 0x32 ∷ 0x00 ∷ []; list = 0x00 ∷ 0x00 ∷ 0x01 ∷ 0x01 ∷ []; look = numbers; expected = 0 ∷ 0 ∷ 255 ∷ 255 ∷ 255 ∷ 255 ∷ [] }
    ∷ record { table = 0x10 ∷ 0x00 ∷ 0x16 ∷ 0x20 ∷ 0x30 ∷ 0x00 ∷ 0x46 ∷ 0x01 ∷ 0x47 ∷ 0x01 ∷ 0x32 ∷ 0x00 ∷ 0x20 ∷ 0x30 ∷ 0x00 ∷ 0x46 ∷ 0x01 ∷ 0x47 ∷ 0x01 ∷ 0x32 ∷ 0x00 ∷ []; list = 0x00 ∷ 0x00 ∷ 0x01 ∷ 0x01 ∷ []; look = bytes 22 6; expected = 1 ∷ 1 ∷ 0 ∷ 0 ∷ 0 ∷ 0 ∷ [] }
    -- e: deadlock; and clean, answer 0
    ∷ record { table = 0x10 ∷ 0x00 ∷ 0x20 ∷ 0x30 ∷ 0x00 ∷ 0x20 ∷ 0x31 ∷ 0x00 ∷ []; list = 0x01 ∷ 0x00 ∷ 0x00 ∷ []; look = numbers; expected = 2 ∷ 0 ∷ 1 ∷ 0 ∷ 0 ∷ 255 ∷ [] }
    ∷ record { table = 0x10 ∷ 0x00 ∷ 0x20 ∷ 0x30 ∷ 0x00 ∷ 0x20 ∷ 0x31 ∷ 0x00 ∷ []; list = 0x00 ∷ 0x00 ∷ 0x01 ∷ 0x01 ∷ []; look = numbers; expected = 0 ∷ 0 ∷ 255 ∷ 255 ∷ 255 ∷ 255 ∷ [] }
    ∷ record { table = 0x10 ∷ 0x00 ∷ 0x20 ∷ 0x30 ∷ 0x00 ∷ 0x20 ∷ 0x31 ∷ 0x00 ∷ []; list = 0x00 ∷ 0x00 ∷ 0x01 ∷ 0x01 ∷ []; look = bytes 21 1; expected = 0 ∷ [] }
    -- f: leak; and clean
    ∷ record { table = 0x15 ∷ 0x20 ∷ []; list = 0x00 ∷ []; look = numbers; expected = 3 ∷ 0 ∷ 255 ∷ 255 ∷ 0 ∷ 255 ∷ [] }
    ∷ record { table = 0x15 ∷ 0x20 ∷ 0x41 ∷ 0x00 ∷ 0x40 ∷ 0x00 ∷ 0x41 ∷ 0x00 ∷ []; list = 0x00 ∷ 0x00 ∷ 0x00 ∷ 0x00 ∷ []; look = numbers; expected = 0 ∷ 0 ∷ 255 ∷ 255 ∷ 255 ∷ 255 ∷ [] }
    -- g: clean
    ∷ record { table = 0x14 ∷ 0x20 ∷ 0x3E ∷ 0x00 ∷ 0x20 ∷ 0x3F ∷ 0x00 ∷ []; list = 0x01 ∷ 0x00 ∷ 0x00 ∷ 0x01 ∷ []; look = numbers; expected = 0 ∷ 0 ∷ 255 ∷ 255 ∷ 255 ∷ 255 ∷ [] }
    -- h: clean; and misuse
    ∷ record { table = 0x11 ∷ 0x20 ∷ 0x33 ∷ 0x00 ∷ 0x33 ∷ 0x00 ∷ 0x37 ∷ 0x00 ∷ 0x34 ∷ 0x00 ∷ []; list = 0x00 ∷ 0x00 ∷ 0x00 ∷ 0x00 ∷ []; look = numbers; expected = 0 ∷ 0 ∷ 255 ∷ 255 ∷ 255 ∷ 255 ∷ [] }
    ∷ record { table = 0x11 ∷ 0x20 ∷ 0x37 ∷ 0x00 ∷ []; list = 0x00 ∷ []; look = numbers; expected = 4 ∷ 0 ∷ 0 ∷ 0 ∷ 0 ∷ 255 ∷ [] }
    -- i: misuse, thread 2
    ∷ record { table = 0x13 ∷ 0x00 ∷ 0x00 ∷ 0x20 ∷ 0x3C ∷ 0x00 ∷ 0x20 ∷ 0x3D ∷ 0x00 ∷ 0x20 ∷ 0x3D ∷ 0x00 ∷ []; list = 0x01 ∷ 0x02 ∷ 0x00 ∷ 0x00 ∷ 0x01 ∷ 0x02 ∷ []; look = numbers; expected = 4 ∷ 0 ∷ 2 ∷ 0 ∷ 0 ∷ 255 ∷ [] }
    -- j: the lines of `runs`, `2 00 00` and `0 00 01 00`
    ∷ record { table = 0x13 ∷ 0x00 ∷ 0x01 ∷ 0x20 ∷ 0x3D ∷ 0x00 ∷ []; list = []; look = runs; expected = 50 ∷ 32 ∷ 48 ∷ 48 ∷ 32 ∷ 48 ∷ 48 ∷ 10 ∷ 48 ∷ 32 ∷ 48 ∷ 48 ∷ 32 ∷ 48 ∷ 49 ∷ 32 ∷ 48 ∷ 48 ∷ 10 ∷ [] }
    ∷ record { table = 0x13 ∷ 0x00 ∷ 0x01 ∷ 0x20 ∷ 0x3D ∷ 0x00 ∷ []; list = []; look = walked; expected = 50 ∷ 32 ∷ 48 ∷ 48 ∷ 32 ∷ 48 ∷ 48 ∷ 10 ∷ 48 ∷ 32 ∷ 48 ∷ 48 ∷ 32 ∷ 48 ∷ 49 ∷ 32 ∷ 48 ∷ 48 ∷ 10 ∷ [] }
    ∷ []

-- by whatever code keeps the promises of bytes, and so by the definitions themselves
pub examples_hold : (c : Calls) → Promised c → map (given c) examples ≡ map expected_of examples
unfolding given is_bytes
examples_hold c p = let computed : map (given definitions) examples ≡ map expected_of examples = refl in same c p examples tt ∙ computed
