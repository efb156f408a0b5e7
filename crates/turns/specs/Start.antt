-- The start, and what a run shows, as the code makes them.
use Rattle.std.specs.Prelude.{◌≡◌, refl, Bool, true, false, Result, Ok, Err, List, map, ℕ, zero, suc, ◌+◌, ◌≤◌, ◌<◌, length, get_or, replicate}
use Rattle.std.proofs.Math.Path.{sym}
use Rattle.std.proofs.Common.{◌∙◌, ap, arith, ext_get_or}
use Rattle.std.proofs.lemmas.Bool.{false≢true}
use Rattle.std.specs.Option.{unwrap_or}
use Rattle.std.proofs.lemmas.List.{length-replicate, length-map, set-get_or}
use Rattle.std.proofs.Math.ListN.{get_or-map}
use Rattle.std.proofs.lemmas.List.Edits.{sets}
use borrow.Author.Tests.{le-leb, lt-leb}
use Rattle.clocks.specs.Pass.{pass_from, passed, passed-next, turned, pass-length, pass_at_lem}
use Rattle.lists.specs.Judge.{Judged, not_allowed, surplus, unfinished, verdict, judge}
use Rattle.rules.specs.declared.object.Entry.{Entry}
use Rattle.rules.specs.declared.object.Kind.{Kind}
use Rattle.rules.specs.declared.object.Kind.TheVariants as kind
use Rattle.rules.specs.declared.table.Made.{Made}
use Rattle.rules.specs.declared.table.Table.{Table}
use Rattle.rules.specs.declared.answer.Answer.TheVariants.{More, TooShort}
use Rattle.rules.specs.declared.world.World.{World}
use Rattle.rules.specs.Limits.{max_objects}
use Rattle.rules.specs.Object.{no_object, new_entry}
use Rattle.rules.specs.Sheet.{sheet_of, sheet_length}
use Rattle.rules.proofs.SheetLaws.{sheet_over}
use Rattle.rules.specs.Judge.{Verdict, step, Given, untouched, shown, judge_table}
use Rattle.rules.specs.Turn.{start}
use Rattle.turns_run.specs.declared.Ran.{Ran}
use Rattle.turns_run.specs.declared.Refusal.{Refusal}
use Rattle.turns_run.specs.Run.{ran_of, answer_of}

-- the objects are made in a pass over the store
abbrev pub made_at : List Made → ℕ → Entry → Entry
made_at ms k e = new_entry (get_or ms k no_object)

pub made_all : (ms : List Made) (es : List Entry) → length es ≡ length ms → pass_from (made_at ms) 0 es ≡ map new_entry ms
made_all ms es h =
    let same = pass-length (made_at ms) 0 es in
    ext_get_or (new_entry no_object) (pass_from (made_at ms) 0 es) (map new_entry ms) (same ∙ h ∙ sym (length-map ms new_entry))
    (λ i l. pass_at_lem (made_at ms) i es (new_entry no_object) (omega (arith, same, l)) ∙ sym (get_or-map new_entry ms i no_object))

-- a place that the table makes nothing of is as it was
abbrev pub is_made : Kind → Bool → Bool
is_made kind.Mutex s = true
is_made kind.RwLock s = true
is_made kind.Condvar s = true
is_made kind.Notify s = true
is_made kind.Channel s = true
is_made kind.Arc s = true
is_made kind.Cell s = true
is_made kind.Nothing s = s

not_made : (k : Kind) (s : Bool) → is_made k s ≡ false → no_object ≡ record { kind = k; spurious = s }
not_made kind.Mutex s h = absurd (false≢true (sym h))
not_made kind.RwLock s h = absurd (false≢true (sym h))
not_made kind.Condvar s h = absurd (false≢true (sym h))
not_made kind.Notify s h = absurd (false≢true (sym h))
not_made kind.Channel s h = absurd (false≢true (sym h))
not_made kind.Arc s h = absurd (false≢true (sym h))
not_made kind.Cell s h = absurd (false≢true (sym h))
not_made kind.Nothing true h = absurd (false≢true (sym h))
not_made kind.Nothing false h = refl

filled : {X : Type 0} (x : X) (n k : ℕ) → get_or (replicate n x) k x ≡ x
filled x zero k = refl
filled x (suc n) zero = refl
filled x (suc n) (suc k) = filled x n k

pub left_out : (ms : List Made) (k : ℕ) (x : Entry) (z : List Entry) → x ≡ new_entry no_object → k < max_objects → z ≡ passed (made_at ms) k 0 (replicate max_objects x)
    → is_made (get_or ms k no_object).kind (get_or ms k no_object).spurious ≡ false → z ≡ passed (made_at ms) (k + 1) 0 (replicate max_objects x)
left_out ms k x z e l h f =
    let m : Made = get_or ms k no_object in
    let within : k < length (replicate max_objects x) = omega (arith, l, length-replicate max_objects x) in
    let same : get_or z k x ≡ x = ap (λ (es : List Entry). get_or es k x) h ∙ passed-next (made_at ms) k 0 (replicate max_objects x) x ∙ filled x max_objects k in
    sym (set-get_or z k x) ∙ turned (made_at ms) k (replicate max_objects x) x z (get_or z k x) within h (same ∙ e ∙ ap new_entry (not_made m.kind m.spurious f))

-- what a run shows: its answer, and the sheet of the world it hands back, unless it was refused
abbrev pub showing : Table → Result Ran Refusal → List ℕ → Given
showing table (Err r) buffer = untouched (answer_of r) buffer
showing table (Ok r) buffer = record { answer = unwrap_or r.verdict More; buffer = sets buffer 0 (sheet_of table r.world) }

-- where the buffer has room for the sheet, what a run shows is what its judgement shows
pub shows : (table : Table) (buffer : List ℕ) → sheet_length table ≤ length buffer → (j : Judged World Verdict) → showing table (ran_of j) buffer ≡ shown table j buffer
unfolding shown
shows table buffer h (not_allowed i) = refl
shows table buffer h (surplus i) = refl
shows table buffer h (unfinished v) = λ i. record { answer = More; buffer = sheet_over buffer table v h i }
shows table buffer h (verdict v) = λ i. record { answer = v.answer; buffer = sheet_over buffer table v.world h i }

-- an accepted table, by the room that its sheet has
module _ (table : Table) (list buffer : List ℕ) where
  pub judged_short : length buffer < sheet_length table → untouched (TooShort (sheet_length table)) buffer ≡ judge_table (Ok table) list buffer
  unfolding judge_table
  judged_short h = sym (rw (judge_table, lt-leb (sheet_length table) (length buffer) h))

  pub judged_shown : sheet_length table ≤ length buffer → shown table (judge (step table) 0 (start table) list) buffer ≡ judge_table (Ok table) list buffer
  unfolding judge_table
  judged_shown h = sym (rw (judge_table, le-leb (sheet_length table) (length buffer) h))

  pub judged_ran : sheet_length table ≤ length buffer → (w : World) → w ≡ start table → (r : Result Ran Refusal) → r ≡ ran_of (judge (step table) 0 w list)
      → showing table r buffer ≡ judge_table (Ok table) list buffer
  judged_ran h w e r f =
      ap (λ (x : Result Ran Refusal). showing table x buffer) (f ∙ ap (λ (x : World). ran_of (judge (step table) 0 x list)) e)
      ∙ shows table buffer h (judge (step table) 0 (start table) list)
      ∙ judged_shown h
